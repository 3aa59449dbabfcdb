-- From the pieces of a source to all of its bytes.
use Rattle.rdf_stream.proofs.Prelude.{◌≡◌, ◌<◌, ◌≤◌, ℕ, Bool, true, false, List, [], ◌++◌, length, take, Option, Some, None, IfSome, IfOk, OnOk, IfErr, Result, Ok, Err, refl, sym, ap, subst, ◌∙◌, inl, inr, arith, length-append, append-nil, take-append-le, false≢true, Consumes-kept, Consumes-nil, Consumes-trans, Consumes-whole, Consumes, IsAtEnd, Keeps, IsErrAnd, Place, end_of, IsTooLong, most_bytes, StreamFault, HasGiven, HaltsOn, ReadStops, ReadsAll, ReadsEnd, StaysOn, TakenBefore, TakesMore, at_end}
use Rattle.rdf_stream.specs.declared.fault.StreamFault.TheVariants as stream
use Rattle.rdf_stream.specs.Devices.{Reading}

-- of too many bytes those that a document may have are the same with more
pub same_front : (bytes more : List ℕ) (at : Place) → IsTooLong bytes at → take most_bytes (bytes ++ more) ≡ take most_bytes bytes
same_front bytes more at h = take-append-le most_bytes bytes more (omega (arith, h.0))

-- All bytes of a source were given, and are not read on.
pub whole_stops : {R : Type 0} (taken : R → List ℕ → R → Type 0) (halts : StreamFault → R → List ℕ → Bool → R → Type 0) (f : StreamFault)
    (bytes : List ℕ) (ended : Bool) (first now : R) →
    halts f first bytes ended now → ReadStops taken halts f (Some bytes) (at_end ended) first now
whole_stops taken halts f bytes ended first now h = inr (record { bytes = bytes; consumed = sym (append-nil bytes); ended = λ e. refl; live = refl }, h)

-- too many bytes are too many with more
pub too_long_more : (bytes more : List ℕ) (at : Place) → IsTooLong bytes at → IsTooLong (bytes ++ more) at
too_long_more bytes more at h = (omega (arith, h.0, length-append bytes more), h.1 ∙ ap end_of (sym (same_front bytes more at h)))

-- the bytes that were known are those that were read and those that are left
known_more : (known left : Option (List ℕ)) (bytes : List ℕ) (P : List ℕ → Type 0) → Consumes known left bytes →
    ((rest : List ℕ) → P (bytes ++ rest)) → IfSome known P
known_more None left bytes P c h = tt
known_more (Some b) None bytes P c h = absurd c
known_more (Some b) (Some rest) bytes P c h = subst P (sym c) (h rest)

-- What holds of the bytes that were given, and stays with more of them and with their end, holds of all bytes.
pub all_given : (known : Option (List ℕ)) (left : Reading) (P : List ℕ → Bool → Type 0) → ((bytes more : List ℕ) → P bytes false → P (bytes ++ more) true) →
    (given : HasGiven known left) → P given.bytes left.has_ended → IfSome known (λ bytes. P bytes true)
all_given known left P more given p = by left.has_ended refl p
  where
    by : (e : Bool) → left.has_ended ≡ e → P given.bytes e → IfSome known (λ bytes. P bytes true)
    by true e q = Consumes-whole known left.remaining given.bytes (λ bytes. P bytes true) given.consumed (given.ended e) q
    by false e q = known_more known left.remaining given.bytes (λ bytes. P bytes true) given.consumed (λ rest. more given.bytes rest q)

-- the source gave no byte into a buffer that has room
pub no_more : (left left' : Option (List ℕ)) (n : ℕ) (buf : List ℕ) → Consumes left left' (take n buf)
    × (n ≡ 0 → 0 < length buf → IsAtEnd left') → n ≡ 0 → 0 < length buf → Consumes left left' []
no_more left left' n buf h e room = subst (λ k. Consumes left left' (take k buf)) e h.0

-- a `?` that reported a fault
pub reported_stops : {T : Type 0} (r : Result T StreamFault) (reported : StreamFault) (P : StreamFault → Type 0) →
    IsErrAnd r (λ t. t ≡ reported) → P reported → IfErr r P
reported_stops (Ok x) reported P e h = tt
reported_stops (Err t) reported P e h = subst P (sym e) h

-- what each value, and each fault, brings
pub if_ok : {T E : Type 0} (r : Result T E) (P Q : T → Type 0) → ((x : T) → P x → Q x) → IfOk r P → IfOk r Q
if_ok (Ok x) P Q f h = f x h
if_ok (Err e) P Q f h = tt

-- what follows from what holds of an error holds of it
pub if_err : {T E : Type 0} (r : Result T E) (P Q : E → Type 0) → ((e : E) → P e → Q e) → IfErr r P → IfErr r Q
if_err (Ok x) P Q f h = tt
if_err (Err e) P Q f h = f e h

-- what follows from what holds of an answer holds
pub on_ok : {T E : Type 0} (r : Result T E) (P : T → Type 0) (Q : Type 0) → ((x : T) → P x → Q) → IfOk r P → OnOk r Q
on_ok (Ok x) P Q f h = f x h
on_ok (Err e) P Q f h = tt

-- what follows from two things that hold holds
pub on_both : {T E : Type 0} (r : Result T E) (P Q R : Type 0) → (P → Q → R) → OnOk r P → OnOk r Q → OnOk r R
on_both (Ok x) P Q R f p q = f p q
on_both (Err e) P Q R f p q = tt

-- no byte was read
abbrev pub none_given : (left : Reading) → left.has_ended ≡ false → left.has_failed ≡ false → HasGiven left.remaining left
none_given left more live = record { bytes = []; consumed = Consumes-nil left.remaining; ended = λ e. absurd (false≢true (sym more ∙ e)); live = live }

-- What left the source was taken.
pub record IsReading {R : Type 0} (taken : R → List ℕ → R → Type 0) (stays : R → R → Type 0) (known : Option (List ℕ)) (left : Reading)
    (first now : R) (room : ℕ) : Type 0 where
  pub bytes : List ℕ
  pub consumed : Consumes known left.remaining bytes
  pub is_taken : taken first bytes now
  pub same : stays first now
  pub more : left.has_ended ≡ false
  pub live : left.has_failed ≡ false
  pub has_room : 0 < room

module _ {R T : Type 0} (taken : R → List ℕ → R → Type 0) (halts : StreamFault → R → List ℕ → Bool → R → Type 0)
    (ends : T → R → List ℕ → R → Type 0) (stays : R → R → Type 0)
    (known : Option (List ℕ)) (left left' : Reading) (first now : R) (room : ℕ) (i : IsReading taken stays known left first now room) where
  -- the source failed
  pub read_stops : Keeps left.remaining left'.remaining → left'.has_failed ≡ true → left'.has_ended ≡ false →
      ReadStops taken halts stream.Read known left' first now
  read_stops k e o =
      inl (
        refl,
        record {
          bytes = i.bytes;
          consumed = Consumes-kept known left.remaining left'.remaining i.bytes i.consumed k;
          broken = (e, o);
          is_taken = i.is_taken;
        },
      )

  -- what was given before the last fill was taken
  pub before_piece : (now' : R) (piece : List ℕ) → Consumes left.remaining left'.remaining piece → length piece ≤ left'.last →
      StaysOn stays now now' → TakenBefore taken stays known left' first now'
  before_piece now' piece c few s = record {
    before = i.bytes;
    piece = piece;
    consumed = Consumes-trans known left.remaining left'.remaining i.bytes piece i.consumed c;
    few = few;
    at_fill = now;
    is_taken = i.is_taken;
    stays_on = s;
  }

  module _ (live : left'.has_failed ≡ false) (now' : R) where
    module _ (piece : List ℕ) (c : Consumes left.remaining left'.remaining piece) (more : left'.has_ended ≡ false) where
      all_consumed : Consumes known left'.remaining (i.bytes ++ piece)
      all_consumed = Consumes-trans known left.remaining left'.remaining i.bytes piece i.consumed c

      -- a piece more
      pub on_piece : (room' : ℕ) → 0 < room' → TakesMore taken now piece now' → stays first now' → IsReading taken stays known left' first now' room'
      on_piece room' some h s = record {
        bytes = i.bytes ++ piece;
        consumed = all_consumed;
        is_taken = h first i.bytes i.is_taken;
        same = s;
        more = more;
        live = live;
        has_room = some;
      }

      -- a fault in a piece
      pub piece_stops : (reported : StreamFault) → HaltsOn taken halts reported now (λ bytes. bytes ++ piece) false now' →
          ReadStops taken halts reported known left' first now'
      piece_stops reported h =
          inr (
            record { bytes = i.bytes ++ piece; consumed = all_consumed; ended = λ e. absurd (false≢true (sym more ∙ e)); live = live },
            subst (λ e. halts reported first (i.bytes ++ piece) e now') (sym more) (h first i.bytes i.is_taken),
          )

    module _ (c : Consumes left.remaining left'.remaining []) (ended : IsAtEnd left'.remaining) (reported : left'.has_ended ≡ true) where
      whole_consumed : Consumes known left'.remaining i.bytes
      whole_consumed = subst (Consumes known left'.remaining) (append-nil i.bytes) (Consumes-trans known left.remaining left'.remaining i.bytes [] i.consumed c)

      -- all was read
      pub end_read : (r : Result T StreamFault) → IfOk r (λ s. ReadsEnd taken ends s now now') → IfOk r (λ s. ReadsAll ends known left' s first now')
      end_read r h =
          if_ok r (λ s. ReadsEnd taken ends s now now') (λ s. ReadsAll ends known left' s first now')
          (λ s e. record { bytes = i.bytes; consumed = whole_consumed; reported = reported; at_end = ended; is_end = e first i.bytes i.is_taken }) h

      -- a fault at the end
      pub end_stops : (r : Result T StreamFault) → IfErr r (λ f. HaltsOn taken halts f now (λ bytes. bytes) true now') →
          IfErr r (λ f. ReadStops taken halts f known left' first now')
      end_stops r h =
          if_err r (λ f. HaltsOn taken halts f now (λ bytes. bytes) true now') (λ f. ReadStops taken halts f known left' first now')
          (λ f e.
          inr (
            record { bytes = i.bytes; consumed = whole_consumed; ended = λ _. ended; live = live },
            subst (λ b. halts f first i.bytes b now') (sym reported) (e first i.bytes i.is_taken),
          )) h
