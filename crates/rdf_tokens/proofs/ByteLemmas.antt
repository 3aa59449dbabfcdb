-- Where the characters of a text begin among its bytes.
use Rattle.rdf_tokens.proofs.Prelude.{◌≡◌, ℕ, zero, suc, ◌+◌, ◌<◌, ◌≤◌, true, List, [], ◌∷◌, ◌++◌, ◌&&◌, refl, sym, ap, ◌∙◌, subst, length, take, drop, get_or, slice_index, arith, IsUtf8, encode_utf8, length-append, take_more, drop_more, length-drop, nil_from_length, take_at, drop_at, take-append-drop, chars_past_char, IsUtf8-past_char, chars-nil, encodes-append, length-encode, encode_ascii, scalars-chars, encodes-chars, chars-encodes, IsCharBoundary-from_take, chars, IsCharBoundary, len_utf8, encode_utf8_all, and_parts, and_from, nat_tests, scalars, run, IsChars, IsAt, bytes_of}
use Rattle.rdf_terms.specs.Classes.{scalar}

-- the first character begins at the first byte
pub at-start : (bs : List ℕ) → IsUtf8 bs → IsAt bs 0 0
at-start bs u = record { inside = omega arith; count = omega arith; utf8 = u; left = refl; bytes = refl }

-- the first of what is left of a list
pub uncons : (w t : List ℕ) (n c : ℕ) → drop n w ≡ c ∷ t → (n < length w) × (get_or w n c ≡ c) × (drop (n + 1) w ≡ t)
uncons w t n c e =
    let l : n < length w = omega (arith, ap length e, length-drop n w) in
    let m : get_or w n c ∷ drop (n + 1) w ≡ c ∷ t = sym (drop_more w n c l) ∙ e in
    (l, ap (λ x. get_or x 0 c) m, ap (drop 1) m)

-- the next character begins after the bytes of this one
pub past_char : (bs : List ℕ) (at n c : ℕ) → IsAt bs at n → drop at bs ≡ encode_utf8 c ++ drop (at + len_utf8 c) bs → at + len_utf8 c ≤ length bs →
    (drop n (chars bs) ≡ c ∷ drop (n + 1) (chars bs)) × IsAt bs (at + len_utf8 c) (n + 1)
past_char bs at n c h e f =
    let w = chars bs in
    let rest = drop (at + len_utf8 c) bs in
    let m : drop n w ≡ c ∷ chars rest = h.left ∙ chars_past_char (drop at bs) rest c h.utf8 e in
    let p = uncons w (chars rest) n c m in
    let grown : take (n + 1) w ≡ take n w ++ c ∷ [] = take_more w n c p.0 ∙ ap (λ x. take n w ++ x ∷ []) p.1 in
    let size : bytes_of (n + 1) w ≡ bytes_of n w + length (encode_utf8_all (c ∷ [])) =
    ap (λ x. length (encode_utf8_all x)) grown
    ∙ (ap length (encodes-append (take n w) (c ∷ [])) ∙ length-append (encode_utf8_all (take n w)) (encode_utf8_all (c ∷ []))) in
    let one : length (encode_utf8_all (c ∷ [])) ≡ len_utf8 c = length-append (encode_utf8 c) [] ∙ (omega (arith, length-encode c)) in (
      m ∙ ap (λ t. c ∷ t) (sym p.2),
      record {
        inside = f;
        count = omega (arith, p.0);
        utf8 = IsUtf8-past_char (drop at bs) rest c h.utf8 e;
        left = p.2;
        bytes = omega (arith, size, one, h.bytes);
      },
    )

-- one character on, where a call gives it and the next place
pub char-step : (bs : List ℕ) (at n c next : ℕ) → IsAt bs at n → drop at bs ≡ encode_utf8 c ++ drop next bs → next ≡ at + len_utf8 c → next ≤ length bs →
    (drop n (chars bs) ≡ c ∷ drop (n + 1) (chars bs)) × IsAt bs next (n + 1)
char-step bs at n c next h e en l =
    let p = past_char bs at n c h (subst (λ m. drop at bs ≡ encode_utf8 c ++ drop m bs) en e) (subst (λ m. m ≤ length bs) en l) in
    (p.0, subst (λ m. IsAt bs m (n + 1)) (sym en) p.1)

-- after the last byte all characters have come
pub at-end : (bs : List ℕ) (at n : ℕ) → IsAt bs at n → length bs ≤ at → n ≡ length (chars bs)
at-end bs at n h l =
    let none : drop at bs ≡ [] = nil_from_length (drop at bs) (omega (arith, length-drop at bs)) in
    omega (arith, length-drop n (chars bs), ap length (h.left ∙ (ap chars none ∙ chars-nil)), h.count)

-- a text that begins with an ASCII byte begins with that character
pub ascii_first : (bs : List ℕ) (at : ℕ) → at < length bs → slice_index bs at < 128 → drop at bs ≡ encode_utf8 (slice_index bs at) ++ drop (at + 1) bs
ascii_first bs at l a = drop_more bs at 0 l ∙ ap (λ x. x ++ drop (at + 1) bs) (sym (encode_ascii (slice_index bs at) a))

-- the state after two texts is that after the second, from where the first led
pub run-append : {S : Type 0} (step : S → ℕ → S) (s : S) (u v : List ℕ) → run step s (u ++ v) ≡ run step (run step s u) v
run-append step s [] v = refl
run-append step s (c ∷ u) v = run-append step (step s c) u v

-- the state one character on
pub run-more : {S : Type 0} (step : S → ℕ → S) (start s : S) (w t : List ℕ) (n c : ℕ) → drop n w ≡ c ∷ t → s ≡ run step start (take n w) →
    step s c ≡ run step start (take (n + 1) w)
run-more step start s w t n c e h =
    let p = uncons w t n c e in
    let grown : take (n + 1) w ≡ take n w ++ c ∷ [] = take_more w n c p.0 ∙ ap (λ x. take n w ++ x ∷ []) p.1 in
    ap (λ x. step x c) h ∙ sym (ap (run step start) grown ∙ run-append step start (take n w) (c ∷ []))

-- what std calls a character is a scalar value here
scalar_same : (c : ℕ) → scalars (c ∷ []) ≡ true → scalar c ≡ true
scalar_same c e = grind (arith, nat_tests)

-- what std calls a text of characters is one here
scalar_chars : (w : List ℕ) → scalars w ≡ true → IsChars w
scalar_chars [] e = tt
scalar_chars (c ∷ w) e =
    let p = and_parts _ _ e in
    (scalar_same c (ap (λ b. b && true) p.0), scalar_chars w p.1)

-- the characters of a str are scalar values
pub is-chars : (bs : List ℕ) → IsUtf8 bs → IsChars (chars bs)
is-chars bs u = scalar_chars (chars bs) (scalars-chars bs u)

-- a front of a text of scalar values has no others
pub chars_take : (n : ℕ) (w : List ℕ) → IsChars w → IsChars (take n w)
chars_take zero w h = tt
chars_take (suc n) [] h = tt
chars_take (suc n) (c ∷ w) h = (h.0, chars_take n w h.1)

-- a text cut after some of its characters
pub record Cut (bs : List ℕ) (m n : ℕ) : Type 0 where
  pub inside : m ≤ length bs
  pub boundary : IsCharBoundary bs m
  pub front_utf8 : IsUtf8 (take m bs)
  pub rest_utf8 : IsUtf8 (drop m bs)
  pub front : chars (take m bs) ≡ take n (chars bs)
  pub rest : chars (drop m bs) ≡ drop n (chars bs)

-- a front of a text of characters consists of characters
scalars-take : (n : ℕ) (w : List ℕ) → scalars w ≡ true → scalars (take n w) ≡ true
scalars-take zero w e = refl
scalars-take (suc n) [] e = refl
scalars-take (suc n) (c ∷ w) e = let p = and_parts _ _ e in and_from _ _ p.0 (scalars-take n w p.1)

-- what is left of a text of characters consists of characters
scalars-drop : (n : ℕ) (w : List ℕ) → scalars w ≡ true → scalars (drop n w) ≡ true
scalars-drop zero w e = e
scalars-drop (suc n) [] e = refl
scalars-drop (suc n) (c ∷ w) e = scalars-drop n w (and_parts _ _ e).1

-- a text that is cut after n characters is cut between them in bytes too, so both parts are UTF-8
pub cut : (bs : List ℕ) (m n : ℕ) → IsUtf8 bs → m ≡ bytes_of n (chars bs) → Cut bs m n
cut bs m n u e =
    let w = chars bs in
    let s = scalars-chars bs u in
    let front = encode_utf8_all (take n w) in
    let rest = encode_utf8_all (drop n w) in
    let whole : bs ≡ front ++ rest =
    sym (encodes-chars bs u) ∙ (ap encode_utf8_all (sym (take-append-drop n w)) ∙ encodes-append (take n w) (drop n w)) in
    let a : take m bs ≡ front = ap (take m) whole ∙ take_at front rest m (sym e) in
    let b : drop m bs ≡ rest = ap (drop m) whole ∙ drop_at front rest m (sym e) in
    let fu : IsUtf8 (take m bs) = (take n w, (scalars-take n w s, sym a)) in
    let l : m ≤ length bs = omega (arith, ap length whole, length-append front rest) in
    record {
      inside = l;
      boundary = IsCharBoundary-from_take bs m u l fu;
      front_utf8 = fu;
      rest_utf8 = (drop n w, (scalars-drop n w s, sym b));
      front = ap chars a ∙ chars-encodes (take n w) (scalars-take n w s);
      rest = ap chars b ∙ chars-encodes (drop n w) (scalars-drop n w s);
    }
