-- The laws of token lists.
use Rattle.rdf_tokens.proofs.Prelude.{Some, None, Ok, Err, ◌≡◌, ◌≢◌, ℕ, zero, suc, ◌+◌, ◌<◌, ◌≤◌, Bool, true, false, cond, List, [], ◌∷◌, ◌++◌, ◌==◌, count_by, inl, inr, refl, sym, ap, ◌∙◌, subst, append_assoc, is_some, length, take, drop, arith, length-append, append-nil, take_all, take_at, drop_at, take-append-drop, take-append-le, drop-append-le, All-nil, All-cons, All, Dialect, Kind, End, Place, past, Tail, Outcome, Token, Reading, Step, blank, rest_of, tokens, with_token, end_tokens, stop_place, broken, undecided, complete, token_too_long, bad_utf8, no_token, bad_escape, first_place, good, mark, tail_of, end_of, tokens_at, tokens_of, Reason, BadUtf8, NoToken, BadEscape, TokenTooLong, Ended, Unread, Reads, HasScanned, Stops, StopsFor, token_of, IsBeginning, MoreBytesOnlyLengthen, GivenTokensAreABeginning, IsStop, NextTokenIsGiven, IsPlaceIn, StandsIn, TokensStandAtTheirPlaces, TokensHaveShapes, NoEnd, EndsWell, EndStandsLast, is_broken, cond-false, encodes-append, encodes-chars, encodes, utf8_valid_len, utf8_error_len}
use Rattle.rdf_tokens.specs.Tokens.{place_of, step}
use Rattle.rdf_tokens.specs.Tokens.Tail.{goes_on}
use Rattle.rdf_tokens.specs.Tokens.Step.{token, stop}
use Rattle.rdf_tokens.specs.Scans.{IsToken, place_of as fault_place}
use Rattle.rdf_tokens.proofs.TokensLemmas.{at_stop, at_token, shorter, same_outcome, more_tokens}
use Rattle.rdf_tokens.proofs.GoodLemmas.{good-more, good_front}
use Rattle.rdf_tokens.proofs.PastGood.{good_broken, still_broken, tail_broken}
use Rattle.rdf_tokens.proofs.PlaceLemmas.{past-encodes, end_of-append}
use Rattle.rdf_tokens.proofs.MoveLemmas.{mark_within}
use Rattle.rdf_tokens.proofs.NextLemmas.{open_step}
use Rattle.rdf_tokens.proofs.StepLemmas.{step-token}

-- a fact of each reading, by its steps
module _ (d : Dialect) (limit : ℕ) (t : Tail) (P : Place → List ℕ → Reading → Type 0)
    (stops : (b : Bool) (p : Place) (w : List ℕ) (o : Outcome) → step d limit t (rest_of d b w) ≡ stop o →
    P p w (record { tokens = end_tokens o (place_of d b p w); outcome = o; at = stop_place o (place_of d b p w) (rest_of d b w) }))
    (takes : (b : Bool) (p : Place) (w : List ℕ) (n : ℕ) (k : Kind) (r : Reading) → step d limit t (rest_of d b w) ≡ token n k →
    P (past (place_of d b p w) (take n (rest_of d b w))) (drop n (rest_of d b w)) r →
    P p w (with_token (record { kind = k; text = take n (rest_of d b w); at = place_of d b p w }) r)) where
  by_fuel : (f : ℕ) (b : Bool) (p : Place) (w : List ℕ) → length w < f → P p w (tokens d limit t b p w)
  by_fuel zero b p w l = absurd (omega arith)
  by_fuel (suc f) b p w l = at (step d limit t (rest_of d b w)) refl (λ p w l. by_fuel f false p w l)
    where
      at : (s : Step) → step d limit t (rest_of d b w) ≡ s →
          ((p : Place) (w : List ℕ) → length w < f → P p w (tokens d limit t false p w)) → P p w (tokens d limit t b p w)
      at (stop o) e h = subst (P p w) (sym (at_stop d limit t b p w o e)) (stops b p w o e)
      at (token n k) e h =
          let s = shorter d limit t b w n k e in
          subst (P p w) (sym (at_token d limit t b p w n k e))
          (takes b p w n k (tokens d limit t false (past (place_of d b p w) (take n (rest_of d b w))) (drop n (rest_of d b w))) e
          (h (past (place_of d b p w) (take n (rest_of d b w))) (drop n (rest_of d b w)) (omega arith)))

  pub by_steps : (b : Bool) (p : Place) (w : List ℕ) → P p w (tokens d limit t b p w)
  by_steps b p w = by_fuel (suc (length w)) b p w (omega arith)

-- the tokens of some bytes, after the byte order mark
pub tokens_of-tokens : (d : Dialect) (limit : ℕ) (bytes : List ℕ) (e : Bool) → tokens_of d limit bytes e
    ≡ tokens d limit (tail_of bytes e) false (past first_place (take (mark (good bytes)) (good bytes))) (drop (mark (good bytes)) (good bytes))
unfolding tokens_of
tokens_of-tokens d limit bytes e = refl

-- each token has a shape
pub have_shapes : TokensHaveShapes
have_shapes d limit bytes e =
    subst (λ r. All (IsToken d) r.tokens) (sym (tokens_of-tokens d limit bytes e))
    (by_steps d limit (tail_of bytes e) (λ p w r. All (IsToken d) r.tokens) stops takes false _ _)
  where
    stops : (b : Bool) (p : Place) (w : List ℕ) (o : Outcome) → step d limit (tail_of bytes e) (rest_of d b w) ≡ stop o →
        All (IsToken d) (end_tokens o (place_of d b p w))
    stops b p w complete h = All-cons (IsToken d) (record { kind = End; text = []; at = place_of d b p w }) [] (inl (refl, refl)) (All-nil (IsToken d))
    stops b p w o h = All-nil (IsToken d)

    takes : (b : Bool) (p : Place) (w : List ℕ) (n : ℕ) (k : Kind) (r : Reading) →
        step d limit (tail_of bytes e) (rest_of d b w) ≡ token n k → All (IsToken d) r.tokens →
        All (IsToken d) (record { kind = k; text = take n (rest_of d b w); at = place_of d b p w } ∷ r.tokens)
    takes b p w n k r h a =
        let q = step-token d limit (tail_of bytes e) (rest_of d b w) n k h in
        All-cons (IsToken d) (record { kind = k; text = take n (rest_of d b w); at = place_of d b p w }) r.tokens (inr (q.0, q.1)) a

-- the end is last
pub end_last : EndStandsLast
end_last d limit bytes e =
    subst EndsWell (sym (tokens_of-tokens d limit bytes e)) (by_steps d limit (tail_of bytes e) (λ p w r. EndsWell r) stops takes false _ _)
  where
    none : (o : Outcome) (q p : Place) → end_tokens o q ≡ [] → o ≢ complete → EndsWell (record { tokens = end_tokens o q; outcome = o; at = p })
    none o q p e n = record { whole = λ h. absurd (n h); part = λ h. subst (All NoEnd) (sym e) (All-nil NoEnd) }

    stops : (b : Bool) (p : Place) (w : List ℕ) (o : Outcome) → step d limit (tail_of bytes e) (rest_of d b w) ≡ stop o →
        EndsWell (record { tokens = end_tokens o (place_of d b p w); outcome = o; at = stop_place o (place_of d b p w) (rest_of d b w) })
    stops b p w complete h = record { whole = λ h. ([], refl, All-nil NoEnd); part = λ h. absurd (h refl) }
    stops b p w undecided h = none undecided (place_of d b p w) (stop_place undecided (place_of d b p w) (rest_of d b w)) refl
        (λ x. let h : undecided ≡ complete = x in cc)
    stops b p w token_too_long h = none token_too_long (place_of d b p w)
        (stop_place token_too_long (place_of d b p w) (rest_of d b w)) refl (λ x. let h : token_too_long ≡ complete = x in cc)
    stops b p w bad_utf8 h = none bad_utf8 (place_of d b p w) (stop_place bad_utf8 (place_of d b p w) (rest_of d b w)) refl
        (λ x. let h : bad_utf8 ≡ complete = x in cc)
    stops b p w no_token h = none no_token (place_of d b p w) (stop_place no_token (place_of d b p w) (rest_of d b w)) refl
        (λ x. let h : no_token ≡ complete = x in cc)
    stops b p w bad_escape h = none bad_escape (place_of d b p w) (stop_place bad_escape (place_of d b p w) (rest_of d b w)) refl
        (λ x. let h : bad_escape ≡ complete = x in cc)

    takes : (b : Bool) (p : Place) (w : List ℕ) (n : ℕ) (k : Kind) (r : Reading) → step d limit (tail_of bytes e) (rest_of d b w) ≡ token n k → EndsWell r →
        EndsWell (with_token (record { kind = k; text = take n (rest_of d b w); at = place_of d b p w }) r)
    takes b p w n k r h a =
        let head : Token = record { kind = k; text = take n (rest_of d b w); at = place_of d b p w } in
        let q = step-token d limit (tail_of bytes e) (rest_of d b w) n k h in
        record {
          whole = λ c. let x = a.whole c in (head ∷ x.0, ap (λ ts. head ∷ ts) x.1, All-cons NoEnd head x.0 q.2 x.2);
          part = λ c. All-cons NoEnd head r.tokens q.2 (a.part c);
        }

-- what was given is a beginning
pub given_beginning : GivenTokensAreABeginning
given_beginning v bytes ts h = by_stop v.stopped v.ended h.reads
  where
    by_stop : (s e : Bool) → Reads s e v bytes ts → IsBeginning ts (tokens_of v.dialect v.limit bytes e).tokens
    by_stop true e r = ([], r.0 ∙ sym (append-nil ts))
    by_stop false true r = (_, ap (λ x. x.tokens) r)
    by_stop false false r = (_, ap (λ x. x.tokens) (ap (λ b. tokens_of v.dialect v.limit b false) (sym (append-nil bytes)) ∙ r [] false))

-- a scanner that has stopped has given all
given_all : (v : Unread) (bytes : List ℕ) (ts : List Token) → v.stopped ≡ true → HasScanned v bytes ts →
    ((tokens_of v.dialect v.limit bytes v.ended).tokens ≡ ts) × ((tokens_of v.dialect v.limit bytes v.ended).outcome ≢ undecided)
given_all v bytes ts s h = subst (λ s. Reads s v.ended v bytes ts) s h.reads

-- what is given is next
pub next_given : NextTokenIsGiven
next_given old new bytes ts (Ok (Some t)) h (g, _) =
    subst (λ e. IsBeginning (ts ++ token_of t ∷ []) (tokens_of old.dialect old.limit bytes e).tokens) g.ended
    (subst (λ d. IsBeginning (ts ++ token_of t ∷ []) (tokens_of d old.limit bytes new.ended).tokens) g.same.dialect
    (subst (λ l. IsBeginning (ts ++ token_of t ∷ []) (tokens_of new.dialect l bytes new.ended).tokens) g.same.limit
    (given_beginning new bytes (ts ++ token_of t ∷ []) (g.read bytes ts h))))
next_given old new bytes ts (Ok None) h g =
    let x = g.read bytes ts h in
    subst (λ e. ((tokens_of old.dialect old.limit bytes e).tokens ≡ ts) × ((tokens_of old.dialect old.limit bytes e).outcome ≡ undecided))
    (sym g.before.more) (x.1, x.2)
next_given old new bytes ts (Err f) h g = by_reason f.reason (fault_place f) g
  where
    read : Reading
    read = tokens_of old.dialect old.limit bytes old.ended

    here : (o : Outcome) (at : Place) → Stops old o at new → (read.tokens ≡ ts) × (read.outcome ≡ o) × (at ≡ read.at)
    here o at g =
        let same : read ≡ record { tokens = ts; outcome = o; at = at } = (g.read bytes ts h).1 in
        (ap (λ x. x.tokens) same, ap (λ x. x.outcome) same, sym (ap (λ x. x.at) same))

    by_reason : (r : Reason) (at : Place) → StopsFor r old at new → IsStop read ts r at
    by_reason BadUtf8 at g = let x = here bad_utf8 at g in (x.0, x.1, λ n. x.2)
    by_reason NoToken at g = let x = here no_token at g in (x.0, x.1, λ n. x.2)
    by_reason BadEscape at g = let x = here bad_escape at g in (x.0, x.1, λ n. x.2)
    by_reason TokenTooLong at g = let x = here token_too_long at g in (x.0, x.1, λ n. x.2)
    by_reason Ended at g = let x = given_all old bytes ts g.0 h in (x.0, x.1, λ n. absurd (n refl))
    by_reason reason at g = absurd g

-- nothing is read of no text before more comes
pub nothing_yet : (d : Dialect) (limit : ℕ) (b : Bool) (p : Place) → tokens d limit goes_on b p [] ≡ record { tokens = []; outcome = undecided; at = p }
nothing_yet d limit b p = at_stop d limit goes_on b p [] undecided (open_step d limit)

-- more bytes only lengthen the list
pub lengthens : MoreBytesOnlyLengthen
unfolding tokens_of
lengthens d limit bytes more e = by_broken (is_broken bytes) refl
  where
    Law : Reading → Reading → Type 0
    Law r s = IsBeginning r.tokens s.tokens × (r.outcome ≢ undecided → s ≡ r)

    same_law : (r s : Reading) → s ≡ r → Law r s
    same_law r s h = (([], ap (λ x. x.tokens) h ∙ sym (append-nil r.tokens)), λ n. h)

    at_tail : Tail → List ℕ → Reading
    at_tail t w = tokens_at d limit t false false first_place w

    open_tail : is_broken bytes ≡ false → tail_of bytes false ≡ goes_on
    open_tail b = by_whole (utf8_valid_len bytes == length bytes)
      where
        by_whole : (k : Bool) → cond k goes_on (cond (is_some (utf8_error_len (drop (utf8_valid_len bytes) bytes))) broken goes_on) ≡ goes_on
        by_whole true = refl
        by_whole false = cond-false _ _ _ b

    grows : (t : Tail) (w v : List ℕ) → Law (at_tail goes_on w) (at_tail t (w ++ v))
    grows t [] v =
        let none = nothing_yet d limit false first_place in (
          (
            (at_tail t v).tokens,
            ap (λ r. r.tokens ++ (at_tail t v).tokens) (sym none),
          ),
          λ n. absurd (n (ap (λ r. r.outcome) none)),
        )
    grows t (c ∷ w) v =
        let n = mark (c ∷ w) in
        let p = past first_place (take n (c ∷ w)) in
        let l : n ≤ length (c ∷ w) = mark_within (c ∷ w) in
        let whole : at_tail t (c ∷ w ++ v) ≡ tokens d limit t false p (drop n (c ∷ w) ++ v) =
        ap (λ u. tokens d limit t false (past first_place u) (drop n (c ∷ w ++ v))) (take-append-le n (c ∷ w) v l)
        ∙ ap (tokens d limit t false p) (drop-append-le n (c ∷ w) v l) in
        let m = more_tokens d limit false p (drop n (c ∷ w)) t v in (
          (m.0, ap (λ r. r.tokens) whole ∙ m.1),
          λ u. whole ∙ same_outcome d limit false p (drop n (c ∷ w)) u t v,
        )

    by_broken : (k : Bool) → is_broken bytes ≡ k → Law (tokens_of d limit bytes false) (tokens_of d limit (bytes ++ more) e)
    by_broken true b =
        same_law (at_tail (tail_of bytes false) (good bytes)) (at_tail (tail_of (bytes ++ more) e) (good (bytes ++ more)))
        (ap (λ t. at_tail t (good (bytes ++ more))) (tail_broken (bytes ++ more) e (still_broken bytes more b) ∙ sym (tail_broken bytes false b))
        ∙ ap (at_tail (tail_of bytes false)) (good_broken bytes more b))
    by_broken false b =
        let g = good-more bytes more in
        subst (λ t. Law (at_tail t (good bytes)) (at_tail (tail_of (bytes ++ more) e) (good (bytes ++ more)))) (sym (open_tail b))
        (subst (λ w. Law (at_tail goes_on (good bytes)) (at_tail (tail_of (bytes ++ more) e) w)) (sym g.1) (grows (tail_of (bytes ++ more) e) (good bytes) g.0))

-- a place from which a text is to be read
record Reaches (bytes : List ℕ) (p : Place) (w : List ℕ) : Type 0 where
  front : List ℕ
  rest : List ℕ
  whole : bytes ≡ front ++ (encodes w ++ rest)
  place : p ≡ end_of front

module _ (bytes : List ℕ) where
  -- the place after some characters
  moves_on : (p : Place) (w : List ℕ) (n : ℕ) → Reaches bytes p w → Reaches bytes (past p (take n w)) (drop n w)
  moves_on p w n h =
      let a = encodes (take n w) in
      record {
        front = h.front ++ a;
        rest = h.rest;
        whole = h.whole
            ∙ (ap (λ x. h.front ++ (x ++ h.rest)) (ap encodes (sym (take-append-drop n w)) ∙ encodes-append (take n w) (drop n w))
            ∙ (ap (λ x. h.front ++ x) (append_assoc a (encodes (drop n w)) h.rest)
            ∙ sym (append_assoc h.front a (encodes (drop n w) ++ h.rest))));
        place = ap (λ p. past p (take n w)) h.place ∙ (past-encodes (end_of h.front) (take n w) ∙ end_of-append h.front a);
      }

  is_place : (p : Place) (w : List ℕ) → Reaches bytes p w → IsPlaceIn bytes p
  is_place p w h =
      let o : p.offset ≡ length h.front = ap (λ p. p.offset) h.place in
      let t : take p.offset bytes ≡ h.front = ap (take p.offset) h.whole ∙ take_at h.front (encodes w ++ h.rest) p.offset (sym o) in
      record {
        within = omega (arith, ap length h.whole, length-append h.front (encodes w ++ h.rest));
        line = ap (λ p. p.line) h.place ∙ ap (λ x. 1 + count_by (λ b. b == 10) x) (sym t);
      }

  -- a token of the next characters
  stands : (p : Place) (w : List ℕ) (n : ℕ) (k : Kind) → Reaches bytes p w → StandsIn bytes (record { kind = k; text = take n w; at = p })
  stands p w n k h =
      let a = encodes (take n w) in
      let o : p.offset ≡ length h.front = ap (λ p. p.offset) h.place in
      let r : drop p.offset bytes ≡ a ++ (encodes (drop n w) ++ h.rest) =
      ap (drop p.offset) h.whole
      ∙ (drop_at h.front (encodes w ++ h.rest) p.offset (sym o)
      ∙ (ap (λ x. x ++ h.rest) (ap encodes (sym (take-append-drop n w)) ∙ encodes-append (take n w) (drop n w))
      ∙ append_assoc a (encodes (drop n w)) h.rest)) in
      record { place = is_place p w h; text = ap (take (length a)) r ∙ take_at a (encodes (drop n w) ++ h.rest) (length a) refl }

  abbrev Placed : Place → List ℕ → Reading → Type 0
  Placed p w r = Reaches bytes p w → All (StandsIn bytes) r.tokens × IsPlaceIn bytes r.at

-- each token stands at its place
pub places : TokensStandAtTheirPlaces
places d limit bytes e =
    subst (λ r. All (StandsIn bytes) r.tokens × IsPlaceIn bytes r.at) (sym (tokens_of-tokens d limit bytes e))
    (by_steps d limit (tail_of bytes e) (Placed bytes) stops takes false _ _ (moves_on bytes first_place (good bytes) (mark (good bytes)) start))
  where
    start : Reaches bytes first_place (good bytes)
    start = record {
      front = [];
      rest = drop (utf8_valid_len bytes) bytes;
      whole = sym (ap (λ x. x ++ drop (utf8_valid_len bytes) bytes) (encodes-chars (take (utf8_valid_len bytes) bytes) (good_front bytes))
          ∙ take-append-drop (utf8_valid_len bytes) bytes);
      place = refl;
    }

    -- the outcome at a place
    at : (o : Outcome) (q : Place) (w : List ℕ) → Reaches bytes q w → All (StandsIn bytes) (end_tokens o q) × IsPlaceIn bytes (stop_place o q w)
    at complete q w h =
        (All-cons (StandsIn bytes) (record { kind = End; text = []; at = q }) [] (stands bytes q w 0 End h) (All-nil (StandsIn bytes)), is_place bytes q w h)
    at bad_utf8 q w h =
        let m = moves_on bytes q w (length w) h in
        let p : past q (take (length w) w) ≡ past q w = ap (past q) (take_all (length w) w (omega arith)) in
        (All-nil (StandsIn bytes), subst (IsPlaceIn bytes) p (is_place bytes (past q (take (length w) w)) (drop (length w) w) m))
    at undecided q w h = (All-nil (StandsIn bytes), is_place bytes q w h)
    at token_too_long q w h = (All-nil (StandsIn bytes), is_place bytes q w h)
    at no_token q w h = (All-nil (StandsIn bytes), is_place bytes q w h)
    at bad_escape q w h = (All-nil (StandsIn bytes), is_place bytes q w h)

    stops : (b : Bool) (p : Place) (w : List ℕ) (o : Outcome) → step d limit (tail_of bytes e) (rest_of d b w) ≡ stop o →
        Placed bytes p w (record { tokens = end_tokens o (place_of d b p w); outcome = o; at = stop_place o (place_of d b p w) (rest_of d b w) })
    stops b p w o s = λ h. at o (place_of d b p w) (rest_of d b w) (moves_on bytes p w (blank d b w) h)

    takes : (b : Bool) (p : Place) (w : List ℕ) (n : ℕ) (k : Kind) (r : Reading) → step d limit (tail_of bytes e) (rest_of d b w) ≡ token n k →
        Placed bytes (past (place_of d b p w) (take n (rest_of d b w))) (drop n (rest_of d b w)) r →
        Placed bytes p w (with_token (record { kind = k; text = take n (rest_of d b w); at = place_of d b p w }) r)
    takes b p w n k r s a = λ h.
        let m = moves_on bytes p w (blank d b w) h in
        let x = a (moves_on bytes (place_of d b p w) (rest_of d b w) n m) in (
          All-cons (StandsIn bytes) (record { kind = k; text = take n (rest_of d b w); at = place_of d b p w }) r.tokens
              (stands bytes (place_of d b p w) (rest_of d b w) n k m) x.0,
          x.1,
        )
