-- What is kept of an open token stays right where more text comes.
use Rattle.rdf_tokens.proofs.Prelude.{◌≡◌, ℕ, zero, suc, ◌+◌, ◌-◌, ◌≤◌, Bool, true, false, cond, List, [], ◌∷◌, ◌++◌, refl, sym, ap, ◌∙◌, subst, ⊎_elim, length, length-append, length-drop, take, drop, arith, Option, Some, None, IsUtf8, encode_utf8_all, is_some, nat_lt, slice_range, ◌==◌, and_from, and_parts, cond-true, cond-false, cases_lt, lt-ltb, le-ltb, take_all, drop_all, take-append-drop, take-append-le, drop-append-le, chars-append, chars-nil, encodes-chars, IsCharBoundary-from_drop, IsUtf8-append, IsUtf8-nil, IsUtf8-drop, IsUtf8-take, chars, IsCharBoundary, Kind, Dialect, Lines, Turtle, of_string, outside, value, State, Quote, FitsInString, has_quote, opens_with, quote_byte, stands_at, HasCome, with_length, three_quotes, only_long, IsAt, Reached, in_bytes, longest_by, state_of, kind_by_states, open_state, good_bytes, IsFit, IsFitFor, IsWalk, Walked, counted_bytes, counted_chars, walk_kept}
use Rattle.rdf_tokens.specs.declared.states.machine.State.TheVariants.{Text}
use Rattle.rdf_tokens.specs.declared.states.text.Text.TheVariants.{Short}
use Rattle.rdf_tokens.proofs.ByteLemmas.{at-start}
use Rattle.rdf_tokens.proofs.FitEscapes.{slice-split}
use Rattle.rdf_tokens.specs.declared.front.Walk.{Walk}
use Rattle.rdf_tokens.specs.Machine.{kind_at, goes_on}
use Rattle.rdf_tokens.specs.Walk.{IsWithin}
use Rattle.rdf_tokens.proofs.FrontLemmas.{AtMost, longest_by-at_most}
use Rattle.rdf_tokens.proofs.GoodLemmas.{good_front}
use Rattle.rdf_tokens.proofs.SpellingLemmas.{quotes-bytes}

-- the place up to which the states have come is one of the text
pub within-walk : (d : Dialect) (bs : List ℕ) (old : Option Walk) → Walked d bs old → IsWithin bs old
within-walk d bs None h = tt
within-walk d bs (Some w) h = h.reached.here.inside

-- the characters of some bytes are counted
pub counted-walk : (d : Dialect) (bs : List ℕ) (old : Option Walk) → IsUtf8 bs → Walked d bs old → IsAt bs (counted_bytes old) (counted_chars old)
counted-walk d bs None u h = at-start bs u
counted-walk d bs (Some w) u h = h.counted

-- those of no more bytes than the text has
pub counted-within : (d : Dialect) (bs : List ℕ) (old : Option Walk) → IsUtf8 bs → Walked d bs old → counted_bytes old ≤ length bs
counted-within d bs old u h = (counted-walk d bs old u h).inside

-- all of the characters: those before a place, and those after it
counted-whole : (bs : List ℕ) (at n : ℕ) → IsAt bs at n → n + length (chars (drop at bs)) ≡ length (chars bs)
counted-whole bs at n h = let c = h.count in omega (arith, ap length h.left, length-drop n (chars bs))

-- those before a place are all that were counted
pub counted-before : (bs : List ℕ) (at n : ℕ) → IsUtf8 bs → IsAt bs at n → length (chars (take at bs)) ≡ n
counted-before bs at n u h =
    let front : IsUtf8 (take at bs) = IsUtf8-take bs at u (IsCharBoundary-from_drop bs at h.inside h.utf8) in
    let all : length (chars bs) ≡ length (chars (take at bs)) + length (chars (drop at bs)) =
    ap (λ x. length (chars x)) (sym (take-append-drop at bs))
    ∙ (ap length (chars-append (take at bs) (drop at bs) front) ∙ length-append (chars (take at bs)) (chars (drop at bs))) in
    omega (arith, all, counted-whole bs at n h)

-- those between two places are added to those before the first
pub counted-up : (bs : List ℕ) (from to m n : ℕ) → IsUtf8 bs → IsAt bs from m → IsAt bs to n → from ≤ to → m + length (chars (slice_range bs from to)) ≡ n
counted-up bs from to m n u h g l =
    let a = counted-before bs from m u h in
    let b = counted-before bs to n u g in
    let part = slice_range bs from to in
    let front : IsUtf8 (take from bs) = IsUtf8-take bs from u (IsCharBoundary-from_drop bs from h.inside h.utf8) in
    let no_from : from - 0 ≡ from = omega arith in
    let no_to : to - 0 ≡ to = omega arith in
    let split : take to bs ≡ take from bs ++ part =
    sym (ap (λ k. take k bs) no_to) ∙ (slice-split bs 0 from to (omega arith) l h.inside ∙ ap (λ k. take k bs ++ part) no_from) in
    let all : length (chars (take to bs)) ≡ length (chars (take from bs)) + length (chars part) =
    ap (λ x. length (chars x)) split ∙ (ap length (chars-append (take from bs) part front) ∙ length-append (chars (take from bs)) (chars part)) in
    omega (arith, a, b, all)

-- so all over which the states have come are
pub walked-counted : (d : Dialect) (bs : List ℕ) (w : Walk) (count : ℕ) → IsUtf8 bs → IsWalk d bs w →
    count ≡ w.count + length (chars (slice_range bs w.counted w.at)) →
    IsWalk d bs (record w { counted = w.at; count = count })
walked-counted d bs w count u h e =
    let here = h.reached.here in
    let all : count ≡ h.reached.n = e ∙ counted-up bs w.counted w.at w.count h.reached.n u h.counted here h.within in
    record { enough = h.enough; reached = h.reached; within = omega arith; counted = subst (IsAt bs w.at) (sym all) here; fit = h.fit }

-- where they are, the states have come so far
pub come-walk : (d : Dialect) (bs : List ℕ) (w : Walk) → IsUtf8 bs → IsWalk d bs w → w.counted ≡ w.at →
    HasCome d bs (record { state = w.state; at = w.at; count = w.count })
come-walk d bs w u h e =
    let here : IsAt bs w.at w.count = subst (λ k. IsAt bs k w.count) e h.counted in
    let same : h.reached.n ≡ w.count = sym (counted-before bs w.at h.reached.n u h.reached.here) ∙ counted-before bs w.at w.count u here in
    record { here = here; state = h.reached.state ∙ ap (λ n. state_of d (take n (chars bs))) same }

-- three quotes come first or not, whatever comes after three bytes
quotes-more : (d : Dialect) (bs more : List ℕ) → 3 ≤ length bs → three_quotes d (bs ++ more) ≡ three_quotes d bs
quotes-more Lines bs more l = refl
quotes-more Turtle [] more l = absurd (omega arith)
quotes-more Turtle (a ∷ []) more l = absurd (omega arith)
quotes-more Turtle (a ∷ b ∷ []) more l = absurd (omega arith)
quotes-more Turtle (a ∷ b ∷ c ∷ bs) more l = refl

-- the first quote is the same with more text
opens_with-more : (d : Dialect) (q : Quote) (bs more : List ℕ) → opens_with d q bs ≡ true → opens_with d q (bs ++ more) ≡ true
opens_with-more d q [] more e = absurd (let p = (and_parts (has_quote d q) _ e).1 in let h : false ≡ true = p in cc)
opens_with-more d q (x ∷ bs) more e = and_from (has_quote d q) _ p.0
    (and_from (nat_lt 0 (length (x ∷ (bs ++ more)))) _ (lt-ltb 0 (length (x ∷ (bs ++ more))) (omega arith)) z.1)
  where
    p : (has_quote d q ≡ true) × (stands_at (quote_byte q) (x ∷ bs) 0 ≡ true)
    p = and_parts (has_quote d q) _ e

    z : (nat_lt 0 (length (x ∷ bs)) ≡ true) × ((x == quote_byte q) ≡ true)
    z = and_parts (nat_lt 0 (length (x ∷ bs))) _ p.1

-- bytes that fit do with more text
fits-longer : (bs more : List ℕ) (at end : ℕ) → FitsInString bs at end → FitsInString (bs ++ more) at end
fits-longer bs more at end h =
    let from = h.from in
    let within = h.within in
    let same : slice_range (bs ++ more) at end ≡ slice_range bs at end =
    ap (take (end - at)) (drop-append-le at bs more (omega arith)) ∙ take-append-le (end - at) (drop at bs) more (omega (arith, length-drop at bs)) in
    record {
      from = from;
      within = omega (arith, length-append bs more);
      value = λ w. ap (λ p. is_some (value of_string outside (p ++ w))) same ∙ h.value w;
    }

-- a place of the text is one of the longer text
at-more : (bs more : List ℕ) (at n : ℕ) → IsUtf8 bs → IsUtf8 more → IsAt bs at n → IsAt (bs ++ more) at n
at-more bs more at n u v h =
    let w = chars bs in
    let x = chars more in
    let e : chars (bs ++ more) ≡ w ++ x = chars-append bs more u in
    let after : drop at (bs ++ more) ≡ drop at bs ++ more = drop-append-le at bs more h.inside in
    record {
      inside = omega (arith, length-append bs more, h.inside);
      count = omega (arith, ap length e, length-append w x, h.count);
      utf8 = subst IsUtf8 (sym after) (IsUtf8-append (drop at bs) more h.utf8 v);
      left = ap (drop n) e ∙ (drop-append-le n w x h.count ∙ (ap (λ y. y ++ x) h.left ∙ (sym (chars-append (drop at bs) more h.utf8) ∙ ap chars (sym after))));
      bytes = h.bytes ∙ ap (λ y. length (encode_utf8_all y)) (sym (ap (take n) e ∙ take-append-le n w x h.count));
    }

-- the longest front of so many characters is that of the longer text
front-same : (d : Dialect) (w x : List ℕ) (n : ℕ) → three_quotes d (w ++ x) ≡ three_quotes d w → n ≤ length w →
    longest_by (kind_by_states d (w ++ x)) (w ++ x) n ≡ longest_by (kind_by_states d w) w n
front-same d w x zero e l = refl
front-same d w x (suc n) e l =
    let t : take (suc n) (w ++ x) ≡ take (suc n) w = take-append-le (suc n) w x l in
    ap (λ k. with_length (suc n) k (longest_by (kind_by_states d (w ++ x)) (w ++ x) n))
    (ap (λ b. only_long b (kind_at (state_of d (take (suc n) (w ++ x))))) e ∙ ap (λ u. only_long (three_quotes d w) (kind_at (state_of d u))) t)
    ∙ ap (with_length (suc n) (kind_by_states d w (take (suc n) w))) (front-same d w x n e (omega arith))

-- a front has the same length in bytes with more text
bytes-same : (w x : List ℕ) (o : Option (ℕ × Kind)) → AtMost (length w) o → in_bytes (w ++ x) o ≡ in_bytes w o
bytes-same w x None h = refl
bytes-same w x (Some y) h = ap (λ u. Some (length (encode_utf8_all u), y.1)) (take-append-le y.0 w x h.1)

-- what is at most n is at most a larger number
at_most-le : (n m : ℕ) (o : Option (ℕ × Kind)) → n ≤ m → AtMost n o → AtMost m o
at_most-le n m None l h = tt
at_most-le n m (Some x) l h = (h.0, omega arith)

-- what the states have reached is right with more text, once three bytes are read
pub reached-more : (d : Dialect) (bs more : List ℕ) (at : ℕ) (s : State) (b : Option (ℕ × Kind)) → IsUtf8 bs → IsUtf8 more → 3 ≤ at → Reached d bs at s b →
    Reached d (bs ++ more) at s b
reached-more d bs more at s b u v l r =
    let w = chars bs in
    let x = chars more in
    let e : chars (bs ++ more) ≡ w ++ x = chars-append bs more u in
    let inside = r.here.inside in
    let count = r.here.count in
    let three : three_quotes d (w ++ x) ≡ three_quotes d w =
    sym (ap (three_quotes d) e)
    ∙ (sym (quotes-bytes d (bs ++ more) (IsUtf8-append bs more u v)) ∙ (quotes-more d bs more (omega arith) ∙ quotes-bytes d bs u)) in
    let best = longest_by (kind_by_states d w) w r.n in
    record {
      n = r.n;
      here = at-more bs more at r.n u v r.here;
      state = r.state ∙ ap (state_of d) (sym (ap (take r.n) e ∙ take-append-le r.n w x count));
      front = r.front ∙ sym (ap (λ y. in_bytes y (longest_by (kind_by_states d y) y r.n)) e
          ∙ (ap (in_bytes (w ++ x)) (front-same d w x r.n three count)
          ∙ bytes-same w x best (at_most-le r.n (length w) best count (longest_by-at_most (kind_by_states d w) w r.n))));
    }

-- a string that is fit so far is so with more text
fit-more : (d : Dialect) (bs more : List ℕ) (at : ℕ) (q : Quote) → IsUtf8 bs → IsUtf8 more → 3 ≤ at → IsFit d bs at q → IsFit d (bs ++ more) at q
fit-more d bs more at q u v l h =
    let inside = h.reached.here.inside in
    record {
      opens = opens_with-more d q bs more h.opens;
      one = sym (quotes-bytes d (bs ++ more) (IsUtf8-append bs more u v)) ∙ (quotes-more d bs more (omega arith) ∙ (quotes-bytes d bs u ∙ h.one));
      inside = fits-longer bs more 1 at h.inside;
      reached = reached-more d bs more at (Text (Short q)) None u v l h.reached;
    }

-- where a quote is kept
fit_for-more : (d : Dialect) (bs more : List ℕ) (at : ℕ) (q : Option Quote) → IsUtf8 bs → IsUtf8 more → 3 ≤ at → IsFitFor d bs at q →
    IsFitFor d (bs ++ more) at q
fit_for-more d bs more at None u v l h = tt
fit_for-more d bs more at (Some q) u v l h = fit-more d bs more at q u v l h

-- what is kept of an open token is right with more text, so it need not be read again
pub walked-more : (d : Dialect) (bs more : List ℕ) (old : Option Walk) → IsUtf8 bs → IsUtf8 more → Walked d bs old → Walked d (bs ++ more) old
unfolding reached-more
walked-more d bs more None u v h = tt
walked-more d bs more (Some w) u v h = record {
  enough = h.enough;
  reached = reached-more d bs more w.at w.state (with_length w.len w.kind None) u v h.enough h.reached;
  within = h.within;
  counted = at-more bs more w.counted w.count u v h.counted;
  fit = fit_for-more d bs more w.at w.fit u v h.enough h.fit;
}

-- where a piece comes after the rest of a text
pub walked_grown : (d : Dialect) (text new : List ℕ) (start : ℕ) (old : Option Walk) (bytes : List ℕ) → IsUtf8 text → IsCharBoundary text start →
    new ≡ drop start text ++ good_bytes bytes → Walked d (drop start text) old → Walked d new old
walked_grown d text new start old bytes u b e h =
    subst (λ t. Walked d t old) (sym e) (walked-more d (drop start text) (good_bytes bytes) old (IsUtf8-drop text start u b) (good_front bytes) h)

-- the states have come over the whole text
at-whole : (bs : List ℕ) → IsUtf8 bs → IsAt bs (length bs) (length (chars bs))
at-whole bs u =
    let w = chars bs in
    let none : drop (length bs) bs ≡ [] = drop_all (length bs) bs (omega arith) in
    record {
      inside = omega arith;
      count = omega arith;
      utf8 = subst IsUtf8 (sym none) IsUtf8-nil;
      left = drop_all (length w) w (omega arith) ∙ (sym chars-nil ∙ ap chars (sym none));
      bytes = sym (ap (λ y. length (encode_utf8_all y)) (take_all (length w) w (omega arith)) ∙ ap length (encodes-chars bs u));
    }

-- the state where one is open
opened : (t : Bool) (s x : State) → Some s ≡ cond t (Some x) None → s ≡ x
opened true s x e = cc
opened false s x e = absurd (let h : Some s ≡ None = e in cc)

-- what is kept after a text is right of it
pub walked-kept : (d : Dialect) (bs : List ℕ) (old : Option Walk) (n len : ℕ) (kind : Option Kind) (state : Option State) → IsUtf8 bs →
    Walked d bs old → n ≡ length bs →
    with_length len kind None ≡ in_bytes (chars bs) (longest_by (kind_by_states d (chars bs)) (chars bs) (length (chars bs))) →
    state ≡ open_state d (state_of d (chars bs)) → Walked d bs (walk_kept old n len kind state)
walked-kept d bs old n len kind None u h e f g = h
walked-kept d bs old n len kind (Some s) u h e f g = ⊎_elim
    (λ l. subst (Walked d bs) (sym (cond-true _ _ _ (lt-ltb n 3 l))) h)
    (λ l. subst (Walked d bs) (sym (cond-false _ _ _ (le-ltb n 3 l)))
    (record { enough = l; reached = reached; within = within; counted = counted-walk d bs old u h; fit = tt }))
    (cases_lt n 3)
  where
    within : counted_bytes old ≤ n
    within = let i = counted-within d bs old u h in omega (arith, e)

    reached : Reached d bs n s (with_length len kind None)
    reached =
        let w = chars bs in
        let state = opened (goes_on d (state_of d w)) s (state_of d w) g in
        record {
          n = length w;
          here = subst (λ m. IsAt bs m (length w)) (sym e) (at-whole bs u);
          state = state ∙ ap (state_of d) (sym (take_all (length w) w (omega arith)));
          front = f;
        }

-- what is kept or what was there, as a test says
pub walked_if : (d : Dialect) (bs : List ℕ) (b : Bool) (new old : Option Walk) → Walked d bs new → Walked d bs old → Walked d bs (cond b new old)
walked_if d bs true new old n o = n
walked_if d bs false new old n o = o
