-- What the longest front is, and why the tokens end where they end.
use Rattle.rdf_tokens.proofs.Prelude.{Some, None, ◌≡◌, ◌≢◌, ℕ, zero, suc, ◌+◌, ◌<◌, ◌≤◌, Bool, true, false, cond, nat_lt, List, [], ◌∷◌, ◌++◌, ◌||◌, ◌==◌, ◌⊎◌, inl, inr, refl, sym, ap, ◌∙◌, subst, ⊎_elim, append_assoc, Option, is_some, length, take, drop, arith, length-append, take_all, drop_at, drop_all, take-append-drop, length-take-le, All-nil, All-cons, and_parts, or_cases, cases_lt, false≢true, eqb-true, eq-eqb, ltb-true, encodes-append, encodes-chars, chars-encodes, scalars-chars, utf8_valid_len_le, encodes, scalars, All, chars, utf8_valid_len, utf8_error_len, Dialect, Kind, LongString, End, Shape, Live, kind_of, is_live, is_fit, Place, past, Tail, Outcome, Reading, blank, three_quotes, only_long, with_length, longest, over, is_empty, chosen, decided, by_tail, rest_of, with_token, end_tokens, stop_place, ended, broken, undecided, complete, token_too_long, bad_utf8, no_token, bad_escape, first_place, good, mark, tail_of, end_of, tokens_of, text_at, IsLongest, HasNoFront, LongestIsFound, IsLongestIn, TokensAreLongest, IsOver, IsUnfit, EndsFor, OutcomesHaveReasons}
use Rattle.std.proofs.Math.Utf8.{scalar}
use Rattle.rdf_terms.proofs.KindsLemmas.{kind-shape, shape-kind, live-shape}
use Rattle.rdf_tokens.specs.Tokens.{step, place_of}
use Rattle.rdf_tokens.specs.Tokens.Tail.{goes_on}
use Rattle.rdf_tokens.specs.Tokens.Step.{token, stop}
use Rattle.rdf_tokens.specs.Laws.{IsFront}
use Rattle.rdf_tokens.proofs.GoodLemmas.{good_front}
use Rattle.rdf_tokens.proofs.PlaceLemmas.{past-encodes, end_of-append}
use Rattle.rdf_tokens.proofs.StepLemmas.{only_long-kind, decided-token, step-decided}
use Rattle.rdf_tokens.proofs.LawLemmas.{by_steps, tokens_of-tokens}

-- the kind of a front that may be a token
abbrev candidate : Dialect → List ℕ → ℕ → Option Kind
candidate d w n = only_long (three_quotes d w) (kind_of d (take n w))

-- after three quotes what counts is a long string
only_long-is : (t : Bool) (o : Option Kind) (k : Kind) → only_long t o ≡ Some k → t ≡ true → k ≡ LongString
only_long-is false o k e t = absurd (false≢true t)
only_long-is true None k e t = absurd (let h : None ≡ Some k = e in cc)
only_long-is true (Some LongString) k e t = let h : Some LongString ≡ Some k = e in cc
only_long-is true (Some l) k e t = absurd (let h : None ≡ Some k = e in cc)

-- after three quotes a long string counts
only_long-from : (t : Bool) (k : Kind) → (t ≡ true → k ≡ LongString) → only_long t (Some k) ≡ Some k
only_long-from false k h = refl
only_long-from true k h = ap (λ k. only_long true (Some k)) (h refl) ∙ ap Some (sym (h refl))

-- a front that may be a token is a candidate of the computation
front-candidate : (d : Dialect) (w : List ℕ) (n : ℕ) (k : Kind) → IsFront d w n k → candidate d w n ≡ Some k
front-candidate d w n k f = ap (only_long (three_quotes d w)) (shape-kind d (take n w) k f.shape) ∙ only_long-from (three_quotes d w) k f.long

-- each candidate of the computation may be a token
candidate-front : (d : Dialect) (w : List ℕ) (n : ℕ) (k : Kind) → 0 < n → n ≤ length w → candidate d w n ≡ Some k → IsFront d w n k
candidate-front d w n k s l e = record {
  some = s;
  within = l;
  shape = kind-shape d (take n w) k (only_long-kind (three_quotes d w) (kind_of d (take n w)) k e);
  long = only_long-is (three_quotes d w) (kind_of d (take n w)) k e;
}

-- the longest of the fronts of at most m characters
abbrev Best : Dialect → List ℕ → ℕ → Option (ℕ × Kind) → Type 0
Best d w m None = (n : ℕ) (l : Kind) → 0 < n → n ≤ m → candidate d w n ≡ Some l → ⊥
Best d w m (Some x) = (0 < x.0) × (x.0 ≤ m) × (candidate d w x.0 ≡ Some x.1) × ((n : ℕ) (l : Kind) → n ≤ m → candidate d w n ≡ Some l → n ≤ x.0)

-- none is not some
none_is_some : {A : Type 0} (x : A) → None ≡ Some x → ⊥
none_is_some x e = cc

-- the computation goes through the candidates from the longest on
best : (d : Dialect) (w : List ℕ) (m : ℕ) → Best d w m (longest d w m)
best d w zero = λ n l a b e. absurd (omega arith)
best d w (suc m) = by (candidate d w (suc m)) refl (longest d w m) (best d w m)
  where
    last : (n : ℕ) → n ≤ suc m → (n ≤ m) ⊎ (n ≡ suc m)
    last n l = ⊎_elim (λ h. inr (omega arith)) (λ h. inl h) (cases_lt m n)

    by : (o : Option Kind) → candidate d w (suc m) ≡ o → (p : Option (ℕ × Kind)) → Best d w m p → Best d w (suc m) (with_length (suc m) o p)
    by (Some k) e p h = (omega arith, omega arith, e, λ n l a c. a)
    by None e None h = λ n l s a c.
        ⊎_elim (λ b. h n l s b c) (λ (b : n ≡ suc m). none_is_some l (sym e ∙ (ap (candidate d w) (sym b) ∙ c))) (last n a)
    by None e (Some x) h = (
      h.0,
      (let q = h.1 in omega arith),
      h.2,
      λ n l a c.
          ⊎_elim (λ b. h.3 n l b c) (λ (b : n ≡ suc m). absurd (none_is_some l (sym e ∙ (ap (candidate d w) (sym b) ∙ c)))) (last n a),
    )

-- equal fronts have equal parts
same_pair : (x y : ℕ × Kind) → Some x ≡ Some y → x ≡ y
same_pair x y e = cc

-- equal answers have equal kinds
some_same : (k l : Kind) → Some k ≡ Some l → k ≡ l
some_same k l e = cc

-- what is computed is the longest front
best-longest : (d : Dialect) (w : List ℕ) (n : ℕ) (k : Kind) → longest d w (length w) ≡ Some (n, k) → IsLongest d w n k
best-longest d w n k e =
    let b = subst (Best d w (length w)) e (best d w (length w)) in
    record {
      front = candidate-front d w n k b.0 b.1 b.2;
      longest = λ m l f. b.3 m l f.within (front-candidate d w m l f);
    }

-- where nothing is computed, no front may be a token
none-front : (d : Dialect) (w : List ℕ) → longest d w (length w) ≡ None → HasNoFront d w
none-front d w e n k f = subst (Best d w (length w)) e (best d w (length w)) n k f.some f.within (front-candidate d w n k f)

-- the longest front is what is computed
longest-best : (d : Dialect) (w : List ℕ) (n : ℕ) (k : Kind) → IsLongest d w n k → longest d w (length w) ≡ Some (n, k)
longest-best d w n k h = by (longest d w (length w)) refl
  where
    here : candidate d w n ≡ Some k
    here = front-candidate d w n k h.front

    by : (o : Option (ℕ × Kind)) → longest d w (length w) ≡ o → longest d w (length w) ≡ Some (n, k)
    by None e = absurd (none-front d w e n k h.front)
    by (Some x) e =
        let b = best-longest d w x.0 x.1 e in
        let s : x.0 ≡ n = let p = b.longest n k h.front in let q = h.longest x.0 x.1 b.front in omega arith in
        let t : x.1 ≡ k = some_same x.1 k (sym (front-candidate d w x.0 x.1 b.front) ∙ (ap (candidate d w) s ∙ here)) in
        e ∙ (ap (λ m. Some (m, x.1)) s ∙ ap (λ l. Some (n, l)) t)

-- where no front may be a token, nothing is computed
front-none : (d : Dialect) (w : List ℕ) → HasNoFront d w → longest d w (length w) ≡ None
front-none d w h = by (longest d w (length w)) refl
  where
    by : (o : Option (ℕ × Kind)) → longest d w (length w) ≡ o → longest d w (length w) ≡ None
    by None e = e
    by (Some x) e = absurd (h x.0 x.1 (best-longest d w x.0 x.1 e).front)

-- the law of the longest front
pub longest_found : LongestIsFound
longest_found d w = (
  λ n k. (λ e. best-longest d w n k e, λ h. longest-best d w n k h),
  (λ e. none-front d w e, λ h. front-none d w h),
)

-- a place of the characters at which this text is left
record At (g : List ℕ) (p : Place) (w : List ℕ) : Type 0 where
  scalars : scalars w ≡ true
  front : List ℕ
  whole : g ≡ front ++ encodes w
  place : p ≡ end_of front

-- what is left of a text of characters consists of characters
scalars-drop : (n : ℕ) (w : List ℕ) → scalars w ≡ true → scalars (drop n w) ≡ true
scalars-drop zero w e = e
scalars-drop (suc n) [] e = e
scalars-drop (suc n) (c ∷ w) e = scalars-drop n w (and_parts (scalar c) (scalars w) e).1

-- a place in a text, after some more characters
at-more : (g : List ℕ) (p : Place) (w : List ℕ) (n : ℕ) → At g p w → At g (past p (take n w)) (drop n w)
at-more g p w n h =
    let a = encodes (take n w) in
    record {
      scalars = scalars-drop n w h.scalars;
      front = h.front ++ a;
      whole = h.whole
          ∙ (ap (λ x. h.front ++ x) (ap encodes (sym (take-append-drop n w)) ∙ encodes-append (take n w) (drop n w))
          ∙ sym (append_assoc h.front a (encodes (drop n w))));
      place = ap (λ p. past p (take n w)) h.place ∙ (past-encodes (end_of h.front) (take n w) ∙ end_of-append h.front a);
    }

-- the bytes from a place on are the characters from there on
at-text : (g : List ℕ) (p : Place) (w : List ℕ) → At g p w → chars (drop p.offset g) ≡ w
at-text g p w h =
    let o : length h.front ≡ p.offset = sym (ap (λ p. p.offset) h.place) in
    ap chars (ap (drop p.offset) h.whole ∙ drop_at h.front (encodes w) p.offset o) ∙ chars-encodes w h.scalars

-- at the end of the characters
at-end : (g : List ℕ) (p : Place) → At g p [] → p.offset ≡ length g
at-end g p h =
    let o = ap (λ p. p.offset) h.place in
    let l = ap length h.whole in
    omega (arith, length-append h.front [])

-- the place after the rest of a text is the end of its bytes
at-past : (g : List ℕ) (p : Place) (w : List ℕ) → At g p w → (past p w).offset ≡ length g
at-past g p w h =
    let m = at-more g p w (length w) h in
    let t : past p (take (length w) w) ≡ past p w = ap (past p) (take_all (length w) w (omega arith)) in
    sym (ap (λ p. p.offset) t) ∙ at-end g (past p (take (length w) w)) (subst (At g (past p (take (length w) w))) (drop_all (length w) w (omega arith)) m)

-- why a step stops
abbrev Why : Dialect → ℕ → Tail → List ℕ → Outcome → Type 0
Why d limit t w undecided = (t ≡ goes_on) × ((w ≡ []) ⊎ (is_live d w ≡ true))
Why d limit t w complete = (t ≡ ended) × (w ≡ [])
Why d limit t w token_too_long = over d limit w ≡ true
Why d limit t w bad_utf8 = t ≡ broken
Why d limit t w no_token = (w ≢ []) × (longest d w (length w) ≡ None)
Why d limit t w bad_escape = (x : ℕ × Kind) × (longest d w (length w) ≡ Some x) × (is_fit x.1 (take x.0 w) ≡ false)

-- a text with a character is not empty
cons_nil : (c : ℕ) (w : List ℕ) → c ∷ w ≢ []
cons_nil c w e = cc

-- equal steps that stop do so with the same outcome
same_stop : (o p : Outcome) → stop o ≡ stop p → o ≡ p
same_stop o p e = cc

-- each step that stops has its reason in the text there
why : (d : Dialect) (limit : ℕ) (t : Tail) (w : List ℕ) (o : Outcome) → step d limit t w ≡ stop o → Why d limit t w o
unfolding step
why d limit t w o e = go (over d limit w) refl e
  where
    take_why : (p : Outcome) → stop p ≡ stop o → Why d limit t w p → Why d limit t w o
    take_why p e h = subst (Why d limit t w) (same_stop p o e) h

    taken : (v : List ℕ) → w ≡ v → v ≢ [] → (q : Option (ℕ × Kind)) → longest d v (length v) ≡ q → chosen v q ≡ stop o → Why d limit t w o
    taken v s n None l e = take_why no_token e (subst (λ v. (v ≢ []) × (longest d v (length v) ≡ None)) (sym s) (n, l))
    taken v s n (Some x) l e = fit (is_fit x.1 (take x.0 v)) refl e
      where
        fit : (b : Bool) → is_fit x.1 (take x.0 v) ≡ b → cond b (token x.0 x.1) (stop bad_escape) ≡ stop o → Why d limit t w o
        fit true f e = absurd (let h : token x.0 x.1 ≡ stop o = e in cc)
        fit false f e = take_why bad_escape e
            (subst (λ v. (x : ℕ × Kind) × (longest d v (length v) ≡ Some x) × (is_fit x.1 (take x.0 v) ≡ false)) (sym s) (x, l, f))

    made : (v : List ℕ) → w ≡ v → (v ≡ [] → t ≡ ended) → decided d v ≡ stop o → Why d limit t w o
    made [] s n e = take_why complete e (n refl, s)
    made (c ∷ v) s n e = taken (c ∷ v) s (cons_nil c v) (longest d (c ∷ v) (length (c ∷ v))) refl e

    waits : (is_empty w || is_live d w) ≡ true → (w ≡ []) ⊎ (is_live d w ≡ true)
    waits h = ⊎_elim (λ x. inl (none w x)) (λ x. inr x) (or_cases (is_empty w) (is_live d w) h)
      where
        none : (w : List ℕ) → is_empty w ≡ true → w ≡ []
        none [] e = refl
        none (c ∷ w) e = absurd (false≢true e)

    some : (is_empty w || is_live d w) ≡ false → w ≡ [] → t ≡ ended
    some h s = absurd (let x : true ≡ false = sym (ap (λ v. is_empty v || is_live d v) s) ∙ h in cc)

    by : (u : Tail) → t ≡ u → (b : Bool) → (is_empty w || is_live d w) ≡ b → by_tail d u w b ≡ stop o → Why d limit t w o
    by goes_on s true h e = take_why undecided e (s, waits h)
    by broken s true h e = take_why bad_utf8 e s
    by ended s true h e = made w refl (λ x. s) e
    by goes_on s false h e = made w refl (some h) e
    by broken s false h e = made w refl (some h) e
    by ended s false h e = made w refl (λ x. s) e

    go : (b : Bool) → over d limit w ≡ b → cond b (stop token_too_long) (by_tail d t w (is_empty w || is_live d w)) ≡ stop o → Why d limit t w o
    go true h e = take_why token_too_long e h
    go false h e = by t refl (is_empty w || is_live d w) refl e

-- a token that computes as too long is so by the definition
over-is : (d : Dialect) (limit : ℕ) (w : List ℕ) → over d limit w ≡ true → IsOver d limit w
over-is d limit w h =
    let u = take (limit + 1) w in
    let p = and_parts (nat_lt limit (length w)) (is_some (kind_of d u) || is_live d u) h in
    record {
      more = ltb-true limit (length w) p.0;
      front = ⊎_elim (λ x. inl (found (kind_of d u) refl x)) (λ x. inr (live-shape d u x)) (or_cases (is_some (kind_of d u)) (is_live d u) p.1);
    }
  where
    found : (o : Option Kind) → kind_of d (take (limit + 1) w) ≡ o → is_some o ≡ true → (k : Kind) × Shape d k (take (limit + 1) w)
    found None e h = absurd (false≢true h)
    found (Some k) e h = (k, kind-shape d (take (limit + 1) w) k e)

-- what comes after the characters
abbrev TailIs : List ℕ → Bool → Tail → Type 0
TailIs bytes e goes_on = e ≡ false
TailIs bytes e ended = (e ≡ true) × (utf8_valid_len bytes ≡ length bytes)
TailIs bytes e broken = utf8_valid_len bytes < length bytes

-- what comes after the good text is what the bytes after it say
tail_is : (bytes : List ℕ) (e : Bool) → TailIs bytes e (tail_of bytes e)
tail_is bytes e = by (utf8_valid_len bytes == length bytes) refl e (is_some (utf8_error_len (drop (utf8_valid_len bytes) bytes)))
  where
    less : (utf8_valid_len bytes == length bytes) ≡ false → utf8_valid_len bytes < length bytes
    less f =
        let l = utf8_valid_len_le bytes in
        ⊎_elim (λ h. h) (λ h. absurd (false≢true (sym f ∙ eq-eqb (utf8_valid_len bytes) (length bytes) (omega arith))))
        (cases_lt (utf8_valid_len bytes) (length bytes))

    by : (a : Bool) → (utf8_valid_len bytes == length bytes) ≡ a → (e b : Bool) → TailIs bytes e (cond a (cond e ended goes_on) (cond (e || b) broken goes_on))
    by true h true b = (refl, eqb-true (utf8_valid_len bytes) (length bytes) h)
    by true h false b = refl
    by false h true b = less h
    by false h false true = less h
    by false h false false = refl

module _ (d : Dialect) (limit : ℕ) (bytes : List ℕ) (e : Bool) where
  here : (p : Place) (w : List ℕ) → At (take (utf8_valid_len bytes) bytes) p w → w ≡ text_at bytes p
  here p w h = sym (at-text (take (utf8_valid_len bytes) bytes) p w h)

  size : length (take (utf8_valid_len bytes) bytes) ≡ utf8_valid_len bytes
  size = length-take-le (utf8_valid_len bytes) bytes (utf8_valid_len_le bytes)

  reason : (o : Outcome) (p : Place) (w : List ℕ) → At (take (utf8_valid_len bytes) bytes) p w → Why d limit (tail_of bytes e) w o →
      EndsFor d limit bytes e o (stop_place o p w)
  reason undecided p w h y = (
    subst (TailIs bytes e) y.0 (tail_is bytes e),
    subst (λ v. (v ≡ []) ⊎ Live d v) (here p w h) (⊎_elim (λ x. inl x) (λ x. inr (live-shape d w x)) y.1),
  )
  reason complete p w h y =
      let t = subst (TailIs bytes e) y.0 (tail_is bytes e) in
      (t.0, at-end (take (utf8_valid_len bytes) bytes) p (subst (At (take (utf8_valid_len bytes) bytes) p) y.1 h) ∙ (size ∙ t.1))
  reason token_too_long p w h y = subst (IsOver d limit) (here p w h) (over-is d limit w y)
  reason bad_utf8 p w h y = (at-past (take (utf8_valid_len bytes) bytes) p w h ∙ size, subst (TailIs bytes e) y (tail_is bytes e))
  reason no_token p w h y = subst (λ v. (v ≢ []) × HasNoFront d v) (here p w h) (y.0, none-front d w y.1)
  reason bad_escape p w h y = subst (IsUnfit d) (here p w h) (y.0.0, y.0.1, best-longest d w y.0.0 y.0.1 y.1, y.2)

  start : At (take (utf8_valid_len bytes) bytes) first_place (good bytes)
  start = record {
    scalars = scalars-chars (take (utf8_valid_len bytes) bytes) (good_front bytes);
    front = [];
    whole = sym (encodes-chars (take (utf8_valid_len bytes) bytes) (good_front bytes));
    place = refl;
  }

  abbrev Reasons : Place → List ℕ → Reading → Type 0
  Reasons p w r = At (take (utf8_valid_len bytes) bytes) p w → EndsFor d limit bytes e r.outcome r.at × All (IsLongestIn d bytes) r.tokens

  all_reasons : EndsFor d limit bytes e (tokens_of d limit bytes e).outcome (tokens_of d limit bytes e).at × All (IsLongestIn d bytes)
      (tokens_of d limit bytes e).tokens
  all_reasons =
      subst (λ r. EndsFor d limit bytes e r.outcome r.at × All (IsLongestIn d bytes) r.tokens) (sym (tokens_of-tokens d limit bytes e))
      (by_steps d limit (tail_of bytes e) Reasons stops takes false _ _
      (at-more (take (utf8_valid_len bytes) bytes) first_place (good bytes) (mark (good bytes)) start))
    where
      ends : (o : Outcome) (q : Place) → All (IsLongestIn d bytes) (end_tokens o q)
      ends complete q = All-cons (IsLongestIn d bytes) (record { kind = End; text = []; at = q }) [] (inl refl) (All-nil (IsLongestIn d bytes))
      ends o q = All-nil (IsLongestIn d bytes)

      stops : (b : Bool) (p : Place) (w : List ℕ) (o : Outcome) → step d limit (tail_of bytes e) (rest_of d b w) ≡ stop o →
          Reasons p w (record { tokens = end_tokens o (place_of d b p w); outcome = o; at = stop_place o (place_of d b p w) (rest_of d b w) })
      stops b p w o s = λ h. (
        reason o (place_of d b p w) (rest_of d b w) (at-more (take (utf8_valid_len bytes) bytes) p w (blank d b w) h)
            (why d limit (tail_of bytes e) (rest_of d b w) o s),
        ends o (place_of d b p w),
      )

      takes : (b : Bool) (p : Place) (w : List ℕ) (n : ℕ) (k : Kind) (r : Reading) → step d limit (tail_of bytes e) (rest_of d b w) ≡ token n k →
          Reasons (past (place_of d b p w) (take n (rest_of d b w))) (drop n (rest_of d b w)) r →
          Reasons p w (with_token (record { kind = k; text = take n (rest_of d b w); at = place_of d b p w }) r)
      takes b p w n k r s a = λ h.
          let v = rest_of d b w in
          let q = place_of d b p w in
          let m = at-more (take (utf8_valid_len bytes) bytes) p w (blank d b w) h in
          let x = a (at-more (take (utf8_valid_len bytes) bytes) q v n m) in
          let longest = best-longest d v n k (decided-token d v n k (step-decided d limit (tail_of bytes e) v n k s)).0 in
          let len : length (take n v) ≡ n = length-take-le n v longest.front.within in
          let one : IsLongest d (text_at bytes q) (length (take n v)) k × (take (length (take n v)) (text_at bytes q) ≡ take n v) =
          subst (λ i. IsLongest d (text_at bytes q) i k × (take i (text_at bytes q) ≡ take n v)) (sym len)
          (subst (λ u. IsLongest d u n k × (take n u ≡ take n v)) (here q v m) (longest, refl)) in
          (x.0, All-cons (IsLongestIn d bytes) (record { kind = k; text = take n v; at = q }) r.tokens (inr one) x.1)

-- the law of outcomes
pub reasons : OutcomesHaveReasons
reasons d limit bytes e = (all_reasons d limit bytes e).0

-- the law of the longest tokens
pub longest_tokens : TokensAreLongest
longest_tokens d limit bytes e = (all_reasons d limit bytes e).1
