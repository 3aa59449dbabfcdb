-- A token that a step gives has the shape of its kind, and fit escapes.
use Rattle.rdf_tokens.proofs.Prelude.{◌≡◌, ◌≢◌, ℕ, zero, suc, Bool, true, false, cond, ◌||◌, List, [], ◌∷◌, refl, sym, ap, ◌∙◌, subst, Option, Some, None, length, take, Dialect, Kind, LongString, End, Shape, shape, kind_of, is_live, is_fit, Tail, longest, with_length, three_quotes, only_long, over, is_empty, chosen, decided, by_tail, ended, broken, undecided, complete, token_too_long, bad_utf8, no_token, bad_escape}
use Rattle.rdf_terms.proofs.KindsLemmas.{kind-shape}
use Rattle.rdf_tokens.specs.Tokens.{step}
use Rattle.rdf_tokens.specs.Tokens.Tail.{goes_on}
use Rattle.rdf_tokens.specs.Tokens.Step.{token, stop}

-- the kind of the longest front is a kind of that front
same_front : (x y : ℕ × Kind) → Some x ≡ Some y → x ≡ y
same_front x y e = cc

-- what counts after three quotes has its kind
pub only_long-kind : (t : Bool) (o : Option Kind) (k : Kind) → only_long t o ≡ Some k → o ≡ Some k
only_long-kind false o k e = e
only_long-kind true None k e = e
only_long-kind true (Some LongString) k e = e
only_long-kind true (Some l) k e = absurd (let h : None ≡ Some k = e in cc)

-- the longest front has the kind that is found
pub longest-kind : (d : Dialect) (w : List ℕ) (m n : ℕ) (k : Kind) → longest d w m ≡ Some (n, k) → kind_of d (take n w) ≡ Some k
longest-kind d w zero n k e = absurd (let h : None ≡ Some (n, k) = e in cc)
longest-kind d w (suc m) n k e =
    go (only_long (three_quotes d w) (kind_of d (take (suc m) w)))
    (λ l h. only_long-kind (three_quotes d w) (kind_of d (take (suc m) w)) l h) (longest-kind d w m n k) e
  where
    go : (o : Option Kind) → ((l : Kind) → o ≡ Some l → kind_of d (take (suc m) w) ≡ Some l) → (longest d w m ≡ Some (n, k) → kind_of d (take n w) ≡ Some k) →
        with_length (suc m) o (longest d w m) ≡ Some (n, k) → kind_of d (take n w) ≡ Some k
    go None f h e = h e
    go (Some l) f h e =
        let x : (suc m, l) ≡ (n, k) = same_front (suc m, l) (n, k) e in
        ap (λ i. kind_of d (take i w)) (sym (ap (λ p. p.0) x)) ∙ (f l refl ∙ ap (λ p. Some p.1) x)

-- no text has the shape of the end
no_end : (d : Dialect) (w : List ℕ) → Shape d End w → ⊥
unfolding shape
no_end d w m = m

-- what a step that gives a token has decided
pub decided-token : (d : Dialect) (w : List ℕ) (n : ℕ) (k : Kind) → decided d w ≡ token n k →
    (longest d w (length w) ≡ Some (n, k)) × (is_fit k (take n w) ≡ true)
decided-token d [] n k e = absurd (let h : stop complete ≡ token n k = e in cc)
decided-token d (c ∷ w) n k e = taken (longest d (c ∷ w) (length (c ∷ w))) refl e
  where
    made : (x : ℕ × Kind) (b : Bool) → is_fit x.1 (take x.0 (c ∷ w)) ≡ b → cond b (token x.0 x.1) (stop bad_escape) ≡ token n k →
        (Some x ≡ Some (n, k)) × (is_fit k (take n (c ∷ w)) ≡ true)
    made x false f e = absurd (let h : stop bad_escape ≡ token n k = e in cc)
    made x true f e =
        let h : token x.0 x.1 ≡ token n k = e in
        let a : x.0 ≡ n = cc in
        let b : x.1 ≡ k = cc in
        (ap (λ i. Some (i, x.1)) a ∙ ap (λ l. Some (n, l)) b, ap (λ i. is_fit k (take i (c ∷ w))) (sym a) ∙ (ap (λ l. is_fit l (take x.0 (c ∷ w))) (sym b) ∙ f))

    taken : (o : Option (ℕ × Kind)) → longest d (c ∷ w) (length (c ∷ w)) ≡ o → chosen (c ∷ w) o ≡ token n k →
        (longest d (c ∷ w) (length (c ∷ w)) ≡ Some (n, k)) × (is_fit k (take n (c ∷ w)) ≡ true)
    taken None l e = absurd (let h : stop no_token ≡ token n k = e in cc)
    taken (Some x) l e = let p = made x (is_fit x.1 (take x.0 (c ∷ w))) refl e in (l ∙ p.0, p.1)

-- a token of a step is that of the decision
pub step-decided : (d : Dialect) (limit : ℕ) (t : Tail) (w : List ℕ) (n : ℕ) (k : Kind) → step d limit t w ≡ token n k → decided d w ≡ token n k
unfolding step
step-decided d limit t w n k e = go (over d limit w) t (is_empty w || is_live d w) e
  where
    by : (t : Tail) (b : Bool) → by_tail d t w b ≡ token n k → decided d w ≡ token n k
    by goes_on true e = absurd (let h : stop undecided ≡ token n k = e in cc)
    by broken true e = absurd (let h : stop bad_utf8 ≡ token n k = e in cc)
    by ended true e = e
    by goes_on false e = e
    by broken false e = e
    by ended false e = e

    go : (o : Bool) (t : Tail) (b : Bool) → cond o (stop token_too_long) (by_tail d t w b) ≡ token n k → decided d w ≡ token n k
    go true t b e = absurd (let h : stop token_too_long ≡ token n k = e in cc)
    go false t b e = by t b e

-- the law of a step's token
pub step-token : (d : Dialect) (limit : ℕ) (t : Tail) (w : List ℕ) (n : ℕ) (k : Kind) → step d limit t w ≡ token n k →
    Shape d k (take n w) × (is_fit k (take n w) ≡ true) × (k ≢ End)
step-token d limit t w n k e =
    let p = decided-token d w n k (step-decided d limit t w n k e) in
    let q = kind-shape d (take n w) k (longest-kind d w (length w) n k p.0) in
    (q, p.1, λ x. no_end d (take n w) (subst (λ k. Shape d k (take n w)) x q))

-- its text has its kind
pub step-kind : (d : Dialect) (limit : ℕ) (t : Tail) (w : List ℕ) (n : ℕ) (k : Kind) → step d limit t w ≡ token n k → kind_of d (take n w) ≡ Some k
step-kind d limit t w n k e = longest-kind d w (length w) n k (decided-token d w n k (step-decided d limit t w n k e)).0
