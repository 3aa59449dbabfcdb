-- What the tests on texts mean.
use Rattle.rdf_terms.proofs.Prelude.{◌≡◌, ℕ, true, List, [], ◌∷◌, ◌++◌, inl, inr, sym, ◌∙◌, subst, ⊎_elim, append_assoc, Some, None, cases_Bool, cond-true, cond-false, append-nil, Dialect, Regex, Matches, nullable, after_all, Kind, kinds, shape, any_shape, first_kind, kind_of, is_live}
use Rattle.rdf_terms.proofs.RegexLemmas.{nullable-matches, matches-nullable, after_all-matches, matches-after_all, longer-matches, matches-longer}

-- a text has the form of a kind exactly if the test says so
pub form-matches : (r : Regex) (w : List ℕ) → nullable (after_all r w) ≡ true → Matches r w
form-matches r w e = subst (Matches r) (append-nil w) (after_all-matches w [] r (nullable-matches (after_all r w) e))

-- a text of an expression is found as one
pub matches-form : (r : Regex) (w : List ℕ) → Matches r w → nullable (after_all r w) ≡ true
matches-form r w m = matches-nullable (after_all r w) (matches-after_all w [] r (subst (Matches r) (sym (append-nil w)) m))

-- equal answers have equal kinds
some_kind : {k l : Kind} → Some k ≡ Some l → k ≡ l
some_kind e = cc

-- the kind that is found is one whose expression the text matches
pub first_kind-matches : (d : Dialect) (ks : List Kind) (w : List ℕ) (k : Kind) → first_kind d ks w ≡ Some k →
    Matches (shape d k) w × Matches (any_shape d ks) w
first_kind-matches d [] w k e = absurd (let h : None ≡ Some k = e in cc)
first_kind-matches d (l ∷ ks) w k e =
    ⊎_elim
    (λ h. let same : l ≡ k = some_kind (sym (cond-true (nullable (after_all (shape d l) w)) (Some l) (first_kind d ks w) h) ∙ e) in
    let m = form-matches (shape d l) w h in
    (subst (λ x. Matches (shape d x) w) same m, inl m))
    (λ h. let p = first_kind-matches d ks w k (sym (cond-false (nullable (after_all (shape d l) w)) (Some l) (first_kind d ks w) h) ∙ e) in
    (p.0, inr p.1))
    (cases_Bool (nullable (after_all (shape d l) w)))

-- a text of some kind of a list has a first one that is found
pub matches-first_kind : (d : Dialect) (ks : List Kind) (w : List ℕ) → Matches (any_shape d ks) w → (k : Kind) × (first_kind d ks w ≡ Some k)
matches-first_kind d [] w m = absurd m
matches-first_kind d (l ∷ ks) w m =
    ⊎_elim
    (λ h. (l, cond-true (nullable (after_all (shape d l) w)) (Some l) (first_kind d ks w) h))
    (λ h. ⊎_elim
    (λ x. (l, cond-true (nullable (after_all (shape d l) w)) (Some l) (first_kind d ks w) (matches-form (shape d l) w x)))
    (λ x. let p = matches-first_kind d ks w x in
    (p.0, cond-false (nullable (after_all (shape d l) w)) (Some l) (first_kind d ks w) h ∙ p.1))
    m)
    (cases_Bool (nullable (after_all (shape d l) w)))

-- a shape of the list is among its shapes
pub matches-any : (d : Dialect) (before : List Kind) (k : Kind) (later : List Kind) (w : List ℕ) → Matches (shape d k) w →
    Matches (any_shape d (before ++ k ∷ later)) w
matches-any d [] k later w m = inl m
matches-any d (l ∷ before) k later w m = inr (matches-any d before k later w m)

-- a beginning that is found goes on to some token
pub live-matches : (d : Dialect) (u : List ℕ) → is_live d u ≡ true → (c : ℕ) × (w : List ℕ) × Matches (any_shape d kinds) (u ++ c ∷ w)
unfolding is_live
live-matches d u e =
    let l = longer-matches (after_all (any_shape d kinds) u) e in
    (l.0, l.1, after_all-matches u (l.0 ∷ l.1) (any_shape d kinds) l.2)

-- each proper beginning of a token is found
pub matches-live : (d : Dialect) (u : List ℕ) (c : ℕ) (w : List ℕ) → Matches (any_shape d kinds) (u ++ c ∷ w) → is_live d u ≡ true
unfolding is_live
matches-live d u c w m = matches-longer (after_all (any_shape d kinds) u) c w (matches-after_all u (c ∷ w) (any_shape d kinds) m)

-- what begins a longer shape, or is a shape longer than u, shows that u is live
pub live-front : (d : Dialect) (u v : List ℕ) → is_live d (u ++ v) ≡ true → is_live d u ≡ true
live-front d u [] e = subst (λ x. is_live d x ≡ true) (append-nil u) e
live-front d u (c ∷ v) e =
    let l = live-matches d (u ++ c ∷ v) e in
    matches-live d u c (v ++ l.0 ∷ l.1) (subst (Matches (any_shape d kinds)) (append_assoc u (c ∷ v) (l.0 ∷ l.1)) l.2)

-- a proper beginning of a token goes on
pub kind-front : (d : Dialect) (u : List ℕ) (c : ℕ) (v : List ℕ) (k : Kind) → kind_of d (u ++ c ∷ v) ≡ Some k → is_live d u ≡ true
unfolding kind_of
kind-front d u c v k e = matches-live d u c v (first_kind-matches d kinds (u ++ c ∷ v) k e).1
