-- The relation of resolution has one result, and `resolved` computes it.
use Rattle.rdf_iri.proofs.Prelude.{◌≡◌, ℕ, true, false, List, [], ◌∷◌, Option, Some, None, inl, inr, refl, sym, ap, ◌∙◌, subst, ⊎_elim, MatchOption, cases_Bool, cond-true, cond-false, has_scheme, Parts, Splits, recompose, parts_of, DotsRemoved, joined, ByPath, Transforms, Resolves, path_target, authority_target, target, based, resolved}
use Rattle.rdf_iri.proofs.PartsLemmas.{only_parts, parts_split}
use Rattle.rdf_iri.proofs.DotsLemmas.{only_removed, dots_removed}

-- parts with equal fields
same_parts : (t : Parts) (s a : Option (List ℕ)) (p : List ℕ) (q f : Option (List ℕ)) → t.scheme ≡ s → t.authority ≡ a → t.path ≡ p →
    t.query ≡ q → t.fragment ≡ f →
    t ≡ record { scheme = s; authority = a; path = p; query = q; fragment = f }
same_parts t s a p q f e1 e2 e3 e4 e5 =
    ap (λ x. record { scheme = x; authority = t.authority; path = t.path; query = t.query; fragment = t.fragment }) e1
    ∙ (ap (λ x. record { scheme = s; authority = x; path = t.path; query = t.query; fragment = t.fragment }) e2
    ∙ (ap (λ x. record { scheme = s; authority = a; path = x; query = t.query; fragment = t.fragment }) e3
    ∙ (ap (λ x. record { scheme = s; authority = a; path = p; query = x; fragment = t.fragment }) e4
    ∙ ap (λ x. record { scheme = s; authority = a; path = p; query = q; fragment = x }) e5)))

-- by its path a reference has one target
path-only : (b r t : Parts) (w : List ℕ) → t.scheme ≡ b.scheme → t.fragment ≡ r.fragment → t.authority ≡ b.authority →
    ByPath b w r.query t → t ≡ path_target b r w
path-only b r t [] s f a m = same_parts t _ _ _ _ _ s a m.0 m.1 f
path-only b r t (c ∷ w) s f a m = same_parts t _ _ _ _ _ s a (only_removed _ _ m.0) m.1 f

-- by its authority it has one
authority-only : (b r t : Parts) (o : Option (List ℕ)) → t.scheme ≡ b.scheme → t.fragment ≡ r.fragment →
    MatchOption o ((t.authority ≡ b.authority) × ByPath b r.path r.query t) (λ a. (t.authority ≡ Some a) × DotsRemoved r.path t.path × (t.query ≡ r.query)) →
    t ≡ authority_target b r o
authority-only b r t None s f m = path-only b r t r.path s f m.0 m.1
authority-only b r t (Some a) s f m = same_parts t _ _ _ _ _ s m.0 (only_removed _ _ m.1) m.2 f

-- the target of the relation is the one that is computed
pub transforms-only : (b r t : Parts) → Transforms b r t → t ≡ target b r
transforms-only b r t m = authority-only b r t r.authority m.scheme m.fragment m.middle

-- the target that is computed by the path is one of the relation
path-holds : (b r : Parts) (w : List ℕ) → (((path_target b r w).authority ≡ b.authority) × ByPath b w r.query (path_target b r w))
    × (((path_target b r w).scheme ≡ b.scheme) × ((path_target b r w).fragment ≡ r.fragment))
path-holds b r [] = ((refl, (refl, refl)), (refl, refl))
path-holds b r (c ∷ w) = ((refl, (dots_removed (joined b (c ∷ w)), refl)), (refl, refl))

-- the target that is computed by the authority is one of the relation
authority-holds : (b r : Parts) (o : Option (List ℕ)) →
    MatchOption o (((authority_target b r o).authority ≡ b.authority) × ByPath b r.path r.query (authority_target b r o))
    (λ a. ((authority_target b r o).authority ≡ Some a) × DotsRemoved r.path (authority_target b r o).path × ((authority_target b r o).query ≡ r.query))
    × (((authority_target b r o).scheme ≡ b.scheme) × ((authority_target b r o).fragment ≡ r.fragment))
authority-holds b r None = path-holds b r r.path
authority-holds b r (Some a) = ((refl, dots_removed r.path, refl), (refl, refl))

-- the target that is computed is one of the relation
pub transforms-target : (b r : Parts) → Transforms b r (target b r)
transforms-target b r = let h = authority-holds b r r.authority in record { scheme = h.1.0; middle = h.0; fragment = h.1.1 }

-- a result against a base is the one that is computed
based-only : (base : Option (List ℕ)) (reference result : List ℕ) →
    MatchOption base ⊥ (λ text. (b r t : Parts) × Splits text b × Splits reference r × Transforms b r t × (result ≡ recompose t)) →
    based base reference ≡ Some result
based-only None reference result m = absurd m
based-only (Some text) reference result m =
    let b = only_parts text m.0 m.3 in
    let r = only_parts reference m.1 m.4 in
    let t : m.2 ≡ target (parts_of text) (parts_of reference) =
    transforms-only m.0 m.1 m.2 m.5 ∙ (ap (λ x. target x m.1) b ∙ ap (λ x. target (parts_of text) x) r) in
    ap (λ x. Some x) (sym (m.6 ∙ ap recompose t))

-- what the relation gives is what is computed
pub resolves-only : (base : Option (List ℕ)) (reference result : List ℕ) → Resolves base reference result → resolved base reference ≡ Some result
unfolding resolved
resolves-only base reference result m =
    ⊎_elim
    (λ (h : (has_scheme reference ≡ true) × (result ≡ reference)).
    cond-true (has_scheme reference) (Some reference) (based base reference) h.0 ∙ ap (λ x. Some x) (sym h.1))
    (λ (h : (has_scheme reference ≡ false) × MatchOption base ⊥ (λ text. (b r t : Parts) × Splits text b × Splits reference r
    × Transforms b r t × (result ≡ recompose t))).
    cond-false (has_scheme reference) (Some reference) (based base reference) h.0 ∙ based-only base reference result h.1)
    m

-- what a computed result means: it is one of the relation, or there is none
abbrev pub ResolvesTo : Option (List ℕ) → List ℕ → Option (List ℕ) → Type 0
ResolvesTo base reference o = MatchOption o ((has_scheme reference ≡ false) × (base ≡ None)) (λ result. Resolves base reference result)

-- the result against a base is one of the relation
pub based-holds : (base : Option (List ℕ)) (reference : List ℕ) → (has_scheme reference ≡ false) → ResolvesTo base reference (based base reference)
based-holds None reference n = (n, refl)
based-holds (Some text) reference n =
    let b = parts_of text in
    let r = parts_of reference in
    inr (n, (b, r, target b r, parts_split text, parts_split reference, transforms-target b r, refl))

-- what is computed is what the relation gives, and nothing where there is neither scheme nor base
pub resolved-holds : (base : Option (List ℕ)) (reference : List ℕ) → ResolvesTo base reference (resolved base reference)
unfolding resolved
resolved-holds base reference =
    ⊎_elim
    (λ t. subst (ResolvesTo base reference) (sym (cond-true (has_scheme reference) (Some reference) (based base reference) t)) (inl (t, refl)))
    (λ f. subst (ResolvesTo base reference) (sym (cond-false (has_scheme reference) (Some reference) (based base reference) f))
    (based-holds base reference f))
    (cases_Bool (has_scheme reference))
