-- The laws of references.
use Rattle.rdf_iri.proofs.Prelude.{◌≡◌, ℕ, false, List, Option, Some, None, refl, sym, ◌∙◌, subst, ⊎_elim, false≢true, codes, has_scheme, Parts, Splits, parts_of, DotsRemoved, remove_dots, finish, step, Resolves, resolved}
use Rattle.rdf_iri.specs.Laws.{ReferencesSplitOnce, DotsHaveOneResult, ReferencesHaveOneResult, PartsAreComputed, DotsAreComputed, ResultsAreComputed}
use Rattle.rdf_iri.proofs.PartsLemmas.{only_parts, parts_split}
use Rattle.rdf_iri.proofs.DotsLemmas.{only_removed, dots_removed}
use Rattle.rdf_iri.proofs.ResolveLemmas.{ResolvesTo, resolves-only, resolved-holds}

-- the law of parts
pub split_once : ReferencesSplitOnce
split_once text p q m n = only_parts text p m ∙ sym (only_parts text q n)

-- the law of paths
pub one_result : DotsHaveOneResult
one_result path v w m n = only_removed path v m ∙ sym (only_removed path w n)

-- equal answers have equal texts
some_same : (v w : List ℕ) → Some v ≡ Some w → v ≡ w
some_same v w e = cc

-- the law of results
pub one_iri : ReferencesHaveOneResult
one_iri base reference v w m n = some_same v w (sym (resolves-only base reference v m) ∙ resolves-only base reference w n)

-- the parts are those that `parts_of` computes
pub parts_computed : PartsAreComputed
parts_computed text p = (λ e. subst (Splits text) e (parts_split text), λ s. sym (only_parts text p s))

-- the path is that which `remove_dots` computes
pub dots_computed : DotsAreComputed
dots_computed path w = (λ e. subst (DotsRemoved path) e (dots_removed path), λ m. sym (only_removed path w m))

-- no answer is none that is there
none_is_some : (w : List ℕ) → None ≡ Some w → ⊥
none_is_some w e = cc

-- an answer that is there is not none
some_is_none : (b : List ℕ) → Some b ≡ None → ⊥
some_is_none b e = cc

-- a reference that needs a base has no result without one
no_result : (base : Option (List ℕ)) (reference w : List ℕ) → Resolves base reference w → has_scheme reference ≡ false → base ≡ None → ⊥
no_result None reference w m f e = ⊎_elim (λ h. false≢true (sym f ∙ h.0)) (λ h. h.1) m
no_result (Some b) reference w m f e = some_is_none b e

-- the result is that which `resolved` computes
pub results_computed : ResultsAreComputed
results_computed base reference = (
  λ w. (λ e. subst (ResolvesTo base reference) e (resolved-holds base reference), λ m. resolves-only base reference w m),
  (λ e. subst (ResolvesTo base reference) e (resolved-holds base reference), λ n. by (resolved base reference) refl n),
)
  where
    by : (o : Option (List ℕ)) → resolved base reference ≡ o → (has_scheme reference ≡ false) × (base ≡ None) → resolved base reference ≡ None
    by None e n = e
    by (Some w) e n = absurd (no_result base reference w (subst (ResolvesTo base reference) e (resolved-holds base reference)) n.0 n.1)

-- The laws at the reference `../c` against `http://a/b/d`.
reference_parts : Parts
reference_parts = record { scheme = None; authority = None; path = codes "../c"; query = None; fragment = None }

-- an example: the reference "../c" is all path
reference_splits : Splits (codes "../c") reference_parts
unfolding parts_of reference_parts
reference_splits = (parts_computed (codes "../c") reference_parts).0 refl

-- an example: the reference "../c" has no other parts
one_split : (p : Parts) → Splits (codes "../c") p → p ≡ reference_parts
one_split p s = split_once (codes "../c") p reference_parts s reference_splits

-- an example: "/b/../c" becomes "/c"
path_without_dots : DotsRemoved (codes "/b/../c") (codes "/c")
unfolding remove_dots finish step
path_without_dots = (dots_computed (codes "/b/../c") (codes "/c")).0 refl

-- an example: "/b/../c" becomes nothing but "/c"
one_path : (w : List ℕ) → DotsRemoved (codes "/b/../c") w → w ≡ codes "/c"
one_path w m = one_result (codes "/b/../c") w (codes "/c") m path_without_dots

-- an example: "../c" against "http://a/b/d"
reference_resolves : Resolves (Some (codes "http://a/b/d")) (codes "../c") (codes "http://a/c")
unfolding resolved parts_of remove_dots finish step
reference_resolves = ((results_computed (Some (codes "http://a/b/d")) (codes "../c")).0 (codes "http://a/c")).0 refl

-- an example: "../c" against "http://a/b/d" has no other result
only_iri : (w : List ℕ) → Resolves (Some (codes "http://a/b/d")) (codes "../c") w → w ≡ codes "http://a/c"
only_iri w m = one_iri (Some (codes "http://a/b/d")) (codes "../c") w (codes "http://a/c") m reference_resolves
