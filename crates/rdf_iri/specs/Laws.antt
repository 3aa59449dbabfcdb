-- The laws of references: each relation has one result, and the functions compute it.
use Rattle.std.specs.Prelude.{◌≡◌, ◌↔◌, ℕ, false, List, Option, Some, None}
use Rattle.rdf_terms.specs.Terms.{has_scheme}
use Rattle.rdf_iri.specs.Reference.{Parts, Splits}
use Rattle.rdf_iri.specs.Parts.{parts_of}
use Rattle.rdf_iri.specs.DotSegments.{DotsRemoved}
use Rattle.rdf_iri.specs.Dots.{remove_dots}
use Rattle.rdf_iri.specs.Resolution.{Resolves}
use Rattle.rdf_iri.specs.Resolve.{resolved}

-- A reference splits into its parts in one way.
abbrev pub ReferencesSplitOnce : Type 0
ReferencesSplitOnce = (text : List ℕ) (p q : Parts) → Splits text p → Splits text q → p ≡ q

-- A path has one result without its dots.
abbrev pub DotsHaveOneResult : Type 0
DotsHaveOneResult = (path v w : List ℕ) → DotsRemoved path v → DotsRemoved path w → v ≡ w

-- A reference against a base, or none, resolves to one IRI.
abbrev pub ReferencesHaveOneResult : Type 0
ReferencesHaveOneResult = (base : Option (List ℕ)) (reference v w : List ℕ) → Resolves base reference v → Resolves base reference w → v ≡ w

-- `parts_of` computes the parts into which a reference splits.
abbrev pub PartsAreComputed : Type 0
PartsAreComputed = (text : List ℕ) (p : Parts) → (parts_of text ≡ p) ↔ Splits text p

-- `remove_dots` computes the path without its dots.
abbrev pub DotsAreComputed : Type 0
DotsAreComputed = (path w : List ℕ) → (remove_dots path ≡ w) ↔ DotsRemoved path w

-- `resolved` computes the IRI, and there is none where the reference has no scheme and there is no base.
abbrev pub ResultsAreComputed : Type 0
ResultsAreComputed = (base : Option (List ℕ)) (reference : List ℕ) →
    ((w : List ℕ) → (resolved base reference ≡ Some w) ↔ Resolves base reference w)
    × ((resolved base reference ≡ None) ↔ ((has_scheme reference ≡ false) × (base ≡ None)))
