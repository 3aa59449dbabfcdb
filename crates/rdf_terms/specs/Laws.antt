-- The laws of shapes and values, and of the functions that compute them.
use Rattle.std.specs.Prelude.{◌≡◌, ◌↔◌, ℕ, true, List, Some}
use Rattle.rdf_terms.specs.declared.kind.Dialect.{Dialect}
use Rattle.rdf_terms.specs.declared.kind.Kind.{Kind}
use Rattle.rdf_terms.specs.Terminals.{Shape, Live}
use Rattle.rdf_terms.specs.Shapes.{kind_of, is_live}
use Rattle.rdf_terms.specs.Pieces.{of_string, of_iri, IsPiece, IsLocalPiece, Means, HasMeaning}
use Rattle.rdf_terms.specs.Values.{string_value, iri_value, local_value, is_fit}

-- No text has the shapes of two kinds.
abbrev pub TextsHaveOneKind : Type 0
TextsHaveOneKind = (d : Dialect) (w : List ℕ) (j k : Kind) → Shape d j w → Shape d k w → j ≡ k

-- The kind that is computed is the kind whose shape the text has.
abbrev pub KindsAreShapes : Type 0
KindsAreShapes = (d : Dialect) (w : List ℕ) (k : Kind) → (kind_of d w ≡ Some k) ↔ Shape d k w

-- The test on beginnings says that some longer text with a shape begins so.
abbrev pub BeginningsAreLive : Type 0
BeginningsAreLive = (d : Dialect) (w : List ℕ) → (is_live d w ≡ true) ↔ Live d w

-- The value that is computed for the inside of a string is what its pieces mean.
abbrev pub StringsMeanTheirPieces : Type 0
StringsMeanTheirPieces = (w v : List ℕ) → (string_value w ≡ Some v) ↔ Means (IsPiece of_string) w v

-- The same for the inside of an IRI.
abbrev pub IrisMeanTheirPieces : Type 0
IrisMeanTheirPieces = (w v : List ℕ) → (iri_value w ≡ Some v) ↔ Means (IsPiece of_iri) w v

-- The same for a local part.
abbrev pub LocalPartsMeanTheirPieces : Type 0
LocalPartsMeanTheirPieces = (w v : List ℕ) → (local_value w ≡ Some v) ↔ Means IsLocalPiece w v

-- The test on escapes says that a token's inside has a meaning.
abbrev pub FitTextsHaveMeaning : Type 0
FitTextsHaveMeaning = (k : Kind) (w : List ℕ) → (is_fit k w ≡ true) ↔ HasMeaning k w
