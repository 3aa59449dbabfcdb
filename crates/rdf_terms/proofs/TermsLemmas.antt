-- What a term's type keeps of its text can be used: that there is a proof gives one.
use Rattle.rdf_terms.proofs.Prelude.{ℕ, List, IsIri, IsLabel, IsTag, Regex, Matches, label_name, tag_name, Lines}
use Rattle.std.proofs.Math.Logic.{∥∥₁_elim}
use mathlib.Core.Bool.{Bool-set}
use Rattle.rdf_terms.proofs.ShapesLemmas.{form-matches, matches-form}

-- that a text is an absolute IRI is one fact, so it may be used where it is only known to hold
pub IsIri-had : (w : List ℕ) → ∥ IsIri w ∥₁ → IsIri w
IsIri-had w h = record {
  characters = ∥∥₁_elim h (Bool-set _ _) (λ i. i.characters);
  scheme = ∥∥₁_elim h (Bool-set _ _) (λ i. i.scheme);
}

-- that a text matches an expression may be used where it is only known to hold
pub Matches-had : (r : Regex) (w : List ℕ) → ∥ Matches r w ∥₁ → Matches r w
Matches-had r w h = form-matches r w (∥∥₁_elim h (Bool-set _ _) (matches-form r w))

-- that a text is a label may be used where it is only known to hold
pub IsLabel-had : (w : List ℕ) → ∥ IsLabel w ∥₁ → IsLabel w
IsLabel-had w = Matches-had (label_name Lines) w

-- that a text is a tag may be used where it is only known to hold
pub IsTag-had : (w : List ℕ) → ∥ IsTag w ∥₁ → IsTag w
IsTag-had w = Matches-had tag_name w
