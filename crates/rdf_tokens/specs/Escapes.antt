-- Whole escapes within strings and IRIs.
use Rattle.std.specs.Prelude.{◌≡◌, ◌⊎◌, ℕ, ◌+◌, ◌≤◌, true, List, ◌++◌, length, get_or, slice_range, is_some}
use Rattle.rdf_terms.specs.Classes.{has}
use Rattle.rdf_terms.specs.Classes.Class.{escape_letter}
use Rattle.rdf_terms.specs.Escapes.{IsUchar}
use Rattle.rdf_terms.specs.Pieces.{MayMean, hex_number}
use Rattle.rdf_terms.specs.declared.runs.Run.{Run}
use Rattle.rdf_terms.specs.Runs.{IsRun, goes_over}
use Rattle.rdf_terms.specs.Values.{Inside, of_string, of_iri, outside, value}
use Rattle.rdf_tokens.specs.declared.states.iri.Iri.TheVariants as iri_state
use Rattle.rdf_tokens.specs.declared.states.machine.State.TheVariants as state
use Rattle.rdf_tokens.specs.Front.{Rests}

-- an ECHAR stands between two places
pub record IsEchar (bs : List ℕ) (at end : ℕ) : Type 0 where
  pub ends : end ≡ at + 2
  pub within : end ≤ length bs
  pub slash : get_or bs at 0 ≡ 92
  pub letter : has escape_letter (get_or bs (at + 1) 0) ≡ true

-- a UCHAR does, whose character may stand in an IRI
pub record IsIriUchar (bs : List ℕ) (at end : ℕ) : Type 0 where
  pub uchar : IsUchar bs at end
  pub allowed : MayMean of_iri (hex_number (slice_range bs (at + 2) end))

-- an escape of a string stands at a place, and the run after it ends at another
pub record IsEscapeThen (r : Run) (bs : List ℕ) (at end : ℕ) : Type 0 where
  pub mid : ℕ
  pub escape : IsEchar bs at mid ⊎ IsUchar bs at mid
  pub run : IsRun (goes_over r) bs mid end

-- the bytes between two places lead back to the state within an IRI
abbrev pub RestsInIri : List ℕ → ℕ → ℕ → Type 0
RestsInIri bs at end = Rests (state.Iri iri_state.Inside) bs at end

-- the bytes between two places of a string or an IRI have a meaning, whatever text comes after them
pub record FitsIn (i : Inside) (bs : List ℕ) (at end : ℕ) : Type 0 where
  pub from : at ≤ end
  pub within : end ≤ length bs
  pub value : (w : List ℕ) → is_some (value i outside (slice_range bs at end ++ w)) ≡ is_some (value i outside w)

-- those of a string
abbrev pub FitsInString : List ℕ → ℕ → ℕ → Type 0
FitsInString bs at end = FitsIn of_string bs at end

-- those of an IRI
abbrev pub FitsInIri : List ℕ → ℕ → ℕ → Type 0
FitsInIri bs at end = FitsIn of_iri bs at end
