-- The prefixes of a scope as they are kept: the first of them in a row, the others in a map.
use Rattle.std.specs.Prelude.{◌≡◌, ℕ, ◌+◌, ◌<◌, ◌≤◌, cond, List, [], ◌∷◌, ◌++◌, length, Some, None, is_some, String, ⊤}
use Rattle.std.specs.String.{string_bytes}
use Rattle.std.specs.Str.{chars}
use Rattle.rdf_iri.specs.declared.fault.IriFault.{IriFault}
use Rattle.rdf_iri.specs.declared.fault.IriFault.TheVariants.{NoBase, IriTooLong, Memory, Unbound, TooManyBindings}
use Rattle.rdf_iri.specs.Texts.{equal, byte_len}
use Rattle.rdf_iri.specs.Scope.{bound_to}

-- no prefix of the row stands in it again, or among the others
abbrev pub KeptApart : List (List ℕ × List ℕ) → List (List ℕ × List ℕ) → Type 0
KeptApart [] others = ⊤
KeptApart (e ∷ row) others = (bound_to (row ++ others) e.0 ≡ None) × KeptApart row others

-- the prefix stands at this place of the row, and at none before it
pub record StandsAt (row : List (List ℕ × List ℕ)) (prefix : List ℕ) (place : ℕ) : Type 0 where
  pub front : List (List ℕ × List ℕ)
  pub iri : List ℕ
  pub rest : List (List ℕ × List ℕ)
  pub there : row ≡ front ++ (prefix, iri) ∷ rest
  pub count : length front ≡ place
  pub before : bound_to front prefix ≡ None

-- the prefix is bound to the IRI, and all others are bound as before
pub record Sets (old : List (List ℕ × List ℕ)) (prefix iri : List ℕ) (new : List (List ℕ × List ℕ)) : Type 0 where
  pub bound : (q : List ℕ) → bound_to new q ≡ cond (equal prefix q) (Some iri) (bound_to old q)
  pub count : length new ≡ length old + cond (is_some (bound_to old prefix)) 0 1

-- the bytes of a prefix, as a text, and of its IRI
abbrev pub entry_bytes : {Z : Type 0} → String Z × List ℕ → ℕ
entry_bytes e = length (string_bytes e.0) + byte_len e.1

-- the prefixes and IRIs of a map, in its order
abbrev pub entries_of : {Z : Type 0} → List (String Z × List ℕ) → List (List ℕ × List ℕ)
entries_of [] = []
entries_of (e ∷ es) = (chars (string_bytes e.0), e.1) ∷ entries_of es

-- why an IRI and a local part were not joined
abbrev pub NotJoined : List ℕ → List ℕ → ℕ → IriFault → Type 0
NotJoined front local limit IriTooLong = limit < byte_len (front ++ local)
NotJoined front local limit Memory = byte_len (front ++ local) ≤ limit
NotJoined front local limit NoBase = ⊥
NotJoined front local limit Unbound = ⊥
NotJoined front local limit TooManyBindings = ⊥
