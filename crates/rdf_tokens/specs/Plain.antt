-- The bytes that stand in a string and in an IRI as they are.
use Rattle.std.specs.Prelude.{ℕ, Bool, not, ◌||◌, [], ◌∷◌, nat_le}
use Rattle.rdf_terms.specs.Classes.{member, one_of}
use Rattle.rdf_terms.specs.Classes.Class.{iri_char}
use Rattle.rdf_tokens.specs.declared.plain.RunClass.{RunClass}
use Rattle.rdf_tokens.specs.declared.plain.RunClass.TheVariants.{InString, InIri}

-- in a string no quote, apostrophe, backslash, LF or CR; in an IRI what its class has. A byte from 128 on belongs to a character that both have.
abbrev pub is_plain : RunClass → ℕ → Bool
is_plain InString b = not (one_of (34 ∷ 39 ∷ 92 ∷ 10 ∷ 13 ∷ []) b)
is_plain InIri b = nat_le 128 b || member iri_char b
