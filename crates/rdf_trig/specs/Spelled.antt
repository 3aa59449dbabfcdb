-- What tokens spell, by their characters.
use Rattle.std.specs.Prelude.{ℕ, List, [], unwrap_or, ⊤}
use Rattle.rdf_terms.specs.Values.{string_value, inside}
use Rattle.rdf_terms.specs.declared.kind.Kind.{Kind}
use Rattle.rdf_terms.specs.declared.kind.Kind.TheVariants.{LangTag, AtBase, AtPrefix}

-- the value of a string in three quotes; it is there, since the token is fit
abbrev pub long_in : List ℕ → List ℕ
long_in w = unwrap_or (string_value (inside 3 w)) []

-- the kinds that are a language tag after a string
abbrev pub SpellsTag : Kind → Type 0
SpellsTag LangTag = ⊤
SpellsTag AtBase = ⊤
SpellsTag AtPrefix = ⊤
SpellsTag k = ⊥
