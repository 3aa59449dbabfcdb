-- What a token spells, which is put in place of a text.
use Rattle.std.specs.Prelude.{ℕ, List, [], unwrap_or}
use Rattle.rdf_terms.specs.Values.{string_value, iri_value, inside}

-- the value of an IRIREF; it is there where the token is fit
abbrev pub iri_in : List ℕ → List ℕ
iri_in w = unwrap_or (iri_value (inside 1 w)) []

-- the same of a string with one quote at each end
abbrev pub string_in : List ℕ → List ℕ
string_in w = unwrap_or (string_value (inside 1 w)) []
