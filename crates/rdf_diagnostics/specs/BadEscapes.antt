-- The first escape of a token that stands for no character.
use Rattle.std.specs.Prelude.{◌≡◌, ℕ, ◌+◌, ◌<◌, List, take, drop, length, get_or, encode_utf8_all}
use Rattle.rdf_terms.specs.declared.kind.Dialect.{Dialect}
use Rattle.rdf_terms.specs.declared.kind.Kind.{Kind}
use Rattle.rdf_terms.specs.declared.kind.Kind.TheVariants.{IriRef, LongString}
use Rattle.rdf_terms.specs.Pieces.{Inside, of_string, of_iri, inside, backslash, IsPiece, Means}
use Rattle.rdf_tokens.specs.Laws.{IsLongest}

-- how many quotes or brackets stand at each end of a token of the kind
abbrev pub ends_of : Kind → ℕ
ends_of LongString = 3
ends_of kind = 1

-- an IRI is one, and a string is none
abbrev pub inside_by : Kind → Inside
inside_by IriRef = of_iri
inside_by kind = of_string

-- The first characters of a text, so many, consist of pieces with a meaning, and then comes a backslash that begins none.
pub record IsBadEscape (i : Inside) (w : List ℕ) (at : ℕ) : Type 0 where
  pub within : at < length w
  pub meaning : List ℕ
  pub front : Means (IsPiece i) (take at w) meaning
  pub begins : get_or w at 0 ≡ backslash
  pub bad : (n c : ℕ) → IsPiece i (take n (drop at w)) c → ⊥

-- The longest front of a text that may be a token has such an escape between its ends, after n bytes of the text.
pub record HasBadEscape (d : Dialect) (w : List ℕ) (n : ℕ) : Type 0 where
  pub kind : Kind
  pub len : ℕ
  pub token : IsLongest d w len kind
  pub at : ℕ
  pub escape : IsBadEscape (inside_by kind) (inside (ends_of kind) (take len w)) at
  pub bytes : n ≡ length (encode_utf8_all (take (ends_of kind + at) w))
