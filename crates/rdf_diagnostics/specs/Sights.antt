-- What stands at a place, where the bytes from there on are read by themselves.
use Prim.Native.Char.{code}
use Rattle.std.specs.Prelude.{◌≡◌, ◌≢◌, ℕ, ◌≤◌, Bool, false, List, [], ◌∷◌, length, take, encode_utf8_all}
use Rattle.std.specs.Str.{IsUtf8}
use Rattle.rdf_terms.specs.declared.kind.Dialect.{Dialect}
use Rattle.rdf_terms.specs.declared.kind.Kind.{Kind}
use Rattle.rdf_terms.specs.declared.kind.Kind.TheVariants.{End}
use Rattle.rdf_tokens.specs.Tokens.{Outcome, Token as Read, Reading, rest_of}
use Rattle.rdf_tokens.specs.Tokens.Outcome.{undecided, no_token, bad_escape}
use Rattle.rdf_tokens.specs.Good.{good, tokens_of}
use Rattle.rdf_diagnostics.specs.declared.sight.Sight.{Sight}
use Rattle.rdf_diagnostics.specs.declared.sight.Sight.TheVariants.{Token, Stop, BadEscape, Unknown}
use Rattle.rdf_diagnostics.specs.BadEscapes.{HasBadEscape}

-- The tokens of the bytes from a place on, by themselves. With a space before them a U+FEFF at the place is no byte order mark.
abbrev pub reading_from : Dialect → ℕ → List ℕ → Bool → Reading
reading_from d limit rest is_end = tokens_of d limit (code " " ∷ rest) is_end

-- a token of this kind comes first, of n bytes, and it is not the end
pub record BeginsWith (r : Reading) (k : Kind) (n : ℕ) : Type 0 where
  pub first : Read
  pub others : List Read
  pub tokens : r.tokens ≡ first ∷ others
  pub kind : first.kind ≡ k
  pub text : k ≢ End
  pub bytes : n ≡ length (encode_utf8_all first.text)

-- there is no token, and this is the outcome
pub record HasNone (r : Reading) (o : Outcome) : Type 0 where
  pub tokens : r.tokens ≡ []
  pub outcome : r.outcome ≡ o

-- the first n bytes, before more come, leave open whether a token begins with them
pub record LeavesOpen (d : Dialect) (limit : ℕ) (rest : List ℕ) (n : ℕ) : Type 0 where
  pub within : n ≤ length rest
  pub none : HasNone (reading_from d limit (take n rest) false) undecided

-- they do, and they are whole characters
pub record IsOpen (d : Dialect) (limit : ℕ) (rest : List ℕ) (n : ℕ) : Type 0 where
  pub front : LeavesOpen d limit rest n
  pub characters : IsUtf8 (take n rest)

-- they do, and no more of the bytes do
pub record IsLongestOpen (d : Dialect) (limit : ℕ) (rest : List ℕ) (n : ℕ) : Type 0 where
  pub opens : IsOpen d limit rest n
  pub longest : (m : ℕ) → IsOpen d limit rest m → m ≤ n

-- the first token is the end, or none is there for another reason than that none begins so or that its escape is bad
abbrev pub IsUnknown : List Read → Outcome → Type 0
IsUnknown [] o = (o ≢ no_token) × (o ≢ bad_escape)
IsUnknown (t ∷ ts) o = t.kind ≡ End

-- What stands at a place, where these bytes come from there on, and then more or no more: the first token; or none, since a token could begin with so
-- many bytes and with no more; or one that has a bad escape after so many of its bytes; or none of these.
abbrev pub IsSight : Dialect → ℕ → List ℕ → Bool → Sight → Type 0
IsSight d limit rest is_end (Token k n) = BeginsWith (reading_from d limit rest is_end) k n
IsSight d limit rest is_end (Stop n) = HasNone (reading_from d limit rest is_end) no_token × IsLongestOpen d limit rest n
IsSight d limit rest is_end (BadEscape n) = HasNone (reading_from d limit rest is_end) bad_escape × HasBadEscape d (rest_of d false (good rest)) n
IsSight d limit rest is_end Unknown = IsUnknown (reading_from d limit rest is_end).tokens (reading_from d limit rest is_end).outcome
