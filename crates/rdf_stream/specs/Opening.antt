-- What is kept of the brackets that are open, while the tokens come.
use Rattle.std.specs.Prelude.{◌≡◌, ℕ, List, ◌∷◌, ◌++◌, Option, Some, None}
use Rattle.rdf_terms.specs.declared.kind.Dialect.{Dialect}
use Rattle.rdf_tokens.specs.Tokens.{Reading, Token}
use Rattle.rdf_tokens.specs.Unread.{Unread}
use Rattle.rdf_tokens.specs.Scans.{GivesToken, HasScanned, IsWaiting, Waits}
use Rattle.rdf_stream.specs.declared.brackets.Brackets.{Brackets}
use Rattle.rdf_stream.specs.declared.brackets.TokenPlace.{TokenPlace}
use Rattle.rdf_stream.specs.Brackets.{open_after, placed}

-- A scanner has taken these bytes, and these brackets are open after the tokens that it has given.
pub record IsNoted (v : Unread) (kept : List TokenPlace) (d : Dialect) (l : ℕ) (bytes : List ℕ) : Type 0 where
  pub dialect : v.dialect ≡ d
  pub limit : v.limit ≡ l
  pub tokens : List Token
  pub scanned : HasScanned v bytes tokens
  pub brackets : kept ≡ open_after tokens

-- it is so of what is kept
abbrev pub HasNoted : {A : Type 0} → Brackets A → Dialect → ℕ → List ℕ → Type 0
HasNoted b d limit bytes = IsNoted b.scanner b.kept.items d limit bytes

-- and all tokens were given that the bytes decide
abbrev pub HasOpen : {A : Type 0} → Brackets A → Dialect → ℕ → List ℕ → Type 0
HasOpen b d limit bytes = IsWaiting b.scanner × HasNoted b d limit bytes

-- A token stands at this byte, and these brackets are open before it.
pub record ComesTo (reading : Reading) (offset : ℕ) (kept : List TokenPlace) : Type 0 where
  pub ahead : List Token
  pub token : Token
  pub after : List Token
  pub tokens : reading.tokens ≡ ahead ++ token ∷ after
  pub place : token.at.offset ≡ offset
  pub brackets : kept ≡ open_after ahead

-- what a scanner gives next
abbrev pub Offers : Unread → Option TokenPlace → Unread → Type 0
Offers old None new = Waits old new
Offers old (Some p) new = (t : Token) × GivesToken old t new × (p ≡ placed t)
