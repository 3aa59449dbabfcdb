-- The brackets that are open before a token.
use Rattle.std.specs.Prelude.{◌≡◌, ℕ, ◌-◌, Bool, true, false, cond, List, [], ◌∷◌, ◌++◌, length, take, slice_get, Option, Some}
use Rattle.rdf_terms.specs.declared.kind.Kind.{Kind}
use Rattle.rdf_terms.specs.declared.kind.Kind.TheVariants.{OpenBracket, CloseBracket, OpenParen, CloseParen, OpenBrace, CloseBrace}
use Rattle.rdf_tokens.specs.Tokens.{Reading, Token}
use Rattle.rdf_stream.specs.declared.brackets.TokenPlace.{TokenPlace}

-- `[`, `(` or `{`
abbrev pub opens : Kind → Bool
opens OpenBracket = true
opens OpenParen = true
opens OpenBrace = true
opens kind = false

-- `]`, `)` or `}`
abbrev pub closes : Kind → Bool
closes CloseBracket = true
closes CloseParen = true
closes CloseBrace = true
closes kind = false

-- a token's kind and its place
abbrev pub placed : Token → TokenPlace
placed t = record { kind = t.kind; offset = t.at.offset; line = t.at.line }

-- the brackets that are open after a token, by those before it, the innermost last: one that opens is added, and one that closes takes the last away
abbrev pub open_with : List TokenPlace → TokenPlace → List TokenPlace
open_with kept p = cond (opens p.kind) (kept ++ p ∷ []) (cond (closes p.kind) (take (length kept - 1) kept) kept)

-- the same after some tokens
abbrev pub open_from : List TokenPlace → List Token → List TokenPlace
open_from kept [] = kept
open_from kept (t ∷ ts) = open_from (open_with kept (placed t)) ts

-- the brackets that are open after the tokens from the beginning on
abbrev pub open_after : List Token → List TokenPlace
open_after ts = open_from [] ts

-- the innermost, where one is open
abbrev pub innermost : List TokenPlace → Option TokenPlace
innermost kept = slice_get kept (length kept - 1)

-- A token stands at this byte, and this is the innermost bracket that is open after the tokens before it.
pub record IsOpenBefore (reading : Reading) (offset : ℕ) (bracket : TokenPlace) : Type 0 where
  pub ahead : List Token
  pub token : Token
  pub after : List Token
  pub tokens : reading.tokens ≡ ahead ++ token ∷ after
  pub place : token.at.offset ≡ offset
  pub last : innermost (open_after ahead) ≡ Some bracket
