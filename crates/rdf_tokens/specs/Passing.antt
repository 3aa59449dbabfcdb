-- Bytes that a scanner passes, since it is known how they are read.
use Rattle.std.specs.Prelude.{◌≡◌, ◌||◌, ◌&&◌, ◌==◌, ℕ, Bool, true, false, not, List, ◌++◌, length}
use Rattle.std.specs.Str.{chars, IsUtf8}
use Rattle.rdf_terms.specs.declared.kind.Dialect.{Dialect}
use Rattle.rdf_tokens.specs.Tokens.{Place, Tail, Token, past, tokens, with_tokens, is_empty}
use Rattle.rdf_tokens.specs.Unread.{Unread}
use Rattle.rdf_tokens.specs.Moves.{beyond}
use Rattle.rdf_tokens.specs.Scans.{HasScanned}

-- The scanner stands between two tokens: it has given all that came.
abbrev pub is_idle : Unread → Bool
is_idle v = not (v.stopped || v.ended || v.broken || v.comment) && v.begun && is_empty v.text && length v.pending == 0

-- the scanner after bytes that it did not look at
abbrev pub passed : Unread → List ℕ → Unread
passed v bytes = record v { place = beyond v.place bytes; taken = beyond v.taken bytes }

-- From the place on the text is read as these tokens, whatever comes after it.
abbrev pub Spells : Dialect → ℕ → Place → List ℕ → List Token → Type 0
Spells d limit p w ts = (tail : Tail) (more : List ℕ) → tokens d limit tail false p (w ++ more) ≡ with_tokens ts (tokens d limit tail false (past p w) more)

-- Bytes that spell some tokens, passed between two tokens, leave a scanner as reading them would.
abbrev pub PassedTokensAreRead : Type 0
PassedTokensAreRead = (v : Unread) (bytes piece : List ℕ) (ts us : List Token) → HasScanned v bytes ts → is_idle v ≡ true → IsUtf8 piece →
    Spells v.dialect v.limit v.place (chars piece) us → HasScanned (passed v piece) (bytes ++ piece) (ts ++ us)
