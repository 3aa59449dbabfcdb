-- Strings with one quote at each end, read without the states.
use Rattle.std.specs.Prelude.{◌≡◌, ◌⊎◌, ℕ, ◌+◌, ◌≤◌, nat_le, nat_lt, ◌&&◌, Bool, true, List, ◌++◌, length, get_or, drop, encode_utf8}
use Rattle.std.specs.Char.{len_utf8}
use Rattle.rdf_tokens.specs.declared.states.machine.State.TheVariants as state
use Rattle.rdf_tokens.specs.declared.states.text.Quote.{Quote}
use Rattle.rdf_tokens.specs.declared.states.text.Text.TheVariants as text_state
use Rattle.rdf_terms.specs.Escapes.{IsUchar}
use Rattle.rdf_tokens.specs.Escapes.{IsEchar}
use Rattle.rdf_tokens.specs.Front.{Rests}
use Rattle.rdf_tokens.specs.Quick.{begins_string}

-- a character that is not of ASCII stands between two places
pub record IsHighChar (bs : List ℕ) (at end : ℕ) : Type 0 where
  pub c : ℕ
  pub high : 128 ≤ c
  pub is : drop at bs ≡ encode_utf8 c ++ drop end bs
  pub past : end ≡ at + len_utf8 c
  pub within : end ≤ length bs

-- what stands after the first quote ends there: a byte of ASCII that stands in such strings as it is, a character from U+0080 on, or an escape
abbrev pub IsFirst : Quote → List ℕ → ℕ → Type 0
IsFirst q bs end = ((begins_string q bs ≡ true) × (end ≡ 2)) ⊎ (IsHighChar bs 1 end ⊎ (IsEchar bs 1 end ⊎ IsUchar bs 1 end))

-- a byte from 128 on comes second
abbrev pub begins_high : List ℕ → Bool
begins_high bs = nat_lt 1 (length bs) && nat_le 128 (get_or bs 1 0)

-- the bytes between two places lead back to the state within a string in this quote
abbrev pub RestsInQuotes : Quote → List ℕ → ℕ → ℕ → Type 0
RestsInQuotes q bs at end = Rests (state.Text (text_state.Short q)) bs at end
