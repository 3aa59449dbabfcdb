-- Runs of bytes that a text has as they are.
use Rattle.std.specs.Prelude.{◌≡◌, ℕ, ◌+◌, ◌<◌, ◌≤◌, Bool, true, false, not, ◌&&◌, ◌||◌, ◌==◌, nat_le, List, [], ◌∷◌, length, get_or, nat_lt}
use Rattle.rdf_terms.specs.Classes.{member, is_digit, is_letter, one_of}
use Rattle.rdf_terms.specs.Classes.Class.{iri_char}
use Rattle.rdf_terms.specs.declared.runs.Run.{Run}
use Rattle.rdf_terms.specs.declared.runs.Run.TheVariants.{Iri, Text, QuoteText, SingleQuoteText, LongQuoteText, LongSingleQuoteText, AsciiQuoteText, Ascii, Name, Unescaped, Comment, Spaces, White}

-- a byte of the UTF-8 of the characters of an IRIREF: what it excludes is ASCII
abbrev pub iri_byte : ℕ → Bool
iri_byte b = nat_le 128 b || member iri_char b

-- no quote, backslash or line break
abbrev pub is_text_byte : ℕ → Bool
is_text_byte b = not (one_of (34 ∷ 39 ∷ 92 ∷ 10 ∷ 13 ∷ []) b)

-- neither this quote nor a backslash: what stands between three of the quote as it is
abbrev pub is_long_byte : ℕ → ℕ → Bool
is_long_byte q b = not (b == q) && not (b == 92)

-- nor CR or LF: what stands in a string with one of the quote at each end
abbrev pub is_short_byte : ℕ → ℕ → Bool
is_short_byte q b = is_long_byte q b && not (b == 10 || b == 13)

-- a byte of ASCII
abbrev pub is_ascii_byte : ℕ → Bool
is_ascii_byte b = not (nat_le 128 b)

-- one that stands in a string between double quotes
abbrev pub is_ascii_quote_byte : ℕ → Bool
is_ascii_quote_byte b = is_short_byte 34 b && is_ascii_byte b

-- an ASCII letter, a digit, '_' or '-', each of them allowed in a name after its first character
abbrev pub is_name_byte : ℕ → Bool
is_name_byte b = is_letter b || is_digit b || b == 95 || b == 45

-- no backslash, be it a byte or a character
abbrev pub is_unescaped : ℕ → Bool
is_unescaped b = not (b == 92)

-- CR or LF
abbrev pub is_line_break : ℕ → Bool
is_line_break b = b == 10 || b == 13

-- what a comment goes on with
abbrev pub is_comment_byte : ℕ → Bool
is_comment_byte b = not (is_line_break b)

-- a space or a tab
abbrev pub is_space : ℕ → Bool
is_space b = b == 32 || b == 9

-- a space, a tab, CR or LF
abbrev pub is_white : ℕ → Bool
is_white b = b == 32 || b == 9 || is_line_break b

-- the bytes that a run goes over
abbrev pub goes_over : Run → ℕ → Bool
goes_over Iri b = iri_byte b
goes_over Text b = is_text_byte b
goes_over QuoteText b = is_short_byte 34 b
goes_over SingleQuoteText b = is_short_byte 39 b
goes_over LongQuoteText b = is_long_byte 34 b
goes_over LongSingleQuoteText b = is_long_byte 39 b
goes_over AsciiQuoteText b = is_ascii_quote_byte b
goes_over Ascii b = is_ascii_byte b
goes_over Name b = is_name_byte b
goes_over Unescaped b = is_unescaped b
goes_over Comment b = is_comment_byte b
goes_over Spaces b = is_space b
goes_over White b = is_white b

-- the bytes between two places pass
abbrev pub PassBetween : (ℕ → Bool) → List ℕ → ℕ → ℕ → Type 0
PassBetween p bs at end = (k : ℕ) → at ≤ k → k < end → p (get_or bs k 0) ≡ true

-- the longest run from a place on ends there
pub record IsRun (p : ℕ → Bool) (bs : List ℕ) (at end : ℕ) : Type 0 where
  pub from : at ≤ end
  pub within : end ≤ length bs
  pub pass : PassBetween p bs at end
  pub stops : end < length bs → p (get_or bs end 0) ≡ false

-- of n bytes from a place on, so many come before the first that does not pass
pub record IsRunIn (p : ℕ → Bool) (bs : List ℕ) (at n count : ℕ) : Type 0 where
  pub few : count ≤ n
  pub pass : PassBetween p bs at (at + count)
  pub stops : count < n → p (get_or bs (at + count) 0) ≡ false

-- six bytes or more begin with `http:` or `https:`
abbrev pub is_http : List ℕ → Bool
is_http bs =
    nat_lt 5 (length bs) && ((get_or bs 0 0 == 104) && ((get_or bs 1 0 == 116) && ((get_or bs 2 0 == 116) && ((get_or bs 3 0 == 112)
    && ((get_or bs 4 0 == 58) || ((get_or bs 4 0 == 115) && get_or bs 5 0 == 58))))))
