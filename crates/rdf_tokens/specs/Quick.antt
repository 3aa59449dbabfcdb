-- Tokens that the first bytes of a text settle.
use Rattle.std.specs.Prelude.{◌≡◌, ◌+◌, ◌<◌, ℕ, Bool, true, false, cond, not, ◌&&◌, ◌||◌, ◌==◌, nat_lt, List, [], ◌∷◌, length, get_or, take, Option, None, Some, ◌⊎◌}
use Rattle.std.specs.List.{starts_with}
use Rattle.std.specs.Str.{chars}
use Rattle.rdf_terms.specs.declared.kind.Dialect.{Dialect}
use Rattle.rdf_terms.specs.declared.kind.Dialect.TheVariants.{Lines, Turtle}
use Rattle.rdf_terms.specs.declared.kind.Kind.{Kind}
use Rattle.rdf_terms.specs.declared.kind.Kind.TheVariants.{Dot, LineEnd, Semicolon, Comma, OpenBracket, CloseBracket, OpenParen, CloseParen, OpenBrace, CloseBrace, True, False, LangTag}
use Rattle.rdf_terms.specs.Classes.{is_digit, is_letter, is_turtle, one_of}
use Rattle.rdf_terms.specs.declared.runs.Run.{Run}
use Rattle.rdf_terms.specs.declared.runs.Run.TheVariants.{QuoteText, SingleQuoteText, LongQuoteText, LongSingleQuoteText}
use Rattle.rdf_terms.specs.Runs.{IsRun, is_ascii_byte, is_name_byte, is_short_byte}
use Rattle.rdf_terms.specs.Shapes.{is_live}
use Rattle.rdf_terms.specs.Values.{is_fit}
use Rattle.rdf_tokens.specs.declared.front.NoNames.{NoNames}
use Rattle.rdf_tokens.specs.declared.states.machine.State.TheVariants as state
use Rattle.rdf_tokens.specs.declared.states.tag.Tag.{Tag}
use Rattle.rdf_tokens.specs.declared.states.tag.Tag.TheVariants as tag
use Rattle.rdf_tokens.specs.declared.states.text.Text.TheVariants as text
use Rattle.rdf_tokens.specs.declared.states.text.Quote.{Quote}
use Rattle.rdf_tokens.specs.declared.states.text.Quote.TheVariants.{Double, Single}
use Rattle.rdf_tokens.specs.Tokens.{longest}
use Rattle.rdf_tokens.specs.Front.{Reached, Rests, in_bytes}
use Rattle.rdf_tokens.specs.Machine.{step}
use Rattle.rdf_tokens.specs.Tag.{accepts}

-- The text begins with this token of so many bytes, and with no longer one, whatever may come after it. Its escapes are fit.
pub record IsToken (d : Dialect) (bs : List ℕ) (n : ℕ) (k : Kind) : Type 0 where
  pub best : in_bytes (chars bs) (longest d (chars bs) (length (chars bs))) ≡ Some (n, k)
  pub closed : is_live d (chars bs) ≡ false
  pub fit : is_fit k (chars (take n bs)) ≡ true

-- It is so where a kind is told.
abbrev pub IsQuick : Dialect → List ℕ → ℕ → Option Kind → Type 0
IsQuick d bs n None = Unit {0}
IsQuick d bs n (Some k) = IsToken d bs n k

-- the kind of a byte that is a token whatever comes after it
abbrev pub single : Dialect → ℕ → Option Kind
single Lines c = cond (c == 46) (Some Dot) (cond (c == 13) (Some LineEnd) (cond (c == 10) (Some LineEnd) None))
single Turtle c = cond (c == 59) (Some Semicolon) (cond (c == 44) (Some Comma) (cond (c == 91) (Some OpenBracket) (cond (c == 93) (Some CloseBracket)
    (cond (c == 40) (Some OpenParen) (cond (c == 41) (Some CloseParen) (cond (c == 123) (Some OpenBrace) (cond (c == 125) (Some CloseBrace) None)))))))

-- the text is longer than what is left after the run without names
abbrev pub stands_without_names : ℕ → Option NoNames → Bool
stands_without_names n None = false
stands_without_names n (Some b) = nat_lt b.left n

-- a letter of Turtle, at which names were not sought before
abbrev pub is_sought : Dialect → List ℕ → Option NoNames → Bool
is_sought d bs b = not (stands_without_names (length bs) b) && (is_turtle d && is_letter (get_or bs 0 0))

-- ':' stands at a place
abbrev pub is_colon : List ℕ → ℕ → Bool
is_colon bs at = nat_lt at (length bs) && get_or bs at 0 == 58

-- a colon of Turtle comes first
abbrev pub is_named : Dialect → List ℕ → Bool
is_named d bs = is_turtle d && is_colon bs 0

-- the bytes before a place are a prefix: none, or a letter and a run of letters, digits, '_' and '-'
abbrev pub IsPrefix : List ℕ → ℕ → Type 0
IsPrefix bs colon = (colon ≡ 0) ⊎ ((is_letter (get_or bs 0 0) ≡ true) × IsRun is_name_byte bs 1 colon)

-- this byte stands at a place
abbrev pub stands_at : ℕ → List ℕ → ℕ → Bool
stands_at b bs at = nat_lt at (length bs) && get_or bs at 0 == b

-- a byte of ASCII that is none of ':', '.', '%' and a backslash: no name goes on with it but with a letter, a digit, '_' or '-'
abbrev pub ends_name : ℕ → Bool
ends_name b = nat_lt b 128 && not (one_of (58 ∷ 46 ∷ 37 ∷ 92 ∷ []) b)

-- one of these that is no letter, digit, '_' or '-' either
abbrev pub is_over : ℕ → Bool
is_over b = ends_name b && not (is_name_byte b)

-- such a byte stands at a place
abbrev pub is_last : List ℕ → ℕ → Bool
is_last bs at = nat_lt at (length bs) && is_over (get_or bs at 0)

-- it does, or it stands after a dot there: a local part before the place does not go on
abbrev pub ends_local : List ℕ → ℕ → Bool
ends_local bs at = is_last bs at || (stands_at 46 bs at && is_last bs (at + 1))

-- a byte that ends a name stands at a place
abbrev pub is_name_end : List ℕ → ℕ → Bool
is_name_end bs at = nat_lt at (length bs) && ends_name (get_or bs at 0)

-- the word `a`, by the end of the run of letters, digits, '_' and '-' after its first byte, where no name goes on
abbrev pub is_a : List ℕ → ℕ → Bool
is_a bs end = (end == 1) && ((get_or bs 0 0 == 97) && is_name_end bs end)

-- another word, likewise
abbrev pub is_word : List ℕ → List ℕ → ℕ → Bool
is_word w bs end = (end == length w) && (starts_with ◌==◌ bs w && is_name_end bs end)

-- the kind of the word `true` or `false`, by its length
abbrev pub word_kind : ℕ → Kind
word_kind n = cond (n == 4) True False

-- a dot of Turtle before a byte of ASCII that is no digit, with which no number begins
abbrev pub is_dot : Dialect → List ℕ → Bool
is_dot d bs = is_turtle d && (nat_lt 1 (length bs) && ((get_or bs 0 0 == 46) && (nat_lt (get_or bs 1 0) 128 && not (is_digit (get_or bs 1 0)))))

-- a digit of Turtle comes first
abbrev pub begins_number : Dialect → List ℕ → Bool
begins_number d bs = is_turtle d && is_digit (get_or bs 0 0)

-- '+' or '-'
abbrev pub is_sign : ℕ → Bool
is_sign b = b == 43 || b == 45

-- a sign of Turtle comes first, and a digit second
abbrev pub begins_signed : Dialect → List ℕ → Bool
begins_signed d bs = is_turtle d && (nat_lt 1 (length bs) && (is_sign (get_or bs 0 0) && is_digit (get_or bs 1 0)))

-- digits begin at a place, with a sign before them or nothing
pub record BeginsNumber (bs : List ℕ) (from : ℕ) : Type 0 where
  pub inside : from < length bs
  pub digit : is_digit (get_or bs from 0) ≡ true
  pub sign : (from ≡ 0) ⊎ ((from ≡ 1) × (is_sign (get_or bs 0 0) ≡ true))

-- '.' stands at a place
abbrev pub is_point : List ℕ → ℕ → Bool
is_point bs at = nat_lt at (length bs) && get_or bs at 0 == 46

-- a byte of ASCII that is none of '.', 'E' and 'e': no integer goes on with it but with a digit
abbrev pub ends_integer : ℕ → Bool
ends_integer b = nat_lt b 128 && not (one_of (46 ∷ 69 ∷ 101 ∷ []) b)

-- the same of decimals, after which a dot may stand
abbrev pub ends_number : ℕ → Bool
ends_number b = nat_lt b 128 && not (one_of (69 ∷ 101 ∷ []) b)

-- a byte that ends an integer stands at a place
abbrev pub is_integer_end : List ℕ → ℕ → Bool
is_integer_end bs at = nat_lt at (length bs) && ends_integer (get_or bs at 0)

-- digits stand between the dot and a place, and there a byte that ends a decimal
abbrev pub is_decimal_end : List ℕ → ℕ → ℕ → Bool
is_decimal_end bs dot at = nat_lt (dot + 1) at && (nat_lt at (length bs) && ends_number (get_or bs at 0))

-- 'E' or 'e' stands at a place
abbrev pub is_exponent : List ℕ → ℕ → Bool
is_exponent bs at = nat_lt at (length bs) && one_of (69 ∷ 101 ∷ []) (get_or bs at 0)

-- the place after the sign at a place, or the place itself where there is none
abbrev pub after_sign : List ℕ → ℕ → ℕ
after_sign bs at = cond (nat_lt at (length bs) && is_sign (get_or bs at 0)) (at + 1) at

-- digits stand between two places, and after them a byte of ASCII
abbrev pub is_double_end : List ℕ → ℕ → ℕ → Bool
is_double_end bs from at = nat_lt from at && (nat_lt at (length bs) && nat_lt (get_or bs at 0) 128)

-- the digits of a number end at a place: the first run of them, or after a dot a second one, which may be empty
pub record IsMantissa (bs : List ℕ) (from at : ℕ) : Type 0 where
  pub end : ℕ
  pub run : IsRun is_digit bs (from + 1) end
  pub rest : (at ≡ end) ⊎ ((is_point bs end ≡ true) × IsRun is_digit bs (end + 1) at)

-- a letter, a digit or '_'
abbrev pub begins_label_name : ℕ → Bool
begins_label_name b = is_name_byte b && not (b == 45)

-- `_:` comes first, and what a label's name begins with
abbrev pub begins_label : List ℕ → Bool
begins_label bs = nat_lt 2 (length bs) && ((get_or bs 0 0 == 95) && ((get_or bs 1 0 == 58) && begins_label_name (get_or bs 2 0)))

-- the byte of a quote
abbrev pub quote_byte : Quote → ℕ
quote_byte Double = 34
quote_byte Single = 39

-- the dialect has strings in this quote
abbrev pub has_quote : Dialect → Quote → Bool
has_quote d Double = true
has_quote d Single = is_turtle d

-- such a quote comes first
abbrev pub opens_with : Dialect → Quote → List ℕ → Bool
opens_with d q bs = has_quote d q && stands_at (quote_byte q) bs 0

-- what a string in this quote has as it is
abbrev pub short_run : Quote → Run
short_run Double = QuoteText
short_run Single = SingleQuoteText

-- what one between three of this quote has
abbrev pub long_run : Quote → Run
long_run Double = LongQuoteText
long_run Single = LongSingleQuoteText

-- a byte of ASCII that stands in strings in this quote as it is
abbrev pub is_short_ascii : Quote → ℕ → Bool
is_short_ascii q b = is_short_byte (quote_byte q) b && is_ascii_byte b

-- such a byte comes second
abbrev pub begins_string : Quote → List ℕ → Bool
begins_string q bs = nat_lt 1 (length bs) && is_short_ascii q (get_or bs 1 0)

-- the quote comes second too, and another byte of ASCII third
abbrev pub is_empty_string : Quote → List ℕ → Bool
is_empty_string q bs =
    stands_at (quote_byte q) bs 1 && (nat_lt 2 (length bs) && (nat_lt (get_or bs 2 0) 128 && not (get_or bs 2 0 == quote_byte q)))

-- three of this quote stand at a place
abbrev pub stands_thrice : Quote → List ℕ → ℕ → Bool
stands_thrice q bs at = stands_at (quote_byte q) bs at && (stands_at (quote_byte q) bs (at + 1) && stands_at (quote_byte q) bs (at + 2))

-- the bytes between two places lead back to the state within a string between three of this quote
abbrev pub RestsInLong : Quote → List ℕ → ℕ → ℕ → Type 0
RestsInLong q bs at end = Rests (state.Text (text.Long q)) bs at end

-- '<' comes first
abbrev pub begins_iri : List ℕ → Bool
begins_iri bs = stands_at 60 bs 0

-- two bytes begin the words `prefix` or `base`
abbrev pub begins_directive : ℕ → ℕ → Bool
begins_directive a b = (a == 112 && b == 114) || (a == 98 && b == 97)

-- '@' comes first, and a letter, and with the byte after it neither `@prefix` nor `@base` begins
abbrev pub begins_tag : List ℕ → Bool
begins_tag bs = nat_lt 2 (length bs) && ((get_or bs 0 0 == 64) && (is_letter (get_or bs 1 0) && not (begins_directive (get_or bs 1 0) (get_or bs 2 0))))

-- two carets come first
abbrev pub are_carets : List ℕ → Bool
are_carets bs = stands_at 94 bs 0 && stands_at 94 bs 1

-- a letter or a digit
abbrev pub is_part_byte : ℕ → Bool
is_part_byte b = is_letter b || is_digit b

-- a byte of ASCII that is no hyphen: no tag goes on with it but with a letter or, after its first part, with a digit
abbrev pub ends_tag : ℕ → Bool
ends_tag b = nat_lt b 128 && not (b == 45)

-- such a byte stands at a place
abbrev pub is_tag_end : List ℕ → ℕ → Bool
is_tag_end bs at = nat_lt at (length bs) && ends_tag (get_or bs at 0)

-- a hyphen stands at a place, and letters and digits between it and the end
pub record IsLaterPart (bs : List ℕ) (at end : ℕ) : Type 0 where
  pub hyphen : stands_at 45 bs at ≡ true
  pub some : at + 1 < end
  pub run : IsRun is_part_byte bs (at + 1) end

-- the bytes before a place are a tag that goes on with a hyphen alone: where a byte that ends a tag stands there, it leads to no tag
pub record IsTagTo (d : Dialect) (bs : List ℕ) (at : ℕ) : Type 0 where
  pub part : Tag
  pub whole : accepts part ≡ true
  pub reached : Reached d bs at (state.Tag part) (Some (at, LangTag))
  pub over : is_tag_end bs at ≡ true → step d (state.Tag part) (get_or bs at 0) ≡ state.Tag tag.Dead
