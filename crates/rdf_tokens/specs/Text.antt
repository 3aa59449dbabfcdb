-- The states of strings.
use Rattle.std.specs.Prelude.{ℕ, zero, suc, Bool, true, false, cond, ◌||◌, ◌&&◌, ◌==◌, Option, Some, None}
use Rattle.rdf_terms.specs.Classes.{is_digit, is_turtle, within}
use Rattle.rdf_tokens.specs.Sorts.{sort_by}
use Rattle.rdf_terms.specs.declared.kind.Kind.{Kind}
use Rattle.rdf_terms.specs.declared.kind.Kind.TheVariants.{ShortString, LongString}
use Rattle.rdf_terms.specs.declared.kind.Dialect.{Dialect}
use Rattle.rdf_terms.specs.declared.kind.Dialect.TheVariants.{Turtle}
use Rattle.rdf_tokens.specs.declared.states.wide.Wide.{Wide}
use Rattle.rdf_tokens.specs.declared.states.text.Sort.{Sort}
use Rattle.rdf_tokens.specs.declared.states.text.Sort.TheVariants as sort
use Rattle.rdf_tokens.specs.declared.states.text.Quote.{Quote}
use Rattle.rdf_tokens.specs.declared.states.text.Quote.TheVariants.{Double, Single}
use Rattle.rdf_tokens.specs.declared.states.text.Text.{Text}
use Rattle.rdf_tokens.specs.declared.states.text.Text.TheVariants.{Start, Opened, Empty, Short, ShortEscape, ShortHex, ShortWhole, Long, LongOneQuote, LongTwoQuotes, LongEscape, LongHex, LongWhole, Dead}

-- what strings can tell of an ASCII character: quotes, line breaks, the letters of ECHAR and UCHAR, hex digits
abbrev pub ascii : ℕ → Sort
ascii c = cond (c == 34) sort.Quotation (cond (c == 39) sort.Apostrophe (cond (c == 92) sort.Backslash (cond (c == 10 || c == 13) sort.LineBreak
    (cond (c == 117) sort.SmallU (cond (c == 85) sort.BigU (cond (c == 116 || c == 110 || c == 114) sort.Letter (cond (c == 98 || c == 102) sort.HexLetter
    (cond (is_digit c || within 65 70 c || within 97 102 c) sort.HexDigit sort.Plain))))))))

-- a character from U+0080 on stands in a string for itself
abbrev pub high : Wide → Sort
high v = sort.Plain

-- the character is the quote in which the string stands
abbrev pub closes : Quote → Sort → Bool
closes Double sort.Quotation = true
closes Single sort.Apostrophe = true
closes q x = false

-- what a character other than its quote does in a string with one quote at each end, where a line break may not stand
abbrev pub in_short : Quote → Sort → Text
in_short q sort.Backslash = ShortEscape q
in_short q sort.LineBreak = Dead
in_short q x = Short q

-- what a character other than its quote does in a string with three quotes at each end, where line breaks may stand
abbrev pub in_long : Quote → Sort → Text
in_long q sort.Backslash = LongEscape q
in_long q x = Long q

-- what comes after a backslash
abbrev pub escaped : (ℕ → Text) → Text → Sort → Text
escaped hex inside sort.SmallU = hex 3
escaped hex inside sort.BigU = hex 7
escaped hex inside sort.Quotation = inside
escaped hex inside sort.Apostrophe = inside
escaped hex inside sort.Backslash = inside
escaped hex inside sort.Letter = inside
escaped hex inside sort.HexLetter = inside
escaped hex inside x = Dead

-- a hex digit of a UCHAR leads on, and no other character may stand there
abbrev pub if_hex : Text → Sort → Text
if_hex s sort.HexLetter = s
if_hex s sort.HexDigit = s
if_hex s x = Dead

-- a string begins with '"', in Turtle and TriG with "'" too
abbrev pub begin : Dialect → Sort → Text
begin d sort.Quotation = Opened Double
begin Turtle sort.Apostrophe = Opened Single
begin d x = Dead

-- the states of the four forms of strings: where a character of this sort leads; a hex state with n waits for n + 1 digits
abbrev pub move : Dialect → Text → Sort → Text
move d Start x = begin d x
move d (Opened q) x = cond (closes q x) (Empty q) (in_short q x)
move d (Empty q) x = cond (closes q x && is_turtle d) (Long q) Dead
move d (Short q) x = cond (closes q x) ShortWhole (in_short q x)
move d (ShortEscape q) x = escaped (λ n. ShortHex q n) (Short q) x
move d (ShortHex q zero) x = if_hex (Short q) x
move d (ShortHex q (suc n)) x = if_hex (ShortHex q n) x
move d ShortWhole x = Dead
move d (Long q) x = cond (closes q x) (LongOneQuote q) (in_long q x)
move d (LongOneQuote q) x = cond (closes q x) (LongTwoQuotes q) (in_long q x)
move d (LongTwoQuotes q) x = cond (closes q x) LongWhole (in_long q x)
move d (LongEscape q) x = escaped (λ n. LongHex q n) (Long q) x
move d (LongHex q zero) x = if_hex (Long q) x
move d (LongHex q (suc n)) x = if_hex (LongHex q n) x
move d LongWhole x = Dead
move d Dead x = Dead

-- where a character leads in a string
abbrev pub step : Dialect → Text → ℕ → Text
step d s c = move d s (sort_by ascii high c)

-- what has come is a string in one quote or in three at each end, or none as yet; two quotes alone are the empty string
abbrev pub kind_at : Text → Option Kind
kind_at (Empty q) = Some ShortString
kind_at ShortWhole = Some ShortString
kind_at LongWhole = Some LongString
kind_at s = None

-- some longer text is a string and begins so; after two quotes only where there are strings in three
abbrev pub goes_on : Dialect → Text → Bool
goes_on d (Empty q) = is_turtle d
goes_on d ShortWhole = false
goes_on d LongWhole = false
goes_on d Dead = false
goes_on d s = true
