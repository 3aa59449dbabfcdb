-- The states of strings against their shapes.
use Rattle.rdf_tokens.proofs.Prelude.{◌≡◌, ℕ, zero, suc, true, List, [], ◌∷◌, refl, inl, map, Kind, ShortString, LongString, Dialect, Lines, Turtle, Class, has, the, hex_digit, escape_letter, plain_double, plain_single, long_double, long_single, Regex, nothing, empty, one, ◌·◌, ◌∣◌, many, shape, optional, uchar, echar, only_turtle, double_quote, single_quote, Quote, Single}
use Rattle.rdf_tokens.specs.declared.states.text.Sort.{Sort}
use Rattle.rdf_tokens.specs.declared.states.text.Sort.TheVariants as sort
use Rattle.rdf_tokens.specs.declared.states.text.Quote.TheVariants.{Double}
use Rattle.rdf_tokens.specs.declared.states.text.Text.{Text}
use Rattle.rdf_tokens.specs.declared.states.text.Text.TheVariants.{Start, Opened, Empty, Short, ShortEscape, ShortHex, ShortWhole, Long, LongOneQuote, LongTwoQuotes, LongEscape, LongHex, LongWhole, Dead}
use Rattle.rdf_tokens.specs.Text.{ascii, high, move, kind_at, goes_on}
use Rattle.rdf_tokens.proofs.SortLemmas.{sorts_agree}
use Rattle.rdf_tokens.proofs.FamilyLemmas.{Family, Moves, hexes, possible-hexes, covers_all, kind_in, longer_in}

-- a character of each sort, which stands for all of it
abbrev rep : Sort → ℕ
rep sort.Quotation = 34
rep sort.Apostrophe = 39
rep sort.Backslash = 92
rep sort.LineBreak = 10
rep sort.SmallU = 117
rep sort.BigU = 85
rep sort.Letter = 116
rep sort.HexLetter = 98
rep sort.HexDigit = 48
rep sort.Plain = 120

-- the classes of characters of which the strings are made
abbrev classes : List Class
classes = the 34 ∷ the 39 ∷ the 92 ∷ the 117 ∷ the 85 ∷ hex_digit ∷ escape_letter ∷ plain_double ∷ plain_single ∷ long_double ∷ long_single ∷ []

-- the kinds of strings
abbrev pub strings : List Kind
strings = ShortString ∷ LongString ∷ []

-- the quote, as an expression
abbrev quote : Quote → Regex
quote Double = double_quote
quote Single = single_quote

-- what may stand as it is in a string with one quote at each end
abbrev plain : Quote → Class
plain Double = plain_double
plain Single = plain_single

-- what may stand as it is in a string with three
abbrev long : Quote → Class
long Double = long_double
long Single = long_single

-- a character or an escape; what is left after a backslash
abbrev part : Class → Regex
part k = one k ∣ echar ∣ uchar

-- ECHAR or UCHAR without its backslash
abbrev escape : Regex
escape = one escape_letter ∣ (one (the 117) · empty) · hexes 3 ∣ (one (the 85) · empty) · hexes 7

-- the rest of a string with one quote at each end, without the quote
abbrev short_rest : Quote → Regex
short_rest q = many (part (plain q))

-- the rest of a string with three, without the quotes
abbrev long_rest : Quote → Regex
long_rest q = many (optional (quote q ∣ quote q · quote q) · part (long q))

-- the three quotes that end a string
abbrev end : Quote → Regex
end q = quote q · quote q · quote q

-- what is left to match in a state, of a short and of a long string
unfoldable pub meaning : Dialect → Text → List Regex
meaning d Start = map (shape d) strings
meaning d (Opened q) = (short_rest q · quote q) ∷ only_turtle d (quote q · quote q · long_rest q · end q) ∷ []
meaning d (Empty q) = empty ∷ only_turtle d (quote q · long_rest q · end q) ∷ []
meaning d (Short q) = (short_rest q · quote q) ∷ nothing ∷ []
meaning d (ShortEscape q) = ((escape · short_rest q) · quote q) ∷ nothing ∷ []
meaning d (ShortHex q n) = ((hexes n · short_rest q) · quote q) ∷ nothing ∷ []
meaning d ShortWhole = empty ∷ nothing ∷ []
meaning d (Long q) = nothing ∷ (long_rest q · end q) ∷ []
meaning d (LongOneQuote q) = nothing ∷ ((((empty ∣ quote q) · part (long q)) · long_rest q) · end q ∣ quote q · quote q) ∷ []
meaning d (LongTwoQuotes q) = nothing ∷ ((part (long q) · long_rest q) · end q ∣ quote q) ∷ []
meaning d (LongEscape q) = nothing ∷ ((escape · long_rest q) · end q) ∷ []
meaning d (LongHex q n) = nothing ∷ ((hexes n · long_rest q) · end q) ∷ []
meaning d LongWhole = nothing ∷ empty ∷ []
meaning d Dead = nothing ∷ nothing ∷ []

-- where a character of a sort leads is what is left to match after it, so the table of moves is right
pub moves : (d : Dialect) (s : Text) (x : Sort) → Moves rep (move d) (meaning d) s x
unfolding meaning shape has
moves Lines Start sort.Plain = inl refl
moves Lines Start x = inl refl
moves Lines (Opened Double) sort.Plain = inl refl
moves Lines (Opened Double) x = inl refl
moves Lines (Opened Single) sort.Plain = inl refl
moves Lines (Opened Single) x = inl refl
moves Lines (Empty Double) sort.Plain = inl refl
moves Lines (Empty Double) x = inl refl
moves Lines (Empty Single) sort.Plain = inl refl
moves Lines (Empty Single) x = inl refl
moves Turtle Start sort.Plain = inl refl
moves Turtle Start x = inl refl
moves Turtle (Opened Double) sort.Plain = inl refl
moves Turtle (Opened Double) x = inl refl
moves Turtle (Opened Single) sort.Plain = inl refl
moves Turtle (Opened Single) x = inl refl
moves Turtle (Empty Double) sort.Plain = inl refl
moves Turtle (Empty Double) x = inl refl
moves Turtle (Empty Single) sort.Plain = inl refl
moves Turtle (Empty Single) x = inl refl
moves d (Short Double) sort.Plain = inl refl
moves d (Short Double) x = inl refl
moves d (Short Single) sort.Plain = inl refl
moves d (Short Single) x = inl refl
moves d (ShortEscape Double) sort.Plain = inl refl
moves d (ShortEscape Double) x = inl refl
moves d (ShortEscape Single) sort.Plain = inl refl
moves d (ShortEscape Single) x = inl refl
moves d (Long Double) sort.Plain = inl refl
moves d (Long Double) x = inl refl
moves d (Long Single) sort.Plain = inl refl
moves d (Long Single) x = inl refl
moves d (LongOneQuote Double) sort.Plain = inl refl
moves d (LongOneQuote Double) x = inl refl
moves d (LongOneQuote Single) sort.Plain = inl refl
moves d (LongOneQuote Single) x = inl refl
moves d (LongTwoQuotes Double) sort.Plain = inl refl
moves d (LongTwoQuotes Double) x = inl refl
moves d (LongTwoQuotes Single) sort.Plain = inl refl
moves d (LongTwoQuotes Single) x = inl refl
moves d (LongEscape Double) sort.Plain = inl refl
moves d (LongEscape Double) x = inl refl
moves d (LongEscape Single) sort.Plain = inl refl
moves d (LongEscape Single) x = inl refl
moves d (ShortHex Double zero) sort.Plain = inl refl
moves d (ShortHex Double zero) x = inl refl
moves d (ShortHex Double (suc zero)) sort.Plain = inl refl
moves d (ShortHex Double (suc zero)) x = inl refl
moves d (ShortHex Double (suc (suc n))) sort.Plain = inl refl
moves d (ShortHex Double (suc (suc n))) x = inl refl
moves d (ShortHex Single zero) sort.Plain = inl refl
moves d (ShortHex Single zero) x = inl refl
moves d (ShortHex Single (suc zero)) sort.Plain = inl refl
moves d (ShortHex Single (suc zero)) x = inl refl
moves d (ShortHex Single (suc (suc n))) sort.Plain = inl refl
moves d (ShortHex Single (suc (suc n))) x = inl refl
moves d (LongHex Double zero) sort.Plain = inl refl
moves d (LongHex Double zero) x = inl refl
moves d (LongHex Double (suc zero)) sort.Plain = inl refl
moves d (LongHex Double (suc zero)) x = inl refl
moves d (LongHex Double (suc (suc n))) sort.Plain = inl refl
moves d (LongHex Double (suc (suc n))) x = inl refl
moves d (LongHex Single zero) sort.Plain = inl refl
moves d (LongHex Single zero) x = inl refl
moves d (LongHex Single (suc zero)) sort.Plain = inl refl
moves d (LongHex Single (suc zero)) x = inl refl
moves d (LongHex Single (suc (suc n))) sort.Plain = inl refl
moves d (LongHex Single (suc (suc n))) x = inl refl
moves d ShortWhole x = inl refl
moves d LongWhole x = inl refl
moves d Dead x = inl refl

-- the expressions have no other classes than these
pub covered : (d : Dialect) (s : Text) → covers_all classes (meaning d s) ≡ true
unfolding meaning shape
covered Lines Start = refl
covered Lines (Opened Double) = refl
covered Lines (Opened Single) = refl
covered Lines (Empty Double) = refl
covered Lines (Empty Single) = refl
covered Turtle Start = refl
covered Turtle (Opened Double) = refl
covered Turtle (Opened Single) = refl
covered Turtle (Empty Double) = refl
covered Turtle (Empty Single) = refl
covered d (Short Double) = refl
covered d (Short Single) = refl
covered d (ShortEscape Double) = refl
covered d (ShortEscape Single) = refl
covered d (Long Double) = refl
covered d (Long Single) = refl
covered d (LongOneQuote Double) = refl
covered d (LongOneQuote Single) = refl
covered d (LongTwoQuotes Double) = refl
covered d (LongTwoQuotes Single) = refl
covered d (LongEscape Double) = refl
covered d (LongEscape Single) = refl
covered d (ShortHex Double zero) = refl
covered d (ShortHex Double (suc n)) = covered d (ShortHex Double n)
covered d (ShortHex Single zero) = refl
covered d (ShortHex Single (suc n)) = covered d (ShortHex Single n)
covered d (LongHex Double zero) = refl
covered d (LongHex Double (suc n)) = covered d (LongHex Double n)
covered d (LongHex Single zero) = refl
covered d (LongHex Single (suc n)) = covered d (LongHex Single n)
covered d s = refl

-- characters of one sort are in the same classes, by a test of each ASCII character and each width
pub sorts : sorts_agree ascii high rep classes ≡ true
unfolding has
sorts = refl

-- a state has a kind exactly where nothing is left to match of the expression of that kind
pub kind_of_state : (d : Dialect) (s : Text) → kind_in strings (meaning d s) ≡ kind_at s
unfolding meaning shape
kind_of_state Lines Start = refl
kind_of_state Lines (Opened Double) = refl
kind_of_state Lines (Opened Single) = refl
kind_of_state Lines (Empty Double) = refl
kind_of_state Lines (Empty Single) = refl
kind_of_state Turtle Start = refl
kind_of_state Turtle (Opened Double) = refl
kind_of_state Turtle (Opened Single) = refl
kind_of_state Turtle (Empty Double) = refl
kind_of_state Turtle (Empty Single) = refl
kind_of_state d (Short Double) = refl
kind_of_state d (Short Single) = refl
kind_of_state d (ShortEscape Double) = refl
kind_of_state d (ShortEscape Single) = refl
kind_of_state d (Long Double) = refl
kind_of_state d (Long Single) = refl
kind_of_state d (LongOneQuote Double) = refl
kind_of_state d (LongOneQuote Single) = refl
kind_of_state d (LongTwoQuotes Double) = refl
kind_of_state d (LongTwoQuotes Single) = refl
kind_of_state d (LongEscape Double) = refl
kind_of_state d (LongEscape Single) = refl
kind_of_state d (ShortHex Double zero) = refl
kind_of_state d (ShortHex Double (suc n)) = refl
kind_of_state d (ShortHex Single zero) = refl
kind_of_state d (ShortHex Single (suc n)) = refl
kind_of_state d (LongHex Double zero) = refl
kind_of_state d (LongHex Double (suc n)) = refl
kind_of_state d (LongHex Single zero) = refl
kind_of_state d (LongHex Single (suc n)) = refl
kind_of_state d s = refl

-- a state goes on exactly where something longer can match
pub live_state : (d : Dialect) (s : Text) → longer_in (meaning d s) ≡ goes_on d s
unfolding meaning shape has
live_state Lines Start = refl
live_state Lines (Opened Double) = refl
live_state Lines (Opened Single) = refl
live_state Lines (Empty Double) = refl
live_state Lines (Empty Single) = refl
live_state Turtle Start = refl
live_state Turtle (Opened Double) = refl
live_state Turtle (Opened Single) = refl
live_state Turtle (Empty Double) = refl
live_state Turtle (Empty Single) = refl
live_state d (Short Double) = refl
live_state d (Short Single) = refl
live_state d (ShortEscape Double) = refl
live_state d (ShortEscape Single) = refl
live_state d (Long Double) = refl
live_state d (Long Single) = refl
live_state d (LongOneQuote Double) = refl
live_state d (LongOneQuote Single) = refl
live_state d (LongTwoQuotes Double) = refl
live_state d (LongTwoQuotes Single) = refl
live_state d (LongEscape Double) = refl
live_state d (LongEscape Single) = refl
live_state d (ShortHex Double zero) = refl
live_state d (ShortHex Double (suc n)) = rw (possible-hexes n) refl
live_state d (ShortHex Single zero) = refl
live_state d (ShortHex Single (suc n)) = rw (possible-hexes n) refl
live_state d (LongHex Double zero) = refl
live_state d (LongHex Double (suc n)) = rw (possible-hexes n) refl
live_state d (LongHex Single zero) = refl
live_state d (LongHex Single (suc n)) = rw (possible-hexes n) refl
live_state d s = refl

-- at the start all of the shape is left
pub starts : (d : Dialect) → meaning d Start ≡ map (shape d) strings
unfolding meaning
starts d = refl

-- all of this together, as the general lemmas on families take it
abbrev pub family : Dialect → Family Text Sort
family d = record {
  dialect = d;
  kinds = strings;
  ascii = ascii;
  high = high;
  rep = rep;
  start = Start;
  move = move d;
  kind_at = kind_at;
  goes_on = goes_on d;
  meaning = meaning d;
  classes = classes;
  sorts = sorts;
  covered = covered d;
  moves = moves d;
  starts = starts d;
  kind_of_state = kind_of_state d;
  live_state = live_state d;
}
