-- The states of numbers against their shapes.
use Rattle.rdf_tokens.proofs.Prelude.{◌≡◌, ℕ, true, List, [], ◌∷◌, refl, inl, map, Kind, Integer, Decimal, Dialect, Lines, Turtle, Class, has, the, digit, Regex, nothing, one, ◌·◌, ◌∣◌, many, shape, dot, sign, digits, exponent}
use Rattle.rdf_terms.specs.declared.kind.Kind.TheVariants.{Double}
use Rattle.rdf_tokens.specs.declared.states.number.Sort.{Sort}
use Rattle.rdf_tokens.specs.declared.states.number.Sort.TheVariants as sort
use Rattle.rdf_tokens.specs.declared.states.number.Number.{Number}
use Rattle.rdf_tokens.specs.declared.states.number.Number.TheVariants.{Start, Sign, Dot, Digits, DigitsDot, Fraction, Exponent, ExponentSign, ExponentDigits, Dead}
use Rattle.rdf_tokens.specs.Number.{ascii, high, move, kind_at, goes_on}
use Rattle.rdf_tokens.proofs.SortLemmas.{sorts_agree}
use Rattle.rdf_tokens.proofs.FamilyLemmas.{Family, Moves, covers_all, kind_in, longer_in}

-- a character of each sort, which stands for all of it
abbrev rep : Sort → ℕ
rep sort.Plus = 43
rep sort.Minus = 45
rep sort.Dot = 46
rep sort.Digit = 48
rep sort.SmallE = 101
rep sort.BigE = 69
rep sort.Other = 32

-- the classes of characters of which INTEGER, DECIMAL and DOUBLE are made
abbrev classes : List Class
classes = the 43 ∷ the 45 ∷ the 46 ∷ digit ∷ the 101 ∷ the 69 ∷ []

-- the kinds of numbers
abbrev pub numbers : List Kind
numbers = Integer ∷ Decimal ∷ Double ∷ []

-- [0-9]*
abbrev d* : Regex
d* = many (one digit)

-- what is left to match in a state, of an integer, a decimal and a double
unfoldable pub meaning : Dialect → Number → List Regex
meaning d Start = map (shape d) numbers
meaning d Sign = digits ∷ (d* · dot · digits) ∷ (digits · dot · d* · exponent ∣ dot · digits · exponent ∣ digits · exponent) ∷ []
meaning d Dot = nothing ∷ digits ∷ (digits · exponent) ∷ []
meaning d Digits = d* ∷ (d* · dot · digits) ∷ (d* · dot · d* · exponent ∣ d* · exponent) ∷ []
meaning d DigitsDot = nothing ∷ digits ∷ (d* · exponent) ∷ []
meaning d Fraction = nothing ∷ d* ∷ (d* · exponent) ∷ []
meaning d Exponent = nothing ∷ nothing ∷ (sign · digits) ∷ []
meaning d ExponentSign = nothing ∷ nothing ∷ digits ∷ []
meaning d ExponentDigits = nothing ∷ nothing ∷ d* ∷ []
meaning d Dead = nothing ∷ nothing ∷ nothing ∷ []

-- where a character of a sort leads is what is left to match after it, so the table of moves is right
pub moves : (d : Dialect) (s : Number) (x : Sort) → Moves rep (move d) (meaning d) s x
unfolding meaning shape has
moves Lines Start sort.Dot = inl refl
moves Lines Start x = inl refl
moves Turtle Start sort.Dot = inl refl
moves Turtle Start x = inl refl
moves d Sign sort.Dot = inl refl
moves d Sign x = inl refl
moves d Dot sort.Dot = inl refl
moves d Dot x = inl refl
moves d Digits sort.Dot = inl refl
moves d Digits x = inl refl
moves d DigitsDot sort.Dot = inl refl
moves d DigitsDot x = inl refl
moves d Fraction sort.Dot = inl refl
moves d Fraction x = inl refl
moves d Exponent sort.Dot = inl refl
moves d Exponent x = inl refl
moves d ExponentSign sort.Dot = inl refl
moves d ExponentSign x = inl refl
moves d ExponentDigits sort.Dot = inl refl
moves d ExponentDigits x = inl refl
moves d Dead x = inl refl

-- the expressions have no other classes than these
pub covered : (d : Dialect) (s : Number) → covers_all classes (meaning d s) ≡ true
unfolding meaning shape
covered Lines Start = refl
covered Turtle Start = refl
covered d s = refl

-- characters of one sort are in the same classes, by a test of each ASCII character and each width
pub sorts : sorts_agree ascii high rep classes ≡ true
unfolding has
sorts = refl

-- a state has a kind exactly where nothing is left to match of the expression of that kind
pub kind_of_state : (d : Dialect) (s : Number) → kind_in numbers (meaning d s) ≡ kind_at s
unfolding meaning shape
kind_of_state Lines Start = refl
kind_of_state Turtle Start = refl
kind_of_state d s = refl

-- a state goes on exactly where something longer can match
pub live_state : (d : Dialect) (s : Number) → longer_in (meaning d s) ≡ goes_on d s
unfolding meaning shape has
live_state Lines Start = refl
live_state Turtle Start = refl
live_state d s = refl

-- at the start all of the shape is left
pub starts : (d : Dialect) → meaning d Start ≡ map (shape d) numbers
unfolding meaning
starts d = refl

-- all of this together, as the general lemmas on families take it
abbrev pub family : Dialect → Family Number Sort
family d = record {
  dialect = d;
  kinds = numbers;
  ascii = ascii;
  high = high;
  rep = rep;
  start = Start;
  move = move d;
  kind_at = kind_at;
  goes_on = goes_on d;
  meaning = meaning d;
  classes = classes;
  sorts = sorts;
  covered = covered d;
  moves = moves d;
  starts = starts d;
  kind_of_state = kind_of_state d;
  live_state = live_state d;
}
