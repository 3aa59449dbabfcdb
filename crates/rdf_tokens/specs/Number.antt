-- The states of numbers.
use Rattle.std.specs.Prelude.{ℕ, Bool, true, false, cond, ◌==◌, Option, Some, None}
use Rattle.rdf_terms.specs.Classes.{is_digit, is_turtle}
use Rattle.rdf_tokens.specs.Sorts.{sort_by}
use Rattle.rdf_terms.specs.declared.kind.Kind.{Kind}
use Rattle.rdf_terms.specs.declared.kind.Kind.TheVariants.{Integer, Decimal, Double}
use Rattle.rdf_terms.specs.declared.kind.Dialect.{Dialect}
use Rattle.rdf_terms.specs.declared.kind.Dialect.TheVariants.{Turtle}
use Rattle.rdf_tokens.specs.declared.states.wide.Wide.{Wide}
use Rattle.rdf_tokens.specs.declared.states.number.Sort.{Sort}
use Rattle.rdf_tokens.specs.declared.states.number.Sort.TheVariants as sort
use Rattle.rdf_tokens.specs.declared.states.number.Number.{Number}
use Rattle.rdf_tokens.specs.declared.states.number.Number.TheVariants.{Start, Sign, Dot, Digits, DigitsDot, Fraction, Exponent, ExponentSign, ExponentDigits, Dead}

-- what INTEGER, DECIMAL and DOUBLE can tell of an ASCII character: signs, the dot, digits, and 'e' or 'E'
abbrev pub ascii : ℕ → Sort
ascii c = cond (c == 43) sort.Plus (cond (c == 45) sort.Minus (cond (c == 46) sort.Dot (cond (is_digit c) sort.Digit
    (cond (c == 101) sort.SmallE (cond (c == 69) sort.BigE sort.Other)))))

-- no number has a character from U+0080 on
abbrev pub high : Wide → Sort
high v = sort.Other

-- a number begins with a sign, a dot or a digit, in Turtle and TriG alone
abbrev pub begin : Dialect → Sort → Number
begin Turtle sort.Plus = Sign
begin Turtle sort.Minus = Sign
begin Turtle sort.Dot = Dot
begin Turtle sort.Digit = Digits
begin d x = Dead

-- the states of INTEGER, DECIMAL and DOUBLE: `1.` waits for more digits or an exponent, since no number ends in a dot
abbrev pub move : Dialect → Number → Sort → Number
move d Start x = begin d x
move d Sign sort.Digit = Digits
move d Sign sort.Dot = Dot
move d Digits sort.Digit = Digits
move d Digits sort.Dot = DigitsDot
move d Digits sort.SmallE = Exponent
move d Digits sort.BigE = Exponent
move d Dot sort.Digit = Fraction
move d DigitsDot sort.Digit = Fraction
move d DigitsDot sort.SmallE = Exponent
move d DigitsDot sort.BigE = Exponent
move d Fraction sort.Digit = Fraction
move d Fraction sort.SmallE = Exponent
move d Fraction sort.BigE = Exponent
move d Exponent sort.Plus = ExponentSign
move d Exponent sort.Minus = ExponentSign
move d Exponent sort.Digit = ExponentDigits
move d ExponentSign sort.Digit = ExponentDigits
move d ExponentDigits sort.Digit = ExponentDigits
move d s x = Dead

-- where a character leads in a number
abbrev pub step : Dialect → Number → ℕ → Number
step d s c = move d s (sort_by ascii high c)

-- what has come is a whole INTEGER, DECIMAL or DOUBLE, or none of them as yet
abbrev pub kind_at : Number → Option Kind
kind_at Digits = Some Integer
kind_at Fraction = Some Decimal
kind_at ExponentDigits = Some Double
kind_at s = None

-- some longer text is a number and begins so
abbrev pub goes_on : Dialect → Number → Bool
goes_on d Start = is_turtle d
goes_on d Dead = false
goes_on d s = true
