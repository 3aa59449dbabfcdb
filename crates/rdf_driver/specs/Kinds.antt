-- Sets of kinds of tokens, as the bits of a number: each kind has its bit.
use Rattle.std.specs.Prelude.{ℕ, Bool, ◌==◌}
use Rattle.std.specs.Int.{bit_at}
use Rattle.rdf_terms.specs.declared.kind.Kind.{Kind}
use Rattle.rdf_terms.specs.declared.kind.Kind.TheVariants.{IriRef, LabelNode, ShortString, LongString, LangTag, Carets, Dot, LineEnd, Integer, Decimal, Double, True, False, A, AtPrefix, AtBase, Prefix, Base, Graph, PnameNs, PnameLn, Semicolon, Comma, OpenBracket, CloseBracket, OpenParen, CloseParen, OpenBrace, CloseBrace, End}

-- the number of a kind, from 0 on
abbrev pub number : Kind → ℕ
number IriRef = 0
number LabelNode = 1
number ShortString = 2
number LongString = 3
number LangTag = 4
number Carets = 5
number Dot = 6
number LineEnd = 7
number Integer = 8
number Decimal = 9
number Double = 10
number True = 11
number False = 12
number A = 13
number AtPrefix = 14
number AtBase = 15
number Prefix = 16
number Base = 17
number Graph = 18
number PnameNs = 19
number PnameLn = 20
number Semicolon = 21
number Comma = 22
number OpenBracket = 23
number CloseBracket = 24
number OpenParen = 25
number CloseParen = 26
number OpenBrace = 27
number CloseBrace = 28
number End = 29

-- the kind is in the set
abbrev pub has : ℕ → Kind → Bool
has kinds k = bit_at kinds (number k) == 1
