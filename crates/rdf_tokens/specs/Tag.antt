-- The states of language tags.
use Rattle.std.specs.Prelude.{ℕ, Bool, true, false, cond, ◌==◌}
use Rattle.rdf_terms.specs.Classes.{is_digit, is_letter}
use Rattle.rdf_tokens.specs.Sorts.{sort_by}
use Rattle.rdf_tokens.specs.declared.states.wide.Wide.{Wide}
use Rattle.rdf_tokens.specs.declared.states.tag.Sort.{Sort}
use Rattle.rdf_tokens.specs.declared.states.tag.Sort.TheVariants as sort
use Rattle.rdf_tokens.specs.declared.states.tag.Tag.{Tag}
use Rattle.rdf_tokens.specs.declared.states.tag.Tag.TheVariants.{Start, At, Letters, Hyphen, Part, Dead}

-- what LANGTAG can tell of an ASCII character: '@', letters, digits and the hyphen
abbrev pub ascii : ℕ → Sort
ascii c = cond (c == 64) sort.At (cond (c == 45) sort.Hyphen (cond (is_digit c) sort.Digit (cond (is_letter c) sort.Letter sort.Other)))

-- no language tag has a character from U+0080 on
abbrev pub high : Wide → Sort
high v = sort.Other

-- the states of LANGTAG ::= '@' [a-zA-Z]+ ('-' [a-zA-Z0-9]+)*: digits stand in later parts alone
abbrev pub move : Tag → Sort → Tag
move Start sort.At = At
move At sort.Letter = Letters
move Letters sort.Letter = Letters
move Letters sort.Hyphen = Hyphen
move Part sort.Hyphen = Hyphen
move Hyphen sort.Letter = Part
move Hyphen sort.Digit = Part
move Part sort.Letter = Part
move Part sort.Digit = Part
move s x = Dead

-- where a character leads in a language tag
abbrev pub step : Tag → ℕ → Tag
step s c = move s (sort_by ascii high c)

-- what has come is a whole language tag: each of its parts has a character
abbrev pub accepts : Tag → Bool
accepts Letters = true
accepts Part = true
accepts s = false

-- some longer text is a language tag and begins so
abbrev pub goes_on : Tag → Bool
goes_on Dead = false
goes_on s = true
