-- The states of labels.
use Rattle.std.specs.Prelude.{ℕ, Bool, true, false, cond, ◌==◌}
use Rattle.rdf_terms.specs.Classes.{is_digit, is_letter}
use Rattle.rdf_tokens.specs.Sorts.{sort_by}
use Rattle.rdf_terms.specs.declared.kind.Dialect.{Dialect}
use Rattle.rdf_terms.specs.declared.kind.Dialect.TheVariants.{Lines}
use Rattle.rdf_tokens.specs.declared.states.wide.Wide.{Wide}
use Rattle.rdf_tokens.specs.declared.states.wide.Wide.TheVariants as wide
use Rattle.rdf_tokens.specs.declared.states.label.Sort.{Sort}
use Rattle.rdf_tokens.specs.declared.states.label.Sort.TheVariants as sort
use Rattle.rdf_tokens.specs.declared.states.label.Label.{Label}
use Rattle.rdf_tokens.specs.declared.states.label.Label.TheVariants.{Start, Underscore, Colon, Name, Dots, Dead}

-- what BLANK_NODE_LABEL can tell of an ASCII character: `_:`, dots, and what may begin or continue its name
abbrev pub ascii : ℕ → Sort
ascii c = cond (c == 95) sort.Underscore (cond (c == 58) sort.Colon (cond (c == 46) sort.Dot
    (cond (is_digit c) sort.Digit (cond (is_letter c) sort.Letter (cond (c == 45) sort.Mark sort.Other)))))

-- what it can tell of a character from U+0080 on
abbrev pub high : Wide → Sort
high wide.Letter = sort.Letter
high wide.Mark = sort.Mark
high wide.Other = sort.Other

-- a character that may stand anywhere in a label, also first after `_:`; ':' in N-Triples and N-Quads alone
abbrev pub in_name : Dialect → Sort → Label
in_name d sort.Underscore = Name
in_name d sort.Digit = Name
in_name d sort.Letter = Name
in_name Lines sort.Colon = Name
in_name d x = Dead

-- the states of BLANK_NODE_LABEL: where a character of this sort leads; a label does not end in a dot
abbrev pub move : Dialect → Label → Sort → Label
move d Start sort.Underscore = Underscore
move d Underscore sort.Colon = Colon
move d Name sort.Mark = Name
move d Dots sort.Mark = Name
move d Name sort.Dot = Dots
move d Dots sort.Dot = Dots
move d Colon x = in_name d x
move d Name x = in_name d x
move d Dots x = in_name d x
move d s x = Dead

-- where a character leads in a blank node label
abbrev pub step : Dialect → Label → ℕ → Label
step d s c = move d s (sort_by ascii high c)

-- what has come is a whole blank node label
abbrev pub accepts : Label → Bool
accepts Name = true
accepts s = false

-- some longer text is a blank node label and begins so
abbrev pub goes_on : Label → Bool
goes_on Dead = false
goes_on s = true
