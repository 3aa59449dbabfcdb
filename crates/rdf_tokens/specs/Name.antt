-- The states of prefixed names.
use Rattle.std.specs.Prelude.{ℕ, zero, suc, Bool, true, false, cond, [], ◌∷◌, ◌||◌, ◌==◌, Option, Some, None}
use Rattle.rdf_terms.specs.Classes.{is_digit, is_letter, is_turtle, within, one_of}
use Rattle.rdf_tokens.specs.Sorts.{sort_by}
use Rattle.rdf_terms.specs.declared.kind.Kind.{Kind}
use Rattle.rdf_terms.specs.declared.kind.Kind.TheVariants.{PnameNs, PnameLn}
use Rattle.rdf_terms.specs.declared.kind.Dialect.{Dialect}
use Rattle.rdf_terms.specs.declared.kind.Dialect.TheVariants.{Turtle}
use Rattle.rdf_tokens.specs.declared.states.wide.Wide.{Wide}
use Rattle.rdf_tokens.specs.declared.states.wide.Wide.TheVariants as wide
use Rattle.rdf_tokens.specs.declared.states.name.Sort.{Sort}
use Rattle.rdf_tokens.specs.declared.states.name.Sort.TheVariants as sort
use Rattle.rdf_tokens.specs.declared.states.name.Name.{Name}
use Rattle.rdf_tokens.specs.declared.states.name.Name.TheVariants.{Start, Prefix, PrefixDots, Colon, Local, LocalDots, Escape, Hex, Dead}

-- what prefixed names can tell of an ASCII character: names (PN_CHARS), ':', '.', PERCENT and PN_LOCAL_ESC
abbrev pub ascii : ℕ → Sort
ascii c = cond (c == 58) sort.Colon (cond (c == 46) sort.Dot (cond (is_digit c) sort.Digit
    (cond (within 65 70 c || within 97 102 c) sort.HexLetter (cond (is_letter c) sort.Letter (cond (c == 95) sort.Underscore
    (cond (c == 45) sort.Hyphen (cond (c == 37) sort.Percent (cond (c == 92) sort.Backslash
    (cond (within 38 44 c || one_of (126 ∷ 33 ∷ 35 ∷ 36 ∷ 47 ∷ 59 ∷ 61 ∷ 63 ∷ 64 ∷ []) c) sort.Escapable sort.Other)))))))))

-- what they can tell of a character from U+0080 on
abbrev pub high : Wide → Sort
high wide.Letter = sort.Letter
high wide.Mark = sort.Mark
high wide.Other = sort.Other

-- how a prefixed name begins, in Turtle and TriG: with PN_CHARS_BASE, or with the ':' of the empty prefix
abbrev pub begin : Dialect → Sort → Name
begin Turtle sort.Letter = Prefix
begin Turtle sort.HexLetter = Prefix
begin Turtle sort.Colon = Colon
begin d x = Dead

-- what one more character does to a prefix that has begun; a dot may not end it
abbrev pub in_prefix : Sort → Name
in_prefix sort.Dot = PrefixDots
in_prefix sort.Digit = Prefix
in_prefix sort.HexLetter = Prefix
in_prefix sort.Letter = Prefix
in_prefix sort.Underscore = Prefix
in_prefix sort.Hyphen = Prefix
in_prefix sort.Mark = Prefix
in_prefix x = Dead

-- a character that may stand anywhere in a local part, its first place included: PN_CHARS_U, ':', a digit, or the first one of PLX
abbrev pub in_local : Sort → Name
in_local sort.Colon = Local
in_local sort.Digit = Local
in_local sort.HexLetter = Local
in_local sort.Letter = Local
in_local sort.Underscore = Local
in_local sort.Percent = Hex 1
in_local sort.Backslash = Escape
in_local x = Dead

-- the states of PNAME_NS and PNAME_LN: where a character of this sort leads; a local part does not end in a dot
abbrev pub move : Dialect → Name → Sort → Name
move d Start x = begin d x
move d Prefix sort.Colon = Colon
move d Prefix x = in_prefix x
move d PrefixDots x = in_prefix x
move d Local sort.Hyphen = Local
move d Local sort.Mark = Local
move d Local sort.Dot = LocalDots
move d LocalDots sort.Hyphen = Local
move d LocalDots sort.Mark = Local
move d LocalDots sort.Dot = LocalDots
move d Colon x = in_local x
move d Local x = in_local x
move d LocalDots x = in_local x
move d Escape sort.Underscore = Local
move d Escape sort.Hyphen = Local
move d Escape sort.Dot = Local
move d Escape sort.Percent = Local
move d Escape sort.Escapable = Local
move d (Hex zero) sort.Digit = Local
move d (Hex zero) sort.HexLetter = Local
move d (Hex (suc n)) sort.Digit = Hex n
move d (Hex (suc n)) sort.HexLetter = Hex n
move d s x = Dead

-- where a character leads in a prefixed name
abbrev pub step : Dialect → Name → ℕ → Name
step d s c = move d s (sort_by ascii high c)

-- what has come is a PNAME_NS or a PNAME_LN, or neither as yet
abbrev pub kind_at : Name → Option Kind
kind_at Colon = Some PnameNs
kind_at Local = Some PnameLn
kind_at s = None

-- some longer text is a prefixed name and begins so
abbrev pub goes_on : Dialect → Name → Bool
goes_on d Start = is_turtle d
goes_on d Dead = false
goes_on d s = true

-- the sorts of which a run leaves the state as it is, within a prefix and within a local name
abbrev pub is_name_sort : Sort → Bool
is_name_sort sort.Digit = true
is_name_sort sort.HexLetter = true
is_name_sort sort.Letter = true
is_name_sort sort.Underscore = true
is_name_sort sort.Hyphen = true
is_name_sort x = false
