-- The states of references in angle brackets.
use Rattle.std.specs.Prelude.{ℕ, zero, suc, Bool, true, false, cond, ◌==◌, ◌||◌}
use Rattle.rdf_terms.specs.Classes.{within}
use Rattle.rdf_tokens.specs.Sorts.{sort_by}
use Rattle.rdf_tokens.specs.declared.states.wide.Wide.{Wide}
use Rattle.rdf_tokens.specs.declared.states.iri.Sort.{Sort}
use Rattle.rdf_tokens.specs.declared.states.iri.Sort.TheVariants.{OpenAngle, CloseAngle, Backslash, SmallU, BigU, HexDigit, Plain, Excluded}
use Rattle.rdf_tokens.specs.declared.states.iri.Iri.{Iri}
use Rattle.rdf_tokens.specs.declared.states.iri.Iri.TheVariants.{Start, Inside, Escape, Hex, Whole, Dead}

-- what IRIREF can tell of an ASCII character: its brackets, the characters of UCHAR, and those that it excludes
abbrev pub ascii : ℕ → Sort
ascii c = cond (c == 60) OpenAngle (cond (c == 62) CloseAngle (cond (c == 92) Backslash (cond (c == 117) SmallU (cond (c == 85) BigU
    (cond (within 48 57 c || within 65 70 c || within 97 102 c) HexDigit
    (cond (within 0 32 c || c == 34 || within 123 125 c || c == 94 || c == 96) Excluded Plain))))))

-- IRIREF excludes no character from U+0080 on
abbrev pub high : Wide → Sort
high v = Plain

-- the states of IRIREF ::= '<' ([^#x00-#x20<>"{}|^`\] | UCHAR)* '>'; Hex n waits for n + 1 hex digits
abbrev pub move : Iri → Sort → Iri
move Start OpenAngle = Inside
move Inside CloseAngle = Whole
move Inside Backslash = Escape
move Inside OpenAngle = Dead
move Inside Excluded = Dead
move Inside x = Inside
move Escape SmallU = Hex 3
move Escape BigU = Hex 7
move (Hex zero) HexDigit = Inside
move (Hex (suc n)) HexDigit = Hex n
move s x = Dead

-- where a character leads in an IRIREF
abbrev pub step : Iri → ℕ → Iri
step s c = move s (sort_by ascii high c)

-- what has come is an IRIREF with its closing bracket
abbrev pub accepts : Iri → Bool
accepts Whole = true
accepts s = false

-- some longer text is an IRIREF and begins so; nothing follows its closing bracket
abbrev pub goes_on : Iri → Bool
goes_on Whole = false
goes_on Dead = false
goes_on s = true
