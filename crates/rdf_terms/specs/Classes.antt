-- Classes of characters. A character is its number.
use Prim.Native.Char.{code}
use Rattle.std.specs.Prelude.{ℕ, Bool, true, false, List, [], ◌∷◌, ◌&&◌, ◌||◌, ◌==◌, nat_le, not, codes}
use Rattle.rdf_terms.specs.declared.kind.Dialect.{Dialect}
use Rattle.rdf_terms.specs.declared.kind.Dialect.TheVariants.{Lines, Turtle}

-- the classes by which the grammars' terminals are written
pub data Class : Type 0 where
  the : ℕ → Class
  digit : Class
  hex_digit : Class
  letter : Class
  letter_or_digit : Class
  iri_char : Class
  local_escape : Class
  escape_letter : Class
  plain_double : Class
  plain_single : Class
  long_double : Class
  long_single : Class
  pn_base : Class
  pn_u : Dialect → Class
  pn_char : Dialect → Class

-- from the first to the last
abbrev pub within : ℕ → ℕ → ℕ → Bool
within lo hi c = nat_le lo c && nat_le c hi

-- one of these
abbrev pub one_of : List ℕ → ℕ → Bool
one_of [] c = false
one_of (x ∷ xs) c = c == x || one_of xs c

-- a character is a Unicode scalar value
abbrev pub scalar : ℕ → Bool
scalar c = within 0 0xD7FF c || within 0xE000 0x10FFFF c

-- [0-9]
abbrev pub is_digit : ℕ → Bool
is_digit c = within (code "0") (code "9") c

-- [a-zA-Z]
abbrev pub is_letter : ℕ → Bool
is_letter c = within (code "A") (code "Z") c || within (code "a") (code "z") c

-- PN_CHARS_BASE ::= [A-Z] | [a-z] | [#x00C0-#x00D6] | [#x00D8-#x00F6] | [#x00F8-#x02FF] | [#x0370-#x037D] | [#x037F-#x1FFF] | [#x200C-#x200D]
--     | [#x2070-#x218F] | [#x2C00-#x2FEF] | [#x3001-#xD7FF] | [#xF900-#xFDCF] | [#xFDF0-#xFFFD] | [#x10000-#xEFFFF]
abbrev pub is_base : ℕ → Bool
is_base c = is_letter c || within 0xC0 0xD6 c || within 0xD8 0xF6 c || within 0xF8 0x2FF c || within 0x370 0x37D c || within 0x37F 0x1FFF c
    || within 0x200C 0x200D c || within 0x2070 0x218F c || within 0x2C00 0x2FEF c || within 0x3001 0xD7FF c
    || within 0xF900 0xFDCF c || within 0xFDF0 0xFFFD c || within 0x10000 0xEFFFF c

-- PN_CHARS_U ::= PN_CHARS_BASE | '_', in N-Triples and N-Quads with ':' too
abbrev pub is_u : Dialect → ℕ → Bool
is_u Turtle c = is_base c || c == code "_"
is_u Lines c = is_base c || c == code "_" || c == code ":"

-- the dialect of Turtle and TriG
abbrev pub is_turtle : Dialect → Bool
is_turtle Lines = false
is_turtle Turtle = true

-- the members of a class
abbrev pub member : Class → ℕ → Bool
member (the x) c = c == x
member digit c = is_digit c
member hex_digit c = is_digit c || within (code "A") (code "F") c || within (code "a") (code "f") c
member letter c = is_letter c
member letter_or_digit c = is_letter c || is_digit c
-- IRIREF: [^#x00-#x20<>"{}|^`\]
member iri_char c = not (nat_le c 0x20 || one_of (codes "<>\"{}|^`\\") c)
-- PN_LOCAL_ESC, after its backslash
member local_escape c = one_of (codes "_~.-!$&'()*+,;=/?#@%") c
-- ECHAR, after its backslash
member escape_letter c = one_of (codes "tbnrf\"'\\") c
-- strings in double quotes: [^#x22#x5C#xA#xD]; in single quotes: [^#x27#x5C#xA#xD]; long ones: [^"\] and [^'\]
member plain_double c = not (one_of (codes "\"\\\n\r") c)
member plain_single c = not (one_of (codes "'\\\n\r") c)
member long_double c = not (one_of (codes "\"\\") c)
member long_single c = not (one_of (codes "'\\") c)
member pn_base c = is_base c
member (pn_u d) c = is_u d c
-- PN_CHARS ::= PN_CHARS_U | '-' | [0-9] | #x00B7 | [#x0300-#x036F] | [#x203F-#x2040]
member (pn_char d) c = is_u d c || c == code "-" || is_digit c || c == 0xB7 || within 0x300 0x36F c || within 0x203F 0x2040 c

-- a character of the class
unfoldable pub has : Class → ℕ → Bool
has k c = scalar c && member k c
