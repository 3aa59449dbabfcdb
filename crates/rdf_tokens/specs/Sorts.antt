-- What the classes can tell of a character.
use Rattle.std.specs.Prelude.{ℕ, Bool, cond, ◌||◌, ◌==◌, nat_lt}
use Rattle.rdf_tokens.specs.declared.states.wide.Wide.{Wide}
use Rattle.rdf_tokens.specs.declared.states.wide.Wide.TheVariants.{Letter, Mark, Other}
use Rattle.rdf_terms.specs.Classes.{is_base, within}

-- what PN_CHARS has from U+0080 on besides PN_CHARS_BASE: U+00B7, combining marks, and the ties U+203F and U+2040
abbrev pub is_mark : ℕ → Bool
is_mark c = c == 0xB7 || within 0x300 0x36F c || within 0x203F 0x2040 c

-- a character from U+0080 on, as names see it: it may begin a part of a name, only continue one, or do neither
unfoldable pub wide_of : ℕ → Wide
wide_of c = cond (is_base c) Letter (cond (is_mark c) Mark Other)

-- the sort of a character, from a family's table of ASCII and its sorts of the others
abbrev pub sort_by : {X : Type 0} → (ℕ → X) → (Wide → X) → ℕ → X
sort_by ascii high c = cond (nat_lt c 128) (ascii c) (high (wide_of c))
