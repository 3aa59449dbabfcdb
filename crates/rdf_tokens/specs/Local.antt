-- Local parts of names that go on after a run of letters, digits, '_' and '-'.
use Rattle.std.specs.Prelude.{ℕ, Bool, cond, not, ◌+◌, ◌<◌, ◌≤◌, ◌&&◌, ◌||◌, ◌==◌, nat_lt, List, length, get_or, Option}
use Rattle.rdf_terms.specs.Classes.{has, within}
use Rattle.rdf_terms.specs.Classes.Class.{hex_digit, local_escape}
use Rattle.rdf_terms.specs.declared.kind.Dialect.{Dialect}
use Rattle.rdf_terms.specs.declared.kind.Kind.{Kind}
use Rattle.rdf_tokens.specs.declared.states.machine.State.{State}
use Rattle.rdf_tokens.specs.declared.states.machine.State.TheVariants.{Name}
use Rattle.rdf_tokens.specs.declared.states.name.Name.TheVariants as name
use Rattle.rdf_tokens.specs.Front.{Reached, Rests, kind_here}
use Rattle.rdf_tokens.specs.Quick.{stands_at}
use Rattle.rdf_tokens.specs.Tokens.{with_length}

-- the two bytes of a letter (PN_CHARS_BASE) from U+00C0 to U+02FF, without U+00D7 and U+00F7, or from U+0380 to U+07FF
abbrev pub begins_two : ℕ → ℕ → Bool
begins_two a b = (a == 0xC3 && (not (b == 0x97) && not (b == 0xB7))) || (within 0xC4 0xCB a || within 0xCE 0xDF a)

-- the first two bytes of one of three, from U+0800 to U+1FFF or from U+3040 to U+D7FF
abbrev pub begins_three : ℕ → ℕ → Bool
begins_three a b = (a == 0xE3 && not (b == 0x80)) || ((a == 0xED && nat_lt b 0xA0) || (within 0xE0 0xE1 a || within 0xE4 0xEC a))

-- how many bytes the letter has that stands at a place, where its first two bytes tell; 0 where they don't
abbrev pub letter_len : List ℕ → ℕ → ℕ
letter_len bs at = cond (nat_lt (at + 1) (length bs))
    (cond (begins_two (get_or bs at 0) (get_or bs (at + 1) 0)) 2
    (cond (nat_lt (at + 2) (length bs) && begins_three (get_or bs at 0) (get_or bs (at + 1) 0)) 3 0)) 0

-- a hex digit stands at a place
abbrev pub is_hex_at : List ℕ → ℕ → Bool
is_hex_at bs at = nat_lt at (length bs) && has hex_digit (get_or bs at 0)

-- PERCENT stands at a place
abbrev pub is_percent : List ℕ → ℕ → Bool
is_percent bs at = stands_at 37 bs at && (is_hex_at bs (at + 1) && is_hex_at bs (at + 2))

-- PN_LOCAL_ESC stands at a place
abbrev pub is_escape : List ℕ → ℕ → Bool
is_escape bs at = stands_at 92 bs at && (nat_lt (at + 1) (length bs) && has local_escape (get_or bs (at + 1) 0))

-- the bytes between two places lead back to the state within a local part
abbrev pub RestsInLocal : List ℕ → ℕ → ℕ → Type 0
RestsInLocal bs at end = Rests (Name name.Local) bs at end

-- The bytes between two places, of which there are some, lead from this state to the one within a local part, and no token ends between them.
pub record LeadsIn (s : State) (bs : List ℕ) (at end : ℕ) : Type 0 where
  pub from : at < end
  pub within : end ≤ length bs
  pub on : (d : Dialect) (b : Option (ℕ × Kind)) → Reached d bs at s b → Reached d bs end (Name name.Local) (with_length end (kind_here d bs (Name name.Local)) b)

-- They do from the colon on, and within a local part.
abbrev pub BeginsLocal : List ℕ → ℕ → ℕ → Type 0
BeginsLocal bs at end = LeadsIn (Name name.Colon) bs at end × LeadsIn (Name name.Local) bs at end
