-- Where a text is known to have no prefixed names.
use Rattle.std.specs.Prelude.{◌≡◌, ℕ, ◌+◌, ◌-◌, ◌<◌, ◌≤◌, ◌⊎◌, Bool, true, false, ◌&&◌, nat_lt, nat_le, ◌||◌, ◌==◌, List, length, take, drop, get_or, Option, None, Some}
use Rattle.std.specs.Str.{chars}
use Rattle.rdf_terms.specs.declared.kind.Dialect.{Dialect}
use Rattle.rdf_terms.specs.Classes.{is_letter}
use Rattle.rdf_terms.specs.Runs.{is_name_byte}
use Rattle.rdf_tokens.specs.declared.states.machine.State.{State}
use Rattle.rdf_tokens.specs.declared.front.NoNames.{NoNames}
use Rattle.rdf_tokens.specs.Machine.{goes_on}
use Rattle.rdf_tokens.specs.Front.{longest_by, state_of, kind_by_states, open_state}

-- a byte that a prefix has, or a dot
abbrev pub is_prefix_byte : ℕ → Bool
is_prefix_byte b = is_name_byte b || b == 46

-- No front of the text is a token of a kind that has states, and this is the state after all of it, where a token may go on there.
pub record BeginsNoName (d : Dialect) (w : List ℕ) (s : Option State) : Type 0 where
  pub none : longest_by (kind_by_states d w) w (length w) ≡ None
  pub state : s ≡ open_state d (state_of d w)

-- Behind so many characters no longer token begins, or the text ends there.
abbrev pub Ends : Dialect → List ℕ → ℕ → Type 0
Ends d w n = (length w ≤ n) ⊎ (goes_on d (state_of d (take n w)) ≡ false)

-- It is so from each ASCII letter on that stands before the end, and the text after has no more bytes than the states go over characters and `out`.
abbrev pub HasNoNames : Dialect → List ℕ → Option NoNames → Type 0
HasNoNames d bs None = Unit {0}
HasNoNames d bs (Some b) = (p : ℕ) → p + b.left < length bs → is_letter (get_or bs p 0) ≡ true →
    BeginsNoName d (chars (drop p bs)) b.state
    × ((n : ℕ) → length bs ≤ n + (p + b.out) → Ends d (chars (drop p bs)) n)

-- the text begins with a letter before the end, and the states go no further than the limit
abbrev pub ends_within : ℕ → List ℕ → Option NoNames → Bool
ends_within limit bs None = false
ends_within limit bs (Some b) = nat_lt b.left (length bs) && (nat_le (length bs - limit) b.out && is_letter (get_or bs 0 0))
