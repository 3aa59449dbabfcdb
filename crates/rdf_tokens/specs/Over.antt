-- A token longer than the limit, by the states and by the spellings.
use Rattle.std.specs.Prelude.{◌≡◌, ℕ, ◌+◌, Bool, false, ◌&&◌, ◌||◌, nat_lt, List, [], ◌∷◌, length, take, is_some}
use Rattle.std.specs.Str.{chars}
use Rattle.rdf_terms.specs.declared.kind.Dialect.{Dialect}
use Rattle.rdf_tokens.specs.declared.over.Begun.{Begun}
use Rattle.rdf_tokens.specs.declared.states.machine.State.TheVariants.{Start}
use Rattle.rdf_tokens.specs.Machines.{run}
use Rattle.rdf_tokens.specs.Machine.{step, kind_at, goes_on}
use Rattle.rdf_tokens.specs.Fixed.{Row}
use Rattle.rdf_tokens.specs.Front.{IsAt, begins, state_of}

-- more than limit characters stand there, and the states allow the first limit + 1
abbrev pub shaped_over : Dialect → ℕ → List ℕ → Bool
shaped_over d limit w =
    nat_lt limit (length w) && (is_some (kind_at (run (step d) Start (take (limit + 1) w))) || goes_on d (run (step d) Start (take (limit + 1) w)))

-- the states have come to this one over so many bytes and characters
pub record HasCome (d : Dialect) (bs : List ℕ) (b : Begun) : Type 0 where
  pub here : IsAt bs b.at b.count
  pub state : b.state ≡ state_of d (take b.count (chars bs))

-- a spelling of more than limit characters has the text's first limit + 1 characters at its front
abbrev pub row_over : Row → ℕ → List ℕ → Bool
row_over r limit w = nat_lt limit (length r.text) && begins r.any_case (take (limit + 1) r.text) w

-- a spelling of the table is longer than the limit, and the text has its first limit + 1 characters at its front
abbrev pub fixed_over : List Row → ℕ → List ℕ → Bool
fixed_over [] limit w = false
fixed_over (r ∷ rs) limit w = row_over r limit w || fixed_over rs limit w
