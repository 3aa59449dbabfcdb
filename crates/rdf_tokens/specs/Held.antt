-- What always holds of a scanner's fields.
use Rattle.std.specs.Prelude.{ℕ, ◌≤◌, ◌+◌, ◌-◌, List, Option, length, drop}
use Rattle.std.specs.Str.{IsCharBoundary}
use Rattle.rdf_terms.specs.declared.kind.Dialect.{Dialect}
use Rattle.rdf_tokens.specs.declared.front.Walk.{Walk}
use Rattle.rdf_tokens.specs.declared.front.NoNames.{NoNames}
use Rattle.rdf_tokens.specs.Tokens.{Place}
use Rattle.rdf_tokens.specs.Walk.{Walked}
use Rattle.rdf_tokens.specs.NoNames.{HasNoNames}
use Rattle.rdf_tokens.specs.Moves.{BeginsChar}
use Rattle.rdf_tokens.specs.Scans.{most_bytes, most_unread}

-- the bytes of all texts that are held: of the text, what was read of it too, and of a character that has not come whole
abbrev pub all_bytes : List ℕ → List ℕ → ℕ
all_bytes text pending = length text + length pending

-- a place has no more lines than bytes before it
abbrev pub IsPlace : Place → Type 0
IsPlace p = p.line ≤ p.offset + 1

-- a text of which a front is read, the bytes after it, the place where the rest begins, and that after all bytes
pub record Held (text : List ℕ) (start : ℕ) (pending : List ℕ) (place taken : Place) : Type 0 where
  pub boundary : IsCharBoundary text start
  pub begins : BeginsChar pending
  pub within : place.offset + (length text - start) + length pending ≤ taken.offset
  pub most : taken.offset ≤ most_bytes
  pub lines : IsPlace place
  pub last : IsPlace taken

-- and how far the states have come in the rest, where it has no names, and that no more is held than the limit allows
pub record Holds (d : Dialect) (limit : ℕ) (text : List ℕ) (start : ℕ) (walk : Option Walk) (names : Option NoNames)
    (pending : List ℕ) (place taken : Place) : Type 0 where
  pub held : Held text start pending place taken
  pub walked : Walked d (drop start text) walk
  pub no_names : HasNoNames d (drop start text) names
  pub bounded : all_bytes text pending ≤ most_unread limit
