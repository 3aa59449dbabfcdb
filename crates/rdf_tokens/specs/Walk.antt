-- How far the states have come in a token that is open.
use Rattle.std.specs.Prelude.{◌≡◌, ℕ, ◌≤◌, true, false, cond, nat_lt, List, length, Option, Some, None}
use Rattle.std.specs.Str.{chars}
use Rattle.rdf_terms.specs.declared.kind.Dialect.{Dialect}
use Rattle.rdf_terms.specs.declared.kind.Kind.{Kind}
use Rattle.rdf_tokens.specs.declared.states.machine.State.{State}
use Rattle.rdf_tokens.specs.declared.states.machine.State.TheVariants.{Text}
use Rattle.rdf_tokens.specs.declared.states.text.Text.TheVariants.{Short}
use Rattle.rdf_tokens.specs.declared.states.text.Quote.{Quote}
use Rattle.rdf_tokens.specs.declared.front.Walk.{Walk}
use Rattle.rdf_tokens.specs.Escapes.{FitsInString}
use Rattle.rdf_tokens.specs.Quick.{opens_with}
use Rattle.rdf_tokens.specs.Tokens.{with_length, three_quotes}
use Rattle.rdf_tokens.specs.Front.{IsAt, Reached}

-- A string with one quote at each end begins in this quote and goes on at a place, up to which it has no bad escape.
pub record IsFit (d : Dialect) (bs : List ℕ) (at : ℕ) (q : Quote) : Type 0 where
  pub opens : opens_with d q bs ≡ true
  pub one : three_quotes d (chars bs) ≡ false
  pub inside : FitsInString bs 1 at
  pub reached : Reached d bs at (Text (Short q)) None

-- it does where a quote is kept
abbrev pub IsFitFor : Dialect → List ℕ → ℕ → Option Quote → Type 0
IsFitFor d bs at None = Unit {0}
IsFitFor d bs at (Some q) = IsFit d bs at q

-- The states have come over three bytes or more of the text. Whether three quotes come first is then known. The characters of some of these bytes are
-- counted.
pub record IsWalk (d : Dialect) (bs : List ℕ) (w : Walk) : Type 0 where
  pub enough : 3 ≤ w.at
  pub reached : Reached d bs w.at w.state (with_length w.len w.kind None)
  pub within : w.counted ≤ w.at
  pub counted : IsAt bs w.counted w.count
  pub fit : IsFitFor d bs w.at w.fit

-- what is kept of a text, if something is
abbrev pub Walked : Dialect → List ℕ → Option Walk → Type 0
Walked d bs None = Unit {0}
Walked d bs (Some w) = IsWalk d bs w

-- the place up to which the states have come is one of the text
abbrev pub IsWithin : List ℕ → Option Walk → Type 0
IsWithin bs None = Unit {0}
IsWithin bs (Some w) = w.at ≤ length bs

-- all characters over which they have come are counted
abbrev pub AreCounted : Option Walk → Type 0
AreCounted None = Unit {0}
AreCounted (Some w) = w.counted ≡ w.at

-- of how many bytes the characters are counted
abbrev pub counted_bytes : Option Walk → ℕ
counted_bytes None = 0
counted_bytes (Some w) = w.counted

-- how many characters these are
abbrev pub counted_chars : Option Walk → ℕ
counted_chars None = 0
counted_chars (Some w) = w.count

-- what is kept after a text of so many bytes: where the states go on, how far they came in all of it
abbrev pub walk_kept : Option Walk → ℕ → ℕ → Option Kind → Option State → Option Walk
walk_kept old n len kind None = old
walk_kept old n len kind (Some s) = cond (nat_lt n 3) old
    (Some (record { state = s; at = n; counted = counted_bytes old; count = counted_chars old; len = len; kind = kind; fit = None }))
