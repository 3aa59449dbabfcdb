-- A walk over the characters of a text up to the first that can't stand there, as within a string or within an IRI.
use Rattle.std.specs.Prelude.{ℕ, zero, suc, ◌+◌, ◌<◌, ◌/◌, ◌^◌, Bool, true, false, List, [], ◌∷◌, Option, Some, None}
use Rattle.std.specs.Char.{len_utf8}
use Rattle.rdf_terms.specs.Values.{Inside, of_string, of_iri, EscapeState, outside, slash, digits, Move, leads, means, fails, move}
use Rattle.rdf_diagnostics.specs.declared.bad_escape.Stand.{Stand}
use Rattle.rdf_diagnostics.specs.declared.bad_escape.Stand.TheVariants as stand
use Rattle.rdf_diagnostics.specs.declared.bad_escape.Step.{Step}
use Rattle.rdf_diagnostics.specs.declared.bad_escape.Step.TheVariants as step

-- where what is read now began: here, where no escape is open
abbrev pub begun_at : EscapeState → ℕ → ℕ → ℕ
begun_at outside begun now = now
begun_at s begun now = begun

-- a character that leads on, that completes one, or that can't stand there: then the answer is where it began
abbrev pub stop_by : Move → ℕ → (EscapeState → Option ℕ) → Option ℕ
stop_by (leads s) begun more = more s
stop_by (means c) begun more = more outside
stop_by fails begun more = Some begun

-- Where the first piece begins that can't stand there, by the bytes before the text; none where each can.
abbrev pub stop_from : Inside → EscapeState → ℕ → ℕ → List ℕ → Option ℕ
stop_from i s begun now [] = None
stop_from i s begun now (c ∷ w) =
    stop_by (move i s c) (begun_at s begun now) (λ t. stop_from i t (begun_at s begun now) (now + len_utf8 c) w)

abbrev pub inside_of : Bool → Inside
inside_of true = of_iri
inside_of false = of_string

-- the code's names
abbrev pub stand_of : Stand → EscapeState
stand_of stand.Outside = outside
stand_of stand.Slash = slash
stand_of (stand.Digits k n) = digits k n

abbrev pub stand_for : EscapeState → Stand
stand_for outside = stand.Outside
stand_for slash = stand.Slash
stand_for (digits k n) = stand.Digits k n

abbrev pub step_for : Move → Step
step_for (leads s) = step.Leads (stand_for s)
step_for (means c) = step.Means
step_for fails = step.Fails

-- the numbers of the digits so far are less, where so many are still to come
abbrev pub room : ℕ → ℕ
room zero = 2 ^ 32
room (suc k) = room k / 16

abbrev pub IsInRoom : Stand → Type 0
IsInRoom (stand.Digits k n) = n < room k
IsInRoom s = Unit

abbrev pub IsStepInRoom : Step → Type 0
IsStepInRoom (step.Leads s) = IsInRoom s
IsStepInRoom s = Unit
