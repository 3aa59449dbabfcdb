use Rattle.rdf_terms.proofs.Prelude.{◌+◌, ◌-◌, ◌≤◌, length, take}
use Rattle.rdf_terms.specs.Placing.{Placed}
use Rattle.rdf_terms.proofs.place.place_long.Given as goal

abbrev pub invariant-loop-done : goal.invariant-loop-done
invariant-loop-done l = (l.done + 32 ≤ length l.text) × Placed l.fn.slot l.slot l.at (take l.done l.text) (l.at + l.done)

abbrev pub decreases-loop-done : goal.decreases-loop-done
decreases-loop-done l = length l.text - l.done
