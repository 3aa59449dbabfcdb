use Rattle.rdf_lines.proofs.Prelude.{◌≡◌, length, take, ◌-◌, ◌≤◌, true, false, is_clear}
use Rattle.rdf_lines.proofs.escaped.clear_front.Given as goal

abbrev pub invariant-loop-at : goal.invariant-loop-at
invariant-loop-at l = (l.at ≤ length l.bytes) × (is_clear false (take l.at l.bytes) ≡ true)

abbrev pub decreases-loop-at : goal.decreases-loop-at
decreases-loop-at l = length l.bytes - l.at
