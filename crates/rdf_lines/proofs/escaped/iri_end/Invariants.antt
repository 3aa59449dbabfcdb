use Rattle.rdf_lines.proofs.Prelude.{length, ◌-◌, ◌≤◌}
use Rattle.rdf_lines.proofs.escaped.iri_end.Given as goal

abbrev pub invariant-loop-at : goal.invariant-loop-at
invariant-loop-at l = l.at ≤ length l.bytes

abbrev pub decreases-loop-at : goal.decreases-loop-at
decreases-loop-at l = length l.bytes - l.at
