use Rattle.rdf_lines.proofs.Prelude.{length, take, ◌-◌, ◌≤◌, PassesInto}
use Rattle.rdf_lines.proofs.escaped.pass_escaped.Given as goal

abbrev pub invariant-lines : goal.invariant-lines
invariant-lines g l = (l.at ≤ length l.text) × PassesInto l.initial.reader (take l.at l.text) l.reader l.initial.out l.out

abbrev pub decreases-lines : goal.decreases-lines
decreases-lines g l = length l.text - l.at
