use Rattle.rdf_iri.proofs.Prelude.{◌≤◌, ◌-◌, length, slice_range, Lacks}
use Rattle.rdf_iri.proofs.StepsLemmas.{LacksMarks}
use Rattle.rdf_iri.proofs.steps.move_at_name.Given as goal

-- what was passed is one segment
abbrev pub invariant-loop-from : goal.invariant-loop-from
invariant-loop-from l = record {
  after : l.from ≤ l.at;
  within : l.at ≤ length l.bytes;
  slash : Lacks 47 (slice_range l.bytes l.from l.at);
  marks : LacksMarks (slice_range l.bytes l.from l.at);
}

abbrev pub decreases-loop-from : goal.decreases-loop-from
decreases-loop-from l = length l.bytes - l.at
