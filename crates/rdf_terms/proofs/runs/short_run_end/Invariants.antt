use Rattle.rdf_terms.proofs.Prelude.{◌-◌, ◌≤◌, length, goes_over, PassBetween}
use Rattle.rdf_terms.proofs.runs.short_run_end.Given as goal

abbrev pub invariant-loop-at : goal.invariant-loop-at
invariant-loop-at l = record {
  from : l.from ≤ l.at;
  within : l.at ≤ length l.bytes;
  pass : PassBetween (goes_over l.run) l.bytes l.from l.at;
}

abbrev pub decreases-loop-at : goal.decreases-loop-at
decreases-loop-at l = length l.bytes - l.at
