use Rattle.rdf_terms.proofs.Prelude.{◌-◌, goes_over, PassBetween}
use Rattle.rdf_terms.proofs.runs.is_run.Given as goal

abbrev pub invariant-loop-at : goal.invariant-loop-at
invariant-loop-at l = PassBetween (goes_over l.run) l.bytes 0 l.at

abbrev pub decreases-loop-at : goal.decreases-loop-at
decreases-loop-at l = l.last - l.at
