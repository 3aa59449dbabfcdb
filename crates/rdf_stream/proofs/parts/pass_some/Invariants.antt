-- The text before the place was passed.
use Rattle.rdf_stream.proofs.Prelude.{length, ◌-◌}
use Rattle.rdf_stream.proofs.PartsLemmas.{HasPassed}
use Rattle.rdf_stream.proofs.parts.pass_some.Given as goal

abbrev pub invariant-turns : goal.invariant-turns
invariant-turns g l = HasPassed g.R.Parts.taken g.R.Parts.stays (l.initial.run, l.initial.out) (l.run, l.out) l.text l.at

abbrev pub decreases-turns : goal.decreases-turns
decreases-turns g l = length l.text - l.at
