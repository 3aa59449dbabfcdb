use Rattle.rdf_stream.proofs.Prelude.{rules}
use Rattle.rdf_stream.proofs.job.Job.new.Goals as goal

pub invariant_of-result : goal.invariant_of-result
invariant_of-result g c = search rules

pub returns-clause-none : goal.returns-clause-none
returns-clause-none g c = search rules
