use Rattle.rdf_command.proofs.BadIriLemmas.{of_iri}
use Rattle.rdf_command.proofs.reports.refuse_task.Goals as goal

pub returns-in-Some-clause-goes : goal.returns-in-Some-clause-goes
returns-in-Some-clause-goes g c = of_iri _ _ _ _ (rw c.in-Some.is at c.requires.lines)
