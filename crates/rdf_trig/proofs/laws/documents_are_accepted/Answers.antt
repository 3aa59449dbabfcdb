use Rattle.rdf_trig.proofs.machine.ExactDocuments.{document_accepted}
use Rattle.rdf_trig.proofs.laws.documents_are_accepted.Goals as goal

pub returns : goal.returns
returns c = document_accepted
