use Rattle.rdf_trig.proofs.machine.ExactDocuments.{accepted_document}
use Rattle.rdf_trig.proofs.laws.accepted_is_a_document.Goals as goal

pub returns : goal.returns
returns c = accepted_document
