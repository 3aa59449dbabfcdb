use Rattle.rdf_trig.proofs.theorems.StatedLaws.{begins}
use Rattle.rdf_trig.proofs.laws.accepted_begins_a_document.Goals as goal

pub returns : goal.returns
returns c = begins
