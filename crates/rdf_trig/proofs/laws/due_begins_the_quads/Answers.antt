use Rattle.rdf_trig.proofs.theorems.StatedLaws.{due_front}
use Rattle.rdf_trig.proofs.laws.due_begins_the_quads.Goals as goal

pub returns : goal.returns
returns c = due_front
