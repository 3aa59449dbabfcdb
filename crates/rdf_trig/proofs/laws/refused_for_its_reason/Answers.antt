use Rattle.rdf_trig.proofs.theorems.StatedLaws.{stops}
use Rattle.rdf_trig.proofs.laws.refused_for_its_reason.Goals as goal

pub returns : goal.returns
returns c = stops
