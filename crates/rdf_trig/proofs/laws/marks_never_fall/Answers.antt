use Rattle.rdf_trig.proofs.theorems.StatedLaws.{never_fall}
use Rattle.rdf_trig.proofs.laws.marks_never_fall.Goals as goal

pub returns : goal.returns
returns c = never_fall
