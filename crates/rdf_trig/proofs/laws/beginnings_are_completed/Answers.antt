use Rattle.rdf_trig.proofs.trees.CompletedBeginnings.{completed}
use Rattle.rdf_trig.proofs.laws.beginnings_are_completed.Goals as goal

pub returns : goal.returns
returns c = completed
