use Rattle.rdf_trig.proofs.theorems.StatedLaws.{tree_told}
use Rattle.rdf_trig.proofs.laws.events_tell_the_tree.Goals as goal

pub returns : goal.returns
returns c = tree_told
