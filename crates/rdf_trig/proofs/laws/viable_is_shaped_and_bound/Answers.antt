use Rattle.rdf_trig.proofs.trees.BoundNames.{viable_bound}
use Rattle.rdf_trig.proofs.laws.viable_is_shaped_and_bound.Goals as goal

pub returns : goal.returns
returns c = viable_bound
