use Rattle.rdf_trig.proofs.trees.BoundNames.{settled}
use Rattle.rdf_trig.proofs.laws.tokens_settle_their_senses.Goals as goal

pub returns : goal.returns
returns c = settled
