use Rattle.rdf_trig.proofs.machine.OpenSizes.{held_is_settled}
use Rattle.rdf_trig.proofs.laws.tokens_settle_what_is_owed.Goals as goal

pub returns : goal.returns
returns c = held_is_settled
