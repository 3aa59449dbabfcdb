use Rattle.rdf_trig.proofs.machine.ExactDocuments.{same_quads}
use Rattle.rdf_trig.proofs.laws.tokens_settle_the_quads.Goals as goal

pub returns : goal.returns
returns c = same_quads
