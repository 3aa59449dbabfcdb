use Rattle.rdf_trig.proofs.machine.ExactDocuments.{same_due}
use Rattle.rdf_trig.proofs.laws.tokens_settle_what_is_due.Goals as goal

pub returns : goal.returns
returns c = same_due
