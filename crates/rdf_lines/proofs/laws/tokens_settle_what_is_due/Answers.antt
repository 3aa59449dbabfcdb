use Rattle.rdf_lines.proofs.SettledLemmas.{due_settled}
use Rattle.rdf_lines.proofs.laws.tokens_settle_what_is_due.Goals as goal

pub returns : goal.returns
returns c = due_settled
