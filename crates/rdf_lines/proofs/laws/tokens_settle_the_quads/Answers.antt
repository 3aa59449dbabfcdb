use Rattle.rdf_lines.proofs.SettledLemmas.{quads_settled}
use Rattle.rdf_lines.proofs.laws.tokens_settle_the_quads.Goals as goal

pub returns : goal.returns
returns c = quads_settled
