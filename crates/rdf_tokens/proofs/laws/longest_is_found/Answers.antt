use Rattle.rdf_tokens.proofs.OutcomeLemmas.{longest_found}
use Rattle.rdf_tokens.proofs.laws.longest_is_found.Goals as goal

pub returns : goal.returns
returns c = longest_found
