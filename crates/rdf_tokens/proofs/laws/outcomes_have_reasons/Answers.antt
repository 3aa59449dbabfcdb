use Rattle.rdf_tokens.proofs.OutcomeLemmas.{reasons}
use Rattle.rdf_tokens.proofs.laws.outcomes_have_reasons.Goals as goal

pub returns : goal.returns
returns c = reasons
