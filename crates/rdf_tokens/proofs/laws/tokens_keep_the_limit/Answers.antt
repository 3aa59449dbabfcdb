use Rattle.rdf_tokens.proofs.LimitLemmas.{no_longer}
use Rattle.rdf_tokens.proofs.laws.tokens_keep_the_limit.Goals as goal

pub returns : goal.returns
returns c = no_longer
