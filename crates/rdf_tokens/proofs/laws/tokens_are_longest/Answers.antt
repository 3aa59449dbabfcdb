use Rattle.rdf_tokens.proofs.OutcomeLemmas.{longest_tokens}
use Rattle.rdf_tokens.proofs.laws.tokens_are_longest.Goals as goal

pub returns : goal.returns
returns c = longest_tokens
