use Rattle.rdf_tokens.proofs.LawLemmas.{next_given}
use Rattle.rdf_tokens.proofs.laws.next_token_is_given.Goals as goal

pub returns : goal.returns
returns c = next_given
