use Rattle.rdf_tokens.proofs.LawLemmas.{given_beginning}
use Rattle.rdf_tokens.proofs.laws.given_tokens_are_a_beginning.Goals as goal

pub returns : goal.returns
returns c = given_beginning
