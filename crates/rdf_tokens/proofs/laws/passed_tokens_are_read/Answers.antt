use Rattle.rdf_tokens.proofs.PassingLemmas.{passed_read}
use Rattle.rdf_tokens.proofs.laws.passed_tokens_are_read.Goals as goal

pub returns : goal.returns
returns c = passed_read
