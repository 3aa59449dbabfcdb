use Rattle.rdf_tokens.proofs.LawLemmas.{end_last}
use Rattle.rdf_tokens.proofs.laws.end_stands_last.Goals as goal

pub returns : goal.returns
returns c = end_last
