use Rattle.rdf_tokens.proofs.LawLemmas.{lengthens}
use Rattle.rdf_tokens.proofs.laws.more_bytes_only_lengthen.Goals as goal

pub returns : goal.returns
returns c = lengthens
