use Rattle.rdf_tokens.proofs.LawLemmas.{have_shapes}
use Rattle.rdf_tokens.proofs.laws.tokens_have_shapes.Goals as goal

pub returns : goal.returns
returns c = have_shapes
