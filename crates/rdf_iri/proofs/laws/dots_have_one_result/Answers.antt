use Rattle.rdf_iri.proofs.LawLemmas.{one_result}
use Rattle.rdf_iri.proofs.laws.dots_have_one_result.Goals as goal

pub returns : goal.returns
returns c = one_result
