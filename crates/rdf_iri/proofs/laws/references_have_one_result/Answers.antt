use Rattle.rdf_iri.proofs.LawLemmas.{one_iri}
use Rattle.rdf_iri.proofs.laws.references_have_one_result.Goals as goal

pub returns : goal.returns
returns c = one_iri
