use Rattle.rdf_iri.proofs.LawLemmas.{results_computed}
use Rattle.rdf_iri.proofs.laws.results_are_computed.Goals as goal

pub returns : goal.returns
returns c = results_computed
