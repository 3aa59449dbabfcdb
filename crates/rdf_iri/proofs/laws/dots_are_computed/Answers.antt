use Rattle.rdf_iri.proofs.LawLemmas.{dots_computed}
use Rattle.rdf_iri.proofs.laws.dots_are_computed.Goals as goal

pub returns : goal.returns
returns c = dots_computed
