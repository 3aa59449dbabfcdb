use Rattle.rdf_iri.proofs.LawLemmas.{parts_computed}
use Rattle.rdf_iri.proofs.laws.parts_are_computed.Goals as goal

pub returns : goal.returns
returns c = parts_computed
