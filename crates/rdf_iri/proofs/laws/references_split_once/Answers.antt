use Rattle.rdf_iri.proofs.LawLemmas.{split_once}
use Rattle.rdf_iri.proofs.laws.references_split_once.Goals as goal

pub returns : goal.returns
returns c = split_once
