use Rattle.rdf_terms.proofs.PiecesLemmas.{iri_means}
use Rattle.rdf_terms.proofs.laws.iris_mean_their_pieces.Goals as goal

pub returns : goal.returns
returns c = iri_means
