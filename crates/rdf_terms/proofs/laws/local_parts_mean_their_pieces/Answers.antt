use Rattle.rdf_terms.proofs.PiecesLemmas.{local_part_means}
use Rattle.rdf_terms.proofs.laws.local_parts_mean_their_pieces.Goals as goal

pub returns : goal.returns
returns c = local_part_means
