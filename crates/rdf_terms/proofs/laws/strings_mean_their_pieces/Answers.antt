use Rattle.rdf_terms.proofs.PiecesLemmas.{string_means}
use Rattle.rdf_terms.proofs.laws.strings_mean_their_pieces.Goals as goal

pub returns : goal.returns
returns c = string_means
