use Rattle.rdf_terms.proofs.PiecesLemmas.{fit_means}
use Rattle.rdf_terms.proofs.laws.fit_texts_have_meaning.Goals as goal

pub returns : goal.returns
returns c = fit_means
