use Rattle.rdf_terms.proofs.KindsLemmas.{live-shape, shape-live}
use Rattle.rdf_terms.proofs.laws.beginnings_are_live.Goals as goal

pub returns : goal.returns
returns c = λ d w. (λ e. live-shape d w e, λ l. shape-live d w l)
