use Rattle.rdf_terms.proofs.KindsLemmas.{kind-shape, shape-kind}
use Rattle.rdf_terms.proofs.laws.kinds_are_shapes.Goals as goal

pub returns : goal.returns
returns c = λ d w k. (λ e. kind-shape d w k e, λ m. shape-kind d w k m)
