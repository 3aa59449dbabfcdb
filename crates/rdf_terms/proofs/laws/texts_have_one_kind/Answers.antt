use Rattle.rdf_terms.proofs.KindsLemmas.{one_kind}
use Rattle.rdf_terms.proofs.laws.texts_have_one_kind.Goals as goal

pub returns : goal.returns
returns c = λ d w j k m n. one_kind d j k w m n
