use Rattle.rdf_iri.proofs.Prelude.{refl}
use Rattle.rdf_iri.proofs.limits.LimitsDefault.default.Goals as goal

pub returns : goal.returns
returns c = refl
