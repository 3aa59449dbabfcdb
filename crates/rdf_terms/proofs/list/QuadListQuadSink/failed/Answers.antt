use Rattle.rdf_terms.proofs.Prelude.{refl}
use Rattle.rdf_terms.proofs.list.QuadListQuadSink.failed.Goals as goal

pub returns : goal.returns
returns g c = refl
