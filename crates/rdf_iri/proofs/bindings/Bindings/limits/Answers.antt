use Rattle.rdf_iri.proofs.Prelude.{ap, BindingMap}
use Rattle.rdf_iri.proofs.bindings.Bindings.limits.Goals as goal

pub returns : goal.returns
returns g c = ap (λ (b : BindingMap). b.limits) c.self.view_is
