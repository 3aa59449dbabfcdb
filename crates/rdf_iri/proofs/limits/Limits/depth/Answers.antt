use Rattle.rdf_iri.proofs.Prelude.{ap, Sizes}
use Rattle.rdf_iri.proofs.limits.Limits.depth.Goals as goal

pub returns : goal.returns
returns c = ap (λ (s : Sizes). s.depth) c.self.view_is
