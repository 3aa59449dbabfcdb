use Rattle.rdf_trig.proofs.Prelude.{IsIri}
use Rattle.rdf_trig.proofs.code.TextLemmas.{emptied, emptied_holds}
use Rattle.rdf_trig.proofs.names.Name.clear.Goals as goal

pub invariant_of-self : goal.invariant_of-self
invariant_of-self g c = emptied_holds (λ w. ∥ IsIri w ∥₁) _ c.clear_text.ensures

pub returns : goal.returns
returns g c = emptied _ c.clear_text.ensures
