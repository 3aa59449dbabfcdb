use Rattle.rdf_trig.proofs.Prelude.{IsTag}
use Rattle.rdf_trig.proofs.code.TextLemmas.{emptied, emptied_holds}
use Rattle.rdf_trig.proofs.slots.TagText.clear.Goals as goal

pub invariant_of-self : goal.invariant_of-self
invariant_of-self g c = emptied_holds (λ w. ∥ IsTag w ∥₁) _ c.clear.ensures.bytes

pub returns : goal.returns
returns g c = emptied _ c.clear.ensures.bytes
