use Rattle.rdf_trig.proofs.Prelude.{IsTag}
use Rattle.rdf_trig.proofs.code.TextLemmas.{emptied_holds}
use Rattle.rdf_trig.proofs.slots.TagText.set.Goals as goal

pub invariant_of-self-in-Err : goal.invariant_of-self-in-Err
invariant_of-self-in-Err g c = emptied_holds (λ w. ∥ IsTag w ∥₁) _ c.clear.ensures.bytes
