use Rattle.rdf_trig.proofs.Prelude.{IsIri}
use Rattle.rdf_trig.proofs.code.TextLemmas.{emptied_holds}
use Rattle.rdf_trig.proofs.names.Name.set.Goals as goal

pub invariant_of-self-in-Err : goal.invariant_of-self-in-Err
invariant_of-self-in-Err g c = emptied_holds (λ w. ∥ IsIri w ∥₁) _ c.clear_text.ensures
