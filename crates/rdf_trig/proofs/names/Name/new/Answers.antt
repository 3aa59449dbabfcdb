use Rattle.rdf_trig.proofs.Prelude.{IsIri}
use Rattle.rdf_trig.proofs.code.TextLemmas.{emptied, emptied_holds}
use Rattle.rdf_trig.proofs.names.Name.new.Goals as goal

pub invariant_of-result : goal.invariant_of-result
invariant_of-result g c = emptied_holds (λ w. ∥ IsIri w ∥₁) _ c.new.ensures

pub returns : goal.returns
returns g c = emptied _ c.new.ensures
