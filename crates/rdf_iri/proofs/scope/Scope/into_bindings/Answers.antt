use Rattle.rdf_iri.proofs.Prelude.{◌≡◌, Some, List, ℕ, sym, subst, IsIri, InForce, bound_to}
use Rattle.rdf_iri.proofs.BindingSteps.{taken_keeps}
use Rattle.rdf_iri.proofs.scope.Scope.into_bindings.Goals as goal

pub invariant_of-result : goal.invariant_of-result
invariant_of-result g c =
    taken_keeps _ c.self.invariant
    (subst (λ (s : InForce). (prefix iri : List ℕ) → bound_to s.bindings prefix ≡ Some iri → IsIri iri) (sym c.self.view_is) c.requires)
