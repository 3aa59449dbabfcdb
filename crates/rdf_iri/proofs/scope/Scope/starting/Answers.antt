use Rattle.rdf_iri.proofs.Prelude.{ap, sym, ◌∙◌, InForce, BindingMap}
use Rattle.rdf_iri.proofs.BindingSteps.{starting_keeps}
use Rattle.rdf_iri.proofs.scope.Scope.starting.Goals as goal

pub invariant_of-scope : goal.invariant_of-scope
invariant_of-scope g c =
    let limits = ap (λ (s : InForce). s.limits) (c.scope.view_is ∙ c.new-scope.ensures) in
    starting_keeps _ _ _ c.scope.invariant.base c.bindings.invariant (ap (λ (b : BindingMap). b.limits) c.bindings.view_is ∙ (c.requires.limits ∙ sym limits))

pub returns : goal.returns
returns g c =
    ap (λ (s : InForce). record { base = s.base; bindings = c.bindings.inside.names; limits = s.limits }) (c.scope.view_is ∙ c.new-scope.ensures)
    ∙ ap (λ (b : BindingMap). record { base = c.args.base; bindings = b.bindings; limits = c.args.limits }) c.bindings.view_is
