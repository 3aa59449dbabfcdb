use Rattle.rdf_iri.proofs.Prelude.{◌∙◌, List, ℕ, Option, ap, sym, subst, IfErr, chars, Unresolved, InForce, UnresolvedHere}
use Rattle.rdf_iri.proofs.scope.Scope.resolve_here.Goals as goal

pub returns-clause-refused : goal.returns-clause-refused
returns-clause-refused g c =
    let w = chars c.args.reference.now in
    let at_base = subst (λ (o : Option (List ℕ)). IfErr c.resolve.result (Unresolved o w c.iri.result))
    (c.base.ensures ∙ ap (λ (s : InForce). s.base) (sym c.self.view_is)) c.resolve.ensures.refused in
    let at_limit = subst (λ (n : ℕ). IfErr c.resolve.result (Unresolved c.self.inside.base w n)) c.iri.ensures at_base in
    subst (λ (s : InForce). IfErr c.resolve.result (UnresolvedHere s w)) c.self.view_is at_limit
