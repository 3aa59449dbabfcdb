-- A base that has grown is what the reference stands for; any other is replaced.
use Rattle.rdf_iri.proofs.Prelude.{◌≡◌, ◌∙◌, ℕ, List, Option, Some, ap, sym, subst, OnOk, IfErr, chars, Sizes, Unresolved, InForce, UnresolvedHere, IsBased}
use Rattle.rdf_iri.proofs.scope.Scope.set_base.Goals as goal
use Rattle.rdf_iri.proofs.scope.Scope.set_base.Goals.{After-replace_base, in_default-via-in-Some+else-grows_by, in_default-via-in_default}
use Rattle.rdf_iri.proofs.scope.Scope.set_base.Given.{Over}

pub returns-in-Some-clause-refused : goal.returns-in-Some-clause-refused
returns-in-Some-clause-refused g c =
    let w = chars c.args.reference.now in
    let at_limit = subst (λ (n : ℕ). IfErr c.grow.result (Unresolved (Some c.in-Some.base) w n)) c.iri-limit.ensures c.grow.ensures.refused in
    let at_base = subst (λ (o : Option (List ℕ)). IfErr c.grow.result (Unresolved o w c.self.inside.limits.iri)) (sym c.in-Some.is) at_limit in
    subst (λ (s : InForce). IfErr c.grow.result (UnresolvedHere s w)) c.self.view_is at_base

-- what a scope with these fields is
abbrev seen : Option (List ℕ) → List (List ℕ × List ℕ) → Sizes → InForce
seen base names limits = record { base = base; bindings = names; limits = limits }

-- where the base did not grow, the scope is as it was
same : (g : Over) (c : After-replace_base g) →
    seen c.in_default.self-inside.base c.in_default.self-inside.names c.in_default.self-inside.limits ≡ c.args.self.now
same g c = elim c.in_default.branch [
  | in_default-via-in-Some+else-grows_by w ↦
      rw w.self-inside-is (ap (λ (b : Option (List ℕ)). seen b c.self.inside.names c.self.inside.limits) (sym w.in-Some.is) ∙ c.self.view_is)
  | in_default-via-in_default w ↦ rw w.self-inside-is c.self.view_is
]

pub returns-in_default-clause-based : goal.returns-in_default-clause-based
returns-in_default-clause-based g c =
    subst (λ (s : InForce). OnOk c.replace_base.result (IsBased s (chars c.args.reference.now) c.replace_base.new.self)) (same g c) c.replace_base.ensures.based

pub returns-in_default-clause-refused : goal.returns-in_default-clause-refused
returns-in_default-clause-refused g c = subst (λ (s : InForce). IfErr c.replace_base.result (UnresolvedHere s (chars c.args.reference.now)))
    (same g c) c.replace_base.ensures.refused
