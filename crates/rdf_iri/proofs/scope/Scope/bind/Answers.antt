use Rattle.rdf_iri.proofs.Prelude.{◌≤◌, ◌*◌, ℕ, length, refl, sym, subst, chars, byte_len, InForce, Binds, HasRoom}
use Rattle.rdf_iri.proofs.ResolvedText.{byte_len-chars}
use Rattle.rdf_iri.proofs.ScopeLemmas.{Binds-set, KeepsLimits-bound}
use Rattle.rdf_iri.proofs.scope.Scope.bind.Goals as goal

pub invariant_of-self-2 : goal.invariant_of-self-2
invariant_of-self-2 g c =
    let p = c.args.prefix.now in
    let iri = c.in_ok-iri.iri in
    let was = sym c.self.view_is in
    KeepsLimits-bound _ _ (chars p) iri c.self.invariant
    (Binds-set _ _ (chars p) iri c.set.new.self c.in_ok-set.ensures.set refl)
    (subst (λ (s : InForce). HasRoom s (chars p)) was (rw c.if-not-has_room.false at c.has_room.ensures))
    (subst (λ (n : ℕ). n ≤ 4 * c.self.inside.limits.token) (sym (byte_len-chars p c.utf8.prefix))
    (subst (λ (s : InForce). length p ≤ 4 * s.limits.token) was c.requires.short))
    (subst (λ (s : InForce). byte_len iri ≤ s.limits.iri) was c.in_ok-iri.ensures.resolved.1)

pub returns-clause-bound : goal.returns-clause-bound
returns-clause-bound g c =
    let p = chars c.args.prefix.now in
    let iri = c.in_ok-iri.iri in
    let old : InForce = record { base = c.self.inside.base; bindings = c.self.inside.names; limits = c.self.inside.limits } in
    let new : InForce = record { base = c.self.inside.base; bindings = c.set.new.self; limits = c.self.inside.limits } in (
      iri,
      c.in_ok-iri.ensures.resolved,
      rw c.if-not-has_room.false at c.has_room.ensures,
      subst (λ (s : InForce). Binds s p iri new) c.self.view_is (Binds-set old new p iri c.set.new.self c.in_ok-set.ensures.set refl),
    )

pub returns-clause-refused : goal.returns-clause-refused
returns-clause-refused g c = tt

pub returns-clause-unchanged : goal.returns-clause-unchanged
returns-clause-unchanged g c = tt
