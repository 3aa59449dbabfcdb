-- A prefix has room where fewer are bound than may be, or where it is bound.
use Rattle.rdf_iri.proofs.Prelude.{◌≡◌, ◌<◌, ◌≤◌, ℕ, Bool, List, Option, None, Some, length, is_some, refl, subst, sym, ◌∙◌, MatchBool, chars, InForce, HasRoom, IsFull, bound_to, text_of}
use denote.Ref.{Bor}
use Rattle.rdf_iri.proofs.ScopeLemmas.{some_not}
use Rattle.rdf_iri.proofs.scope.Scope.has_room.Goals as goal

-- the test of a prefix where as many are bound as may be
known_or_full : (o : Option (Bor (List ℕ))) (b : Bool) (s : InForce) (p : List ℕ) → b ≡ is_some o → text_of o ≡ bound_to s.bindings p →
    s.limits.bindings ≤ length s.bindings →
    MatchBool b (HasRoom s p) (IsFull s p)
known_or_full None b s p e h l = subst (λ (x : Bool). MatchBool x (HasRoom s p) (IsFull s p)) (sym e) (sym h, l)
known_or_full (Some w) b s p e h l = subst (λ (x : Bool). MatchBool x (HasRoom s p) (IsFull s p)) (sym e) (λ n. absurd (some_not (Some w.now) refl (h ∙ n)))

pub returns-then-are_fewer : goal.returns-then-are_fewer
returns-then-are_fewer g c =
    let p = chars c.args.prefix.now in
    let here : InForce = record { base = c.self.inside.base; bindings = c.self.inside.names; limits = c.self.inside.limits } in
    let fewer = subst (λ (x : Bool). MatchBool x (length here.bindings < c.bindings.result) (c.bindings.result ≤ length here.bindings))
    c.if-are_fewer.true c.are_fewer.ensures in
    let room : HasRoom here p = λ _. subst (λ (m : ℕ). length here.bindings < m) c.bindings.ensures fewer in
    subst (λ (x : Bool). MatchBool x (HasRoom c.args.self.now p) (IsFull c.args.self.now p)) (sym c.if-are_fewer.true)
    (subst (λ (s : InForce). HasRoom s p) c.self.view_is room)

pub returns-else-are_fewer : goal.returns-else-are_fewer
returns-else-are_fewer g c =
    let p = chars c.args.prefix.now in
    let here : InForce = record { base = c.self.inside.base; bindings = c.self.inside.names; limits = c.self.inside.limits } in
    let full = subst (λ (x : Bool). MatchBool x (length here.bindings < c.bindings.result) (c.bindings.result ≤ length here.bindings))
    c.if-are_fewer.false c.are_fewer.ensures in
    subst (λ (s : InForce). MatchBool c.is_some.result (HasRoom s p) (IsFull s p)) c.self.view_is
    (known_or_full c.get.result c.is_some.result here p c.is_some.ensures c.get.ensures (subst (λ (m : ℕ). m ≤ length here.bindings) c.bindings.ensures full))
