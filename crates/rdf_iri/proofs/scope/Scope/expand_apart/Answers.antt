-- What the scope looked up and joined is the IRI of the name, or why it has none.
use Rattle.rdf_iri.proofs.Prelude.{◌≡◌, ◌∙◌, ◌≤◌, ℕ, Some, None, ap, sym, subst, OnOk, IfErr, chars, byte_len, text_of, InForce, bound_to, NotJoined}
use Rattle.rdf_iri.proofs.ScopeLemmas.{expands_joined, expands_not}
use Rattle.rdf_iri.proofs.scope.Scope.expand_apart.Goals as goal
use Rattle.rdf_iri.proofs.scope.Scope.expand_apart.Goals.{After-put_joined}
use Rattle.rdf_iri.proofs.scope.Scope.expand_apart.Given.{Over}

pub returns-in_default-clause-refused : goal.returns-in_default-clause-refused
returns-in_default-clause-refused g c =
    subst (λ (s : InForce). bound_to s.bindings (chars c.args.prefix.now) ≡ None) c.self.view_is
    (sym c.get.ensures ∙ ap text_of c.in_default.is)

-- the prefix is bound to the text that was found
found : (g : Over) (c : After-put_joined g) → bound_to c.args.self.now.bindings (chars c.args.prefix.now) ≡ Some c.in-Some.front.now
found g c =
    subst (λ (s : InForce). bound_to s.bindings (chars c.args.prefix.now) ≡ Some c.in-Some.front.now) c.self.view_is
    (sym c.get.ensures ∙ ap text_of c.in-Some.is)

-- the limit of the call is the scope's
limit : (g : Over) (c : After-put_joined g) → c.iri.result ≡ c.args.self.now.limits.iri
limit g c = c.iri.ensures ∙ ap (λ (s : InForce). s.limits.iri) c.self.view_is

pub returns-clause-expanded : goal.returns-clause-expanded
returns-clause-expanded g c =
    expands_joined c.args.self.now _ _ c.in-Some.front.now (chars c.put_joined.new.text) c.put_joined.result (found g c) c.put_joined.ensures.joined
    (subst (λ (n : ℕ). OnOk c.put_joined.result (byte_len (chars c.put_joined.new.text) ≤ n)) (limit g c) c.put_joined.ensures.within)

pub returns-clause-refused : goal.returns-clause-refused
returns-clause-refused g c =
    expands_not c.args.self.now _ _ c.in-Some.front.now c.put_joined.result (found g c)
    (subst (λ (n : ℕ). IfErr c.put_joined.result (NotJoined c.in-Some.front.now (chars c.args.local.now) n)) (limit g c) c.put_joined.ensures.refused)
