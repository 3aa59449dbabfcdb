use Rattle.rdf_trig.proofs.Prelude.{sym, subst, chars, IsIri, IsLabel, IsIri-had, IsLabel-had, IsOfKind}
use Rattle.rdf_trig.proofs.slots.Topic.view.Goals as goal

pub of_bytes-requires-clause-text : goal.of_bytes-requires-clause-text
of_bytes-requires-clause-text g c =
    subst (λ w. IsIri (chars w)) (sym c.as_bytes.ensures.bytes)
    (IsIri-had _ (subst (λ k. IsOfKind k (chars c.self.inside.text)) c.in-Iri.is c.self.invariant))

pub of_bytes-requires-in-Label-clause-text : goal.of_bytes-requires-in-Label-clause-text
of_bytes-requires-in-Label-clause-text g c =
    subst (λ w. IsLabel (chars w)) (sym c.as_bytes-in-Label.ensures.bytes)
    (IsLabel-had _ (subst (λ k. IsOfKind k (chars c.self.inside.text)) c.in-Label.is c.self.invariant))
