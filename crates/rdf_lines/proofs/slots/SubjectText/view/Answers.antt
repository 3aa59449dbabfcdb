use Rattle.rdf_lines.proofs.Prelude.{sym, subst, chars, string_bytes, IsIri, IsLabel}
use Rattle.rdf_terms.proofs.TermsLemmas.{IsIri-had, IsLabel-had}
use Rattle.rdf_lines.specs.Slots.{IsSubjectText}
use Rattle.rdf_lines.proofs.slots.SubjectText.view.Goals as goal

pub new-requires : goal.new-requires
new-requires g c =
    subst (λ w. IsIri (chars w)) (sym c.as_str.ensures.value)
    (IsIri-had _ (subst (λ k. IsSubjectText k (chars (string_bytes c.self.inside.text))) c.in-Iri.is c.self.invariant))

pub new-requires-in-Label : goal.new-requires-in-Label
new-requires-in-Label g c =
    subst (λ w. IsLabel (chars w)) (sym c.as_str-in-Label.ensures.value)
    (IsLabel-had _ (subst (λ k. IsSubjectText k (chars (string_bytes c.self.inside.text))) c.in-Label.is c.self.invariant))
