use Rattle.rdf_lines.proofs.Prelude.{sym, subst, chars, string_bytes, IsIri, IsTag}
use Rattle.rdf_terms.proofs.TermsLemmas.{IsIri-had, IsTag-had}
use Rattle.rdf_lines.specs.Slots.{IsTailText}
use Rattle.rdf_lines.proofs.slots.TailText.view.Goals as goal

pub new-requires : goal.new-requires
new-requires g c =
    subst (λ w. IsIri (chars w)) (sym c.as_str.ensures.value)
    (IsIri-had _ (subst (λ k. IsTailText k (chars (string_bytes c.self.inside.text))) c.in-Datatype.is c.self.invariant))

pub new-requires-in-Tag : goal.new-requires-in-Tag
new-requires-in-Tag g c =
    subst (λ w. IsTag (chars w)) (sym c.as_str-in-Tag.ensures.value)
    (IsTag-had _ (subst (λ k. IsTailText k (chars (string_bytes c.self.inside.text))) c.in-Tag.is c.self.invariant))
