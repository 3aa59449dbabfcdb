use Rattle.rdf_terms.proofs.Prelude.{ℕ, List, ap, sym, subst, ◌∙◌, chars, IsLabel}
use Rattle.rdf_terms.proofs.views.LabelView.try_copy.Goals as goal

pub invariant_of-result : goal.invariant_of-result
invariant_of-result g c =
    subst (λ (w : List ℕ). ∥ IsLabel w ∥₁) (sym (ap chars (c.in_ok-text.ensures.ok ∙ c.as_str.ensures))) c.args.self.is_label
