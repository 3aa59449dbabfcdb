use Rattle.rdf_terms.proofs.Prelude.{ℕ, List, ap, sym, subst, ◌∙◌, chars, IsTag}
use Rattle.rdf_terms.proofs.views.TagView.try_copy.Goals as goal

pub invariant_of-result : goal.invariant_of-result
invariant_of-result g c =
    subst (λ (w : List ℕ). ∥ IsTag w ∥₁) (sym (ap chars (c.in_ok-text.ensures.ok ∙ c.as_str.ensures))) c.args.self.is_tag

pub returns : goal.returns
returns g c = ap chars (c.in_ok-text.ensures.ok ∙ c.as_str.ensures)
