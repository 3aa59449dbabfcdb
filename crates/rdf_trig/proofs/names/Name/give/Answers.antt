use Rattle.rdf_trig.proofs.Prelude.{◌≡◌, is_some, true, Some, sym, ◌∙◌, subst, chars, IsIri, IsIri-had}
use Rattle.rdf_trig.proofs.code.TextLemmas.{emptied, emptied_holds, named_there, held_there}
use Rattle.rdf_trig.proofs.names.Name.give.Goals as goal

pub invariant_of-self : goal.invariant_of-self
invariant_of-self g c = emptied_holds (λ w. ∥ IsIri w ∥₁) _ c.clear_text.ensures

pub returns-clause-text : goal.returns-clause-text
returns-clause-text g c =
    let there = named_there (chars c.self.inside.text) (subst (λ n. is_some n ≡ true) (sym c.self.view_is) c.requires) in
    subst (λ w. Some (chars w) ≡ c.args.self.now) (sym c.swap.ensures.y_after) (there ∙ c.self.view_is)

pub returns-clause-is_iri : goal.returns-clause-is_iri
returns-clause-is_iri g c =
    let w = chars c.self.inside.text in
    let there = named_there w (subst (λ n. is_some n ≡ true) (sym c.self.view_is) c.requires) in
    subst (λ w. IsIri (chars w)) (sym c.swap.ensures.y_after) (IsIri-had w (held_there (λ w. ∥ IsIri w ∥₁) w c.self.invariant there))

pub returns-clause-none : goal.returns-clause-none
returns-clause-none g c = emptied _ c.clear_text.ensures
