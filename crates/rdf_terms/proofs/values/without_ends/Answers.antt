use Rattle.rdf_terms.proofs.Prelude.{drop, sym, ap, subst, ◌∙◌, chars, IsUtf8}
use Rattle.rdf_terms.proofs.InsideLemmas.{front_off, back_off, ends_off}
use Rattle.rdf_terms.proofs.values.without_ends.Goals as goal

pub returns : goal.returns
returns c =
    let utf8 = subst IsUtf8 (sym c.chars-chars.ensures.rest) c.utf8.text in
    let front = front_off _ _ c.next.result utf8 c.next.ensures.steps.0 in
    let back = back_off _ _ c.next_back.result front.0 (subst IsUtf8 c.as_str.ensures c.as_str.utf8) c.next_back.ensures.steps in
    ap chars c.as_str.ensures
    ∙ ends_off c.args.text.now _ _ (front.1 ∙ ap (λ w. drop 1 (chars w)) c.chars-chars.ensures.rest) back
