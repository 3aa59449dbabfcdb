use Rattle.rdf_lines.proofs.Prelude.{◌≡◌, ◌++◌, take, drop, ap, sym, ◌∙◌, take-append-drop, IsTag}
use Rattle.rdf_lines.proofs.FrontsLemmas.{front_slice, name_stands}
use Rattle.rdf_lines.proofs.canonical.tag.Goals as goal

pub returns : goal.returns
returns c =
    let text = c.args.text.now in
    let end = c.run_end-end.result in
    let part = c.range-name.result.now in
    let rest = c.range_from.result.now in
    let value : part ≡ take end text = c.range-name.ensures.value ∙ front_slice text end in
    let whole : text ≡ part ++ rest = sym (take-append-drop end text)
    ∙ (ap (λ x. x ++ drop end text) (sym value) ∙ ap (λ x. part ++ x) (sym c.range_from.ensures.value)) in
    name_stands IsTag part text rest c.range-name.utf8 (c.is_tag.ensures.0 c.if-not-is_tag.false) whole
