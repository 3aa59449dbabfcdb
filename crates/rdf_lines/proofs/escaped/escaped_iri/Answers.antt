use Rattle.rdf_lines.proofs.Prelude.{◌≡◌, ◌++◌, ◌∷◌, take, ap, sym, ◌∙◌, arith}
use Rattle.rdf_lines.proofs.EscapedParts.{escaped_spelled}
use Rattle.rdf_lines.proofs.FrontsLemmas.{front_slice}
use Rattle.rdf_lines.proofs.escaped.escaped_iri.Goals as goal

pub returns : goal.returns
returns g c =
    let text = c.args.text.now in
    let end = c.iri_end-end.result in
    let part = c.range.result.now in
    let rest = c.in_ok-rest.rest.now in
    let value : part ≡ take end text = c.range.ensures.value ∙ front_slice text end in
    escaped_spelled c.args.limit part c.as_str-iri.result.now _ text rest c.range.utf8 c.as_str-iri.utf8 c.as_str-iri.ensures.value
    c.in_ok-set_iri_value.ensures.ok c.in_ok-set_iri_value.ensures.characters
    (sym c.has_scheme.ensures ∙ c.if-not-has_scheme.false) (omega (arith, c.if-iri-limit.false)) (c.in_ok-rest.ensures ∙ ap (λ x. x ++ 62 ∷ rest) (sym value))
