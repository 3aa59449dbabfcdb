use Rattle.rdf_lines.proofs.Prelude.{◌≡◌, ◌++◌, ◌∷◌, true, false, take, ap, sym, ◌∙◌, subst, is_clear}
use Rattle.rdf_lines.proofs.EscapedParts.{string_spelled}
use Rattle.rdf_lines.proofs.FrontsLemmas.{front_slice}
use Rattle.rdf_lines.proofs.escaped.escaped_string.Goals as goal

pub returns : goal.returns
returns g c =
    let text = c.args.text.now in
    let end = c.string_end-end.result in
    let part = c.range.result.now in
    let rest = c.in_ok-rest.rest.now in
    let value : part ≡ take end text = c.range.ensures.value ∙ front_slice text end in
    let clear : is_clear false (take end text) ≡ true =
    subst (λ x. is_clear false (take end x) ≡ true) c.as_bytes.ensures.value c.string_end-end.ensures.clear in
    string_spelled part c.as_str.result.now _ text rest c.range.utf8 c.as_str.utf8 c.as_str.ensures.value c.in_ok-value.ensures.ok
    (ap (is_clear false) value ∙ clear) (c.in_ok-rest.ensures ∙ ap (λ x. x ++ 34 ∷ rest) (sym value))
