use Rattle.rdf_lines.proofs.Prelude.{◌≡◌, ◌++◌, ◌∷◌, true, take, ap, sym, ◌∙◌, subst, arith, chars, IsUtf8, iri_byte, IsRun, iri_char, all_have, has_scheme}
use Rattle.rdf_terms.specs.Classes.{has}
use Rattle.rdf_lines.proofs.FrontsLemmas.{front_slice, iri_stands, iri_taken}
use Rattle.rdf_lines.proofs.canonical.iri.Goals as goal

pub returns-clause-stands : goal.returns-clause-stands
returns-clause-stands c =
    let text = c.args.text.now in
    let end = c.run_end-end.result in
    let part = c.range-iri.result.now in
    let value : part ≡ take end text = c.range-iri.ensures.value ∙ front_slice text end in
    let run : IsRun iri_byte text 0 end = subst (λ x. IsRun iri_byte x 0 end) c.as_bytes.ensures.value c.run_end-end.ensures in
    let characters : all_have (has iri_char) (chars part) ≡ true =
    ap (λ x. all_have (has iri_char) (chars x)) value ∙ iri_taken text end run (subst IsUtf8 value c.range-iri.utf8) in
    let scheme : has_scheme (chars part) ≡ true = sym c.has_scheme.ensures ∙ c.if-not-has_scheme.false in
    iri_stands c.args.limit part text c.in_ok-rest.rest.now c.range-iri.utf8 characters scheme (omega (arith, c.if-iri-limit.false))
    (c.in_ok-rest.ensures.is ∙ ap (λ x. x ++ 62 ∷ c.in_ok-rest.rest.now) (sym value))
