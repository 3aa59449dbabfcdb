-- A declaration is told by its word.
use Rattle.rdf_iri.proofs.Prelude.{◌∙◌, ◌++◌, ap, sym, refl, codes, chars, encode_utf8_all}
use Rattle.rdf_iri.proofs.BindingLineLemmas.{prefix_id_from, sparql_from, no_prefix_id, no_sparql, no_word}
use Rattle.rdf_iri.proofs.BindingLemmas.{after_ascii, bytes_ascii, passed_none, in_other_words}
use Rattle.rdf_iri.proofs.binding_lines.declaration.Goals as goal

pub returns-in_err-after_keyword-in-None : goal.returns-in_err-after_keyword-in-None
returns-in_err-after_keyword-in-None c = passed_none c.from_residual.result _ _ c.from_residual.ensures (no_word (chars c.args.text.now)
    (λ rest e. c.in-None.ensures.cases (encode_utf8_all rest)
    (bytes_ascii c.after_blanks-text.result.now (codes "@prefix") rest refl c.after_blanks-text.utf8 (c.after_blanks-text.ensures ∙ e)))
    (λ k rest m e. c.in_err-after_keyword-in-None.ensures k rest m (c.after_blanks-text.ensures ∙ e)))

pub returns-in-Some : goal.returns-in-Some
returns-in-Some c =
    let text = c.after_blanks-text.result.now in
    let cut = c.in-Some.ensures.cases.1.1 ∙ ap (λ w. codes "@prefix" ++ w) (sym c.in-Some.ensures.cases.2) in
    let e = sym c.after_blanks-text.ensures ∙ (after_ascii text (codes "@prefix") c.in-Some.rest.now refl c.after_blanks-text.utf8 cut).chars in
    in_other_words c.prefix_id.result _ _ _ _ (no_prefix_id (chars c.args.text.now) (chars c.in-Some.rest.now) e)
    (λ x d. prefix_id_from (chars c.args.text.now) (chars c.in-Some.rest.now) (chars x.0.now) (chars x.1.now) e d) c.prefix_id.ensures

pub returns-in_ok-after_keyword-in-None : goal.returns-in_ok-after_keyword-in-None
returns-in_ok-after_keyword-in-None c =
    let k = c.in_ok-after_keyword-in-None.ensures in
    let rest = chars c.in_ok-after_keyword-in-None.field-0.now in
    let e = sym c.after_blanks-text.ensures ∙ k.2 in
    in_other_words c.sparql_prefix.result _ _ _ _ (no_sparql (chars c.args.text.now) k.0 rest k.1 e)
    (λ x d. sparql_from (chars c.args.text.now) k.0 rest (chars x.0.now) (chars x.1.now) k.1 e d) c.sparql_prefix.ensures
