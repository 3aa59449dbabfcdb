-- A scheme, by the bytes of the text.
use Rattle.rdf_terms.proofs.Prelude.{◌≡◌, true, sym, ap, ◌∙◌, has_scheme}
use Rattle.rdf_terms.proofs.SchemeLemmas.{http_scheme, scheme_by_bytes}
use Rattle.rdf_terms.proofs.classes.has_scheme.Goals as goal

pub returns-then-is_http : goal.returns-then-is_http
returns-then-is_http c =
    let v = c.as_bytes-bytes.ensures.value in
    let h : has_scheme c.as_bytes-bytes.result.now ≡ true = http_scheme c.as_bytes-bytes.result.now (sym c.is_http.ensures ∙ c.if-is_http.true) in
    c.if-is_http.true ∙ (sym h ∙ (ap has_scheme v ∙ sym (scheme_by_bytes c.args.text.now c.utf8.text)))

pub returns-else-is_http : goal.returns-else-is_http
returns-else-is_http c =
    c.begins_scheme.ensures ∙ (ap has_scheme c.as_bytes-bytes.ensures.value ∙ sym (scheme_by_bytes c.args.text.now c.utf8.text))
