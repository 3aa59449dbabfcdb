use Rattle.rdf_lines.proofs.Prelude.{◌∙◌, refl, subst, is_short_byte, IsRun}
use Rattle.rdf_lines.proofs.EscapedParts.{plain_string, run_clear}
use Rattle.rdf_lines.proofs.FrontsLemmas.{front_slice}
use Rattle.rdf_lines.proofs.escaped.string.Goals as goal

pub returns-in-Some : goal.returns-in-Some
returns-in-Some g c =
    let text = c.args.text.now in
    let end = c.run_end-end.result in
    plain_string c.range.result.now text c.in-Some.rest.now end c.range.utf8 (c.range.ensures.value ∙ front_slice text end)
    (subst (λ x. IsRun (is_short_byte 34) x 0 end) c.as_bytes.ensures.value c.run_end-end.ensures) c.in-Some.ensures.is

pub escaped_string-requires-clause-clear : goal.escaped_string-requires-clause-clear
escaped_string-requires-clause-clear g c =
    run_clear c.args.text.now 0 c.run_end-end.result refl
    (subst (λ x. IsRun (is_short_byte 34) x 0 c.run_end-end.result) c.as_bytes.ensures.value c.run_end-end.ensures)
