use Rattle.rdf_lines.proofs.Prelude.{◌≢◌, get_or, subst, ◌∙◌, arith, IsRun, is_name_byte}
use Rattle.rdf_lines.proofs.FrontsLemmas.{front_slice}
use Rattle.rdf_lines.proofs.PlainLabels.{plain_stands}
use Rattle.rdf_lines.proofs.canonical.plain_label.Goals as goal

pub returns : goal.returns
returns c =
    let text = c.args.text.now in
    let end = c.run_end-end.result in
    let run = subst (λ b. IsRun is_name_byte b 0 end) c.as_bytes-bytes.ensures.value c.run_end-end.ensures in
    let first = subst (λ b. get_or b 0 0 ≢ 45) c.as_bytes-bytes.ensures.value (λ e. omega (arith, e)) in
    plain_stands text c.range.result.now c.range_from.result.now end c.range.utf8 (c.range.ensures.value ∙ front_slice text end) c.range_from.ensures.value run
    (omega arith) first
