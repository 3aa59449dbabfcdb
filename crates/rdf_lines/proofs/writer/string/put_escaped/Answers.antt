use Rattle.rdf_lines.proofs.Prelude.{◌≡◌, ◌++◌, length, sym, ap, ◌∙◌, true, eqb-true, append-nil, goes_over, all_have, run_of}
use Rattle.rdf_lines.proofs.EscapedRuns.{none_written, text_stands}
use Rattle.rdf_lines.proofs.WrittenBytesLemmas.{on_ok, where_ok, begins_where_err}
use Rattle.rdf_lines.proofs.writer.string.put_escaped.Goals as goal

pub returns-clause-written : goal.returns-clause-written
returns-clause-written g c =
    let out = c.loop-rest.out.items in
    let none = none_written c.args.escapes c.loop-rest.rest.now (eqb-true (length c.loop-rest.rest.now) 0 (sym c.loop-rest-test.ensures)) in
    sym (append-nil out) ∙ (ap (λ x. out ++ x) (sym none) ∙ c.loop-rest.invariant.1)

-- a run is appended as it stands
pub returns-then-is_run-clause-written : goal.returns-then-is_run-clause-written
returns-then-is_run-clause-written g c =
    let out = c.args.out.now.items in
    let text = c.args.text.now in
    let have : all_have (goes_over (run_of c.args.escapes)) text ≡ true =
    ap (λ r. all_have (goes_over r) text) (sym c.run_of.ensures)
    ∙ (ap (all_have (goes_over c.run_of.result)) (sym c.as_bytes.ensures.value) ∙ (sym c.is_run.ensures ∙ c.if-is_run.true)) in
    on_ok c.extend_from_slice.result
    (λ e. e ∙ ap (λ x. out ++ x) (c.as_bytes-then-is_run.ensures.value ∙ sym (text_stands c.args.escapes text c.utf8.text have)))
    (where_ok c.extend_from_slice.result _ _ _ c.extend_from_slice.ensures.items)

pub returns-then-is_run-clause-grown : goal.returns-then-is_run-clause-grown
returns-then-is_run-clause-grown g c = begins_where_err c.extend_from_slice.result _ _ _ c.extend_from_slice.ensures.items
