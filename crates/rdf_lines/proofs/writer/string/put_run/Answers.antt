use Rattle.rdf_lines.proofs.Prelude.{ℕ, List, ◌≡◌, ◌++◌, append_assoc, take, drop, subst, sym, ap, ◌∙◌, refl, IsUtf8, IsRun, goes_over, Escapes, escaped_bytes, run_of}
use Rattle.rdf_lines.proofs.EscapedRuns.{run_cut, run_written}
use Rattle.rdf_lines.proofs.WrittenBytesLemmas.{if_ok, begins_with_front, begins_with_same}
use Rattle.rdf_lines.proofs.writer.string.put_run.Goals as goal

-- a run that was put, and what is left of the text
put_front : (e : Escapes) (out new text rest : List ℕ) (at : ℕ) → IsUtf8 text → IsRun (goes_over (run_of e)) text 0 at →
    new ≡ out ++ take at text → rest ≡ drop at text →
    new ++ escaped_bytes e rest ≡ out ++ escaped_bytes e text
put_front e out new text rest at u run front back =
    ap (λ x. x ++ escaped_bytes e rest) front ∙ (ap (λ x. (out ++ take at text) ++ escaped_bytes e x) back
    ∙ (append_assoc out (take at text) (escaped_bytes e (drop at text)) ∙ ap (λ x. out ++ x) (sym (run_written e text at u run))))

pub split_at-requires : goal.split_at-requires
split_at-requires g c =
    let at = c.run_end-at.result in
    let runs = subst (λ x. IsRun (goes_over x) c.as_bytes.result.now 0 at) c.run_of.ensures c.run_end-at.ensures in
    run_cut c.args.escapes c.args.text.now at c.utf8.text (subst (λ w. IsRun (goes_over (run_of c.args.escapes)) w 0 at) c.as_bytes.ensures.value runs)

pub returns-clause-written : goal.returns-clause-written
returns-clause-written g c =
    let runs = subst (λ x. IsRun (goes_over x) c.as_bytes.result.now 0 c.run_end-at.result) c.run_of.ensures c.run_end-at.ensures in
    let run = subst (λ w. IsRun (goes_over (run_of c.args.escapes)) w 0 c.run_end-at.result) c.as_bytes.ensures.value runs in
    let front = c.in_ok-extend_from_slice.ensures.items ∙ ap (λ x. c.args.out.now.items ++ x) (c.as_bytes-2.ensures.value ∙ c.split_at.ensures.front) in
    let all = put_front c.args.escapes c.args.out.now.items _ c.args.text.now c.split_at.result.1.now c.run_end-at.result c.utf8.text run
    front c.split_at.ensures.back in
    if_ok c.put_first.result (λ rest h. h ∙ all) c.put_first.ensures.written

-- where nothing comes after the run, the run is all
pub returns-then-is_empty-clause-written : goal.returns-then-is_empty-clause-written
returns-then-is_empty-clause-written g c =
    let runs = subst (λ x. IsRun (goes_over x) c.as_bytes.result.now 0 c.run_end-at.result) c.run_of.ensures c.run_end-at.ensures in
    let run = subst (λ w. IsRun (goes_over (run_of c.args.escapes)) w 0 c.run_end-at.result) c.as_bytes.ensures.value runs in
    let front = c.in_ok-extend_from_slice.ensures.items ∙ ap (λ x. c.args.out.now.items ++ x) (c.as_bytes-2.ensures.value ∙ c.split_at.ensures.front) in
    put_front c.args.escapes c.args.out.now.items _ c.args.text.now c.split_at.result.1.now c.run_end-at.result c.utf8.text run front c.split_at.ensures.back

pub returns-in_err-extend_from_slice-clause-grown : goal.returns-in_err-extend_from_slice-clause-grown
returns-in_err-extend_from_slice-clause-grown g c = begins_with_same _ _ c.in_err-extend_from_slice.ensures.items

pub returns-then-is_empty-clause-grown : goal.returns-then-is_empty-clause-grown
returns-then-is_empty-clause-grown g c = begins_with_front _ _ _ _ c.in_ok-extend_from_slice.ensures.items (begins_with_same _ _ refl)

pub returns-clause-grown : goal.returns-clause-grown
returns-clause-grown g c = begins_with_front _ _ _ _ c.in_ok-extend_from_slice.ensures.items c.put_first.ensures.grown
