use Rattle.rdf_stream.proofs.Prelude.{◌≡◌, ◌-◌, ap, arith, subst, sym, take, ◌∙◌, IsAsciiText}
use Rattle.rdf_terms.specs.Runs.{IsRun, is_ascii_byte}
use Rattle.rdf_stream.proofs.PartsLemmas.{ascii_cut, low_run}
use Rattle.rdf_stream.proofs.parts.ascii_front.Goals as goal

pub range-requires-clause-end_boundary : goal.range-requires-clause-end_boundary
range-requires-clause-end_boundary c =
    ascii_cut c.args.text.now c.run_end.result (subst (λ w. IsRun is_ascii_byte w 0 c.run_end.result) c.as_bytes.ensures.value c.run_end.ensures) c.utf8.text

pub returns-clause-ascii : goal.returns-clause-ascii
returns-clause-ascii c =
    let all : c.run_end.result - 0 ≡ c.run_end.result = omega arith in
    subst IsAsciiText (sym (c.range.ensures.value ∙ ap (λ n. take n c.args.text.now) all))
    (low_run c.args.text.now c.run_end.result (subst (λ w. IsRun is_ascii_byte w 0 c.run_end.result) c.as_bytes.ensures.value c.run_end.ensures))
