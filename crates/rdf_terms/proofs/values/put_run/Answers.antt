-- The text may be cut where a run begins and where it ends.
use Rattle.rdf_terms.proofs.Prelude.{subst, IsCharBoundary-from_drop, IsRun, goes_over, inside_of, run_of}
use Rattle.rdf_terms.proofs.EscapesLemmas.{run_cut}
use Rattle.rdf_terms.proofs.values.put_run.Goals as goal

pub range-requires-clause-start_boundary : goal.range-requires-clause-start_boundary
range-requires-clause-start_boundary g c p = IsCharBoundary-from_drop c.args.text.now c.args.from c.requires.within c.requires.utf8

pub range-requires-clause-end_boundary : goal.range-requires-clause-end_boundary
range-requires-clause-end_boundary g c =
    let end = c.plain_end-end.result in
    run_cut (inside_of c.args.inside) c.args.text.now c.args.from end
    (subst (λ w. IsRun (goes_over (run_of (inside_of c.args.inside))) w c.args.from end) c.as_bytes.ensures.value c.plain_end-end.ensures)
