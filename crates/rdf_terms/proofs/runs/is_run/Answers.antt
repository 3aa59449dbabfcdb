use Rattle.rdf_terms.proofs.Prelude.{arith, goes_over}
use Rattle.rdf_terms.proofs.RunsLemmas.{last_decides}
use Rattle.rdf_terms.proofs.runs.is_run.Goals as goal

pub returns : goal.returns
returns c =
    let r = c.passed_lanes-2 in
    last_decides (goes_over c.args.run) c.args.bytes.now _ 16 c.loop-at.at r.result (omega arith) (omega arith) c.loop-at.invariant r.ensures
