use Rattle.rdf_terms.proofs.Prelude.{arith, goes_over}
use Rattle.rdf_terms.proofs.RunsLemmas.{none_left, some_left}
use Rattle.rdf_terms.proofs.runs.near_run_end.Goals as goal

pub returns-then-hits-eq0 : goal.returns-then-hits-eq0
returns-then-hits-eq0 c =
    none_left (goes_over c.args.run) c.args.bytes.now _ c.args.from c.stops-all.result (omega arith)
    (omega arith) c.requires c.stops-all.ensures c.if-hits-eq0.true

pub returns : goal.returns
returns c =
    some_left (goes_over c.args.run) c.args.bytes.now _ c.args.from c.stops-all.result (omega arith) (omega arith) c.requires c.stops-all.ensures (omega arith)
