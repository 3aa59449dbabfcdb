use Rattle.rdf_terms.proofs.Prelude.{◌+◌, ◌≤◌, length, refl, sym, ◌∙◌, arith, goes_over}
use Rattle.rdf_terms.proofs.RunsLemmas.{none_stops, run_on, first_within, first_ends, second_beyond, second_ends}
use Rattle.rdf_terms.proofs.runs.two_run_ends.Goals as goal

pub returns-then-hits-eq0-clause-first : goal.returns-then-hits-eq0-clause-first
returns-then-hits-eq0-clause-first c =
    let p = goes_over c.args.run in
    let bs = c.args.bytes.now in
    let room : c.args.from + 16 ≤ length c.args.bytes.now = omega (arith, c.if-bytes-from-lt-LANES.false, c.requires) in
    run_on p bs c.args.from 16 _ _ refl (none_stops p bs c.args.from 16 room (sym c.stops-hits.ensures ∙ c.if-hits-eq0.true)) c.far_run_end-first.ensures

pub overflow_shr-others : goal.overflow_shr-others
overflow_shr-others c =
    omega (arith, first_within (goes_over c.args.run) c.args.bytes.now c.args.from c.stops-hits.result (omega arith) c.stops-hits.ensures (omega arith))

pub returns-then-others-eq0-clause-first : goal.returns-then-others-eq0-clause-first
returns-then-others-eq0-clause-first c =
    first_ends (goes_over c.args.run) c.args.bytes.now c.args.from c.stops-hits.result (omega arith) c.stops-hits.ensures (omega arith)

pub returns-then-others-eq0-clause-second : goal.returns-then-others-eq0-clause-second
returns-then-others-eq0-clause-second c within =
    second_beyond (goes_over c.args.run) c.args.bytes.now c.args.from c.stops-hits.result (omega arith) c.stops-hits.ensures (omega arith) _
    c.if-others-eq0.true c.far_run_end.ensures

pub returns-clause-first : goal.returns-clause-first
returns-clause-first c =
    first_ends (goes_over c.args.run) c.args.bytes.now c.args.from c.stops-hits.result (omega arith) c.stops-hits.ensures (omega arith)

pub returns-clause-second : goal.returns-clause-second
returns-clause-second c within =
    second_ends (goes_over c.args.run) c.args.bytes.now c.args.from c.stops-hits.result (omega arith) c.stops-hits.ensures (omega arith) (omega arith)
