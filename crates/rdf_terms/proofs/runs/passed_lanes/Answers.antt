use Rattle.rdf_terms.proofs.Prelude.{sym, subst, ◌∙◌, arith, goes_over, IsRunIn}
use lib.Count.{count_trailing_zeros}
use Rattle.rdf_terms.proofs.RunsLemmas.{none_stops, one_stops}
use Rattle.rdf_terms.proofs.runs.passed_lanes.Goals as goal

pub returns-then-hits-eq0 : goal.returns-then-hits-eq0
returns-then-hits-eq0 c = none_stops (goes_over c.args.run) c.args.bytes.now c.args.at 16 c.requires (sym c.stops-hits.ensures ∙ c.if-hits-eq0.true)

pub returns-else-hits-eq0 : goal.returns-else-hits-eq0
returns-else-hits-eq0 c =
    let p = goes_over c.args.run in
    let bs = c.args.bytes.now in
    subst (λ m. IsRunIn p bs c.args.at 16 (count_trailing_zeros 64 m)) (sym c.stops-hits.ensures)
    (one_stops p bs c.args.at 16 c.requires (omega arith) (omega (arith, c.stops-hits.ensures)))
