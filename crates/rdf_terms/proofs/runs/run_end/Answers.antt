use Rattle.rdf_terms.proofs.Prelude.{◌≡◌, ◌+◌, ◌≤◌, length, sym, ◌∙◌, arith, goes_over}
use Rattle.rdf_terms.proofs.RunsLemmas.{none_stops, first_ends, pass-more, run_after}
use Rattle.rdf_terms.proofs.runs.run_end.Goals as goal

pub returns-then-hits-ne0 : goal.returns-then-hits-ne0
returns-then-hits-ne0 c =
    let p = goes_over c.args.run in
    let bs = c.args.bytes.now in
    run_after p bs c.args.from c.loop-at.at _ c.loop-at.invariant.from c.loop-at.invariant.pass
    (first_ends p bs c.loop-at.at c.stops-hits.result (omega arith) c.stops-hits.ensures (omega arith))

pub loop-at-preserved : goal.loop-at-preserved
loop-at-preserved c =
    let p = goes_over c.args.run in
    let bs = c.args.bytes.now in
    let at = c.loop-at.at in
    let room : at + 16 ≤ length c.args.bytes.now = omega arith in
    let none : c.stops-hits.result ≡ 0 = omega arith in
    record {
      from = omega (arith, c.loop-at.invariant.from);
      within = room;
      pass = pass-more p bs c.args.from at (at + 16) c.loop-at.invariant.pass (none_stops p bs at 16 room (sym c.stops-hits.ensures ∙ none)).pass;
    }
