use Rattle.rdf_diagnostics.proofs.SightLemmas.{seen_all, seen_end}
use Rattle.rdf_diagnostics.proofs.sight.Front.see.Goals as goal

pub returns-in_default : goal.returns-in_default
returns-in_default g c =
    let old = c.args.self.now.scanner in
    record {
      seen = seen_all old.dialect old.limit c.args.rest.now c.args.is_end c.in_ok-seen.seen c.in_ok-seen.ensures.seen c.in_default.not-Open;
      leaves = c.in_ok-seen.ensures.leaves;
    }

pub returns-in-Open-clause-seen : goal.returns-in-Open-clause-seen
returns-in-Open-clause-seen g c =
    let e = c.in_ok-seen.ensures in
    let v = c.see_to.new.self in
    seen_end c.args.self.now.scanner v.scanner c.args.rest.now v.len c.args.is_end c.see_end.result e.same (e.taken c.in-Open.is)
    (e.far c.in-Open.is) c.see_end.ensures
