-- The way from escape to escape: the text has a value exactly where what is left has one.
use Rattle.rdf_terms.proofs.Prelude.{is_some, sym, ap, ◌∙◌, subst, arith, chars, IsRun, goes_over, value, outside, inside_of}
use Rattle.rdf_terms.proofs.EscapesLemmas.{run_read, run_is_some, read_is_some, value_end}
use Rattle.rdf_terms.proofs.values.has_value.Goals as goal

pub loop-at-init : goal.loop-at-init
loop-at-init c =
    let i = inside_of c.args.inside in
    let bs = c.as_bytes-bytes.result.now in
    let run = subst (λ x. IsRun (goes_over x) bs 0 c.run_end-at.result) c.run_of.ensures c.run_end-at.ensures in
    let r = run_read i bs 0 c.run_end-at.result c.as_bytes-bytes.ensures.utf8 c.as_bytes-bytes.ensures.utf8 run in
    record {
      within = run.within;
      utf8 = r.utf8;
      stopped = run.stops;
      same = ap (λ w. is_some (value i outside (chars w))) (sym c.as_bytes-bytes.ensures.value) ∙ run_is_some i bs 0 c.run_end-at.result r;
    }

pub loop-at-preserved : goal.loop-at-preserved
loop-at-preserved c =
    let i = inside_of c.args.inside in
    let bs = c.as_bytes-bytes.result.now in
    let end = c.run_end-at-in-Some.result in
    let run = subst (λ x. IsRun (goes_over x) bs c.in-Some.next end) c.run_of-in-Some.ensures c.run_end-at-in-Some.ensures in
    let read = c.in-Some.ensures.read in
    let r = run_read i bs c.in-Some.next end c.as_bytes-bytes.ensures.utf8 read.utf8 run in
    record {
      within = run.within;
      utf8 = r.utf8;
      stopped = run.stops;
      same = c.loop-at.invariant.same ∙ (read_is_some i bs c.loop-at.at _ c.in-Some.next read ∙ run_is_some i bs c.in-Some.next end r);
    }

pub returns : goal.returns
returns c =
    let l = c.loop-at in
    sym (l.invariant.same ∙ ap is_some (value_end (inside_of c.args.inside) c.as_bytes-bytes.result.now l.at (omega (arith, c.loop-at-test.false))))
