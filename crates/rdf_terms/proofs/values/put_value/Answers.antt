-- The way from escape to escape: what was built, and the value of what is left, are the value of the text.
use Rattle.rdf_terms.proofs.Prelude.{subst, ◌∙◌, arith, string_bytes, IsUtf8-string_bytes, inside_of, IsPut}
use Rattle.rdf_terms.proofs.EscapesLemmas.{with_front-run, with_front-first, with_front-end, run_read}
use Rattle.rdf_terms.proofs.values.put_value.Goals as goal

pub loop-at-init : goal.loop-at-init
loop-at-init g c =
    let i = inside_of c.args.inside in
    let text = c.args.text.now in
    let run = c.in_ok-at.ensures.run in
    let r = run_read i text 0 c.in_ok-at.at c.utf8.text c.utf8.text run in
    record {
      within = run.within;
      utf8 = r.utf8;
      stopped = run.stops;
      same = with_front-first i text (string_bytes c.reserve.new.self) (c.reserve.ensures.bytes ∙ c.clear.ensures.bytes)
          ∙ with_front-run i (string_bytes c.reserve.new.self) _ text 0 c.in_ok-at.at (IsUtf8-string_bytes c.reserve.new.self) c.in_ok-at.ensures.put r;
    }

pub loop-at-preserved : goal.loop-at-preserved
loop-at-preserved g c =
    let i = inside_of c.args.inside in
    let text = c.args.text.now in
    let next = c.in-Some.next in
    let end = c.in_ok-at-2.at in
    let out = string_bytes c.loop-at.out in
    let grown = c.put_escapes.new.out in
    let put = subst (IsPut i text out (string_bytes grown) c.loop-at.at) c.in-Some.is c.in_ok-next.ensures.put in
    let run = c.in_ok-at-2.ensures.run in
    let r = run_read i text next end c.utf8.text put.utf8 run in
    record {
      within = run.within;
      utf8 = r.utf8;
      stopped = run.stops;
      same = c.loop-at.invariant.same
          ∙ (put.value ∙ with_front-run i (string_bytes grown) _ text next end (IsUtf8-string_bytes grown) c.in_ok-at-2.ensures.put r);
    }

pub returns : goal.returns
returns g c =
    let l = c.loop-at in
    l.invariant.same ∙ with_front-end (inside_of c.args.inside) (string_bytes l.out) c.args.text.now l.at (omega (arith, c.loop-at-test.false))
