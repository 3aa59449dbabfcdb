use Rattle.rdf_tokens.proofs.Prelude.{rules, ◌==◌, ◌+◌, ◌≤◌, count_by, length, take, drop, sym, ap, ap₂, ◌∙◌, arith, take-add, count_by-le-length, length-take-le, length-chunk}
use lib.Lanes.{chunk}
use Rattle.rdf_tokens.proofs.PlaceLemmas.{feeds-append}
use Rattle.rdf_tokens.proofs.good.line_feeds.Goals as goal

pub overflow_add-count : goal.overflow_add-count
overflow_add-count c =
    let bs = c.args.bytes.now in
    let at = c.loop-at.at in
    let w = c.loop-at.invariant.within in
    let front = count_by-le-length (λ b. b == 10) (take at bs) in
    let size = length-take-le at bs w in
    let lanes = count_by-le-length (λ b. b == 10) (chunk at 16 bs) in
    let room : at + 16 ≤ length bs = omega (arith, c.loop-at-test.true) in
    let long = length-chunk at 16 bs room in
    let count : c.loop-at.count ≤ at = omega (arith, c.loop-at.invariant.count, front, size) in
    let few : c.feeds_in-count.result ≤ 16 = omega (arith, c.feeds_in-count.ensures, lanes, long) in
    search rules

pub loop-at-preserved : goal.loop-at-preserved
loop-at-preserved c =
    let bs = c.args.bytes.now in
    let at = c.loop-at.at in
    let w = c.loop-at.invariant.within in
    record {
      within = omega (arith, c.loop-at-test.true);
      count = ap₂ (λ m n. m + n) c.loop-at.invariant.count c.feeds_in-count.ensures
          ∙ sym (ap (count_by (λ b. b == 10)) (take-add at 16 bs) ∙ feeds-append (take at bs) (take 16 (drop at bs)));
    }
