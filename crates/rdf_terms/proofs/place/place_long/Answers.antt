use Rattle.rdf_terms.proofs.Prelude.{◌≡◌, ◌+◌, rules, arith, ap, length, take-add, length-take-le, take-append-drop, take_rest}
use Rattle.rdf_terms.proofs.Places.{Placed-then}
use Rattle.rdf_terms.proofs.place.place_long.Goals as goal

pub loop-done-preserved : goal.loop-done-preserved
loop-done-preserved c =
    let src = c.args.text.now in
    let done = c.loop-done.done in
    let both = Placed-then c.loop-done.invariant.1 (rw (take_rest src done) at c.place_chunk.ensures) in
    let whole = length-take-le (done + 32) src (search rules) in
    let end : c.place_chunk.result ≡ c.args.at + (done + 32) = omega (arith, both.moved, ap length (take-add done 32 src), whole) in
    (search rules, rw (take-add done 32 src, ← end) both)

pub returns : goal.returns
returns c =
    let src = c.args.text.now in
    let done = c.loop-done.done in
    rw (take-append-drop done src) at (Placed-then c.loop-done.invariant.1 (rw (take_rest src done) at c.place_ends.ensures))
