use Rattle.rdf_lines.proofs.Prelude.{◌-◌, drop, ap, ◌∙◌, arith, take_all, length-take-le, length-drop, flat_map, escaped, Placed-as, Placed-then}
use Rattle.rdf_lines.specs.declared.form.Escapes.TheVariants.{Plain}
use Rattle.rdf_lines.proofs.PlacedCharacters.{run_placed, byte_placed}
use Rattle.rdf_lines.proofs.writer.characters.place_escaped.Goals as goal

pub returns-then-stop-bytes-clause-placed : goal.returns-then-stop-bytes-clause-placed
returns-then-stop-bytes-clause-placed c =
    let bs = c.args.bytes.now in
    let stop = c.run_end-stop.result in
    let run = run_placed bs c.loop-from.from stop c.run_end-stop.ensures in
    let whole = ap (flat_map (escaped Plain)) (take_all stop bs (omega (arith, c.if-stop-bytes.true))) in
    Placed-as (run ∙ whole) (Placed-then c.loop-from.invariant.placed c.place_text-end.ensures)

pub loop-from-preserved : goal.loop-from-preserved
loop-from-preserved c =
    let bs = c.args.bytes.now in
    let stop = c.run_end-stop.result in
    let r = c.run_end-stop.ensures in
    let run = Placed-as (run_placed bs c.loop-from.from stop r) (Placed-then c.loop-from.invariant.placed c.place_text-end.ensures) in
    let few = length-take-le (stop - c.loop-from.from) (drop c.loop-from.from bs) (let l = length-drop c.loop-from.from bs in omega (arith, l, r.within)) in
    record {
      from = omega (arith, r.within, c.if-stop-bytes.false);
      end = omega (arith, c.loop-from.invariant.end, r.from, r.within, few, c.place_text-end.ensures.moved, c.place_escape-end.ensures.within);
      placed = Placed-as (byte_placed bs stop (omega (arith, r.within, c.if-stop-bytes.false))) (Placed-then run c.place_escape-end.ensures.placed);
    }
