use Rattle.rdf_lines.proofs.Prelude.{sym, arith, decimal_four, length_four, Placed-as, Placed-then}
use Rattle.rdf_lines.proofs.writer.digits.place_eight.Goals as goal

pub place_short-front-requires : goal.place_short-front-requires
place_short-front-requires c = (omega (arith, c.requires.0), omega (arith, c.requires.1, length_four c.args.n c.if-n-lt10000.false c.ranges.n.fits))

pub place_four-requires : goal.place_four-requires
place_four-requires c =
    let front = c.place_short-front.ensures in
    (omega arith, omega (arith, c.requires.1, front.moved, front.len, length_four c.args.n c.if-n-lt10000.false c.ranges.n.fits))

pub returns : goal.returns
returns c = Placed-as (sym (decimal_four c.args.n c.if-n-lt10000.false c.ranges.n.fits)) (Placed-then c.place_short-front.ensures c.place_four.ensures)
