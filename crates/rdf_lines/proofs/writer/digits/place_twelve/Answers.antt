use Rattle.rdf_lines.proofs.Prelude.{sym, arith, decimal_four, length_four, Placed-as, Placed-then}
use Rattle.rdf_lines.proofs.writer.digits.place_twelve.Goals as goal

pub place_eight-front-requires : goal.place_eight-front-requires
place_eight-front-requires c = (omega (arith, c.requires.0), omega (arith, c.requires.1, length_four c.args.n c.if-n-lt10000.false c.ranges.n.fits))

pub place_four-requires : goal.place_four-requires
place_four-requires c =
    let front = c.place_eight-front.ensures in
    (omega arith, omega (arith, c.requires.1, front.moved, front.len, length_four c.args.n c.if-n-lt10000.false c.ranges.n.fits))

pub returns : goal.returns
returns c = Placed-as (sym (decimal_four c.args.n c.if-n-lt10000.false c.ranges.n.fits)) (Placed-then c.place_eight-front.ensures c.place_four.ensures)
