use Rattle.rdf_lines.proofs.Prelude.{sym, arith, decimal_four, length_four, Placed-as, Placed-then}
use Rattle.rdf_lines.proofs.writer.digits.+place_digits.Goals as goal

pub place_digits-front-requires : goal.place_digits-front-requires
place_digits-front-requires t c =
    (omega (arith, c.decreases), omega (arith, c.requires, length_four c.args.n (omega (arith, c.if-n-lt100000000.false)) c.ranges.n.fits))

pub place_four-requires : goal.place_four-requires
place_four-requires t c =
    let front = c.place_digits-front.ensures in
    (omega arith, omega (arith, c.requires, front.moved, front.len, length_four c.args.n (omega (arith, c.if-n-lt100000000.false)) c.ranges.n.fits))

pub returns : goal.returns
returns t c = Placed-as (sym (decimal_four c.args.n (omega (arith, c.if-n-lt100000000.false)) c.ranges.n.fits))
    (Placed-then c.place_digits-front.ensures c.place_four.ensures)
