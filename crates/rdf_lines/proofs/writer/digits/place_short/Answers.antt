use Rattle.rdf_lines.proofs.Prelude.{sym, arith, decimal_pair, length_pair, Placed-as, Placed-then}
use Rattle.rdf_lines.proofs.writer.digits.place_short.Goals as goal

pub place_first-next-requires : goal.place_first-next-requires
place_first-next-requires c = (omega arith, omega (arith, c.requires.1, length_pair c.args.n c.if-n-lt100.false c.ranges.n.fits))

pub place_pair-requires : goal.place_pair-requires
place_pair-requires c =
    let first = c.place_first-next.ensures in
    (omega arith, omega (arith, c.requires.1, first.moved, first.len, length_pair c.args.n c.if-n-lt100.false c.ranges.n.fits))

pub returns : goal.returns
returns c = Placed-as (sym (decimal_pair c.args.n c.if-n-lt100.false c.ranges.n.fits)) (Placed-then c.place_first-next.ensures c.place_pair.ensures)
