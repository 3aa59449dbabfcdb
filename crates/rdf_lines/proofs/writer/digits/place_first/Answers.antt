use Rattle.rdf_lines.proofs.Prelude.{sym, arith, decimal_digit, decimal_two, length_one, length_two, Placed-as}
use Rattle.rdf_lines.proofs.writer.digits.place_first.Goals as goal

pub place_byte-requires : goal.place_byte-requires
place_byte-requires c = omega (arith, c.requires.1, length_one c.args.n c.if-n-lt10.true)

pub returns-then-n-lt10 : goal.returns-then-n-lt10
returns-then-n-lt10 c = Placed-as (sym (decimal_digit c.args.n c.if-n-lt10.true)) c.place_byte.ensures

pub place_pair-requires : goal.place_pair-requires
place_pair-requires c = (c.requires.0, omega (arith, c.requires.1, length_two c.args.n c.if-n-lt10.false c.requires.0))

pub returns : goal.returns
returns c = Placed-as (sym (decimal_two c.args.n c.if-n-lt10.false c.requires.0)) c.place_pair.ensures
