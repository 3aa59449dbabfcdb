use Rattle.rdf_lines.proofs.Prelude.{arith, length-decimal-le, Placed-then}
use Rattle.rdf_lines.proofs.writer.short.place_number.Goals as goal

pub place_twelve-requires : goal.place_twelve-requires
place_twelve-requires c =
    let name = c.place_two-name.ensures in
    let begin = c.place_byte-begin.ensures in
    let few = c.requires.short in (
      few,
      omega (
        arith,
        c.requires.room,
        name.moved,
        name.len,
        begin.moved,
        begin.len,
        length-decimal-le 12 c.args.offset (omega arith) (omega (arith, few)) (omega (arith, few)),
      ),
    )

pub returns-clause-placed : goal.returns-clause-placed
returns-clause-placed c = Placed-then (Placed-then c.place_two-name.ensures c.place_byte-begin.ensures) c.place_twelve.ensures

pub returns-clause-within : goal.returns-clause-within
returns-clause-within c =
    let few = c.requires.short in
    omega (
      arith,
      c.place_two-name.ensures.moved,
      c.place_byte-begin.ensures.moved,
      c.place_twelve.ensures.moved,
      length-decimal-le 12 c.args.offset (omega arith) (omega (arith, few)) (omega (arith, few)),
    )
