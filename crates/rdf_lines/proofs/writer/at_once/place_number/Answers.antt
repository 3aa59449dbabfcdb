use Rattle.rdf_lines.proofs.Prelude.{◌≡◌, length, ap, arith, length-decimal-le}
use Rattle.rdf_lines.proofs.writer.at_once.place_number.Goals as goal

pub place_digits-requires : goal.place_digits-requires
place_digits-requires c =
    let begin = c.place_start-begin.ensures in
    let name = c.place_byte-name.ensures in
    let word : length c.as_str.result.now ≡ length c.args.form.now.prefix.word.now = ap length c.as_str.ensures in
    omega (
      arith,
      c.requires,
      word,
      begin.moved,
      begin.len,
      name.moved,
      name.len,
      length-decimal-le 20 c.args.offset (omega arith) (omega (arith, c.ranges.offset.fits)) c.ranges.offset.fits,
    )

pub returns-in-Tagged-clause-within : goal.returns-in-Tagged-clause-within
returns-in-Tagged-clause-within c =
    let begin = c.place_start-begin.ensures in
    let name = c.place_byte-name.ensures in
    let word : length c.as_str.result.now ≡ length c.args.form.now.prefix.word.now = ap length c.as_str.ensures in
    omega (
      arith,
      word,
      begin.moved,
      name.moved,
      c.place_digits.ensures.moved,
      length-decimal-le 20 c.args.offset (omega arith) (omega (arith, c.ranges.offset.fits)) c.ranges.offset.fits,
    )
