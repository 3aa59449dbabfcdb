use Rattle.rdf_terms.proofs.Prelude.{◌+◌, get_or, arith}
use Rattle.rdf_terms.proofs.CodeTables.{digit_told, digit_value}
use Rattle.rdf_terms.proofs.UcharLemmas.{four_pass, four_written}
use Rattle.rdf_terms.proofs.escapes.four_digits.Goals as goal

pub returns-then-number-lt-NONE-clause-is : goal.returns-then-number-lt-NONE-clause-is
returns-then-number-lt-NONE-clause-is c =
    let bs = c.args.bytes.now in
    let at = c.args.at in
    let a = c.digit.ensures.value in
    let b = c.digit-2.ensures.value in
    let x = c.digit-3.ensures.value in
    let y = c.digit-4.ensures.value in
    let t = c.if-number-lt-NONE.true in
    let p = digit_told (get_or bs at 0) (omega (arith, a, b, x, y, t)) in
    let q = digit_told (get_or bs (at + 1) 0) (omega (arith, a, b, x, y, t)) in
    let r = digit_told (get_or bs (at + 2) 0) (omega (arith, a, b, x, y, t)) in
    let s = digit_told (get_or bs (at + 3) 0) (omega (arith, a, b, x, y, t)) in (
      four_pass bs at p q r s,
      omega (arith, a, b, x, y, (digit_value _ p).0, (digit_value _ q).0, (digit_value _ r).0, (digit_value _ s).0, four_written bs at c.requires),
    )

pub returns-else-number-lt-NONE-clause-is : goal.returns-else-number-lt-NONE-clause-is
returns-else-number-lt-NONE-clause-is c h =
    let bs = c.args.bytes.now in
    let at = c.args.at in
    let p = digit_value (get_or bs at 0) (h at (omega arith) (omega arith)) in
    let q = digit_value (get_or bs (at + 1) 0) (h (at + 1) (omega arith) (omega arith)) in
    let r = digit_value (get_or bs (at + 2) 0) (h (at + 2) (omega arith) (omega arith)) in
    let s = digit_value (get_or bs (at + 3) 0) (h (at + 3) (omega arith) (omega arith)) in
    let a = c.digit.ensures.value in
    let b = c.digit-2.ensures.value in
    let x = c.digit-3.ensures.value in
    let y = c.digit-4.ensures.value in
    omega (arith, c.if-number-lt-NONE.false, a, b, x, y, p.0, p.1, q.0, q.1, r.0, r.1, s.0, s.1)
