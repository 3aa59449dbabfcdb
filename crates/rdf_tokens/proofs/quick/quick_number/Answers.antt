-- The parts of a number, by its runs of digits and the bytes between them.
use Rattle.rdf_tokens.proofs.Prelude.{◌∙◌, sym, subst, IsUtf8, Turtle, Integer, Decimal, BeginsNumber}
use Rattle.rdf_tokens.specs.Quick.{IsToken}
use Rattle.rdf_tokens.proofs.NumberQuick.{quick_integer, quick_decimal}
use Rattle.rdf_tokens.proofs.quick.quick_number.Goals as goal

pub returns-then-is_integer_end : goal.returns-then-is_integer_end
returns-then-is_integer_end c =
    let bs = c.as_bytes-bytes.result.now in
    let v = c.as_bytes-bytes.ensures.value in
    let end = c.digits_end-end.result in
    subst (λ b. IsToken Turtle b end Integer) v
    (quick_integer bs c.args.from end (subst IsUtf8 (sym v) c.utf8.text) (subst (λ b. BeginsNumber b c.args.from) (sym v) c.requires)
    c.digits_end-end.ensures (sym c.is_integer_end.ensures ∙ c.if-is_integer_end.true))

pub returns-then-is_decimal_end : goal.returns-then-is_decimal_end
returns-then-is_decimal_end c =
    let bs = c.as_bytes-bytes.result.now in
    let v = c.as_bytes-bytes.ensures.value in
    let end = c.digits_end-end.result in
    let last = c.digits_end-last.result in
    subst (λ b. IsToken Turtle b last Decimal) v
    (quick_decimal bs c.args.from end (subst IsUtf8 (sym v) c.utf8.text)
    (subst (λ b. BeginsNumber b c.args.from) (sym v) c.requires) c.digits_end-end.ensures last
    (sym c.is_point.ensures ∙ c.if-not-is_point.false) c.digits_end-last.ensures (sym c.is_decimal_end.ensures ∙ c.if-is_decimal_end.true))
