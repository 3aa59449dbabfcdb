-- A decimal, by its digits before and after the dot and the byte after them.
use Rattle.rdf_tokens.proofs.Prelude.{◌∙◌, inl, refl, sym, subst, IsUtf8, Turtle, Decimal, BeginsNumber}
use Rattle.rdf_tokens.specs.Quick.{IsToken}
use Rattle.rdf_tokens.proofs.NumberQuick.{quick_decimal}
use Rattle.rdf_tokens.proofs.peek.decimal_len.Goals as goal

pub returns-then-is_decimal_end : goal.returns-then-is_decimal_end
returns-then-is_decimal_end c =
    let bs = c.as_bytes-bytes.result.now in
    let v = c.as_bytes-bytes.ensures.value in
    let end = c.digits_end-end.result in
    let last = c.digits_end-last.result in
    subst (λ b. IsToken Turtle b last Decimal) v
    (quick_decimal bs 0 end (subst IsUtf8 (sym v) c.utf8.text) (subst (λ b. BeginsNumber b 0) (sym v)
    (record { inside = c.requires.some; digit = c.requires.digit; sign = inl refl })) c.digits_end-end.ensures last
    (sym c.is_point.ensures ∙ c.if-is_point.true) c.digits_end-last.ensures (sym c.is_decimal_end.ensures ∙ c.if-is_decimal_end.true))
