-- An integer, by its digits and the byte after them.
use Rattle.rdf_tokens.proofs.Prelude.{◌∙◌, inl, refl, sym, subst, IsUtf8, Turtle, Integer, BeginsNumber}
use Rattle.rdf_tokens.specs.Quick.{IsToken}
use Rattle.rdf_tokens.proofs.NumberQuick.{quick_integer}
use Rattle.rdf_tokens.proofs.peek.integer_len.Goals as goal

pub returns-then-is_integer_end : goal.returns-then-is_integer_end
returns-then-is_integer_end c =
    let bs = c.as_bytes-bytes.result.now in
    let v = c.as_bytes-bytes.ensures.value in
    let end = c.digits_end-end.result in
    subst (λ b. IsToken Turtle b end Integer) v
    (quick_integer bs 0 end (subst IsUtf8 (sym v) c.utf8.text)
    (subst (λ b. BeginsNumber b 0) (sym v) (record { inside = c.requires.some; digit = c.requires.digit; sign = inl refl }))
    c.digits_end-end.ensures (sym c.is_integer_end.ensures ∙ c.if-is_integer_end.true))
