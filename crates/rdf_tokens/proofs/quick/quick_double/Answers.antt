-- A double, by the end of its digits, its exponent's sign and digits, and the byte after them.
use Rattle.rdf_tokens.proofs.Prelude.{◌∙◌, sym, subst, IsUtf8, Turtle, BeginsNumber, IsMantissa}
use Rattle.rdf_terms.specs.declared.kind.Kind.TheVariants.{Double}
use Rattle.rdf_tokens.specs.Quick.{IsToken}
use Rattle.rdf_tokens.proofs.NumberQuick.{quick_double}
use Rattle.rdf_tokens.proofs.quick.quick_double.Goals as goal

pub returns-then-is_double_end : goal.returns-then-is_double_end
returns-then-is_double_end c =
    let bs = c.as_bytes-bytes.result.now in
    let v = c.as_bytes-bytes.ensures.value in
    let end = c.digits_end-end.result in
    subst (λ b. IsToken Turtle b end Double) v
    (quick_double bs c.args.from c.args.at c.after_sign-first.result end (subst IsUtf8 (sym v) c.utf8.text)
    (subst (λ b. BeginsNumber b c.args.from) (sym v) c.requires.begins)
    (subst (λ b. IsMantissa b c.args.from c.args.at) (sym v) c.requires.mantissa) c.after_sign-first.ensures.value
    (sym c.is_exponent.ensures ∙ c.if-is_exponent.true) c.digits_end-end.ensures
    (sym c.is_double_end.ensures ∙ c.if-is_double_end.true))
