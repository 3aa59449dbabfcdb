-- A label, by its run and the byte after it.
use Rattle.rdf_tokens.proofs.Prelude.{◌∙◌, sym, subst, IsUtf8, Turtle, LabelNode}
use Rattle.rdf_tokens.specs.Quick.{IsToken}
use Rattle.rdf_tokens.proofs.PlainQuick.{quick_label}
use Rattle.rdf_tokens.proofs.peek.label_len.Goals as goal

pub returns-then-is_name_end : goal.returns-then-is_name_end
returns-then-is_name_end c =
    let bs = c.as_bytes-bytes.result.now in
    let v = c.as_bytes-bytes.ensures.value in
    let end = c.run_end-end.result in
    subst (λ b. IsToken Turtle b end LabelNode) v
    (quick_label Turtle bs end (subst IsUtf8 (sym v) c.utf8.text) (sym c.begins_label.ensures ∙ c.if-begins_label.true) c.run_end-end.ensures
    (sym c.is_name_end.ensures ∙ c.if-is_name_end.true))
