-- A label, by its run and the byte after it.
use Rattle.rdf_tokens.proofs.Prelude.{◌≡◌, ◌∙◌, true, sym, subst, IsUtf8, LabelNode, begins_label}
use Rattle.rdf_tokens.specs.Quick.{IsToken}
use Rattle.rdf_tokens.proofs.PlainQuick.{quick_label}
use Rattle.rdf_tokens.proofs.quick.quick_label.Goals as goal

pub returns-then-is_name_end : goal.returns-then-is_name_end
returns-then-is_name_end c d =
    let bs = c.as_bytes-bytes.result.now in
    let v = c.as_bytes-bytes.ensures.value in
    let end = c.run_end-end.result in
    subst (λ b. IsToken d b (end) LabelNode) v
    (quick_label d bs end (subst IsUtf8 (sym v) c.utf8.text) (subst (λ b. begins_label b ≡ true) (sym v) c.requires) c.run_end-end.ensures
    (sym c.is_name_end.ensures ∙ c.if-is_name_end.true))
