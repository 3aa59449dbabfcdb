-- A tag, by its parts and the byte after them.
use Rattle.rdf_tokens.proofs.Prelude.{◌≡◌, ◌∙◌, true, sym, subst, is_tag_end}
use Rattle.rdf_tokens.proofs.TagQuick.{whole_tag}
use Rattle.rdf_tokens.proofs.quick.quick_tag.Goals as goal

pub returns-then-is_tag_end : goal.returns-then-is_tag_end
returns-then-is_tag_end c d =
    let bs = c.args.text.now in
    let end = c.tag_parts_end-end.result in
    whole_tag d bs c.utf8.text c.requires end (c.tag_parts_end-end.ensures d)
    (subst (λ b. is_tag_end b end ≡ true) c.as_bytes.ensures.value (sym c.is_tag_end.ensures ∙ c.if-is_tag_end.true))
