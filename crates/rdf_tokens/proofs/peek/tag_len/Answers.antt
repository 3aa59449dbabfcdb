-- The tag is one in both dialects.
use Rattle.rdf_tokens.proofs.Prelude.{rules, Turtle, IsQuick}
use Rattle.rdf_tokens.proofs.peek.tag_len.Goals as goal

pub returns-in-Some-LangTag : goal.returns-in-Some-LangTag
returns-in-Some-LangTag c =
    let is : IsQuick Turtle c.args.text.now c.quick_tag-quick.result.len c.quick_tag-quick.result.kind = c.quick_tag-quick.ensures Turtle in
    search (rules, is)
