use Rattle.rdf_tokens.proofs.Prelude.{ap, ◌∙◌, blank, comment_after}
use Rattle.rdf_tokens.proofs.BlankLemmas.{blank-bytes, comment-bytes}
use Rattle.rdf_tokens.proofs.blank.blank_run.Goals as goal

pub returns-clause-len : goal.returns-clause-len
returns-clause-len c =
    c.blank_bytes.ensures.len ∙ (ap (blank c.args.dialect c.args.in_comment) c.as_bytes.ensures.value
    ∙ blank-bytes c.args.dialect c.args.in_comment c.args.text.now c.utf8.text)

pub returns-clause-comment : goal.returns-clause-comment
returns-clause-comment c =
    c.blank_bytes.ensures.comment ∙ (ap (comment_after c.args.dialect c.args.in_comment) c.as_bytes.ensures.value
    ∙ comment-bytes c.args.dialect c.args.in_comment c.args.text.now c.utf8.text)
