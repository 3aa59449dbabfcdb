-- One byte of white space is one of the characters.
use Rattle.rdf_tokens.proofs.Prelude.{◌∙◌, sym, ap, ◌==◌, false, take, count_by, blank, comment_after}
use Rattle.rdf_tokens.proofs.BlankLemmas.{blank-bytes, comment-bytes}
use Rattle.rdf_tokens.proofs.HeldLemmas.{blank_feeds}
use Rattle.rdf_tokens.proofs.blank.is_one.Goals as goal

pub returns-clause-len : goal.returns-clause-len
returns-clause-len c = λ e.
    sym (ap (blank c.args.dialect false) c.as_bytes.ensures.value ∙ blank-bytes c.args.dialect false c.args.text.now c.utf8.text) ∙ c.is_one_byte.ensures.len e

pub returns-clause-comment : goal.returns-clause-comment
returns-clause-comment c = λ e.
    sym (ap (comment_after c.args.dialect false) c.as_bytes.ensures.value ∙ comment-bytes c.args.dialect false c.args.text.now c.utf8.text)
    ∙ c.is_one_byte.ensures.comment e

pub returns-clause-feeds : goal.returns-clause-feeds
returns-clause-feeds c = λ e.
    let v = c.as_bytes.ensures.value in
    blank_feeds c.args.dialect false c.args.text.now c.utf8.text (ap (blank c.args.dialect false) (sym v) ∙ c.is_one_byte.ensures.len e)
    ∙ (ap (λ b. count_by (λ x. x == 10) (take 1 b)) (sym v) ∙ c.is_one_byte.ensures.feeds e)
