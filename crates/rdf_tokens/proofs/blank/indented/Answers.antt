-- The bytes of the white space are its characters.
use Rattle.rdf_tokens.proofs.Prelude.{◌∙◌, sym, ap, ◌==◌, false, take, count_by, Turtle, blank, comment_after}
use Rattle.rdf_tokens.proofs.BlankLemmas.{blank-bytes, comment-bytes}
use Rattle.rdf_tokens.proofs.HeldLemmas.{blank_feeds}
use Rattle.rdf_tokens.proofs.blank.indented.Goals as goal

pub returns-clause-len : goal.returns-clause-len
returns-clause-len c = λ e.
    sym (ap (blank Turtle false) c.as_bytes.ensures.value ∙ blank-bytes Turtle false c.args.text.now c.utf8.text) ∙ (c.indented_bytes.ensures e).0

pub returns-clause-comment : goal.returns-clause-comment
returns-clause-comment c = λ e.
    sym (ap (comment_after Turtle false) c.as_bytes.ensures.value ∙ comment-bytes Turtle false c.args.text.now c.utf8.text) ∙ (c.indented_bytes.ensures e).1

pub returns-clause-feeds : goal.returns-clause-feeds
returns-clause-feeds c = λ e.
    let v = c.as_bytes.ensures.value in
    let n = c.indented_bytes.result.len in
    blank_feeds Turtle false c.args.text.now c.utf8.text (ap (blank Turtle false) (sym v) ∙ (c.indented_bytes.ensures e).0)
    ∙ (ap (λ b. count_by (λ x. x == 10) (take n b)) (sym v) ∙ (c.indented_bytes.ensures e).2)
