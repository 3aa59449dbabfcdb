-- The bytes of an open comment are its characters.
use Rattle.rdf_tokens.proofs.Prelude.{◌≡◌, ◌∙◌, sym, subst, true, length, IsRun, is_comment_byte}
use Rattle.rdf_tokens.proofs.BlankLemmas.{blank-bytes, comment-bytes}
use Rattle.rdf_tokens.proofs.BlankRuns.{flat_comment, in_comment}
use Rattle.rdf_tokens.proofs.HeldLemmas.{blank_feeds}
use Rattle.rdf_tokens.proofs.blank.is_in_comment.Goals as goal
use Rattle.rdf_tokens.proofs.blank.is_in_comment.Goals.{After-has_no_line_end}

-- all bytes of the text are passed
run : (c : After-has_no_line_end) → c.has_no_line_end.result ≡ true → IsRun is_comment_byte c.args.text.now 0 (length c.args.text.now)
run c e = subst (λ b. IsRun is_comment_byte b 0 (length b)) c.as_bytes.ensures.value (c.has_no_line_end.ensures e)

pub returns-clause-len : goal.returns-clause-len
returns-clause-len c = λ d e. sym (blank-bytes d true c.args.text.now c.utf8.text) ∙ (in_comment c.args.text.now (run c e) d).0

pub returns-clause-comment : goal.returns-clause-comment
returns-clause-comment c = λ d e. sym (comment-bytes d true c.args.text.now c.utf8.text) ∙ (in_comment c.args.text.now (run c e) d).1

pub returns-clause-feeds : goal.returns-clause-feeds
returns-clause-feeds c = λ d e. blank_feeds d true c.args.text.now c.utf8.text (in_comment c.args.text.now (run c e) d).0
    ∙ flat_comment c.args.text.now (run c e)
