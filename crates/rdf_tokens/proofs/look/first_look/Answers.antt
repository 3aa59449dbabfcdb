-- A token that is too long, or one that the first bytes settle, is the step whatever comes after the text.
use Rattle.rdf_tokens.proofs.Prelude.{sym, ◌∙◌, subst, chars, IsQuick}
use Rattle.rdf_tokens.proofs.LookLemmas.{step-over, token-look}
use Rattle.rdf_tokens.proofs.look.first_look.Goals as goal

pub returns-then-is_over-clause-look : goal.returns-then-is_over-clause-look
returns-then-is_over-clause-look c = λ t. step-over c.args.dialect c.args.limit t (chars c.args.text.now) (sym c.is_over.ensures.over ∙ c.if-is_over.true)

pub returns-in-Some-clause-look : goal.returns-in-Some-clause-look
returns-in-Some-clause-look c = λ t.
    let d = c.args.dialect in
    let bs = c.args.text.now in
    let n = c.quick_front-quick.result.len in
    token-look d c.args.limit t bs n c.in-Some.kind c.utf8.text (sym c.is_over.ensures.over ∙ c.if-is_over.false)
    (subst (IsQuick d bs n) c.in-Some.is c.quick_front-quick.ensures)
