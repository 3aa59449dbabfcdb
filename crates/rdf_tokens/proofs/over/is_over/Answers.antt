-- A short text is never over the limit, and a long one is where its states or a spelling go past it.
use Rattle.rdf_tokens.proofs.Prelude.{◌||◌, sym, ap, ◌∙◌, arith, fixed, rows_of, fixed_over}
use Rattle.rdf_tokens.proofs.OverLemmas.{over-bytes, over-short}
use Rattle.rdf_tokens.proofs.over.is_over.Goals as goal

pub returns-then-text-limit-clause-over : goal.returns-then-text-limit-clause-over
returns-then-text-limit-clause-over c = sym (over-short c.args.dialect c.args.limit c.args.text.now c.utf8.text (omega arith))

pub returns-then-is_shaped_over-clause-over : goal.returns-then-is_shaped_over-clause-over
returns-then-is_shaped_over-clause-over c =
    c.if-is_shaped_over.true
    ∙ sym (over-bytes c.args.dialect c.args.limit c.args.text.now c.utf8.text
    ∙ ap (λ b. b || fixed_over (rows_of c.args.dialect fixed) c.args.limit c.args.text.now) (sym c.is_shaped_over.ensures.over ∙ c.if-is_shaped_over.true))

pub returns-else-is_shaped_over-clause-over : goal.returns-else-is_shaped_over-clause-over
returns-else-is_shaped_over-clause-over c =
    c.is_fixed_over.ensures ∙ (ap (fixed_over (rows_of c.args.dialect fixed) c.args.limit) c.as_bytes.ensures.value
    ∙ sym (over-bytes c.args.dialect c.args.limit c.args.text.now c.utf8.text
    ∙ ap (λ b. b || fixed_over (rows_of c.args.dialect fixed) c.args.limit c.args.text.now) (sym c.is_shaped_over.ensures.over ∙ c.if-is_shaped_over.false)))
