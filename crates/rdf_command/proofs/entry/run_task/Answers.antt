use Rattle.rdf_command.proofs.Prelude.{◌∙◌, ◌==◌, ap, length, sym}
use Rattle.rdf_command.proofs.SeveralLemmas.{one_ends, several_end}
use Rattle.rdf_command.proofs.entry.run_task.Goals as goal

pub returns-then-is_empty : goal.returns-then-is_empty
returns-then-is_empty g c =
    one_ends c.args.task.more.items _ _ _ _ c.args.task _ _ (ap (λ xs. length xs == 0) (sym c.as_slice.ensures.value)
    ∙ (sym c.is_empty.ensures ∙ c.if-is_empty.true)) c.run_alone.ensures

pub returns : goal.returns
returns g c =
    several_end c.args.task.more.items _ _ _ _ c.args.task _ (ap (λ xs. length xs == 0) (sym c.as_slice.ensures.value)
    ∙ (sym c.is_empty.ensures ∙ c.if-is_empty.false)) c.check_each.ensures
