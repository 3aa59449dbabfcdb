use Rattle.rdf_command.proofs.Prelude.{inl, inr}
use Rattle.rdf_command.proofs.BadIriLemmas.{refuses_with}
use Rattle.rdf_command.proofs.entry.start.Goals as goal

pub returns-in-Ok : goal.returns-in-Ok
returns-in-Ok g c = inl (c.in-Ok.task, c.in-Ok.ensures.task, c.run_task.ensures)

pub returns-in-Err : goal.returns-in-Err
returns-in-Err g c =
    let refused = c.in-Err.ensures.refused in
    inr (
      c.in-Err.refusal.fault,
      refused.0,
      refused.1,
      refuses_with
          (λ l. l.items) c.in-Err.refusal.lines refused.0 _ _ _ _ _ refused.2 c.refuse_task.ensures.status,
      c.refuse_task.ensures.goes,
    )
