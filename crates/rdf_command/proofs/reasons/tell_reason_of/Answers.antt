use Rattle.rdf_command.proofs.Prelude.{◌∙◌, subst, ReportsOf}
use Rattle.rdf_command.proofs.reasons.tell_reason_of.Goals as goal

pub returns-in-Ok : goal.returns-in-Ok
returns-in-Ok g c =
    subst (λ text. ReportsOf c.args.name.now text (g.E.Drain.contents c.args.err.now) (g.E.Drain.contents c.tell_of.new.err)
    (g.E.Drain.has_failed c.tell_of.new.err))
    (c.as_slice.ensures.value ∙ c.in-Ok.ensures) c.tell_of.ensures
