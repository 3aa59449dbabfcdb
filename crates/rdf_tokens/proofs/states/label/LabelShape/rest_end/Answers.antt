use Rattle.rdf_tokens.proofs.Prelude.{sym, subst, Rests}
use Rattle.rdf_tokens.specs.declared.states.machine.State.TheVariants as state
use Rattle.rdf_tokens.proofs.RestStates.{rests_label}
use Rattle.rdf_tokens.proofs.states.label.LabelShape.rest_end.Goals as goal

pub returns-in-Name : goal.returns-in-Name
returns-in-Name c =
    let text = c.as_bytes.ensures.value in
    subst (λ s. Rests (state.Label s) c.args.text.now c.args.from c.run_end.result) (sym c.in-Name.is)
    (subst (λ bs. Rests _ bs c.args.from c.run_end.result) text (rests_label c.as_bytes.result.now c.args.from c.run_end.result c.run_end.ensures))
