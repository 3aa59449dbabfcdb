use Rattle.rdf_tokens.proofs.Prelude.{sym, subst, ⊎_elim, Rests}
use Rattle.rdf_tokens.specs.declared.states.machine.State.TheVariants as state
use Rattle.rdf_tokens.proofs.RestStates.{rests_prefix, rests_local}
use Rattle.rdf_tokens.proofs.states.name.NameShape.rest_end.Goals as goal

pub returns-in-Prefix : goal.returns-in-Prefix
returns-in-Prefix c =
    let bs = c.as_bytes.result.now in
    let end = c.run_end.result in
    subst (λ bs. Rests (state.Name c.args.self) bs c.args.from end) c.as_bytes.ensures.value (⊎_elim
    (λ e. subst (λ s. Rests (state.Name s) bs c.args.from end) (sym e) (rests_prefix bs c.args.from end c.run_end.ensures))
    (λ e. subst (λ s. Rests (state.Name s) bs c.args.from end) (sym e) (rests_local bs c.args.from end c.run_end.ensures))
    c.in-Prefix.is)
