use Rattle.rdf_tokens.proofs.Prelude.{sym, subst, Rests, RestsInLong, RestsInQuotes}
use Rattle.rdf_tokens.specs.declared.states.machine.State.TheVariants as state
use Rattle.rdf_tokens.proofs.states.text.TextShape.rest_end.Goals as goal

pub returns-in-Short : goal.returns-in-Short
returns-in-Short c =
    let end = c.string_end.result in
    subst (λ s. Rests (state.Text s) c.args.text.now c.args.from end) (sym c.in-Short.is)
    (subst (λ bs. RestsInQuotes c.in-Short.quote bs c.args.from end) c.as_bytes.ensures.value c.string_end.ensures.rests)

pub returns-in-Long : goal.returns-in-Long
returns-in-Long c =
    let end = c.long_end.result in
    subst (λ s. Rests (state.Text s) c.args.text.now c.args.from end) (sym c.in-Long.is)
    (subst (λ bs. RestsInLong c.in-Long.quote bs c.args.from end) c.as_bytes-in-Long.ensures.value c.long_end.ensures.rests)
