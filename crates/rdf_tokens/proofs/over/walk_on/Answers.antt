-- The loop over the states: how far they came, and why it stops.
use Rattle.rdf_tokens.proofs.Prelude.{inl, inr, sym, ◌∙◌, arith, chars}
use Rattle.rdf_tokens.specs.Machine.{step}
use Rattle.rdf_tokens.specs.declared.states.machine.State.TheVariants.{Start}
use Rattle.rdf_tokens.proofs.ByteLemmas.{char-step, run-more}
use Rattle.rdf_tokens.proofs.OverLemmas.{few}
use Rattle.rdf_tokens.proofs.over.walk_on.Goals as goal

pub overflow_add-count : goal.overflow_add-count
overflow_add-count c = omega (arith, few c.args.text.now c.loop-count.at c.loop-count.count c.loop-count.invariant.here, c.loop-count.invariant.here.inside)

pub loop-count-preserved : goal.loop-count-preserved
loop-count-preserved c =
    let l = c.loop-count in
    let x = c.char_at-c in
    let bs = c.args.text.now in
    let p = char-step bs l.at l.count x.result.0 x.result.1 l.invariant.here x.ensures.is x.ensures.past x.ensures.fits in
    record {
      here = p.1;
      state = c.step-state.ensures ∙ run-more (step c.args.dialect) Start l.state (chars bs) _ l.count x.result.0 p.0 l.invariant.state;
      few = omega arith;
    }

pub returns-else-is_live-clause-stop : goal.returns-else-is_live-clause-stop
returns-else-is_live-clause-stop c = inr (inr (sym c.is_live.ensures ∙ c.if-is_live.false))

pub returns-else-at-text-clause-stop : goal.returns-else-at-text-clause-stop
returns-else-at-text-clause-stop c = inr (inl (let a = c.if-at-text.false in omega arith))

pub returns-after-loop-count-clause-stop : goal.returns-after-loop-count-clause-stop
returns-after-loop-count-clause-stop c = inl (let a = c.loop-count-test.false in omega arith)
