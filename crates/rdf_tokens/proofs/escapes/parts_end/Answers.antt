-- Each escape, and the run after it, lead back to the state within the string.
use Rattle.rdf_tokens.proofs.Prelude.{ap, subst, ◌∙◌, arith, IsRun, goes_over, IsEscapeThen}
use Rattle.rdf_tokens.specs.declared.states.machine.State.TheVariants.{Text}
use Rattle.rdf_tokens.specs.declared.states.text.Text.TheVariants as text
use Rattle.rdf_tokens.proofs.FitEscapes.{fits_run, fits_then, fits-more, short_slash}
use Rattle.rdf_tokens.proofs.RestEscapes.{escape_on, short_then}
use Rattle.rdf_tokens.proofs.RestLemmas.{rests-more}
use Rattle.rdf_tokens.proofs.RestStates.{rests_short}
use Rattle.rdf_tokens.proofs.escapes.parts_end.Goals as goal

pub loop-next-init : goal.loop-next-init
loop-next-init c =
    let q = c.args.quote in
    let bs = c.args.bytes.now in
    let end = c.run_end-at.result in
    let run = subst (λ r. IsRun (goes_over r) bs c.args.from end) c.short_run-run.ensures c.run_end-at.ensures in
    record { within = run.within; rests = rests_short q bs c.args.from end run; fits = fits_run _ bs c.args.from end (short_slash q) run }

pub escape_end-requires-clause-backslash : goal.escape_end-requires-clause-backslash
escape_end-requires-clause-backslash c = ap (λ r. goes_over r 92) c.short_run-run.ensures ∙ short_slash c.args.quote

pub loop-next-preserved : goal.loop-next-preserved
loop-next-preserved c =
    let q = c.args.quote in
    let bs = c.args.bytes.now in
    let from = c.args.from in
    let at = c.loop-next.at in
    let next = c.in-Some.next in
    let x = subst (λ r. IsEscapeThen r bs at next) c.short_run-run.ensures c.in-Some.ensures in
    let i = c.loop-next.invariant in
    record {
      within = x.run.within;
      rests = rests-more (Text (text.Short q)) bs from at next i.rests (short_then q bs at next x);
      fits = fits-more bs from at next i.fits (fits_then _ bs at next (short_slash q) x);
    }

pub loop-next-smaller : goal.loop-next-smaller
loop-next-smaller c =
    let on = escape_on c.short_run-run.result c.args.bytes.now c.loop-next.at c.in-Some.next c.in-Some.ensures in
    omega (arith, on, c.in-Some.ensures.run.within)
