-- Each part leads back to the state inside.
use Rattle.rdf_tokens.proofs.Prelude.{subst, arith, IsRun, goes_over}
use Rattle.rdf_tokens.specs.declared.states.machine.State.TheVariants.{Text}
use Rattle.rdf_tokens.specs.declared.states.text.Text.TheVariants as text
use Rattle.rdf_tokens.proofs.FitEscapes.{fits_run, fits-more, long_slash}
use Rattle.rdf_tokens.proofs.RestLemmas.{rests-more}
use Rattle.rdf_tokens.proofs.RestStates.{rests_long}
use Rattle.rdf_tokens.proofs.quick.inside_end.Goals as goal

pub loop-next-init : goal.loop-next-init
loop-next-init c =
    let q = c.args.quote in
    let bs = c.args.bytes.now in
    let end = c.run_end-at.result in
    let run = subst (λ r. IsRun (goes_over r) bs c.args.from end) c.long_run.ensures c.run_end-at.ensures in
    record { within = run.within; rests = rests_long q bs c.args.from end run; fits = fits_run _ bs c.args.from end (long_slash q) run }

pub loop-next-preserved : goal.loop-next-preserved
loop-next-preserved c =
    let bs = c.args.bytes.now in
    let from = c.args.from in
    let at = c.loop-next.at in
    let next = c.in-Some.next in
    let part = c.in-Some.ensures in
    let i = c.loop-next.invariant in
    record {
      within = part.fits.within;
      rests = rests-more (Text (text.Long c.args.quote)) bs from at next i.rests part.rests;
      fits = fits-more bs from at next i.fits part.fits;
    }

pub loop-next-smaller : goal.loop-next-smaller
loop-next-smaller c =
    let on = c.in-Some.ensures.on in
    let within = c.in-Some.ensures.fits.within in
    omega (arith, on, within)
