-- Runs and escapes of allowed characters lead back to the state within the IRI, and have a meaning.
use Rattle.rdf_tokens.proofs.Prelude.{arith}
use Rattle.rdf_tokens.specs.declared.states.iri.Iri.TheVariants as iri_state
use Rattle.rdf_tokens.specs.declared.states.machine.State.TheVariants as state
use Rattle.rdf_tokens.proofs.FitEscapes.{fits_iri_run, fits_iri_uchar, fits-more}
use Rattle.rdf_tokens.proofs.RestEscapes.{rests_uchar_in_iri}
use Rattle.rdf_tokens.proofs.RestLemmas.{rests-more}
use Rattle.rdf_tokens.proofs.RestStates.{rests_iri}
use Rattle.rdf_tokens.proofs.escapes.iri_end.Goals as goal

pub loop-next-init : goal.loop-next-init
loop-next-init c =
    let bs = c.args.bytes.now in
    let run = c.run_end-at.ensures in
    record {
      within = run.within;
      rests = rests_iri bs c.args.from c.run_end-at.result run;
      fits = fits_iri_run bs c.args.from c.run_end-at.result (λ k. omega (arith, c.type_inv.bytes k)) run;
    }

pub loop-next-preserved : goal.loop-next-preserved
loop-next-preserved c =
    let bs = c.args.bytes.now in
    let from = c.args.from in
    let at = c.loop-next.at in
    let next = c.in-Some.next in
    let end = c.plain_end-at.result in
    let run = c.plain_end-at.ensures in
    let escape = c.in-Some.ensures in
    let before = c.loop-next.invariant in
    let inside = state.Iri iri_state.Inside in
    record {
      within = run.within;
      rests = rests-more inside bs from at end before.rests
          (rests-more inside bs at next end (rests_uchar_in_iri bs at next escape.uchar) (rests_iri bs next end run));
      fits = fits-more bs from at end before.fits (fits-more bs at next end (fits_iri_uchar bs at next escape)
          (fits_iri_run bs next end (λ k. omega (arith, c.type_inv.bytes k)) run));
    }
