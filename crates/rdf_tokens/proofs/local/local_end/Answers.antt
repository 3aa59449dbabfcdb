-- Each part leads back to the state.
use Rattle.rdf_tokens.proofs.Prelude.{arith}
use Rattle.rdf_tokens.specs.declared.states.machine.State.TheVariants.{Name}
use Rattle.rdf_tokens.specs.declared.states.name.Name.TheVariants as name
use Rattle.rdf_tokens.proofs.LocalLemmas.{rests_none}
use Rattle.rdf_tokens.proofs.RestLemmas.{rests-more}
use Rattle.rdf_tokens.proofs.local.local_end.Goals as goal

pub loop-next-init : goal.loop-next-init
loop-next-init c = record { within = c.requires; rests = rests_none c.args.bytes.now c.args.from c.requires }

pub loop-next-preserved : goal.loop-next-preserved
loop-next-preserved c = record {
  within = c.in-Some.ensures.rests.within;
  rests = rests-more (Name name.Local) c.args.bytes.now c.args.from c.loop-next.at c.in-Some.next c.loop-next.invariant.rests c.in-Some.ensures.rests;
}

pub loop-next-smaller : goal.loop-next-smaller
loop-next-smaller c =
    let on = c.in-Some.ensures.on in
    let within = c.in-Some.ensures.rests.within in
    omega (arith, on, within)
