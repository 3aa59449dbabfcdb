-- Each letter leads back to the state.
use Rattle.rdf_tokens.proofs.Prelude.{◌+◌, arith, sym}
use Rattle.rdf_tokens.specs.declared.states.machine.State.TheVariants.{Name}
use Rattle.rdf_tokens.specs.declared.states.name.Name.TheVariants as name
use Rattle.rdf_tokens.proofs.LocalLemmas.{letter_in, letter_within, rests_in, rests_none}
use Rattle.rdf_tokens.proofs.RestLemmas.{rests-more}
use Rattle.rdf_tokens.proofs.local.more_letters_end.Goals as goal

pub loop-len-init : goal.loop-len-init
loop-len-init c = record {
  within = letter_within c.args.bytes.now c.args.from c.letter_len-len.result (sym c.letter_len-len.ensures) c.requires;
  rests = rests_none c.args.bytes.now c.args.from c.requires;
  next = c.letter_len-len.ensures;
}

pub loop-len-preserved : goal.loop-len-preserved
loop-len-preserved c =
    let bs = c.args.bytes.now in
    let i = c.loop-len.invariant in
    let at = c.loop-len.at in
    let mid = at + c.loop-len.len in
    let w = i.within in
    let one = letter_in bs at c.loop-len.len (sym i.next) (omega arith) c.loop-len-test.true in
    record {
      within = letter_within bs mid c.letter_len-len-in-loop-len.result (sym c.letter_len-len-in-loop-len.ensures) i.within;
      rests = rests-more (Name name.Local) bs c.args.from at mid i.rests (rests_in bs at mid one.1);
      next = c.letter_len-len-in-loop-len.ensures;
    }
