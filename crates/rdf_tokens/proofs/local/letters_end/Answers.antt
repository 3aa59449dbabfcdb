-- A letter, by its length, and those after it.
use Rattle.rdf_tokens.proofs.Prelude.{◌+◌, arith, sym}
use Rattle.rdf_tokens.proofs.LocalLemmas.{leads_on, letter_in, letter_within}
use Rattle.rdf_tokens.proofs.local.letters_end.Goals as goal

pub returns : goal.returns
returns c =
    let bs = c.args.bytes.now in
    let len = c.letter_len-len.result in
    let one = letter_in bs c.args.at len (sym c.letter_len-len.ensures) c.requires (let some = c.if-len-eq0.false in omega arith) in
    leads_on bs c.args.at (c.args.at + len) c.more_letters_end.result one c.more_letters_end.ensures

pub more_letters_end-requires : goal.more_letters_end-requires
more_letters_end-requires c = letter_within c.args.bytes.now c.args.at c.letter_len-len.result (sym c.letter_len-len.ensures) c.requires
