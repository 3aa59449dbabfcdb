-- What was passed leads back to the state, and the length is that of the next letter.
use Rattle.rdf_tokens.proofs.Prelude.{◌-◌, ◌+◌, ◌≡◌, ◌≤◌, length, RestsInLocal, letter_len}
use Rattle.rdf_tokens.proofs.local.more_letters_end.Given as goal

abbrev pub invariant-loop-len : goal.invariant-loop-len
invariant-loop-len l = record {
  within : l.at + l.len ≤ length l.bytes;
  rests : RestsInLocal l.bytes l.from l.at;
  next : l.len ≡ letter_len l.bytes l.at;
}

abbrev pub decreases-loop-len : goal.decreases-loop-len
decreases-loop-len l = length l.bytes - l.at
