use Rattle.rdf_tokens.proofs.Prelude.{◌-◌, ◌≤◌, length, FitsInString, RestsInQuotes}
use Rattle.rdf_tokens.proofs.escapes.parts_end.Given as goal

abbrev pub invariant-loop-next : goal.invariant-loop-next
invariant-loop-next l = record {
  within : l.at ≤ length l.bytes;
  rests : RestsInQuotes l.fn.quote l.bytes l.from l.at;
  fits : FitsInString l.bytes l.from l.at;
}

abbrev pub decreases-loop-next : goal.decreases-loop-next
decreases-loop-next l = length l.bytes - l.at
