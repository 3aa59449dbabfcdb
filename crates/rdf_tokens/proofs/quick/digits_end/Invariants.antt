use Rattle.rdf_tokens.proofs.Prelude.{◌-◌, ◌≤◌, length, is_digit, PassBetween}
use Rattle.rdf_tokens.proofs.quick.digits_end.Given as goal

abbrev pub invariant-loop-at : goal.invariant-loop-at
invariant-loop-at l = record { from : l.from ≤ l.at; within : l.at ≤ length l.bytes; pass : PassBetween is_digit l.bytes l.from l.at }

abbrev pub decreases-loop-at : goal.decreases-loop-at
decreases-loop-at l = length l.bytes - l.at
