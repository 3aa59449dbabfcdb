use Rattle.rdf_tokens.proofs.Prelude.{◌-◌, ◌≤◌, length, PassBetween, is_prefix_byte}
use Rattle.rdf_tokens.proofs.front.prefix_end.Given as goal

abbrev pub invariant-loop-at : goal.invariant-loop-at
invariant-loop-at l = record { within : l.at ≤ length l.bytes; pass : PassBetween is_prefix_byte l.bytes 0 l.at }

abbrev pub decreases-loop-at : goal.decreases-loop-at
decreases-loop-at l = length l.bytes - l.at
