use Rattle.rdf_tokens.proofs.Prelude.{◌-◌, ◌≤◌, length, PassBetween}
use Rattle.rdf_terms.specs.Classes.{is_letter}
use Rattle.rdf_tokens.proofs.quick.letters_end.Given as goal

abbrev pub invariant-loop-at : goal.invariant-loop-at
invariant-loop-at l = record { from : l.from ≤ l.at; within : l.at ≤ length l.bytes; pass : PassBetween is_letter l.bytes l.from l.at }

abbrev pub decreases-loop-at : goal.decreases-loop-at
decreases-loop-at l = length l.bytes - l.at
