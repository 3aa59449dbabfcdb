use Rattle.rdf_tokens.proofs.Prelude.{◌-◌, ◌≤◌, length, Dialect, IsTagTo}
use Rattle.rdf_tokens.proofs.quick.tag_parts_end.Given as goal

abbrev pub invariant-loop-next : goal.invariant-loop-next
invariant-loop-next l = record { within : l.end ≤ length l.bytes; tag : (d : Dialect) → IsTagTo d l.text l.end }

abbrev pub decreases-loop-next : goal.decreases-loop-next
decreases-loop-next l = length l.bytes - l.end
