use Rattle.rdf_terms.proofs.Prelude.{◌≡◌, ◌-◌, ◌≤◌, length, drop, has_scheme, scheme_goes_on}
use Rattle.rdf_terms.proofs.classes.begins_scheme.Given as goal

abbrev pub invariant-loop-at : goal.invariant-loop-at
invariant-loop-at l = record { within : l.at ≤ length l.bytes; same : has_scheme l.bytes ≡ scheme_goes_on (drop l.at l.bytes) }

abbrev pub decreases-loop-at : goal.decreases-loop-at
decreases-loop-at l = length l.bytes - l.at
