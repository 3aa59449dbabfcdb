use Rattle.rdf_iri.proofs.Prelude.{◌≤◌, length, drop, Lacks}
use Rattle.rdf_iri.proofs.places.directory_len.Given as goal

abbrev pub invariant-loop-len : goal.invariant-loop-len
invariant-loop-len l = record { within : l.len ≤ length l.text; lacks : Lacks 47 (drop l.len l.text) }

abbrev pub decreases-loop-len : goal.decreases-loop-len
decreases-loop-len l = l.len
