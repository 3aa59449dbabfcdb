use Rattle.rdf_tokens.proofs.Prelude.{◌-◌, ◌≤◌, length, FitsInIri, RestsInIri}
use Rattle.rdf_tokens.proofs.escapes.iri_end.Given as goal

abbrev pub invariant-loop-next : goal.invariant-loop-next
invariant-loop-next l = record {
  within : l.at ≤ length l.bytes;
  rests : RestsInIri l.bytes l.from l.at;
  fits : FitsInIri l.bytes l.from l.at;
}

abbrev pub decreases-loop-next : goal.decreases-loop-next
decreases-loop-next l = length l.bytes - l.at
