use Rattle.rdf_iri.proofs.Prelude.{take, Lacks}
use Rattle.rdf_iri.proofs.places.bytes_before.Given as goal

abbrev pub invariant-loop-i : goal.invariant-loop-i
invariant-loop-i l = Lacks l.mark (take l.i l.text)
