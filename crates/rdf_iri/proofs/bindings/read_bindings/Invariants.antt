use Rattle.rdf_iri.proofs.Prelude.{◌+◌, ◌≤◌, length, text_of}
use Rattle.rdf_iri.proofs.BindingFiles.{ReadSoFar, left}
use Rattle.rdf_iri.proofs.bindings.read_bindings.Given as goal

abbrev pub invariant-loop-rest : goal.invariant-loop-rest
invariant-loop-rest g l = record {
  read : ReadSoFar l.fn.limits l.bytes (text_of l.rest) l.line l.scope;
  few : l.line + left (text_of l.rest) ≤ length l.bytes + 1;
}

abbrev pub decreases-loop-rest : goal.decreases-loop-rest
decreases-loop-rest g l = left (text_of l.rest)
