use Rattle.rdf_iri.proofs.Prelude.{take, AreBlanks}
use Rattle.rdf_iri.proofs.binding_lines.blanks_len.Given as goal

abbrev pub invariant-loop-i : goal.invariant-loop-i
invariant-loop-i l = AreBlanks (take l.i l.text)
