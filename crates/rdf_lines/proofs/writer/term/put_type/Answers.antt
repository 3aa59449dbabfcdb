-- What is appended comes after what stood there.
use Rattle.rdf_lines.proofs.Prelude.{on_err_weaker}
use Rattle.rdf_lines.proofs.WrittenBytesLemmas.{begins_with_front, on_err, begins_with_same}
use Rattle.rdf_lines.proofs.writer.term.put_type.Goals as goal

pub returns-in_err-extend_from_slice-clause-grown : goal.returns-in_err-extend_from_slice-clause-grown
returns-in_err-extend_from_slice-clause-grown g c = on_err _ (begins_with_same _ _ c.in_err-extend_from_slice.ensures.items)

pub returns-clause-grown : goal.returns-clause-grown
returns-clause-grown g c = on_err_weaker c.put_iri.result (begins_with_front _ _ _ _ c.in_ok-extend_from_slice.ensures.items) c.put_iri.ensures.grown
