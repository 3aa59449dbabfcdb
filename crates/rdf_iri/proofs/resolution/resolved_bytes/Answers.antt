use Rattle.rdf_iri.proofs.Prelude.{arith}
use Rattle.rdf_iri.proofs.resolution.resolved_bytes.Goals as goal

pub overflow_add-base : goal.overflow_add-base
overflow_add-base g c = omega arith

pub overflow_add-base-2 : goal.overflow_add-base-2
overflow_add-base-2 g c = omega arith
