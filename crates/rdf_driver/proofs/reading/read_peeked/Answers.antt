-- The kind is the one that the arm names.
use Rattle.rdf_driver.proofs.Prelude.{rules}
use Rattle.rdf_driver.proofs.reading.read_peeked.Goals as goal

pub accept_peeked-requires-in-Comma-clause-hinted : goal.accept_peeked-requires-in-Comma-clause-hinted
accept_peeked-requires-in-Comma-clause-hinted g c = search rules
