-- The rows that were passed have no cause.
use Rattle.rdf_diagnostics.proofs.Prelude.{◌≡◌, drop, first}
use Rattle.rdf_diagnostics.proofs.causes.first.Given as goal

abbrev pub invariant-loop-row : goal.invariant-loop-row
invariant-loop-row l = first (drop l.row-index l.rows) ≡ first l.rows
