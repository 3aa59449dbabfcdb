use Rattle.rdf_diagnostics.proofs.Prelude.{◌∙◌}
use Rattle.rdf_diagnostics.proofs.CausesLemmas.{pass_row}
use Rattle.rdf_diagnostics.proofs.causes.first.Goals as goal

pub loop-row-preserved : goal.loop-row-preserved
loop-row-preserved c = pass_row c.args.rows.now c.loop-row.row-index c.loop-row-test.true c.if-is_some.ensures ∙ c.loop-row.invariant
