use Rattle.rdf_diagnostics.proofs.Prelude.{◌∙◌, sym}
use Rattle.rdf_diagnostics.proofs.SignsLemmas.{pass_surrogate}
use Rattle.rdf_diagnostics.proofs.signs.has_surrogate.Goals as goal

pub loop-i-preserved : goal.loop-i-preserved
loop-i-preserved c =
    pass_surrogate c.args.after.now c.loop-i.i c.loop-i-test.true (sym c.is_surrogate.ensures ∙ c.if-is_surrogate.false) ∙ c.loop-i.invariant
