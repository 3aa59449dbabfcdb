-- At no place that was passed one begins.
use Rattle.rdf_diagnostics.proofs.Prelude.{◌≡◌, drop, has_surrogate}
use Rattle.rdf_diagnostics.proofs.signs.has_surrogate.Given as goal

abbrev pub invariant-loop-i : goal.invariant-loop-i
invariant-loop-i l = has_surrogate (drop l.i l.after) ≡ has_surrogate l.after
