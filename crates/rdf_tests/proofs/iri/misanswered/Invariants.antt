use Rattle.std.proofs.Common.{◌≤◌}
use Rattle.rdf_tests.proofs.iri.misanswered.Given as goal

abbrev pub invariant-loop-i : goal.invariant-loop-i
invariant-loop-i l = 1 ≤ l.scope.limits.token
