use Rattle.std.proofs.Common.{◌≤◌}
use Rattle.rdf_tests.proofs.memory.set_names.Given as goal

abbrev pub invariant-loop-prefix : goal.invariant-loop-prefix
invariant-loop-prefix g l = 1 ≤ l.scope.limits.token
