use Rattle.std.proofs.Common.{◌≤◌}
use Rattle.rdf_tests.proofs.tokens.take_all.Given as goal

abbrev pub invariant-loop-at : goal.invariant-loop-at
invariant-loop-at l = l.from ≤ l.at
