use Rattle.std.specs.Prelude.{◌-◌}
use Rattle.rdf_driver.proofs.Prelude.{number, KnowsNext}
use Rattle.rdf_driver.proofs.KindsLemmas.{AskedTo}
use Rattle.rdf_driver.proofs.expected.expected.Given as goal

abbrev pub invariant-kinds : goal.invariant-kinds
invariant-kinds g l = AskedTo (KnowsNext g.G.Grammar.words g.G.Foresees.trees l.fn.grammar) (number l.kind) l.kinds

abbrev pub decreases-kinds : goal.decreases-kinds
decreases-kinds g l = 30 - number l.kind
