use Rattle.rdf_tokens.proofs.Prelude.{◌-◌, length, None, with_length, Reached}
use Rattle.rdf_tokens.proofs.front.front_from.Given as goal

abbrev pub invariant-loop-at : goal.invariant-loop-at
invariant-loop-at g l = Reached l.dialect l.text l.at (g.S.Shape.whole l.state) (with_length l.len l.kind None)

abbrev pub decreases-loop-at : goal.decreases-loop-at
decreases-loop-at g l = length l.text - l.at
