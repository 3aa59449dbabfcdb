use Rattle.rdf_trig.proofs.Prelude.{rules}
use Rattle.rdf_trig.proofs.code.FrameStack.{stack_steps}
use Rattle.rdf_trig.proofs.state.State.open.Goals as goal

pub returns-clause-up : goal.returns-clause-up
returns-clause-up g c = search (rules, stack_steps)
