use Rattle.rdf_lines.proofs.Prelude.{rules}
use Rattle.rdf_lines.proofs.state.State.give.Goals as goal

pub returns-in-Ok-clause-ok : goal.returns-in-Ok-clause-ok
returns-in-Ok-clause-ok g c = search rules
