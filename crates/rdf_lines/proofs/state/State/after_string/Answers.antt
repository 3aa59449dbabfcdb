use Rattle.rdf_lines.proofs.Prelude.{rules}
use Rattle.rdf_lines.proofs.state.State.after_string.Goals as goal

pub returns-in-Carets-clause-ok : goal.returns-in-Carets-clause-ok
returns-in-Carets-clause-ok g c = search rules
