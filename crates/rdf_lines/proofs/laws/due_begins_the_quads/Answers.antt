use Rattle.rdf_lines.proofs.SettledLemmas.{due_begins}
use Rattle.rdf_lines.proofs.laws.due_begins_the_quads.Goals as goal

pub returns : goal.returns
returns c = due_begins
