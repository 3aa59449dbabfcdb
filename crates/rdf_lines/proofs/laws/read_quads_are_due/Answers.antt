use Rattle.rdf_lines.proofs.AcceptedLemmas.{quads_due}
use Rattle.rdf_lines.proofs.laws.read_quads_are_due.Goals as goal

pub returns : goal.returns
returns c = quads_due
