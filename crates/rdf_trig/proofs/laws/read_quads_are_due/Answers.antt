use Rattle.rdf_trig.proofs.theorems.DocumentsRead.{quads_due}
use Rattle.rdf_trig.proofs.laws.read_quads_are_due.Goals as goal

pub returns : goal.returns
returns c = quads_due
