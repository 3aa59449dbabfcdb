use Rattle.rdf_trig.proofs.theorems.DocumentsRead.{documents_read}
use Rattle.rdf_trig.proofs.laws.documents_are_read.Goals as goal

pub returns : goal.returns
returns c = documents_read
