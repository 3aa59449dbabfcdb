use Rattle.rdf_lines.proofs.AcceptedLemmas.{documents_read}
use Rattle.rdf_lines.proofs.laws.documents_are_read.Goals as goal

pub returns : goal.returns
returns c = documents_read
