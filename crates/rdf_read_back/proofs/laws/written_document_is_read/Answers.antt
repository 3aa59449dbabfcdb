use Rattle.rdf_read_back.proofs.WrittenLimits.{document_read_back}
use Rattle.rdf_read_back.proofs.laws.written_document_is_read.Goals as goal

pub returns : goal.returns
returns c = document_read_back
