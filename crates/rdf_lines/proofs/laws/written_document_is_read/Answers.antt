use Rattle.rdf_lines.proofs.WrittenLimits.{document_read_back}
use Rattle.rdf_lines.proofs.laws.written_document_is_read.Goals as goal

pub returns : goal.returns
returns c = document_read_back
