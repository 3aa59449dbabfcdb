use Rattle.rdf_read_back.proofs.WrittenLimits.{document_writable}
use Rattle.rdf_read_back.proofs.laws.document_is_writable.Goals as goal

pub returns : goal.returns
returns c = document_writable
