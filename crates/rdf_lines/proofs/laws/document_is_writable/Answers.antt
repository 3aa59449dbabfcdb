use Rattle.rdf_lines.proofs.WellFormed.{document_writable}
use Rattle.rdf_lines.proofs.laws.document_is_writable.Goals as goal

pub returns : goal.returns
returns c = document_writable
