use Rattle.rdf_lines.proofs.FormReadBack.{form_text_read}
use Rattle.rdf_lines.proofs.laws.written_text_is_read.Goals as goal

pub returns : goal.returns
returns c = form_text_read
