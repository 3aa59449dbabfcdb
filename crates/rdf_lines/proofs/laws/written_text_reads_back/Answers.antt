use Rattle.rdf_lines.proofs.FormReadBack.{form_reads_back}
use Rattle.rdf_lines.proofs.laws.written_text_reads_back.Goals as goal

pub returns : goal.returns
returns c = form_reads_back
