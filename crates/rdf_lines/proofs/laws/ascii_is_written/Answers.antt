use Rattle.rdf_lines.proofs.FormReadBack.{form_ascii}
use Rattle.rdf_lines.proofs.laws.ascii_is_written.Goals as goal

pub returns : goal.returns
returns c = form_ascii
