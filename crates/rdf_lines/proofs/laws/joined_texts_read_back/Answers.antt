use Rattle.rdf_lines.proofs.FormReadBack.{joined_read_back}
use Rattle.rdf_lines.proofs.laws.joined_texts_read_back.Goals as goal

pub returns : goal.returns
returns c = joined_read_back
