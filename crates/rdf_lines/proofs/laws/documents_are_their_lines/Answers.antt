use Rattle.rdf_lines.proofs.SplitLemmas.{documents_lines}
use Rattle.rdf_lines.proofs.laws.documents_are_their_lines.Goals as goal

pub returns : goal.returns
returns c = documents_lines
