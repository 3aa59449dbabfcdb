use Rattle.rdf_lines.proofs.CanonicalLines.{lines_read}
use Rattle.rdf_lines.proofs.laws.canonical_lines_are_read.Goals as goal

pub returns : goal.returns
returns c = lines_read
