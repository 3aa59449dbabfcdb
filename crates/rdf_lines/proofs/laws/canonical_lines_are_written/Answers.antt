use Rattle.rdf_lines.proofs.WithoutCrs.{lines_written}
use Rattle.rdf_lines.proofs.laws.canonical_lines_are_written.Goals as goal

pub returns : goal.returns
returns c = lines_written
