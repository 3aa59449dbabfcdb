use Rattle.rdf_lines.proofs.SplitLemmas.{good_read}
use Rattle.rdf_lines.proofs.laws.good_lines_are_read.Goals as goal

pub returns : goal.returns
returns c = good_read
