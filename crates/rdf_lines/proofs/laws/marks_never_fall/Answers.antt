use Rattle.rdf_lines.proofs.Due.{never_fall}
use Rattle.rdf_lines.proofs.laws.marks_never_fall.Goals as goal

pub returns : goal.returns
returns c = never_fall
