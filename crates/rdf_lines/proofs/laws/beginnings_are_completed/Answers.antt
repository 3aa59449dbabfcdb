use Rattle.rdf_lines.proofs.Viable.{beginnings_completed}
use Rattle.rdf_lines.proofs.laws.beginnings_are_completed.Goals as goal

pub returns : goal.returns
returns c = beginnings_completed
