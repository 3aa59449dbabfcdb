use Rattle.rdf_lines.proofs.NodePrefixLemmas.{names_apart}
use Rattle.rdf_lines.proofs.laws.names_stay_apart.Goals as goal

pub returns : goal.returns
returns c = names_apart
