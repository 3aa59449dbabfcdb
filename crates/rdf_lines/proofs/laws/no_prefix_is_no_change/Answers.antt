use Rattle.rdf_lines.proofs.NodePrefixLemmas.{no_change}
use Rattle.rdf_lines.proofs.laws.no_prefix_is_no_change.Goals as goal

pub returns : goal.returns
returns c = no_change
