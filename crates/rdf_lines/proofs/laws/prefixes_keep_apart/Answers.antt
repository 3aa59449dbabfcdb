use Rattle.rdf_lines.proofs.NodePrefixLemmas.{forms_apart}
use Rattle.rdf_lines.proofs.laws.prefixes_keep_apart.Goals as goal

pub returns : goal.returns
returns c = forms_apart
