use Rattle.rdf_lines.proofs.Prelude.{refl}
use Rattle.rdf_lines.proofs.prefix.NodePrefixView.as_str.Goals as goal

pub returns : goal.returns
returns c = refl
