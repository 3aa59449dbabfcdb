use Rattle.rdf_lines.proofs.AcceptedLemmas.{refused_none}
use Rattle.rdf_lines.proofs.laws.refused_is_no_document.Goals as goal

pub returns : goal.returns
returns c = refused_none
