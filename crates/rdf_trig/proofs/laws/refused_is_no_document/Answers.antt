use Rattle.rdf_trig.proofs.theorems.DocumentsRead.{refused_no_document}
use Rattle.rdf_trig.proofs.laws.refused_is_no_document.Goals as goal

pub returns : goal.returns
returns c = refused_no_document
