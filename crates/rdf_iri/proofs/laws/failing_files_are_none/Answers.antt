use Rattle.rdf_iri.proofs.BindingLaws.{failing_files}
use Rattle.rdf_iri.proofs.laws.failing_files_are_none.Goals as goal

pub returns : goal.returns
returns c = failing_files
