use Rattle.rdf_stream.proofs.Prelude.{refl}
use Rattle.rdf_stream.proofs.messages.read_failed.Goals as goal

pub returns : goal.returns
returns c = refl
