use Rattle.rdf_stream.proofs.Prelude.{rules}
use Rattle.rdf_stream.proofs.devices.InSource.failed.Goals as goal

pub returns : goal.returns
returns g c = search rules
