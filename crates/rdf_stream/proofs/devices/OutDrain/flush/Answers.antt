use Rattle.rdf_stream.proofs.Prelude.{ap, Written}
use Rattle.rdf_stream.proofs.devices.OutDrain.flush.Goals as goal

pub returns-in-Err-clause-flushed : goal.returns-in-Err-clause-flushed
returns-in-Err-clause-flushed g c = ap (λ (s : Written). s.is_flushed) c.fail.ensures
