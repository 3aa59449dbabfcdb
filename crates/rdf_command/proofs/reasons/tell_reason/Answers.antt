use Rattle.rdf_command.proofs.Prelude.{inr}
use Rattle.rdf_command.proofs.reasons.tell_reason.Goals as goal

pub returns-in-Err : goal.returns-in-Err
returns-in-Err g c = inr c.tell_bytes-in-Err.ensures
