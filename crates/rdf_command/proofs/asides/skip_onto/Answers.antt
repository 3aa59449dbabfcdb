use Rattle.rdf_command.proofs.Prelude.{inr}
use Rattle.rdf_command.proofs.asides.skip_onto.Goals as goal

pub returns-in-Err : goal.returns-in-Err
returns-in-Err g c = inr c.in-Err.ensures.none
