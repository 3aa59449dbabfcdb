use Rattle.rdf_command.proofs.Prelude.{refl}
use Rattle.rdf_command.proofs.AsideLemmas.{aside_live}
use Rattle.rdf_command.proofs.asides.skip_in_check.Goals as goal

pub returns : goal.returns
returns g c = (_, refl, refl, aside_live _ _ _ _ _ _ _ _ _ refl c.skip_onto.ensures)
