use Rattle.rdf_trig.proofs.Prelude.{refl}
use Rattle.rdf_trig.proofs.state.State.look_up_name.Goals as goal

pub returns-clause-ok : goal.returns-clause-ok
returns-clause-ok g c = c.name_token.ensures.ok

pub returns-clause-fits : goal.returns-clause-fits
returns-clause-fits g c = c.name_token.ensures.fits

pub returns-clause-same : goal.returns-clause-same
returns-clause-same g c = refl
