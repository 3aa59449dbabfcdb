use Rattle.rdf_trig.proofs.Prelude.{rules}
use Rattle.rdf_trig.proofs.state.State.verb.Goals as goal

pub returns-clause-takes : goal.returns-clause-takes
returns-clause-takes g c = search rules

pub returns-clause-fits : goal.returns-clause-fits
returns-clause-fits g c = search rules
