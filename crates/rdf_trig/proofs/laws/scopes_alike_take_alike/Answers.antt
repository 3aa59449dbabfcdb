use Rattle.rdf_trig.proofs.code.ScopeSizes.{scopes_alike}
use Rattle.rdf_trig.proofs.laws.scopes_alike_take_alike.Goals as goal

pub returns : goal.returns
returns c = scopes_alike
