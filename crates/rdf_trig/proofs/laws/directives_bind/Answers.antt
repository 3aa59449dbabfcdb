use Rattle.rdf_trig.proofs.trees.NamesLemmas.{binds_prefix}
use Rattle.rdf_trig.proofs.laws.directives_bind.Goals as goal

pub returns : goal.returns
returns c = binds_prefix
