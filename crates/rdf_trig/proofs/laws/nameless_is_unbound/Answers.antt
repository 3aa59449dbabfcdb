use Rattle.rdf_trig.proofs.trees.NamesLemmas.{nameless_where}
use Rattle.rdf_trig.proofs.laws.nameless_is_unbound.Goals as goal

pub returns : goal.returns
returns c = nameless_where
