use Rattle.rdf_read_back.proofs.RefusalLaws.{once}
use Rattle.rdf_read_back.proofs.laws.refused_once.Goals as goal

pub returns : goal.returns
returns c = once
