use Rattle.rdf_read_back.proofs.RefusalLaws.{in_more}
use Rattle.rdf_read_back.proofs.laws.refused_in_more.Goals as goal

pub returns : goal.returns
returns c = in_more
