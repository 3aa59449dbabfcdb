use Rattle.rdf_read_back.proofs.OfConverting.{converted_read}
use Rattle.rdf_read_back.proofs.laws.converted_is_read.Goals as goal

pub returns : goal.returns
returns c = converted_read
