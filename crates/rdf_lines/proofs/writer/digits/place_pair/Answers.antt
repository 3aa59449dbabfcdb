use Rattle.rdf_lines.proofs.DigitPairs.{pair_at}
use Rattle.rdf_lines.proofs.Prelude.{Placed-as}
use Rattle.rdf_lines.proofs.writer.digits.place_pair.Goals as goal

pub returns : goal.returns
returns c = Placed-as (pair_at c.args.n c.requires.0) c.place_two.ensures
