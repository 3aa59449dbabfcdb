use Rattle.rdf_lines.proofs.Prelude.{Placed-then}
use Rattle.rdf_lines.proofs.writer.at_once.place_iris.Goals as goal

pub returns : goal.returns
returns c =
    let terms = Placed-then (Placed-then c.place_spaced-second.ensures.placed c.place_spaced-third.ensures.placed) c.place_spaced-last.ensures.placed in
    Placed-then terms c.place_two.ensures
