use Rattle.rdf_terms.proofs.Prelude.{◌-◌, rules, length, take_rest}
use Rattle.rdf_terms.proofs.Places.{Placed-ends}
use Rattle.rdf_terms.proofs.place.place_ends.Goals as goal

pub returns : goal.returns
returns g c =
    let src = c.args.text.now in
    Placed-ends src g.row.N (search rules) c.requires.covers.0 c.requires.covers.1 c.place_chunk.ensures
    (rw (take_rest src (length src - g.row.N)) at c.place_chunk-2.ensures)
