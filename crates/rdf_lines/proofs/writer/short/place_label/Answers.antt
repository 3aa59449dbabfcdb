use Rattle.rdf_lines.proofs.Prelude.{◌∷◌, ap, Placed-as, Placed-then}
use Rattle.rdf_lines.proofs.writer.short.place_label.Goals as goal

pub returns-clause-placed : goal.returns-clause-placed
returns-clause-placed c =
    Placed-as (ap (λ x. 95 ∷ 58 ∷ 110 ∷ x) c.as_bytes.ensures)
    (Placed-then (Placed-then c.place_two-name.ensures c.place_byte-begin.ensures) c.place_text.ensures)
