use Rattle.rdf_lines.proofs.Prelude.{◌++◌, [], ◌∷◌, ap, sym, ◌∙◌, Placed-as, Placed-then}
use Rattle.rdf_lines.proofs.PlacedLines.{plain_iri_bytes}
use Rattle.rdf_lines.proofs.writer.at_once.place_iri.Goals as goal

pub returns-clause-placed : goal.returns-clause-placed
returns-clause-placed c =
    let text = ap (λ x. 60 ∷ x ++ 62 ∷ []) c.as_bytes.ensures in
    Placed-as (text ∙ sym (plain_iri_bytes c.args.iri)) (Placed-then c.place_byte-inside.ensures (Placed-then c.place_text-end.ensures c.place_byte.ensures))
