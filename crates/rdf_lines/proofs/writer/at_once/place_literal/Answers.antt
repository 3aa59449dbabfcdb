use Rattle.rdf_lines.proofs.Prelude.{sym, Placed-as, Placed-then}
use Rattle.rdf_lines.proofs.PlacedCharacters.{quoted_bytes}
use Rattle.rdf_lines.proofs.writer.at_once.place_literal.Goals as goal

pub returns-clause-placed : goal.returns-clause-placed
returns-clause-placed g c =
    let quoted = Placed-then c.place_byte-inside.ensures (Placed-then c.place_characters-close.ensures.placed c.place_byte-end.ensures) in
    Placed-then (Placed-as (sym (quoted_bytes c.args.literal.now.lexical.now)) quoted) c.place_tail.ensures.placed
