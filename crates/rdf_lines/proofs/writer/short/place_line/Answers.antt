use Rattle.rdf_lines.proofs.Prelude.{ap, sym, ◌∙◌, Placed, Placed-as, Placed-then, term_bytes, usual}
use Rattle.rdf_lines.specs.declared.form.Escapes.TheVariants.{Plain}
use Rattle.rdf_lines.proofs.EncodedLine.{literal_bytes}
use Rattle.rdf_lines.proofs.PlacedCharacters.{quoted_bytes}
use Rattle.rdf_lines.proofs.PlacedLines.{placed_at, short_line}
use Rattle.rdf_lines.proofs.writer.short.place_line.Goals as goal
use Rattle.rdf_lines.proofs.writer.short.place_line.Goals.{in-Iri, in-Node, in-Literal}

pub returns : goal.returns
returns c =
    let third = c.place_spaced-third in
    let object : Placed third.new.slot c.match-quad.slot third.result (term_bytes usual c.args.quad.now.object) c.match-quad.object = elim c.match-quad.branch [
      | in-Iri w ↦ placed_at w.slot-is w.object-is (Placed-as (sym (ap (term_bytes usual) w.in-Iri.is)) w.place_iri-object.ensures.placed)
      | in-Node w ↦ placed_at w.slot-is w.object-is (Placed-as (sym (ap (term_bytes usual) w.in-Node.is)) w.place_node-object.ensures.placed)
      | in-Literal w ↦
          let literal = w.in-Literal.literal in
          let text = Placed-then w.place_byte-inside.ensures (Placed-then w.place_characters-close.ensures.placed w.place_byte-tail.ensures) in
          let whole = Placed-then (Placed-as (sym (quoted_bytes literal.lexical.now)) text) w.place_tail-object.ensures.placed in
          placed_at w.slot-is w.object-is
          (Placed-as (sym (literal_bytes Plain literal.lexical.now literal.tail) ∙ sym (ap (term_bytes usual) w.in-Literal.is)) whole)
    ] in
    let terms = Placed-then (Placed-then c.place_subject-second.ensures.placed third.ensures.placed) (Placed-then object c.place_byte-fourth.ensures) in
    Placed-as (short_line c.args.form.now c.args.quad.now c.requires.short)
    (Placed-then (Placed-then terms c.place_graph-last.ensures.placed) c.place_two.ensures)
