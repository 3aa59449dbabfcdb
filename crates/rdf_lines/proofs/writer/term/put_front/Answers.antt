-- Three parts in turn.
use Rattle.rdf_lines.proofs.Prelude.{[], ◌∷◌}
use Rattle.rdf_lines.proofs.WrittenBytesLemmas.{on_ok, parts_appended}
use Rattle.rdf_lines.proofs.writer.term.put_front.Goals as goal

pub returns-clause-written : goal.returns-clause-written
returns-clause-written g c =
    on_ok c.put_part-2.result
    (parts_appended c.args.out.now.items (95 ∷ 58 ∷ []) c.args.word.now c.args.letter.now c.extend_from_slice.new.self.items
    c.put_part.new.out.items c.put_part-2.new.out.items
    c.in_ok-extend_from_slice.ensures.items c.in_ok-put_part.ensures.written)
    c.put_part-2.ensures.written
