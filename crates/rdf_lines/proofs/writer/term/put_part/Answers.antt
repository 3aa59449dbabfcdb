use Rattle.rdf_lines.proofs.Prelude.{length, sym, ◌∙◌, eqb-true}
use Rattle.rdf_lines.proofs.WrittenBytesLemmas.{none_appended}
use Rattle.rdf_lines.proofs.writer.term.put_part.Goals as goal

pub returns-then-is_empty-clause-written : goal.returns-then-is_empty-clause-written
returns-then-is_empty-clause-written g c = none_appended _ c.args.text.now (eqb-true (length c.args.text.now) 0 (sym c.is_empty.ensures ∙ c.if-is_empty.true))
