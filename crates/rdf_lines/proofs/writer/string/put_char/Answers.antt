use Rattle.rdf_lines.proofs.Prelude.{◌++◌, ap, sym, ◌∙◌, encode_utf8_all, encode, escaped}
use Rattle.rdf_lines.proofs.WrittenBytesLemmas.{on_ok, where_ok}
use Rattle.rdf_lines.proofs.writer.string.put_char.Goals as goal

pub returns-in-34-clause-written : goal.returns-in-34-clause-written
unfolding encode
returns-in-34-clause-written g c =
    on_ok c.extend_from_slice.result (λ h. h ∙ ap (λ x. c.args.out.now.items ++ encode_utf8_all (escaped c.args.escapes x)) (sym c.in-34.is))
    (where_ok c.extend_from_slice.result _ _ _ c.extend_from_slice.ensures.items)

pub returns-in-10-clause-written : goal.returns-in-10-clause-written
unfolding encode
returns-in-10-clause-written g c =
    on_ok c.extend_from_slice-in-10.result (λ h. h ∙ ap (λ x. c.args.out.now.items ++ encode_utf8_all (escaped c.args.escapes x)) (sym c.in-10.is))
    (where_ok c.extend_from_slice-in-10.result _ _ _ c.extend_from_slice-in-10.ensures.items)
