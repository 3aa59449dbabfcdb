-- An IRI of ASCII is appended as it stands.
use Rattle.rdf_lines.proofs.Prelude.{◌≡◌, ◌++◌, sym, ap, ◌∙◌, true, is_ascii_byte, all_have}
use Rattle.rdf_lines.proofs.EscapedRuns.{ascii_iri}
use Rattle.rdf_lines.proofs.WrittenBytesLemmas.{on_ok, where_ok}
use Rattle.rdf_lines.proofs.writer.string.put_in_ascii.Goals as goal

pub returns-then-is_run-clause-written : goal.returns-then-is_run-clause-written
returns-then-is_run-clause-written g c =
    let out = c.args.out.now.items in
    let have : all_have is_ascii_byte c.args.iri.text.now ≡ true =
    ap (all_have is_ascii_byte) (sym c.as_bytes.ensures) ∙ (sym c.is_run.ensures ∙ c.if-is_run.true) in
    on_ok c.extend_from_slice.result
    (λ e. e ∙ ap (λ x. out ++ x) (c.as_bytes-then-is_run.ensures ∙ sym (ascii_iri c.args.iri have)))
    (where_ok c.extend_from_slice.result _ _ _ c.extend_from_slice.ensures.items)
