use Rattle.rdf_lines.proofs.Prelude.{sym, ◌∙◌, string_bytes, chars_from_encodes, IsUtf8-string_bytes, node_of, node_text, rename_node}
use Rattle.rdf_lines.proofs.EncodedLine.{encoded_name}
use Rattle.rdf_lines.proofs.writer.label_text.Goals as goal

pub returns-in_ok-joined-in-Some-clause-text : goal.returns-in_ok-joined-in-Some-clause-text
returns-in_ok-joined-in-Some-clause-text g c =
    let name = encoded_name c.args.style c.args.node _ c.in-Some.ensures.named in
    sym (chars_from_encodes (node_text (rename_node c.args.style (node_of c.args.node))) (string_bytes c.in_ok-joined-in-Some.field-0)
    (IsUtf8-string_bytes c.in_ok-joined-in-Some.field-0) (name ∙ sym c.in_ok-joined-in-Some.ensures))
