use Rattle.rdf_lines.proofs.Prelude.{◌≡◌, ◌++◌, ◌∷◌, ap, sym, ◌∙◌, bytes_eq, chars, encode_utf8_all, IsUtf8-had, xsd_string, type_text, tail_bytes}
use Rattle.rdf_lines.proofs.EncodedLine.{encoded_tag, same_type}
use Rattle.rdf_lines.proofs.WrittenBytesLemmas.{on_ok}
use Rattle.rdf_lines.proofs.writer.term.put_tail.Goals as goal

pub returns-in-Lang-clause-written : goal.returns-in-Lang-clause-written
returns-in-Lang-clause-written g c =
    let tag = ap (λ x. 64 ∷ x) c.as_str.ensures ∙ sym (encoded_tag c.in-Lang.tag) in
    on_ok c.put_two.result (λ h. h ∙ ap (λ x. c.args.out.now.items ++ x) (tag ∙ sym (ap (tail_bytes c.args.escapes) c.in-Lang.is))) c.put_two.ensures.written

pub returns-in-Typed-clause-written : goal.returns-in-Typed-clause-written
returns-in-Typed-clause-written g c =
    let e = c.args.escapes in
    let text = c.in-Typed.datatype.text.now in
    let plain : c.is_xsd_string.result ≡ bytes_eq (chars text) xsd_string =
    c.is_xsd_string.ensures ∙ (ap (λ x. bytes_eq x xsd_string) c.as_bytes.ensures ∙ sym (same_type text (IsUtf8-had _ c.in-Typed.datatype.utf8))) in
    let same = ap (λ b. encode_utf8_all (type_text e b (chars text))) plain in
    on_ok c.put_type.result (λ h. h ∙ ap (λ x. c.args.out.now.items ++ x) (same ∙ sym (ap (tail_bytes e) c.in-Typed.is))) c.put_type.ensures.written
