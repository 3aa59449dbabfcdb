use Rattle.rdf_lines.proofs.Prelude.{◌≡◌, ap, sym, ◌∙◌, bytes_eq, chars, encode_utf8_all, IsUtf8-had, xsd_string, type_text, tail_bytes, Placed-as}
use Rattle.rdf_lines.specs.declared.form.Escapes.TheVariants.{Plain}
use Rattle.rdf_lines.proofs.EncodedLine.{encoded_tag, same_type}
use Rattle.rdf_lines.proofs.writer.at_once.place_tail.Goals as goal

pub returns-in-Lang-clause-placed : goal.returns-in-Lang-clause-placed
returns-in-Lang-clause-placed c = Placed-as (sym (encoded_tag c.in-Lang.tag) ∙ sym (ap (tail_bytes Plain) c.in-Lang.is)) c.place_tag.ensures

pub returns-in-Typed-clause-placed : goal.returns-in-Typed-clause-placed
returns-in-Typed-clause-placed c =
    let text = c.in-Typed.datatype.text.now in
    let plain : c.is_xsd_string.result ≡ bytes_eq (chars text) xsd_string =
    c.is_xsd_string.ensures ∙ (ap (λ x. bytes_eq x xsd_string) c.as_bytes.ensures ∙ sym (same_type text (IsUtf8-had _ c.in-Typed.datatype.utf8))) in
    let same = ap (λ b. encode_utf8_all (type_text Plain b (chars text))) plain in
    Placed-as (same ∙ sym (ap (tail_bytes Plain) c.in-Typed.is)) c.place_type.ensures.placed
