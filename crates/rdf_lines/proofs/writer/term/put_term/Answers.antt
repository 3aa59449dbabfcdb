use Rattle.rdf_lines.proofs.Prelude.{◌++◌, append_assoc, ap, sym, ◌∙◌, form_of, string_bytes_of, tail_bytes, term_bytes}
use Rattle.rdf_lines.proofs.EncodedLine.{literal_bytes}
use Rattle.rdf_lines.proofs.WrittenBytesLemmas.{on_ok}
use Rattle.rdf_lines.proofs.writer.term.put_term.Goals as goal

pub returns-in_ok-put_string-in-Literal-clause-written : goal.returns-in_ok-put_string-in-Literal-clause-written
returns-in_ok-put_string-in-Literal-clause-written g c =
    let out = c.args.out.now.items in
    let form = form_of c.args.form in
    let e = form.escapes in
    let literal = c.in-Literal.literal in
    let string = string_bytes_of e literal.lexical.now in
    let tail = tail_bytes e literal.tail in
    let whole = sym (literal_bytes e literal.lexical.now literal.tail) ∙ sym (ap (term_bytes form) c.in-Literal.is) in
    on_ok c.put_tail.result
    (λ h. h ∙ (ap (λ x. x ++ tail) c.in_ok-put_string-in-Literal.ensures.written ∙ (append_assoc out string tail ∙ ap (λ x. out ++ x) whole)))
    c.put_tail.ensures.written
