use Rattle.rdf_lines.proofs.Prelude.{◌++◌, ap, sym, ◌∙◌, form_of, string_bytes_of, tail_bytes, term_bytes, Placed-as}
use Rattle.rdf_lines.proofs.EncodedLine.{literal_bytes}
use Rattle.rdf_lines.proofs.writer.at_once.place_term.Goals as goal

pub returns-in-Literal-clause-placed : goal.returns-in-Literal-clause-placed
returns-in-Literal-clause-placed g c =
    let form = form_of c.args.form.now in
    let literal = c.in-Literal.literal in
    let plain = c.requires.plain in
    let parts = ap (λ e. string_bytes_of e literal.lexical.now ++ tail_bytes e literal.tail) (sym plain) in
    let whole = sym (literal_bytes form.escapes literal.lexical.now literal.tail) ∙ sym (ap (term_bytes form) c.in-Literal.is) in
    Placed-as (parts ∙ whole) c.place_literal.ensures.placed
