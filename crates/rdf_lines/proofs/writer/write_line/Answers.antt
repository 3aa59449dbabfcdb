use Rattle.rdf_lines.proofs.Prelude.{◌↔◌, ◌++◌, ap, subst, ◌∙◌, encode_utf8_all, line_in, CanWrite}
use Rattle.std.specs.Result.{IsErrOf}
use Rattle.rdf_terms.specs.Views.{quad_of}
use Rattle.rdf_lines.specs.declared.writer.LabelFault.{LabelFault}
use Rattle.rdf_lines.proofs.NodePrefixLemmas.{line_unprefixed}
use Rattle.rdf_lines.proofs.WrittenBytesLemmas.{on_ok}
use Rattle.rdf_lines.proofs.writer.write_line.Goals as goal

pub returns-clause-written : goal.returns-clause-written
returns-clause-written g c =
    let quad = quad_of c.args.quad.now in
    let same = ap (λ f. line_in f quad) c.new-form.ensures ∙ line_unprefixed c.args.style c.args.escapes quad in
    on_ok c.write_line_in.result (λ h. h ∙ ap (λ x. c.args.out.now.items ++ encode_utf8_all x) same) c.write_line_in.ensures.written

pub returns-clause-not_labelled : goal.returns-clause-not_labelled
returns-clause-not_labelled g c =
    subst (λ s. IsErrOf c.write_line_in.result LabelFault.NotLabelled ↔ (CanWrite s (quad_of c.args.quad.now) → ⊥))
    (ap (λ f. f.style) c.new-form.ensures) c.write_line_in.ensures.not_labelled
