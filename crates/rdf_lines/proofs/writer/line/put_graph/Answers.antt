use Rattle.rdf_lines.proofs.Prelude.{◌++◌, ap, sym, ◌∙◌, form_of, graph_bytes}
use Rattle.rdf_lines.proofs.EncodedLine.{encoded_graph}
use Rattle.rdf_lines.proofs.WrittenBytesLemmas.{on_ok}
use Rattle.rdf_lines.proofs.writer.line.put_graph.Goals as goal

pub returns-in-Some-clause-written : goal.returns-in-Some-clause-written
returns-in-Some-clause-written g c =
    let form = form_of c.args.form in
    let whole = sym (encoded_graph form c.in-Some.subject) ∙ sym (ap (graph_bytes form) c.in-Some.is) in
    on_ok c.put_subject.result (λ h. h ∙ ap (λ x. c.args.out.now.items ++ x) whole) c.put_subject.ensures.written
