use Rattle.rdf_lines.proofs.Prelude.{ap, sym, ◌∙◌, form_of, graph_bytes, Placed-as}
use Rattle.rdf_lines.proofs.EncodedLine.{encoded_graph}
use Rattle.rdf_lines.proofs.writer.at_once.place_graph.Goals as goal

pub returns-in-Some-clause-placed : goal.returns-in-Some-clause-placed
returns-in-Some-clause-placed c =
    let form = form_of c.args.form.now in
    Placed-as (sym (encoded_graph form c.in-Some.subject) ∙ sym (ap (graph_bytes form) c.in-Some.is)) c.place_subject.ensures.placed
