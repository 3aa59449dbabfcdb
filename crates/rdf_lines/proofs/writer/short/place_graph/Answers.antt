use Rattle.rdf_lines.proofs.Prelude.{Some, ap, sym, ◌∙◌, Placed-as, graph_bytes, usual}
use Rattle.rdf_terms.specs.declared.views.SubjectRef.TheVariants.{Iri}
use Rattle.rdf_lines.proofs.EncodedLine.{encoded_graph}
use Rattle.rdf_lines.proofs.writer.short.place_graph.Goals as goal

pub returns-in-Iri-clause-placed : goal.returns-in-Iri-clause-placed
returns-in-Iri-clause-placed c =
    let graph = c.in-Some.is ∙ ap Some c.in-Iri.is in
    Placed-as (sym (encoded_graph usual (Iri c.in-Iri.iri)) ∙ sym (ap (graph_bytes usual) graph)) c.place_spaced.ensures.placed
