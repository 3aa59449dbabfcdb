use Rattle.rdf_stream.proofs.ViewsLemmas.{quad_is}
use Rattle.rdf_stream.proofs.views.see_quad.Goals as goal

pub returns : goal.returns
returns c = quad_is _ c.see_subject.ensures c.args.quad.now.predicate.is_iri c.see_term.ensures c.see_graph.ensures
