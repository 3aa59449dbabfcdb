use Rattle.rdf_stream.proofs.OutputLemmas.{graph_text}
use Rattle.rdf_stream.proofs.output.GraphView.new.Goals as goal

pub returns : goal.returns
returns g c = graph_text _ _ c.as_str.ensures.value c.as_str.ensures.is_iri
