use Rattle.rdf_iri.proofs.Prelude.{◌∙◌}
use Rattle.rdf_iri.proofs.CutPlaces.{begins-starts}
use Rattle.rdf_iri.proofs.places.begins_with.Goals as goal

pub returns : goal.returns
returns c = c.starts_with.ensures.value ∙ begins-starts c.args.front.now c.args.text.now
