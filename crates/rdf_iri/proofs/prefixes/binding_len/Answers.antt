use Rattle.rdf_iri.proofs.Prelude.{rules}
use Rattle.rdf_iri.proofs.prefixes.binding_len.Goals as goal

pub returns : goal.returns
returns g c = search rules
