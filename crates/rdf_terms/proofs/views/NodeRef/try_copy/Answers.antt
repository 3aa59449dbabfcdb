use Rattle.rdf_terms.proofs.Prelude.{ap, sym, chars}
use Rattle.rdf_terms.specs.Views.{node_by}
use Rattle.rdf_terms.proofs.views.NodeRef.try_copy.Goals as goal

pub returns-in-Anon : goal.returns-in-Anon
returns-in-Anon g c = sym (ap (node_by chars) c.in-Anon.is)
