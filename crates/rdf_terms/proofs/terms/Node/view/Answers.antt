use Rattle.rdf_terms.proofs.Prelude.{ap, sym}
use Rattle.rdf_terms.specs.Owned.{owned_node}
use Rattle.rdf_terms.proofs.terms.Node.view.Goals as goal

pub returns-in-Anon : goal.returns-in-Anon
returns-in-Anon g c = sym (ap owned_node c.in-Anon.is)
