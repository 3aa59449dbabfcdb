use Rattle.rdf_terms.proofs.Prelude.{subst, IsIri}
use Rattle.rdf_terms.proofs.TermsLemmas.{IsIri-had}
use Rattle.rdf_terms.proofs.iris.Iri.as_str.Goals as goal

pub returns-clause-is_iri : goal.returns-clause-is_iri
returns-clause-is_iri g c = subst IsIri c.self.view_is (IsIri-had _ c.self.invariant)
