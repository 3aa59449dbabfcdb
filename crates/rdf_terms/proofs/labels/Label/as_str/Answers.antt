use Rattle.rdf_terms.proofs.Prelude.{subst, IsLabel}
use Rattle.rdf_terms.proofs.TermsLemmas.{IsLabel-had}
use Rattle.rdf_terms.proofs.labels.Label.as_str.Goals as goal

pub returns-clause-is_label : goal.returns-clause-is_label
returns-clause-is_label g c = subst IsLabel c.self.view_is (IsLabel-had _ c.self.invariant)
