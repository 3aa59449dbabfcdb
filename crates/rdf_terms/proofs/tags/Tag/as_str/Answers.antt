use Rattle.rdf_terms.proofs.Prelude.{subst, IsTag}
use Rattle.rdf_terms.proofs.TermsLemmas.{IsTag-had}
use Rattle.rdf_terms.proofs.tags.Tag.as_str.Goals as goal

pub returns-clause-is_tag : goal.returns-clause-is_tag
returns-clause-is_tag g c = subst IsTag c.self.view_is (IsTag-had _ c.self.invariant)
