use Rattle.rdf_lines.proofs.Prelude.{subst, IsNodePrefix}
use Rattle.rdf_lines.proofs.NodePrefixLemmas.{IsNodePrefix-had}
use Rattle.rdf_lines.proofs.prefix.NodePrefix.view.Goals as goal

pub returns-clause-is_word : goal.returns-clause-is_word
returns-clause-is_word g c = IsNodePrefix-had c.args.self.now (subst (λ w. ∥ IsNodePrefix w ∥₁) c.self.view_is c.self.invariant)
