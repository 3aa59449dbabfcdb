use Rattle.rdf_trig.proofs.Prelude.{◌≡◌, true, subst, is_some, chars, Topic}
use Rattle.rdf_trig.proofs.code.TurnsLemmas.{has_term}
use Rattle.rdf_trig.proofs.slots.Topic.has_term.Goals as goal

pub returns : goal.returns
returns g c = subst (λ (x : Topic). is_some x.term ≡ true) c.self.view_is (has_term c.self.inside.kind (chars c.self.inside.text))
