use Rattle.rdf_trig.proofs.Prelude.{ap, ◌∙◌, chars, chars-nil, topic_at}
use Rattle.rdf_trig.specs.declared.slots.SubjectKind.TheVariants as kind
use Rattle.rdf_trig.proofs.slots.Topic.new.Goals as goal

pub returns : goal.returns
returns g c = ap (λ t. topic_at kind.Nil (chars t)) c.new.ensures ∙ ap (topic_at kind.Nil) chars-nil
