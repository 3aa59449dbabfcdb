use Rattle.rdf_lines.proofs.Prelude.{ap, ◌∙◌, chars-nil, chars}
use Rattle.rdf_lines.proofs.slots.TailText.set_tag.Goals as goal

pub invariant_of-self-in-Err : goal.invariant_of-self-in-Err
invariant_of-self-in-Err g c = ap chars c.clear.ensures.bytes ∙ chars-nil
