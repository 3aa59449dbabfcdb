use Rattle.rdf_lines.proofs.Prelude.{ap, ◌∙◌, chars-nil, chars}
use Rattle.rdf_lines.proofs.slots.IriText.clear.Goals as goal

pub invariant_of-self : goal.invariant_of-self
invariant_of-self g c = ap chars c.clear.ensures.bytes ∙ chars-nil
