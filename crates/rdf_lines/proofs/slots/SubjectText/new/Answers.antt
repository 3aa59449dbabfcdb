use Rattle.rdf_lines.proofs.Prelude.{ap, ◌∙◌, chars-nil, chars}
use Rattle.rdf_lines.proofs.slots.SubjectText.new.Goals as goal

pub invariant_of-result : goal.invariant_of-result
invariant_of-result g c = ap chars c.new.ensures.bytes ∙ chars-nil
