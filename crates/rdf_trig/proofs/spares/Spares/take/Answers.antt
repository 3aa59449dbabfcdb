use Rattle.rdf_trig.proofs.Prelude.{ap, sym, ◌∙◌, sum_by, sum_by_push, frame_bytes}
use Rattle.rdf_trig.proofs.spares.Spares.take.Goals as goal

-- what the frame that is taken has, and the others, all had
pub returns-in-Some-clause-texts : goal.returns-in-Some-clause-texts
returns-in-Some-clause-texts g c =
    sym (ap (λ fs. sum_by (frame_bytes {A = g.row.A.Denot}) fs) c.in-Some.ensures.items
    ∙ sum_by_push (frame_bytes {A = g.row.A.Denot}) c.pop.new.self.items c.in-Some.frame)
