use Rattle.rdf_trig.proofs.code.TurnsLemmas.{means_at}
use Rattle.rdf_trig.proofs.state.State.start.Goals as goal

pub returns-in-None-clause-means : goal.returns-in-None-clause-means
returns-in-None-clause-means g c =
    means_at c.args.form c.args.self.now c.args.kind c.want_subject.result _ _ (λ s l. c.in-None.ensures.means s l) (c.want_subject.ensures.means c.args.form)

pub returns-in-Some-clause-frames : goal.returns-in-Some-clause-frames
returns-in-Some-clause-frames g c = c.in-Some.ensures.frames
