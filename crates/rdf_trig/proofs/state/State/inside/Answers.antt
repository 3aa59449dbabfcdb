use Rattle.rdf_trig.proofs.Prelude.{setting, block_graph}
use Rattle.rdf_trig.proofs.machine.Fallbacks.{inside-else}
use Rattle.rdf_trig.proofs.code.TurnsLemmas.{means_at}
use Rattle.rdf_trig.proofs.state.State.inside.Goals as goal

pub returns-in_default : goal.returns-in_default
returns-in_default g c =
    let self = c.args.self.now in
    record {
      means = λ form. means_at form self c.args.kind c.want_subject.result _ _
          (λ s l. inside-else form (setting s (block_graph c.args.block self.graph)) c.args.kind l c.in_default.not-CloseBrace)
          (c.want_subject.ensures.means form);
      suits = c.want_subject.ensures.suits;
      frames = c.want_subject.ensures.frames;
    }
