use Rattle.rdf_trig.proofs.Prelude.{None, sym, ap, ◌∙◌, setting, graph_of, level_of}
use Rattle.rdf_trig.specs.Machine as M
use Rattle.rdf_trig.proofs.machine.Fallbacks.{label-else}
use Rattle.rdf_trig.proofs.code.TurnsLemmas.{means_at}
use Rattle.rdf_trig.proofs.state.State.after_label.Goals as goal

pub returns-in_default : goal.returns-in_default
returns-in_default g c =
    let self = c.args.self.now in
    let k = c.args.kind in
    let x = self.frame.subject in
    record {
      means = λ form. means_at form self k c.want_verb.result _ _
          (λ s l. label-else (setting s None) x k l c.in_default.not-OpenBrace
          ∙ ap (λ v. M.verb_start (setting s (graph_of v self.graph)) x (M.Statement (level_of v)) k l) (sym c.requires.level))
          (c.want_verb.ensures.means form);
      suits = c.want_verb.ensures.suits;
      frames = c.want_verb.ensures.frames;
    }
