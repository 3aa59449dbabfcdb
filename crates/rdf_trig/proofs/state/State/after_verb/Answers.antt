use Rattle.rdf_trig.proofs.Prelude.{None, ap, ◌∙◌, verb_by, use_at, around_in, setting_in}
use Rattle.rdf_trig.specs.Machine as M
use Rattle.rdf_trig.proofs.machine.Fallbacks.{after_semicolon-verb, after_semicolon-else}
use Rattle.rdf_trig.proofs.code.TurnsLemmas.{means_at}
use Rattle.rdf_trig.proofs.state.State.after_verb.Goals as goal

pub returns-in_default : goal.returns-in_default
returns-in_default g c =
    let self = c.args.self.now in
    let k = c.args.kind in
    let x = self.frame.subject in
    let a = around_in self c.args.around in
    record {
      means = λ form. means_at form self k c.predicate_list_end.result _ _
          (λ s l. after_semicolon-else (setting_in s self) x a k l (c.in-None.ensures.means (setting_in s self) x a l) c.in_default.not-Semicolon)
          (c.predicate_list_end.ensures.means form);
      suits = c.predicate_list_end.ensures.suits;
      frames = c.predicate_list_end.ensures.frames;
    }

pub returns-in-Some-clause-means : goal.returns-in-Some-clause-means
returns-in-Some-clause-means g c = λ form s l i n.
    let self = c.args.self.now in
    let k = c.args.kind in
    let x = self.frame.subject in
    let a = around_in self c.args.around in
    after_semicolon-verb (setting_in s self) x a k l _ _ _ (c.in-Some.ensures.means (setting_in s self) x a l)
    ∙ ap (λ z. M.Go (use_at s k l) None None (setting_in s self) (M.Want (M.Listed x (verb_by c.in-Some.verb z) a))) n
