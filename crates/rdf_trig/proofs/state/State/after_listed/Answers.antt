use Rattle.rdf_trig.proofs.Prelude.{ap, ◌∙◌, level_of, place_at, spelt_of, around_in, up_in, setting_in}
use Rattle.rdf_trig.specs.Machine as M
use Rattle.rdf_trig.proofs.machine.Fallbacks.{listed-else}
use Rattle.rdf_trig.proofs.code.TurnsLemmas.{means_at}
use Rattle.rdf_trig.proofs.state.State.after_listed.Goals as goal

pub returns-in_default : goal.returns-in_default
returns-in_default g c =
    let self = c.args.self.now in
    let k = c.args.kind in
    let s = self.frame.subject in
    let p = self.frame.verb in
    record {
      means = λ form. means_at form self k c.predicate_list_end.result _ _
          (λ s' l. ap (λ o. M.after (setting_in s' self) (place_at (level_of self.level) o s p (up_in self)) k l) c.requires.listed
          ∙ listed-else (setting_in s' self) s (spelt_of p) (around_in self c.args.around) k l c.in_default.not-Comma c.in_default.not-Semicolon)
          (c.predicate_list_end.ensures.means form);
      suits = c.predicate_list_end.ensures.suits;
      frames = c.predicate_list_end.ensures.frames;
    }
