use Rattle.rdf_trig.proofs.Prelude.{ap, level_of, place_at, after_semicolon_at, up_in, setting_in}
use Rattle.rdf_trig.specs.Machine as M
use Rattle.rdf_trig.proofs.code.TurnsLemmas.{means_at}
use Rattle.rdf_trig.proofs.state.State.after_semicolon.Goals as goal

pub returns-in-List-clause-means : goal.returns-in-List-clause-means
returns-in-List-clause-means g c = λ form.
    let self = c.args.self.now in
    means_at form self c.args.kind c.after_verb.result _ _
    (λ s l. ap (λ o. M.step form (setting_in s self)
    (after_semicolon_at (place_at (level_of self.level) o self.frame.subject self.frame.verb (up_in self))) c.args.kind l)
    c.in-List.is)
    (c.after_verb.ensures.means form)
