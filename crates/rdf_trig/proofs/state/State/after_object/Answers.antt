use Rattle.rdf_trig.proofs.Prelude.{◌∙◌, ap, sym, level_of, place_at, first_of, up_in, setting_in}
use Rattle.rdf_trig.specs.Machine as M
use Rattle.rdf_trig.specs.States.{cell_of}
use Rattle.rdf_trig.proofs.code.TurnsLemmas.{means_at}
use Rattle.rdf_trig.proofs.state.State.after_object.Goals as goal

pub returns-in-Cells-clause-means : goal.returns-in-Cells-clause-means
returns-in-Cells-clause-means g c = λ form.
    let self = c.args.self.now in
    means_at form self c.args.kind c.after_item.result _ _
    (λ s l. ap (λ o. M.after (setting_in s self) (place_at (level_of self.level) o self.frame.subject self.frame.verb (up_in self)) c.args.kind l) c.in-Cells.is
    ∙ sym (ap (λ o. M.after (setting_in s self) (M.InCollection (first_of o) (cell_of o) (up_in self)) c.args.kind l) c.in-Cells.is))
    (c.after_item.ensures.means form)
