use Rattle.rdf_trig.proofs.Prelude.{None, ap, ◌∙◌, verb_by, use_at, level_of, setting_in}
use Rattle.rdf_trig.specs.Machine as M
use Rattle.rdf_trig.proofs.machine.Fallbacks.{after_property_list-verb, after_property_list-else}
use Rattle.rdf_trig.proofs.code.TurnsLemmas.{means_at}
use Rattle.rdf_trig.proofs.state.State.after_property_list.Goals as goal

pub returns-in-None-clause-means : goal.returns-in-None-clause-means
returns-in-None-clause-means g c = λ form.
    let self = c.args.self.now in
    let k = c.args.kind in
    let x = self.frame.subject in
    let v = level_of self.level in
    means_at form self k c.predicate_list_end.result _ _
    (λ s l. after_property_list-else (setting_in s self) x v k l (c.in-None.ensures.means (setting_in s self) x (M.Statement v) l))
    (c.predicate_list_end.ensures.means form)

pub returns-in-Some-clause-means : goal.returns-in-Some-clause-means
returns-in-Some-clause-means g c = λ form s l i n.
    let self = c.args.self.now in
    let k = c.args.kind in
    let x = self.frame.subject in
    let a = M.Statement (level_of self.level) in
    after_property_list-verb (setting_in s self) x (level_of self.level) k l _ _ _ (c.in-Some.ensures.means (setting_in s self) x a l)
    ∙ ap (λ z. M.Go (use_at s k l) None None (setting_in s self) (M.Want (M.Listed x (verb_by c.in-Some.verb z) a))) n
