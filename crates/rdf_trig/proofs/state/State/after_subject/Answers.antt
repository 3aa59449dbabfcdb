use Rattle.rdf_trig.proofs.Prelude.{setting_in}
use Rattle.rdf_trig.proofs.code.TurnsLemmas.{means_at, block_verb, turtle_verb, label_or_verb}
use Rattle.rdf_trig.proofs.state.State.after_subject.Goals as goal

pub returns-in-Block-clause-means : goal.returns-in-Block-clause-means
returns-in-Block-clause-means g c =
    let self = c.args.self.now in
    let form = c.args.form in
    means_at form self c.args.kind c.want_verb.result _ _
    (λ s l. block_verb form (setting_in s self) self.frame.subject c.args.kind l self.level _ c.in-Block.is) (c.want_verb.ensures.means form)

pub returns-in-Turtle-clause-means : goal.returns-in-Turtle-clause-means
returns-in-Turtle-clause-means g c =
    let self = c.args.self.now in
    let form = c.args.form in
    means_at form self c.args.kind c.want_verb-in-Turtle.result _ _
    (λ s l. turtle_verb form (setting_in s self) self.frame.subject c.args.kind l self.level c.in-Turtle.is) (c.want_verb-in-Turtle.ensures.means form)

pub returns-in-TriG-clause-means : goal.returns-in-TriG-clause-means
returns-in-TriG-clause-means g c =
    let self = c.args.self.now in
    let form = c.args.form in
    means_at form self c.args.kind c.after_label.result _ _
    (λ s l. label_or_verb form s self.graph self.frame.subject c.args.kind l self.level c.in-TriG.is c.in-Top.is) (c.after_label.ensures.means form)
