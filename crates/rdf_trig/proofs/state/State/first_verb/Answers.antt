use Rattle.rdf_trig.proofs.Prelude.{◌≡◌, None, subst, Go, setting_in, up_in, moved, verb_by}
use Rattle.rdf_trig.specs.Machine as M
use Rattle.rdf_trig.specs.declared.slots.SubjectKind.TheVariants as kind
use Rattle.rdf_trig.proofs.code.HoldingLemmas.{empty_fits}
use Rattle.rdf_trig.proofs.state.State.first_verb.Goals as goal

pub returns-clause-takes : goal.returns-clause-takes
returns-clause-takes g c = λ l form s u.
    let self = c.args.self.now in
    subst (λ x. Go u None None (setting_in s self) (M.Want (M.Listed x (verb_by c.args.verb self.name) (M.InPropertyList (up_in self))))
    ≡ moved form s u c.verb.new.self)
    c.set_anon.ensures (c.verb.ensures.takes l form s u)

pub returns-clause-fits : goal.returns-clause-fits
returns-clause-fits g c = λ n h f.
    let node = empty_fits n _ (kind.Anon c.args.self.now.bracket) c.set_anon.ensures in
    c.verb.ensures.fits n h (record { graph = f.graph; object = f.object; tail = f.tail; frame = (node, f.frame.1); frames = f.frames; spares = f.spares })
