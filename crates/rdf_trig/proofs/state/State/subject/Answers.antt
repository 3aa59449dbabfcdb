use Rattle.rdf_trig.proofs.Prelude.{leaf}
use Rattle.rdf_trig.specs.declared.state.Ready.TheVariants as ready
use Rattle.rdf_trig.specs.declared.state.Mode.TheVariants as mode
use Rattle.rdf_trig.proofs.code.HoldingLemmas.{stands_fits, label_fits}
use Rattle.rdf_trig.proofs.state.State.subject.Goals as goal

pub returns-in_ok-set_label-in-Label-clause-fits : goal.returns-in_ok-set_label-in-Label-clause-fits
returns-in_ok-set_label-in-Label-clause-fits g c = λ n t h o.
    let self = c.begin.new.self in
    let label = c.set_label.new.self in
    let size = label_fits n label _ (leaf c.args.token.now).text c.in_ok-set_label-in-Label.ensures c.label_of.ensures.label t in
    let f = c.begin.ensures.fits n o in
    stands_fits n (record self { frame = record self.frame { subject = label } }) c.stand-in-Label.new.self mode.AfterSubject ready.Nothing _
    c.stand-in-Label.ensures
    (record { graph = f.graph; object = f.object; tail = f.tail; frame = (size, f.frame.1); frames = f.frames; spares = f.spares })
