use Rattle.rdf_trig.proofs.Prelude.{None}
use Rattle.rdf_trig.specs.declared.slots.SubjectKind.TheVariants as kind
use Rattle.rdf_trig.specs.declared.state.Ready.TheVariants as ready
use Rattle.rdf_trig.proofs.code.HoldingLemmas.{stands_fits, empty_fits}
use Rattle.rdf_trig.proofs.state.State.end_node.Goals as goal

pub returns-clause-fits : goal.returns-clause-fits
returns-clause-fits g c = λ n h f.
    let closed = c.node_closed-mode in
    let node = empty_fits n _ (kind.Anon c.args.self.now.bracket) c.set_anon.ensures in
    stands_fits n closed.new.self c.stand.new.self closed.result ready.Nothing None c.stand.ensures
    (closed.ensures.fits n (record { graph = f.graph; object = f.object; tail = f.tail; frame = (node, f.frame.1); frames = f.frames; spares = f.spares }))
