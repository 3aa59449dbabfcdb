use Rattle.rdf_trig.proofs.state.State.move_on.Goals as goal

pub returns-clause-fits : goal.returns-clause-fits
returns-clause-fits g c = λ n t h o.
    let f = c.in_ok-take.ensures.fits n t h o in
    record { graph = f.graph; object = f.object; tail = f.tail; frame = f.frame; frames = f.frames; spares = f.spares }
