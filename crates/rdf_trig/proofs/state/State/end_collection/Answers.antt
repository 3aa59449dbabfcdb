use Rattle.rdf_trig.proofs.Prelude.{◌≡◌, ◌∙◌, None, ap, subst, Go, graph_of, cells_quad, setting_in, up_in, moved}
use Rattle.rdf_trig.specs.declared.slots.SubjectKind.TheVariants as kind
use Rattle.rdf_trig.specs.declared.state.Ready.TheVariants as ready
use Rattle.rdf_trig.specs.Machine as M
use Rattle.rdf_trig.proofs.code.HoldingLemmas.{empty_fits}
use Rattle.rdf_trig.proofs.code.TurnsLemmas.{ended_at}
use Rattle.rdf_trig.proofs.state.State.end_collection.Goals as goal

pub returns-clause-takes : goal.returns-clause-takes
returns-clause-takes g c = λ l form s u.
    let self = c.args.self.now in
    let closed = c.collection_closed-self in
    let ended = record closed.new.self { mode = closed.result; rest = c.none-self.result; ready = ready.Nil c.cells-first.result.1 } in
    subst (λ p. Go u None (cells_quad (graph_of self.level self.graph) p.1 M.nil) (setting_in s self)
    (M.collection_closed (up_in self) (M.unsized (M.cell p.0))) ≡ moved form s u ended)
    c.cells-first.ensures
    (ended_at form s u closed.new.self closed.result _ _ c.cells-first.result.1 _ c.none-self.ensures closed.ensures.graph
    (closed.ensures.mode form ∙ ap (M.collection_closed (up_in self)) c.set_cell.ensures))

pub returns-clause-fits : goal.returns-clause-fits
returns-clause-fits g c = λ n h o.
    let cell = empty_fits n _ (kind.Cell c.cells-first.result.0) c.set_cell.ensures in
    let f = c.collection_closed-self.ensures.fits n
    (record { graph = o.graph; object = o.object; tail = o.tail; frame = (cell, o.frame.1); frames = o.frames; spares = o.spares }) in
    record { graph = f.graph; object = f.object; tail = f.tail; frame = f.frame; frames = f.frames; spares = f.spares }
