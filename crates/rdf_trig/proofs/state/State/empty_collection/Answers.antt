use Rattle.rdf_trig.proofs.Prelude.{◌∙◌, None, ap, up_in}
use Rattle.rdf_trig.specs.Machine as M
use Rattle.rdf_trig.specs.declared.slots.SubjectKind.TheVariants as kind
use Rattle.rdf_trig.specs.declared.state.Ready.TheVariants as ready
use Rattle.rdf_trig.proofs.code.HoldingLemmas.{stands_fits, empty_fits}
use Rattle.rdf_trig.proofs.code.TurnsLemmas.{stands_at}
use Rattle.rdf_trig.proofs.state.State.empty_collection.Goals as goal

pub returns-clause-takes : goal.returns-clause-takes
returns-clause-takes g c = λ l form s u.
    let closed = c.collection_closed-mode in
    stands_at form s u closed.new.self c.stand.new.self closed.result _ _ c.stand.ensures
    closed.ensures.graph (closed.ensures.mode form ∙ ap (M.collection_closed (up_in c.args.self.now)) c.set_nil.ensures)

pub returns-clause-fits : goal.returns-clause-fits
returns-clause-fits g c = λ n h f.
    let closed = c.collection_closed-mode in
    stands_fits n closed.new.self c.stand.new.self closed.result ready.Nothing None c.stand.ensures
    (closed.ensures.fits n (record {
      graph = f.graph;
      object = f.object;
      tail = f.tail;
      frame = (empty_fits n _ kind.Nil c.set_nil.ensures, f.frame.1);
      frames = f.frames;
      spares = f.spares;
    }))
