use Rattle.rdf_trig.proofs.Prelude.{arith}
use Rattle.rdf_trig.specs.declared.slots.SubjectKind.TheVariants as kind
use Rattle.rdf_trig.proofs.code.HoldingLemmas.{empty_fits}
use Rattle.rdf_trig.proofs.state.State.take_prefix.Goals as goal

pub returns-clause-fits : goal.returns-clause-fits
returns-clause-fits g c = λ n t h f.
    let empty = empty_fits 0 c.set_nil.new.self kind.Nil c.set_nil.ensures in
    let text = c.in_ok-set_prefix.ensures.fits in
    c.lead.ensures.fits n h (record {
      graph = f.graph;
      object = omega (arith, t, empty, text);
      tail = f.tail;
      frame = f.frame;
      frames = f.frames;
      spares = f.spares;
    })
