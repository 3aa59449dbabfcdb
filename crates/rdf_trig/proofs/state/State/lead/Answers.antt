use Rattle.rdf_trig.proofs.Prelude.{None, ap, ◌∙◌}
use Rattle.rdf_trig.specs.declared.state.Ready.TheVariants as ready
use Rattle.rdf_trig.specs.declared.state.Level.TheVariants as level
use Rattle.rdf_trig.specs.declared.state.Mode.TheVariants as mode
use Rattle.rdf_trig.proofs.code.HoldingLemmas.{stands_fits}
use Rattle.rdf_trig.proofs.state.State.lead.Goals as goal

pub returns-clause-same : goal.returns-clause-same
returns-clause-same g c =
    let self = c.args.self.now in
    c.stand.ensures ∙ ap (λ o. record self {
      level = level.Top;
      frame = record self.frame { container = o };
      rest = None;
      ready = ready.Nothing;
      mode = mode.Outer c.args.outer;
    }) c.none-self.ensures

pub returns-clause-fits : goal.returns-clause-fits
returns-clause-fits g c = λ n h f.
    let self = c.args.self.now in
    let led = record self { level = level.Top; frame = record self.frame { container = c.none-self.result } } in
    stands_fits n led c.stand.new.self (mode.Outer c.args.outer) ready.Nothing None c.stand.ensures
    (record { graph = f.graph; object = f.object; tail = f.tail; frame = f.frame; frames = f.frames; spares = f.spares })
