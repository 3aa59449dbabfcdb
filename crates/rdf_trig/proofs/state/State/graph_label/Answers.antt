use Rattle.rdf_trig.proofs.Prelude.{leaf}
use Rattle.rdf_trig.proofs.code.HoldingLemmas.{label_fits}
use Rattle.rdf_trig.proofs.state.State.graph_label.Goals as goal

pub returns-clause-fits : goal.returns-clause-fits
returns-clause-fits g c = λ n t h f.
    let size = label_fits n c.set_label.new.self _ (leaf c.args.token.now).text c.in_ok-set_label.ensures c.label_of.ensures.label t in
    c.lead.ensures.fits n h (record { graph = size; object = f.object; tail = f.tail; frame = f.frame; frames = f.frames; spares = f.spares })
