use Rattle.rdf_trig.proofs.Prelude.{ap, arith, iri_size, leaf}
use Rattle.rdf_trig.specs.declared.state.Ready.TheVariants as ready
use Rattle.rdf_trig.specs.declared.state.Mode.TheVariants as mode
use Rattle.rdf_trig.proofs.code.HoldingLemmas.{stands_fits, tag_fits}
use Rattle.rdf_trig.proofs.state.State.take_tag.Goals as goal

pub returns-clause-fits : goal.returns-clause-fits
returns-clause-fits g c = λ n t h f.
    let self = c.args.self.now in
    let tag = c.set.new.self in
    let none = c.clear.new.self in
    let size = tag_fits n tag _ (leaf c.args.token.now).text c.in_ok-set.ensures c.tag_of.ensures.tag t in
    let empty = ap iri_size c.clear.ensures in
    stands_fits n (record self { datatype = none; tag = tag }) c.end_object.new.self mode.After ready.WithTag _ c.end_object.ensures
    (record { graph = f.graph; object = f.object; tail = omega (arith, size, empty); frame = f.frame; frames = f.frames; spares = f.spares })
