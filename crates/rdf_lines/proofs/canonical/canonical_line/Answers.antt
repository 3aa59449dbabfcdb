use Rattle.rdf_lines.proofs.FrontsLemmas.{line_stands}
use Rattle.rdf_lines.proofs.canonical.canonical_line.Goals as goal

pub returns : goal.returns
returns c = λ token roomy short.
    let object = c.in_ok-object.object in
    let graph = c.in_ok-graph.graph in
    line_stands c.args.ending c.args.rules.form token c.args.rules.iri object.tokens graph.tokens
    c.args.text.now c.in_ok-subject.field-0.now c.in_ok-rest.rest.now object.rest.now graph.rest.now c.in_ok-after_byte.field-0.now
    c.in_ok-after_end.field-0.now
    c.in_ok-subject.ensures c.in_ok-rest.ensures c.in_ok-object.ensures.stands c.in_ok-graph.ensures.stands c.in_ok-after_byte.ensures
    c.in_ok-after_end.ensures roomy short
