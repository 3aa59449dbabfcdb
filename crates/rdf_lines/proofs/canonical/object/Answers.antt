use Rattle.rdf_lines.proofs.FrontsLemmas.{literal_object, named_object}
use Rattle.rdf_lines.proofs.canonical.object.Goals as goal

pub returns-in_ok-tail-in-Some-clause-stands : goal.returns-in_ok-tail-in-Some-clause-stands
returns-in_ok-tail-in-Some-clause-stands c =
    let tail = c.in_ok-tail-in-Some.tail in
    literal_object c.args.limit tail.tokens c.args.text.now c.in-Some.text.now c.in_ok-string-in-Some.field-0.now tail.rest.now
    c.in-Some.ensures c.in_ok-string-in-Some.ensures c.in_ok-tail-in-Some.ensures.stands

pub returns-in_ok-subject-in-None-clause-stands : goal.returns-in_ok-subject-in-None-clause-stands
returns-in_ok-subject-in-None-clause-stands c = named_object c.args.limit c.args.text.now c.in_ok-subject-in-None.field-0.now c.in_ok-subject-in-None.ensures
