use Rattle.rdf_lines.proofs.EscapedParts.{plain_spelled}
use Rattle.rdf_lines.proofs.escaped.any_iri.Goals as goal

pub returns-in-Some : goal.returns-in-Some
returns-in-Some g c =
    let part = c.in-Some.part in
    plain_spelled c.args.limit part.iri.now c.args.text.now part.rest.now c.in-Some.ensures.utf8 c.in-Some.ensures.stands
