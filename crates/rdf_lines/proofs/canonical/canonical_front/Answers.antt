use Rattle.rdf_lines.proofs.Prelude.{◌≡◌, length, take, ap, ◌∙◌, subst, take-take, AreLines}
use Rattle.rdf_lines.proofs.canonical.canonical_front.Goals as goal

pub returns-clause-lines : goal.returns-clause-lines
returns-clause-lines c =
    let text = c.args.text.now in
    let front = c.front_within.result.now in
    let found = c.ended_front.result in
    let same : take found.bytes front ≡ take found.bytes text =
    ap (take found.bytes) c.front_within.ensures.front ∙ take-take found.bytes (length front) text c.ended_front.ensures.within in
    subst (AreLines c.args.ending c.args.rules.form c.args.token c.args.rules.iri found.quads found.tokens) same c.ended_front.ensures.lines
