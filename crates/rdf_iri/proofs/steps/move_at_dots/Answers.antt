use Rattle.rdf_iri.proofs.StepsLemmas.{up-last, up-slash}
use Rattle.rdf_iri.proofs.steps.move_at_dots.Goals as goal

pub returns-then-ends_at : goal.returns-then-ends_at
returns-then-ends_at c = up-last c.args.bytes.now c.args.at c.requires.within c.requires.dot c.requires.next c.if-ends_at.ensures

pub returns-then-bytes-at-eq47 : goal.returns-then-bytes-at-eq47
returns-then-bytes-at-eq47 c = up-slash c.args.bytes.now c.args.at c.if-ends_at.ensures.within c.requires.dot c.requires.next c.if-bytes-at-eq47.true
