use Rattle.rdf_iri.proofs.StepsLemmas.{here-last, here-slash}
use Rattle.rdf_iri.proofs.steps.move_at_dot.Goals as goal

pub returns-then-ends_at : goal.returns-then-ends_at
returns-then-ends_at c = here-last c.args.bytes.now c.args.at c.requires.within c.requires.dot c.if-ends_at.ensures

pub returns-in-47 : goal.returns-in-47
returns-in-47 c = here-slash c.args.bytes.now c.args.at c.if-ends_at.ensures.within c.requires.dot c.in-47.is
