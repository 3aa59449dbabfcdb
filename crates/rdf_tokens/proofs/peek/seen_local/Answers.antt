-- What is told of the name is seen.
use Rattle.rdf_tokens.proofs.peek.seen_local.Goals as goal

pub returns-in-None : goal.returns-in-None
returns-in-None c = c.seen_far.ensures c.args.text.now c.far_local.ensures
