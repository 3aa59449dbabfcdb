-- What is told of a token is seen.
use Rattle.rdf_tokens.proofs.peek.seen_quick.Goals as goal

pub returns-then-is_sought-clause-token : goal.returns-then-is_sought-clause-token
returns-then-is_sought-clause-token c = c.seen_told.ensures c.args.text.now c.quick_name.ensures

pub returns-clause-token : goal.returns-clause-token
returns-clause-token c = c.seen_told-2.ensures c.args.text.now c.quick_front.ensures
