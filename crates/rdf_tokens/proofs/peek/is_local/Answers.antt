use Rattle.rdf_tokens.proofs.Prelude.{rules}
use Rattle.rdf_tokens.proofs.peek.is_local.Goals as goal

pub returns-then-from-end : goal.returns-then-from-end
returns-then-from-end c = search rules
