use Rattle.rdf_tokens.proofs.Prelude.{rules}
use Rattle.rdf_tokens.proofs.states.number.Number.after.Goals as goal

pub returns-in_default-3 : goal.returns-in_default-3
returns-in_default-3 c = search rules
