use Rattle.rdf_tokens.proofs.Prelude.{rules}
use Rattle.rdf_tokens.proofs.quick.ends_integer.Goals as goal

pub returns-after-matches : goal.returns-after-matches
returns-after-matches c = search rules
