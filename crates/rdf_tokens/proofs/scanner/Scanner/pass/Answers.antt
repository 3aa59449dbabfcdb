use Rattle.rdf_tokens.proofs.Prelude.{rules}
use Rattle.rdf_tokens.proofs.scanner.Scanner.pass.Goals as goal

pub returns : goal.returns
returns g c = search rules
