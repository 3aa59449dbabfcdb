use Rattle.rdf_tokens.proofs.Prelude.{rules}
use Rattle.rdf_tokens.proofs.scanner.add_piece.Goals as goal

pub returns-then-front-clause-text : goal.returns-then-front-clause-text
returns-then-front-clause-text g c = search rules

pub returns-then-front-clause-broken : goal.returns-then-front-clause-broken
returns-then-front-clause-broken g c = search rules

pub returns-then-front-clause-pending : goal.returns-then-front-clause-pending
returns-then-front-clause-pending g c = search rules
