-- What is seen at the front of the text is the next token.
use Rattle.rdf_tokens.proofs.PeekLemmas.{peeked_now}
use Rattle.rdf_tokens.proofs.scanner.Scanner.peek.Goals as goal

pub returns : goal.returns
returns g c = peeked_now c.args.self.now c.rest.result.now c.first_seen.result c.before.before.rest.utf8 c.rest.ensures c.requires c.first_seen.ensures
