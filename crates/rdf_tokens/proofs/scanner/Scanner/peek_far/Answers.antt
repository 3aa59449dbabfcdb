-- What the longer look sees at the front of the text is the next token.
use Rattle.rdf_tokens.proofs.PeekLemmas.{peeked_now}
use Rattle.rdf_tokens.proofs.scanner.Scanner.peek_far.Goals as goal

pub returns : goal.returns
returns g c = peeked_now c.args.self.now c.rest.result.now c.far_seen.result c.before.before.rest.utf8 c.rest.ensures c.requires c.far_seen.ensures
