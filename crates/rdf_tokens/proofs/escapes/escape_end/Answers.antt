-- An escape, and the run after it.
use Rattle.rdf_tokens.proofs.escapes.escape_end.Goals as goal

pub returns-in-Some : goal.returns-in-Some
returns-in-Some c = record { mid = c.in-Some.next; escape = c.in-Some.ensures.escape; run = c.plain_end.ensures }
