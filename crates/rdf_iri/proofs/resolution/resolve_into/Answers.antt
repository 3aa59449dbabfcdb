-- The text that was made absolute is within the limit, or too long.
use Rattle.rdf_iri.proofs.Prelude.{arith, chars}
use Rattle.rdf_iri.proofs.resolution.resolve_into.Goals as goal

pub returns-then-byte_len-limit-clause-refused : goal.returns-then-byte_len-limit-clause-refused
returns-then-byte_len-limit-clause-refused g c =
    (chars c.put_absolute.new.text, c.in_default.ensures.resolved, omega (arith, c.if-byte_len-limit.true, c.byte_len.ensures))

pub returns-in-Err-clause-refused : goal.returns-in-Err-clause-refused
returns-in-Err-clause-refused g c = c.in-Err.ensures.refused c.args.limit
