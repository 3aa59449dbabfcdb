-- The text that was made absolute is within the limit, or too long.
use Rattle.rdf_iri.proofs.Prelude.{arith, chars, string_bytes, IsUtf8-string_bytes}
use Rattle.rdf_iri.proofs.ResolvedText.{byte_len-chars}
use Rattle.rdf_iri.proofs.resolution.resolve_in_place.Goals as goal

pub returns-then-len-limit-clause-refused : goal.returns-then-len-limit-clause-refused
returns-then-len-limit-clause-refused g c =
    let text = c.make_absolute.new.text in
    let n = byte_len-chars (string_bytes text) (IsUtf8-string_bytes text) in
    (chars (string_bytes text), c.in_default.ensures.resolved, omega (arith, n, c.if-len-limit.true, c.len.ensures, text.bytes.ok.0))

pub returns-clause-within : goal.returns-clause-within
returns-clause-within g c =
    let text = c.make_absolute.new.text in
    omega (arith, byte_len-chars (string_bytes text) (IsUtf8-string_bytes text), c.if-len-limit.false, c.len.ensures, text.bytes.ok.0)

pub returns-in-Err-clause-refused : goal.returns-in-Err-clause-refused
returns-in-Err-clause-refused g c = c.in-Err.ensures.refused c.args.limit
