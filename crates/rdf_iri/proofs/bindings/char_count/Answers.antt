use Rattle.rdf_iri.proofs.Prelude.{ap, arith, length, rules, chars, encodes-chars, chars_from_encodes, few_bytes}
use Rattle.rdf_iri.proofs.bindings.char_count.Goals as goal

pub returns-clause-count : goal.returns-clause-count
returns-clause-count c = search (rules, chars_from_encodes)

pub returns-clause-bytes : goal.returns-clause-bytes
returns-clause-bytes c = let f = few_bytes (chars c.args.text.now) in
    omega (arith, f, ap length (encodes-chars c.args.text.now c.utf8.text), returns-clause-count c)
