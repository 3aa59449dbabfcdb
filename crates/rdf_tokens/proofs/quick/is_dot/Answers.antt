-- The byte after the dot is compared with the digits.
use Rattle.rdf_tokens.proofs.Prelude.{rules, tests}
use Rattle.rdf_tokens.proofs.quick.is_dot.Goals as goal

pub returns-then-bytes-lt128 : goal.returns-then-bytes-lt128
returns-then-bytes-lt128 c = search (rules, tests)
