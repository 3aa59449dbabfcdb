use Rattle.rdf_tokens.proofs.Prelude.{sym, arith}
use Rattle.rdf_tokens.proofs.SpellingLemmas.{short}
use Rattle.rdf_tokens.proofs.states.fixed.is_front.Goals as goal

pub returns-then-text-spelling : goal.returns-then-text-spelling
returns-then-text-spelling c = sym (short c.args.any_case c.args.spelling.now c.args.text.now (omega arith))
