use Rattle.rdf_tokens.proofs.Prelude.{sym, ap, ◌∙◌, arith, is_begun}
use Rattle.rdf_tokens.proofs.SpellingLemmas.{left_whole, left_begun}
use Rattle.rdf_tokens.proofs.states.fixed.is_beginning.Goals as goal

pub returns-then-spelling-text : goal.returns-then-spelling-text
returns-then-spelling-text c = sym (left_whole c.args.any_case c.args.spelling.now c.args.text.now (omega arith))

pub returns : goal.returns
returns c = sym (ap is_begun c.loop-i.invariant ∙ left_begun c.args.any_case c.args.spelling.now c.args.text.now c.loop-i.i (omega arith) (omega arith))
