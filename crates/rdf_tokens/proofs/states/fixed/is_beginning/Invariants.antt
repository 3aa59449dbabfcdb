use Rattle.rdf_tokens.proofs.Prelude.{◌≡◌, drop}
use Rattle.rdf_tokens.specs.Fixed.{left}
use Rattle.rdf_tokens.proofs.states.fixed.is_beginning.Given as goal

abbrev pub invariant-loop-i : goal.invariant-loop-i
invariant-loop-i l = left l.any_case l.spelling l.text ≡ left l.any_case (drop l.i l.spelling) (drop l.i l.text)
