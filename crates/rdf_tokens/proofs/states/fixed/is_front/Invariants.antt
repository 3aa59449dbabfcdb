use Rattle.rdf_tokens.proofs.Prelude.{◌≡◌, drop, begins}
use Rattle.rdf_tokens.proofs.states.fixed.is_front.Given as goal

abbrev pub invariant-loop-i : goal.invariant-loop-i
invariant-loop-i l = begins l.any_case l.spelling l.text ≡ begins l.any_case (drop l.i l.spelling) (drop l.i l.text)
