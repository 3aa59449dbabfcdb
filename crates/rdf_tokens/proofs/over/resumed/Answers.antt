-- The states have come over as many characters as are counted.
use Rattle.rdf_tokens.proofs.Prelude.{subst, AreCounted, Walked}
use Rattle.rdf_tokens.proofs.WalkLemmas.{come-walk}
use Rattle.rdf_tokens.proofs.over.resumed.Goals as goal

pub returns-in-Some-clause-came : goal.returns-in-Some-clause-came
returns-in-Some-clause-came c = λ d bs u h a.
    come-walk d bs c.in-Some.walk u (subst (Walked d bs) c.in-Some.is h) (subst AreCounted c.in-Some.is a)
