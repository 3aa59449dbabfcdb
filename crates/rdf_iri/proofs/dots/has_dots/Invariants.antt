use Rattle.rdf_iri.proofs.Prelude.{◌≡◌, length, has_dots}
use Rattle.rdf_iri.proofs.dots.has_dots.Given as goal

-- the segments that are left decide
abbrev pub invariant-loop-after : goal.invariant-loop-after
invariant-loop-after l = has_dots l.path ≡ has_dots l.rest

-- what is left gets shorter
abbrev pub decreases-loop-after : goal.decreases-loop-after
decreases-loop-after l = length l.rest
