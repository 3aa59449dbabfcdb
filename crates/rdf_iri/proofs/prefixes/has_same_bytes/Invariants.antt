use Rattle.rdf_iri.proofs.Prelude.{◌≡◌, take}
use Rattle.rdf_iri.proofs.prefixes.has_same_bytes.Given as goal

-- the bytes before the place are the same
abbrev pub invariant-loop-place : goal.invariant-loop-place
invariant-loop-place l = take l.place l.a ≡ take l.place l.b
