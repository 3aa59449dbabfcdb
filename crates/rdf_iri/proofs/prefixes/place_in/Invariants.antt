use Rattle.rdf_iri.proofs.Prelude.{◌≡◌, None, take, chars, bound_to, entries_of}
use Rattle.rdf_iri.proofs.prefixes.place_in.Given as goal

-- no prefix before the place is the one that is looked for
abbrev pub invariant-loop-place : goal.invariant-loop-place
invariant-loop-place g l = bound_to (entries_of (take l.place l.row)) (chars l.prefix) ≡ None
