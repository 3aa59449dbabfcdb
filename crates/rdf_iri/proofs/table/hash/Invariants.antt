use Rattle.rdf_iri.proofs.Prelude.{◌≡◌, drop, hash_of}
use Rattle.rdf_iri.proofs.table.hash.Given as goal

-- the bytes that are left lead from this hash to that of all
abbrev pub invariant-loop-byte : goal.invariant-loop-byte
invariant-loop-byte l = hash_of l.hash (drop l.byte-index l.text) ≡ hash_of 0 l.text
