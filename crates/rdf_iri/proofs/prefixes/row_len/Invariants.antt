use Rattle.rdf_iri.proofs.Prelude.{◌≡◌, ◌+◌, drop, sum_by, entry_bytes}
use Rattle.rdf_iri.proofs.prefixes.row_len.Given as goal

-- what is counted, and what the entries that are left have, are all bytes
abbrev pub invariant-loop-prefix : goal.invariant-loop-prefix
invariant-loop-prefix g l = l.held + sum_by entry_bytes (drop l.prefix-index l.row) ≡ sum_by entry_bytes l.row
