use Rattle.rdf_iri.proofs.Prelude.{◌≡◌, ◌+◌, ◌≤◌, ◌*◌, sum_by, binding_bytes, entry_bytes}
use Rattle.rdf_iri.proofs.prefixes.Prefixes.held.Given as goal

-- what is counted, and what the entries that are left have, are all bytes
abbrev pub invariant-loop-prefix : goal.invariant-loop-prefix
invariant-loop-prefix g l =
    (goal.iterator-loop-prefix g).can_next l.prefix-iterator ×
    (goal.iterator-loop-prefix g).is_finite l.prefix-iterator ×
    (l.held + sum_by entry_bytes l.prefix-iterator ≡ sum_by binding_bytes l.self) ×
    (sum_by binding_bytes l.self ≤ l.fn.limits.bindings * (4 * l.fn.limits.token + l.fn.limits.iri))
