use Rattle.rdf_iri.proofs.Prelude.{◌<◌, ◌+◌, ℕ, slice_index, Names, IsKeyAt}
use Rattle.rdf_iri.proofs.table.find.Given as goal

-- no slot before this one names a place where the prefix stands
abbrev pub invariant-loop-way : goal.invariant-loop-way
invariant-loop-way g l = (way place : ℕ) → way < l.way → Names (slice_index l.slots (l.first + way)) l.mark place → IsKeyAt l.row l.prefix place → ⊥
