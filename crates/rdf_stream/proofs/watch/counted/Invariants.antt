-- The bytes that are left lead from this column to that after all.
use Rattle.rdf_stream.proofs.Prelude.{◌≡◌, ◌≤◌, ◌+◌, drop, column_after}
use Rattle.rdf_stream.proofs.watch.counted.Given as goal

abbrev pub invariant-loop-byte : goal.invariant-loop-byte
invariant-loop-byte l = (column_after l.now (drop l.byte-index l.bytes) ≡ column_after l.column l.bytes) × (l.now ≤ l.column + l.byte-index)
