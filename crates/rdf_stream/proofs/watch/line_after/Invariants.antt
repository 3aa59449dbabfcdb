-- The line goes on up to here, and what is left of it is told from here on.
use Rattle.rdf_stream.proofs.Prelude.{◌-◌, ◌≡◌, ◌≤◌, ◌++◌, take, drop, length, line_rest, reach}
use Rattle.rdf_stream.proofs.watch.line_after.Given as goal

abbrev pub invariant-loop-len : goal.invariant-loop-len
invariant-loop-len l = record {
  within : l.len ≤ length l.bytes;
  few : l.len ≤ reach;
  told : take reach (line_rest l.bytes) ≡ take l.len l.bytes ++ take (reach - l.len) (line_rest (drop l.len l.bytes));
}

abbrev pub decreases-loop-len : goal.decreases-loop-len
decreases-loop-len l = reach - l.len
