use Rattle.rdf_terms.proofs.Prelude.{◌≡◌, ◌+◌, ◌≤◌, ◌++◌, length, take, drop, without_backslashes}
use Rattle.rdf_terms.proofs.text.place_without_backslashes.Given as goal

-- with what is left, all is placed
abbrev pub invariant-loop-byte : goal.invariant-loop-byte
invariant-loop-byte l = record {
  len : length l.slot ≡ length l.fn.slot;
  bytes : take l.at l.slot ++ without_backslashes (drop l.byte-index l.text) ≡ take l.from l.fn.slot ++ without_backslashes l.text;
  few : l.at ≤ l.from + l.byte-index;
}
