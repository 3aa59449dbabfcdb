-- What both loops keep, over sixteen bytes and over one at a time: the line feeds counted are those before the place.
use Rattle.rdf_tokens.proofs.Prelude.{◌≡◌, ◌==◌, ◌-◌, ◌≤◌, count_by, length, take}
use Rattle.rdf_tokens.proofs.good.line_feeds.Given as goal

abbrev pub invariant-loop-at : goal.invariant-loop-at
invariant-loop-at l = record {
  within : l.at ≤ length l.bytes;
  count : l.count ≡ count_by (λ b. b == 10) (take l.at l.bytes);
}

abbrev pub decreases-loop-at : goal.decreases-loop-at
decreases-loop-at l = length l.bytes - l.at

abbrev pub invariant-loop-at-2 : goal.invariant-loop-at-2
invariant-loop-at-2 l = record {
  within : l.at ≤ length l.bytes;
  count : l.count ≡ count_by (λ b. b == 10) (take l.at l.bytes);
}

abbrev pub decreases-loop-at-2 : goal.decreases-loop-at-2
decreases-loop-at-2 l = length l.bytes - l.at
