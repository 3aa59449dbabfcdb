use Rattle.rdf_tokens.proofs.Prelude.{◌≡◌, ◌-◌, ◌+◌, ◌≤◌, length, take, chars, IsAt, state_of}
use Rattle.rdf_tokens.proofs.over.walk_on.Given as goal

abbrev pub invariant-loop-count : goal.invariant-loop-count
invariant-loop-count l = record {
  here : IsAt l.text l.at l.count;
  state : l.state ≡ state_of l.dialect (take l.count (chars l.text));
  few : l.count ≤ l.limit + 1;
}

abbrev pub decreases-loop-count : goal.decreases-loop-count
decreases-loop-count l = length l.text - l.at
