use Rattle.rdf_terms.proofs.Prelude.{◌≡◌, ◌-◌, ◌<◌, ◌≤◌, false, is_some, length, drop, get_or, chars, IsUtf8, goes_over, value, outside, inside_of, run_of}
use Rattle.rdf_terms.proofs.values.has_value.Given as goal

abbrev pub invariant-loop-at : goal.invariant-loop-at
invariant-loop-at l = record {
  within : l.at ≤ length l.bytes;
  utf8 : IsUtf8 (drop l.at l.bytes);
  stopped : l.at < length l.bytes → goes_over (run_of (inside_of l.inside)) (get_or l.bytes l.at 0) ≡ false;
  same : is_some (value (inside_of l.inside) outside (chars l.text)) ≡ is_some (value (inside_of l.inside) outside (chars (drop l.at l.bytes)));
}

abbrev pub decreases-loop-at : goal.decreases-loop-at
decreases-loop-at l = length l.bytes - l.at
