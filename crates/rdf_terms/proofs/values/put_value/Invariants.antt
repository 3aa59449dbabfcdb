use Rattle.rdf_terms.proofs.Prelude.{◌≡◌, ◌-◌, ◌<◌, ◌≤◌, false, length, drop, get_or, chars, IsUtf8, string_bytes, goes_over, value, outside, inside_of, run_of, with_front}
use Rattle.rdf_terms.proofs.values.put_value.Given as goal

abbrev pub invariant-loop-at : goal.invariant-loop-at
invariant-loop-at g l = record {
  within : l.at ≤ length l.text;
  utf8 : IsUtf8 (drop l.at l.text);
  stopped : l.at < length l.text → goes_over (run_of (inside_of l.inside)) (get_or l.text l.at 0) ≡ false;
  same : value (inside_of l.inside) outside (chars l.text)
      ≡ with_front (string_bytes l.out) (value (inside_of l.inside) outside (chars (drop l.at l.text)));
}

abbrev pub decreases-loop-at : goal.decreases-loop-at
decreases-loop-at g l = length l.text - l.at
