use Rattle.rdf_terms.proofs.Prelude.{◌≡◌, is_some, chars, IsUtf8, chars_rest, local_from, local_value}
use Rattle.rdf_terms.proofs.local.has_local_value.Given as goal

abbrev pub invariant-loop-c : goal.invariant-loop-c
invariant-loop-c l = record {
  utf8 : IsUtf8 (chars_rest l.c-iterator);
  same : is_some (local_value (chars l.inside)) ≡ is_some (local_from l.escaped (chars (chars_rest l.c-iterator)));
}
