use Rattle.rdf_terms.proofs.Prelude.{◌≡◌, ◌++◌, chars, IsUtf8, chars_rest, string_bytes, without_backslashes}
use Rattle.rdf_terms.proofs.local.unescaped.Given as goal

abbrev pub invariant-loop-c : goal.invariant-loop-c
invariant-loop-c g l = record {
  utf8 : IsUtf8 (chars_rest l.c-iterator);
  same : without_backslashes (chars l.text) ≡ chars (string_bytes l.out) ++ without_backslashes (chars (chars_rest l.c-iterator));
}
