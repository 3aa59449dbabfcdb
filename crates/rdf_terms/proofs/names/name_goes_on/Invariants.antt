use Rattle.rdf_terms.proofs.Prelude.{◌≡◌, true, chars, IsUtf8, chars_rest, name_goes_on}
use Rattle.rdf_terms.proofs.names.name_goes_on.Given as goal

abbrev pub invariant-loop-c : goal.invariant-loop-c
invariant-loop-c l = record {
  utf8 : IsUtf8 (chars_rest l.c-iterator);
  same : name_goes_on l.dialect true (chars (chars_rest l.fn.rest)) ≡ name_goes_on l.dialect l.ends (chars (chars_rest l.c-iterator));
}
