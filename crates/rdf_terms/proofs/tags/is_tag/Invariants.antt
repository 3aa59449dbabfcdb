use Rattle.rdf_terms.proofs.Prelude.{◌≡◌, chars, IsUtf8, chars_rest, start, tag_goes_on, place_of}
use Rattle.rdf_terms.proofs.tags.is_tag.Given as goal

abbrev pub invariant-loop-c : goal.invariant-loop-c
invariant-loop-c l = record {
  utf8 : IsUtf8 (chars_rest l.c-iterator);
  same : tag_goes_on start (chars l.text) ≡ tag_goes_on (place_of l.place) (chars (chars_rest l.c-iterator));
}
