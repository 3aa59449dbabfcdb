use Rattle.rdf_diagnostics.proofs.Prelude.{◌≡◌, ◌+◌, length, chars, IsUtf8, chars_rest, outside, IsInRoom, inside_of, stand_of, stop_from}
use Rattle.rdf_diagnostics.proofs.bad_escape.bytes_before.Given as goal

abbrev pub invariant-loop-c : goal.invariant-loop-c
invariant-loop-c l = record {
  utf8 : IsUtf8 (chars_rest l.c-iterator);
  same : stop_from (inside_of l.is_iri) outside 0 l.first (chars l.text) ≡ stop_from (inside_of l.is_iri) (stand_of l.stand) l.begun l.now
      (chars (chars_rest l.c-iterator));
  bytes : l.now + length (chars_rest l.c-iterator) ≡ l.first + length l.text;
  room : IsInRoom l.stand;
}
