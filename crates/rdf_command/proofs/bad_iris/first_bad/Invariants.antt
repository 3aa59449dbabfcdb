-- The characters so far may all stand in an IRI.
use Rattle.rdf_command.proofs.Prelude.{◌≡◌, ◌+◌, length, chars, IsUtf8, chars_rest, byte_len, bad_char, iri_front}
use Rattle.rdf_command.proofs.bad_iris.first_bad.Given as goal

abbrev pub invariant-loop-c : goal.invariant-loop-c
invariant-loop-c l = record {
  utf8 : IsUtf8 (chars_rest l.c-iterator);
  same : bad_char (chars l.text) ≡ bad_char (chars (chars_rest l.c-iterator));
  front : byte_len (iri_front (chars l.text)) ≡ l.before + byte_len (iri_front (chars (chars_rest l.c-iterator)));
  bytes : l.before + length (chars_rest l.c-iterator) ≡ length l.text;
}
