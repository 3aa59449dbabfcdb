-- What is shown of the characters so far stands behind the line.
use Rattle.rdf_command.proofs.Prelude.{◌≡◌, ◌++◌, encode_utf8_all, map, chars, IsUtf8, chars_rest, shown}
use Rattle.rdf_command.proofs.bad_iris.put_shown.Given as goal

abbrev pub invariant-loop-c : goal.invariant-loop-c
invariant-loop-c l = record {
  utf8 : IsUtf8 (chars_rest l.c-iterator);
  put : l.line.items ++ encode_utf8_all (map shown (chars (chars_rest l.c-iterator))) ≡ l.initial.line.items ++ encode_utf8_all (map shown (chars l.text));
}
