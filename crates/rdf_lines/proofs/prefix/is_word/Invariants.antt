use Rattle.rdf_lines.proofs.Prelude.{◌≡◌, chars, IsUtf8, all_have, is_word_char}
use Rattle.std.specs.Str.Iter.{chars_rest}
use Rattle.rdf_lines.proofs.prefix.is_word.Given as goal

abbrev pub invariant-loop-c : goal.invariant-loop-c
invariant-loop-c l = record {
  utf8 : IsUtf8 (chars_rest l.c-iterator);
  same : all_have is_word_char (chars l.text) ≡ all_have is_word_char (chars (chars_rest l.c-iterator));
}
