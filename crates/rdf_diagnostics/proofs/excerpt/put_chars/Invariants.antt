-- The characters that were passed are in the text.
use Rattle.rdf_diagnostics.proofs.Prelude.{◌≡◌, ◌++◌, take, encode_utf8_all}
use Rattle.rdf_diagnostics.proofs.excerpt.put_chars.Given as goal

abbrev pub invariant-loop-c : goal.invariant-loop-c
invariant-loop-c g l = l.text.items ≡ l.initial.text.items ++ encode_utf8_all (take l.c-index l.chars)
