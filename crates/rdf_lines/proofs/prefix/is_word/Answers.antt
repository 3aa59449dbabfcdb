-- The loop over a word: the text is one exactly where what is left is one.
use Rattle.rdf_lines.proofs.Prelude.{refl}
use Rattle.rdf_terms.proofs.CharsLemmas.{next_char, no_chars}
use Rattle.rdf_lines.proofs.prefix.is_word.Goals as goal

pub returns-then-not-is_word_char : goal.returns-then-not-is_word_char
returns-then-not-is_word_char c =
    let n = next_char _ _ _ c.loop-c.invariant.utf8 c.in-Some.ensures.steps.0 in
    rw (c.loop-c.invariant.same, n.chars, ← c.is_word_char.ensures, c.if-not-is_word_char.true) refl

pub loop-c-preserved : goal.loop-c-preserved
loop-c-preserved c =
    let n = next_char _ _ _ c.loop-c.invariant.utf8 c.in-Some.ensures.steps.0 in
    record { utf8 = n.utf8; same = rw (c.loop-c.invariant.same, n.chars, ← c.is_word_char.ensures, c.if-not-is_word_char.false) refl }

pub returns : goal.returns
returns c = rw (c.loop-c.invariant.same, no_chars _ c.in-None.ensures.steps.0.0) refl
