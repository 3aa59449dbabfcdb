use Rattle.rdf_command.proofs.Prelude.{◌∙◌, ap, arith, encode_utf8, length, length-append, sym, chars, chars_rest, byte_len, bad_char, iri_front}
use Rattle.rdf_terms.proofs.CharsLemmas.{next_char, no_chars}
use Rattle.rdf_command.proofs.BadIriLemmas.{bad_step, good_step}
use Rattle.rdf_command.proofs.bad_iris.first_bad.Goals as goal

pub returns-then-not-is_iri_char-clause-c : goal.returns-then-not-is_iri_char-clause-c
returns-then-not-is_iri_char-clause-c c =
    let n = next_char _ _ _ c.loop-c.invariant.utf8 c.in-Some.ensures.steps.0 in
    let bad = bad_step c.in-Some.c (chars (chars_rest c.next.new.self)) (sym c.is_iri_char.ensures ∙ c.if-not-is_iri_char.true) in
    sym (c.loop-c.invariant.same ∙ (ap bad_char n.chars ∙ bad.0))

pub returns-then-not-is_iri_char-clause-before : goal.returns-then-not-is_iri_char-clause-before
returns-then-not-is_iri_char-clause-before c =
    let n = next_char _ _ _ c.loop-c.invariant.utf8 c.in-Some.ensures.steps.0 in
    let bad = bad_step c.in-Some.c (chars (chars_rest c.next.new.self)) (sym c.is_iri_char.ensures ∙ c.if-not-is_iri_char.true) in
    let none = ap (λ w. byte_len (iri_front w)) n.chars ∙ bad.1 in
    omega (arith, c.loop-c.invariant.front, none)

pub loop-c-preserved : goal.loop-c-preserved
loop-c-preserved c =
    let l = c.loop-c.invariant in
    let rest = chars_rest c.next.new.self in
    let step = c.in-Some.ensures.steps.0 in
    let n = next_char _ _ _ l.utf8 step in
    let good = good_step c.in-Some.c (chars rest) (sym c.is_iri_char.ensures ∙ c.if-not-is_iri_char.false) in
    let front = ap (λ w. byte_len (iri_front w)) n.chars ∙ good.1 in
    record {
      utf8 = n.utf8;
      same = l.same ∙ (ap bad_char n.chars ∙ good.0);
      front = omega (arith, l.front, front, c.len_utf8.ensures.len);
      bytes = omega (arith, l.bytes, ap length step, length-append (encode_utf8 c.in-Some.c) rest, c.len_utf8.ensures.len);
    }

pub returns-clause-c : goal.returns-clause-c
returns-clause-c c = sym (c.loop-c.invariant.same ∙ ap bad_char (no_chars _ c.in-None.ensures.steps.0.0))
