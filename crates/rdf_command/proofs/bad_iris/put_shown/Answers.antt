use Rattle.rdf_command.proofs.Prelude.{◌∙◌, ◌++◌, ap, append_assoc, encode_utf8, encode_utf8_all, map, sym, append-nil, chars, chars_rest, shown}
use Rattle.rdf_terms.proofs.CharsLemmas.{next_char, no_chars}
use Rattle.rdf_command.proofs.bad_iris.put_shown.Goals as goal

pub loop-c-preserved : goal.loop-c-preserved
loop-c-preserved c =
    let l = c.loop-c.invariant in
    let line = c.loop-c.line.items in
    let rest = encode_utf8_all (map shown (chars (chars_rest c.next.new.self))) in
    let n = next_char _ _ _ l.utf8 c.in-Some.ensures.steps.0 in
    let pushed = c.in_ok-put_char.ensures ∙ ap (λ x. line ++ encode_utf8 x) c.shown.ensures in
    record {
      utf8 = n.utf8;
      put = ap (λ t. t ++ rest) pushed
          ∙ (append_assoc line (encode_utf8 (shown c.in-Some.c)) rest ∙ (ap (λ w. line ++ encode_utf8_all (map shown w)) (sym n.chars) ∙ l.put));
    }

pub returns : goal.returns
returns c =
    let line = c.loop-c.line.items in
    sym (append-nil line) ∙ (ap (λ w. line ++ encode_utf8_all (map shown w)) (sym (no_chars _ c.in-None.ensures.steps.0.0)) ∙ c.loop-c.invariant.put)
