-- The loop over a local part: the text has a meaning exactly where what is left has one.
use Rattle.rdf_terms.proofs.Prelude.{◌&&◌, Bool, is_some, sym, ap, ◌∙◌, chars, chars_rest, local_from, local_opens}
use Rattle.rdf_terms.proofs.CharsLemmas.{next_char, no_chars}
use Rattle.rdf_terms.proofs.LocalLemmas.{local-next, local-end}
use Rattle.rdf_terms.proofs.local.has_local_value.Goals as goal

pub returns-then-not-stands : goal.returns-then-not-stands
returns-then-not-stands c =
    let n = next_char _ _ _ c.loop-c.invariant.utf8 c.in-Some.ensures.steps.0 in
    sym (c.loop-c.invariant.same ∙ (ap (λ w. is_some (local_from c.loop-c.escaped w)) n.chars
    ∙ (local-next c.loop-c.escaped c.in-Some.c _
    ∙ ap (λ (t : Bool). t && is_some (local_from (local_opens c.loop-c.escaped c.in-Some.c) (chars (chars_rest c.next.new.self))))
    (sym c.stands.ensures ∙ c.if-not-stands.true))))

pub loop-c-preserved : goal.loop-c-preserved
loop-c-preserved c =
    let n = next_char _ _ _ c.loop-c.invariant.utf8 c.in-Some.ensures.steps.0 in
    record {
      utf8 = n.utf8;
      same = c.loop-c.invariant.same ∙ (ap (λ w. is_some (local_from c.loop-c.escaped w)) n.chars
          ∙ (local-next c.loop-c.escaped c.in-Some.c _
          ∙ (ap (λ (t : Bool). t && is_some (local_from (local_opens c.loop-c.escaped c.in-Some.c)
          (chars (chars_rest c.next.new.self)))) (sym c.stands.ensures ∙ c.if-not-stands.false)
          ∙ ap (λ (b : Bool). is_some (local_from b (chars (chars_rest c.next.new.self)))) (sym c.opens-escaped.ensures))));
    }

pub returns : goal.returns
returns c =
    sym (c.loop-c.invariant.same ∙ (ap (λ w. is_some (local_from c.loop-c.escaped w)) (no_chars _ c.in-None.ensures.steps.0.0) ∙ local-end c.loop-c.escaped))
