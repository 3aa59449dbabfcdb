-- The loop that copies a local part without its backslashes.
use Rattle.rdf_terms.proofs.Prelude.{sym, ap, subst, ◌∙◌, IsUtf8, chars_rest, IsUtf8-string_bytes, cond-true}
use Rattle.rdf_terms.proofs.CharsLemmas.{next_char, no_chars}
use Rattle.rdf_terms.proofs.LocalLemmas.{unescaped_none, unescaped_push, unescaped_skip, unescaped_all}
use Rattle.rdf_terms.proofs.local.unescaped.Goals as goal

pub loop-c-init : goal.loop-c-init
loop-c-init g c =
    let rest = ap chars_rest c.into_iter-c-iterator.ensures.into_iter_gives ∙ c.chars-c-items.ensures.rest in
    record { utf8 = subst IsUtf8 (sym rest) c.utf8.text; same = unescaped_none _ _ _ rest c.new-out.ensures.bytes }

pub loop-c-preserved-then-c-eq92 : goal.loop-c-preserved-then-c-eq92
loop-c-preserved-then-c-eq92 g c =
    let step = c.in-Some.ensures.steps.0 in
    record {
      utf8 = (next_char _ _ _ c.loop-c.invariant.utf8 step).utf8;
      same = unescaped_skip _ _ _ _ c.in-Some.c c.loop-c.invariant.same c.loop-c.invariant.utf8 step c.if-c-eq92.true;
    }

pub loop-c-preserved : goal.loop-c-preserved
loop-c-preserved g c =
    let step = c.in-Some.ensures.steps.0 in
    record {
      utf8 = (next_char _ _ _ c.loop-c.invariant.utf8 step).utf8;
      same = unescaped_push _ _ _ _ _ c.in-Some.c c.loop-c.invariant.same (IsUtf8-string_bytes c.loop-c.out) c.loop-c.invariant.utf8 step c.if-c-eq92.false
          (c.push.ensures.bytes ∙ cond-true _ _ _ c.if-is_err.ensures.negation);
    }

pub returns-clause-ok : goal.returns-clause-ok
returns-clause-ok g c =
    sym (c.loop-c.invariant.same ∙ unescaped_all _ _ (no_chars _ c.in-None.ensures.steps.0.0))
