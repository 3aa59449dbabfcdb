-- The loop over a name: the text is one exactly where what is left completes it.
use Rattle.rdf_terms.proofs.Prelude.{refl}
use Rattle.rdf_terms.proofs.CharsLemmas.{next_char, no_chars}
use Rattle.rdf_terms.proofs.names.name_goes_on.Goals as goal
use Rattle.rdf_terms.proofs.names.name_goes_on.Goals.{else-not-ends-via-then-not-ends+else-not-is_dot, else-not-ends-via-else-not-ends}

pub returns-then-not-is_dot : goal.returns-then-not-is_dot
returns-then-not-is_dot c =
    let n = next_char _ _ _ c.loop-c.invariant.utf8 c.in-Some.ensures.steps.0 in
    rw (c.loop-c.invariant.same, n.chars, ← c.is_pn_char-ends.ensures, c.if-not-ends.true, ← c.is_dot.ensures, c.if-not-is_dot.true) refl

pub loop-c-preserved : goal.loop-c-preserved
loop-c-preserved c =
    let n = next_char _ _ _ c.loop-c.invariant.utf8 c.in-Some.ensures.steps.0 in
    elim c.else-not-ends.branch [
      | else-not-ends-via-then-not-ends+else-not-is_dot w ↦ record {
        utf8 = n.utf8;
        same = rw (c.loop-c.invariant.same, n.chars, ← c.is_pn_char-ends.ensures, w.if-not-ends.true, ← w.is_dot.ensures, w.if-not-is_dot.false) refl;
      }
      | else-not-ends-via-else-not-ends w ↦ record {
        utf8 = n.utf8;
        same = rw (c.loop-c.invariant.same, n.chars, ← c.is_pn_char-ends.ensures, w.if-not-ends.false) refl;
      }
    ]

pub returns : goal.returns
returns c = rw (c.loop-c.invariant.same, no_chars _ c.in-None.ensures.steps.0.0) refl
