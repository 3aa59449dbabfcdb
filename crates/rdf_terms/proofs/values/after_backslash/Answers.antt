-- Behind a backslash: the end, a letter, or a number.
use Rattle.rdf_terms.proofs.Prelude.{◌≡◌, ◌+◌, Some, sym, ◌∙◌, subst, refl, arith, inside_of, IsRead, Reads, leads, outside, slash}
use Rattle.rdf_terms.proofs.EscapesLemmas.{no_letter, not_end, reads_from, reads_letter, step_byte, step_end, utf8_byte}
use Rattle.rdf_terms.proofs.UcharLemmas.{uchar_reads}
use Rattle.rdf_terms.proofs.values.after_backslash.Goals as goal

pub returns-then-at-text-clause-read : goal.returns-then-at-text-clause-read
returns-then-at-text-clause-read c =
    let i = inside_of c.args.inside in
    step_byte i outside 92 c.args.text.now c.args.at c.requires.within c.requires.utf8 c.requires.backslash (omega arith)
    ∙ step_end i slash c.args.text.now (c.args.at + 1) (omega (arith, c.if-at-text.true)) refl

pub returns-in-Some-clause-read : goal.returns-in-Some-clause-read
returns-in-Some-clause-read c =
    let i = inside_of c.args.inside in
    let bs = c.args.text.now in
    let at = c.args.at in
    let is = c.in-Some.ensures.is in
    let two : at + 1 + 1 ≡ at + 2 = omega arith in
    subst (IsRead i (leads outside) bs at c.in-Some.c) two
    (reads_from i (leads outside) (leads slash) bs at (at + 1) (Some (c.in-Some.c, at + 1 + 1)) (omega arith)
    (step_byte i outside 92 bs at c.requires.within c.requires.utf8 c.requires.backslash (omega arith))
    (reads_letter i bs (at + 1) (Some c.in-Some.c) (not_end _ _ (omega (arith, c.requires.within)) c.if-at-text.false)
    (utf8_byte 92 bs at c.requires.within c.requires.utf8 c.requires.backslash (omega arith))
    (no_letter i 117 _ _ refl is) (no_letter i 85 _ _ refl is) is c.in-Some.ensures.character))

pub returns-in-None-clause-read : goal.returns-in-None-clause-read
returns-in-None-clause-read c =
    let i = inside_of c.args.inside in
    let bs = c.args.text.now in
    let at = c.args.at in
    subst (Reads i (leads outside) bs at) (sym c.allowed.ensures)
    (uchar_reads i bs at c.uchar.result (not_end _ _ (omega (arith, c.requires.within)) c.if-at-text.false) c.requires.utf8 c.requires.backslash
    (sym c.in-None.ensures.is) c.uchar.ensures)
