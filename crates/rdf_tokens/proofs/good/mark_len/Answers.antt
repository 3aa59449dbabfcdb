-- A byte order mark is the first character, of three bytes, or there is none.
use Rattle.rdf_tokens.proofs.Prelude.{◌≡◌, ℕ, [], length, sym, ap, ◌∙◌, arith, true, ◌==◌, eqb-true, cond-true, cond-false, false_from_ne_true, nat_tests, nil_from_length, chars-nil, chars, len_utf8, bytes_of, mark}
use Rattle.rdf_tokens.proofs.CutLemmas.{mark_bytes}
use Rattle.rdf_tokens.proofs.good.mark_len.Goals as goal

eqb-from : (a b : ℕ) → a ≡ b → (a == b) ≡ true
eqb-from a b e = grind (arith, nat_tests)

pub returns-then-is_empty : goal.returns-then-is_empty
returns-then-is_empty c =
    let none : c.args.text.now ≡ [] = nil_from_length c.args.text.now (eqb-true (length c.args.text.now) 0 (sym c.is_empty.ensures ∙ c.if-is_empty.true)) in
    sym (ap (λ w. bytes_of (mark w) w) (ap chars none ∙ chars-nil))

pub returns-then-c-eq65279 : goal.returns-then-c-eq65279
returns-then-c-eq65279 c =
    let m = mark_bytes c.args.text.now c.char_at-c.result.0 c.char_at-c.result.1 c.utf8.text c.char_at-c.ensures.is in
    let p : c.char_at-c.result.1 ≡ len_utf8 c.char_at-c.result.0 = omega (arith, c.char_at-c.ensures.past) in
    p ∙ sym (m ∙ cond-true _ _ _ (eqb-from _ _ c.if-c-eq65279.true))

pub returns-else-c-eq65279 : goal.returns-else-c-eq65279
returns-else-c-eq65279 c =
    let m = mark_bytes c.args.text.now c.char_at-c.result.0 c.char_at-c.result.1 c.utf8.text c.char_at-c.ensures.is in
    sym (m ∙ cond-false _ _ _ (false_from_ne_true _ (λ t. c.if-c-eq65279.false (eqb-true c.char_at-c.result.0 65279 t))))
