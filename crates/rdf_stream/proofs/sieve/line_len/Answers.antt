use Rattle.rdf_stream.proofs.Prelude.{◌≡◌, false, ◌+◌, ◌∷◌, ◌<◌, ℕ, List, [], inr, suc, length, take, drop, sym, ap, subst, ◌∙◌, arith, slice_index, false_from_ne_true, take_all, drop_all, is_line_end, split_lines, IsEndedFront}
use Rattle.rdf_stream.proofs.LineCuts.{first_line, front_ended, only_line}
use Rattle.rdf_stream.proofs.sieve.line_len.Goals as goal

pub returns-in-Some-clause-line : goal.returns-in-Some-clause-line
returns-in-Some-clause-line c =
    let w = c.args.bytes.now in
    let at = c.in-Some.at in
    let next : suc at ≡ at + 1 = omega arith in
    first_line w at (λ k l. false_from_ne_true _ (c.in-Some.ensures.0.before k (omega arith) l)) c.in-Some.ensures.1 c.in-Some.ensures.0.high
    ∙ ap (λ n. take n w ∷ split_lines (drop n w)) next

pub returns-in-Some-clause-ended : goal.returns-in-Some-clause-ended
returns-in-Some-clause-ended c = λ e.
    let w = c.args.bytes.now in
    let at = c.in-Some.at in
    let next : suc at ≡ at + 1 = omega arith in
    subst (λ n. IsEndedFront (take n w)) next (inr (front_ended w at c.in-Some.ensures.0.high c.in-Some.ensures.1))

pub returns-in-None-clause-ended : goal.returns-in-None-clause-ended
returns-in-None-clause-ended c = λ e. subst IsEndedFront (sym (take_all (length c.args.bytes.now) c.args.bytes.now (omega arith))) e

pub returns-in-None-clause-line : goal.returns-in-None-clause-line
returns-in-None-clause-line c = one c.args.bytes.now c.requires.some (λ k l. false_from_ne_true _ (c.in-None.ensures k (omega arith) l))
  where
    one : (w : List ℕ) → 0 < length w → ((k : ℕ) → k < length w → is_line_end (slice_index w k) ≡ false) →
        split_lines w ≡ take (length w) w ∷ split_lines (drop (length w) w)
    one [] l f = absurd (omega (arith, l))
    one (b ∷ w) l f =
        only_line b w f
        ∙ (ap (λ v. v ∷ []) (sym (take_all (length (b ∷ w)) (b ∷ w) (omega arith)))
        ∙ ap (λ v. take (length (b ∷ w)) (b ∷ w) ∷ split_lines v) (sym (drop_all (length (b ∷ w)) (b ∷ w) (omega arith))))
