use Rattle.rdf_stream.proofs.Prelude.{◌≡◌, ◌+◌, suc, inl, inr, refl, take, drop, subst, arith, false_from_ne_true, EndsLines}
use Rattle.rdf_stream.proofs.LineCuts.{all_no_end, front_ended, rest_no_end}
use Rattle.rdf_stream.proofs.skips.lines_len.Goals as goal

pub returns-in-Some-clause-lines : goal.returns-in-Some-clause-lines
returns-in-Some-clause-lines c =
    let w = c.args.piece.now in
    let at = c.in-Some.at in
    let next : suc at ≡ at + 1 = omega arith in
    subst (λ n. EndsLines (take n w) (drop n w)) next
    (record {
      ended = inr (front_ended w at c.in-Some.ensures.0.high c.in-Some.ensures.1);
      no_end = rest_no_end w at (λ k l h. false_from_ne_true _ (c.in-Some.ensures.0.after k (omega arith) h));
    })

pub returns-in-None-clause-lines : goal.returns-in-None-clause-lines
returns-in-None-clause-lines c =
    record { ended = inl refl; no_end = all_no_end c.args.piece.now (λ k l. false_from_ne_true _ (c.in-None.ensures k (omega arith) l)) }
