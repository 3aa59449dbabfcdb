use Rattle.rdf_stream.proofs.Prelude.{◌≡◌, ◌++◌, ◌+◌, suc, take, drop, sym, ap, ◌∙◌, append_assoc, arith, false_from_ne_true, without_crs}
use Rattle.rdf_lines.proofs.WrittenBytesLemmas.{on_ok}
use Rattle.rdf_stream.proofs.WithoutCrsLemmas.{after_one, begins_more, first_cr, no_cr}
use Rattle.rdf_stream.proofs.without_crs.put_runs.Goals as goal

pub loop-at-preserved : goal.loop-at-preserved
loop-at-preserved g c =
    let rest = c.loop-at.rest.now in
    let at = c.in-Some.at in
    let out = c.loop-at.out in
    let next : at + 1 ≡ suc at = omega arith in
    let first = first_cr rest at (λ k l. false_from_ne_true _ (c.in-Some.ensures.0.before k (omega arith) l)) c.in-Some.ensures.1 c.in-Some.ensures.0.high in
    let written = ap (λ x. x ++ without_crs (drop (at + 1) rest)) c.in_ok-append.ensures.appended
    ∙ (append_assoc out (take at rest) (without_crs (drop (at + 1) rest))
    ∙ (ap (λ k. out ++ (take at rest ++ without_crs (drop k rest))) next ∙ (ap (λ x. out ++ x) (sym first) ∙ c.loop-at.invariant.0))) in (
      ap (λ x. c.append.new.self ++ without_crs x) (after_one rest at) ∙ written,
      begins_more c.args.out.now out c.append.new.self (take at rest) c.loop-at.invariant.1 c.in_ok-append.ensures.appended,
    )

pub returns-clause-written : goal.returns-clause-written
returns-clause-written g c =
    let rest = c.loop-at.rest.now in
    let out = c.loop-at.out in
    let none = no_cr rest (λ k l. false_from_ne_true _ (c.in_default.ensures k (omega arith) l)) in
    on_ok c.append-2.result (λ e. e ∙ (ap (λ x. out ++ x) (sym none) ∙ c.loop-at.invariant.0)) c.append-2.ensures.appended
