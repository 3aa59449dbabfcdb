-- What comes before bytes that begin no whole character is the good text, where it is good.
use Rattle.rdf_tokens.proofs.Prelude.{◌≡◌, take, drop, sym, ap, ◌∙◌, subst, is_some, IsUtf8, utf8_valid_len, utf8_error_len}
use Rattle.rdf_tokens.proofs.GoodLemmas.{valid_cut}
use Rattle.rdf_tokens.proofs.good.wide_front.Goals as goal

pub returns-in-Ok-clause-text : goal.returns-in-Ok-clause-text
returns-in-Ok-clause-text c =
    let bs = c.args.bytes.now in
    let n = c.last_start.result in
    let s = c.split_at.ensures in
    let none : utf8_valid_len (drop n bs) ≡ 0 =
    sym (ap utf8_valid_len s.back) ∙ (sym c.in-Err.ensures.valid_len ∙ (sym c.valid_up_to.ensures ∙ c.if-valid_up_to-eq0.true)) in
    let good : IsUtf8 (take n bs) = subst IsUtf8 s.front c.in-Ok.ensures.cases.1 in
    c.in-Ok.ensures.cases.0 ∙ (s.front ∙ ap (λ k. take k bs) (sym (valid_cut bs n c.last_start.ensures good none)))

pub returns-in-Ok-clause-broken : goal.returns-in-Ok-clause-broken
returns-in-Ok-clause-broken c =
    let bs = c.args.bytes.now in
    let n = c.last_start.result in
    let s = c.split_at.ensures in
    let zero = c.valid_up_to.ensures in
    let none : utf8_valid_len (drop n bs) ≡ 0 =
    sym (ap utf8_valid_len s.back) ∙ (sym c.in-Err.ensures.valid_len ∙ (sym c.valid_up_to.ensures ∙ c.if-valid_up_to-eq0.true)) in
    let good : IsUtf8 (take n bs) = subst IsUtf8 s.front c.in-Ok.ensures.cases.1 in
    c.is_some.ensures ∙ (ap is_some (c.error_len.ensures ∙ (c.in-Err.ensures.fault
    ∙ (ap (λ k. utf8_error_len (drop k c.split_at.result.1.now)) (sym c.valid_up_to.ensures ∙ c.if-valid_up_to-eq0.true) ∙ ap utf8_error_len s.back)))
    ∙ ap (λ k. is_some (utf8_error_len (drop k bs))) (sym (valid_cut bs n c.last_start.ensures good none)))
