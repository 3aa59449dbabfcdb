-- Each branch is the first rule that fits, by the bytes that it takes.
use Rattle.rdf_iri.proofs.Prelude.{◌≡◌, ◌∙◌, sym, ap, suc, ◌+◌, arith, length, drop, take, or_from, between_to_end, before, from, walk, keep}
use Rattle.rdf_iri.proofs.RulesLemmas.{skip_three, skip_two, slash_two, slash_one, up_three, up_two, skip_all, keep_some}
use Rattle.rdf_iri.proofs.dots.rule_at.Goals as goal

pub returns-then-begins_with-clause-step : goal.returns-then-begins_with-clause-step
returns-then-begins_with-clause-step c = λ o.
    skip_three c.args.path.now o
    (sym c.begins_with.ensures ∙ c.if-begins_with.true)

pub returns-then-begins_with-2-clause-step : goal.returns-then-begins_with-2-clause-step
returns-then-begins_with-2-clause-step c = λ o.
    skip_two c.args.path.now o
    (sym c.begins_with.ensures ∙ c.if-begins_with.false)
    (sym c.begins_with-else-begins_with.ensures ∙ c.if-begins_with-2.true)

pub returns-then-begins_with-3-clause-step : goal.returns-then-begins_with-3-clause-step
returns-then-begins_with-3-clause-step c = λ o.
    slash_two c.args.path.now o
    (or_from _ _ (sym c.begins_with.ensures ∙ c.if-begins_with.false) (sym c.begins_with-else-begins_with.ensures ∙ c.if-begins_with-2.false))
    (sym c.begins_with-else-begins_with-2.ensures ∙ c.if-begins_with-3.true)

pub returns-then-is_equal-clause-step : goal.returns-then-is_equal-clause-step
returns-then-is_equal-clause-step c = λ o.
    slash_one c.args.path.now o
    (or_from _ _ (sym c.begins_with.ensures ∙ c.if-begins_with.false) (sym c.begins_with-else-begins_with.ensures ∙ c.if-begins_with-2.false))
    (sym c.is_equal.ensures ∙ c.if-is_equal.true)

pub returns-then-begins_with-4-clause-step : goal.returns-then-begins_with-4-clause-step
returns-then-begins_with-4-clause-step c = λ o.
    up_three c.args.path.now o
    (or_from _ _ (sym c.begins_with.ensures ∙ c.if-begins_with.false) (sym c.begins_with-else-begins_with.ensures ∙ c.if-begins_with-2.false))
    (or_from _ _ (sym c.begins_with-else-begins_with-2.ensures ∙ c.if-begins_with-3.false) (sym c.is_equal.ensures ∙ c.if-is_equal.false))
    (sym c.begins_with-else-is_equal.ensures ∙ c.if-begins_with-4.true)

pub returns-then-is_equal-2-clause-step : goal.returns-then-is_equal-2-clause-step
returns-then-is_equal-2-clause-step c = λ o.
    up_two c.args.path.now o
    (or_from _ _ (sym c.begins_with.ensures ∙ c.if-begins_with.false) (sym c.begins_with-else-begins_with.ensures ∙ c.if-begins_with-2.false))
    (or_from _ _ (sym c.begins_with-else-begins_with-2.ensures ∙ c.if-begins_with-3.false) (sym c.is_equal.ensures ∙ c.if-is_equal.false))
    (sym c.is_equal-else-begins_with-4.ensures ∙ c.if-is_equal-2.true)

pub returns-then-is_dots-clause-step : goal.returns-then-is_dots-clause-step
returns-then-is_dots-clause-step c = λ o.
    skip_all c.args.path.now o
    (or_from _ _ (sym c.begins_with.ensures ∙ c.if-begins_with.false) (sym c.begins_with-else-begins_with.ensures ∙ c.if-begins_with-2.false))
    (or_from _ _ (sym c.begins_with-else-begins_with-2.ensures ∙ c.if-begins_with-3.false) (sym c.is_equal.ensures ∙ c.if-is_equal.false))
    (or_from _ _ (sym c.begins_with-else-is_equal.ensures ∙ c.if-begins_with-4.false) (sym c.is_equal-else-begins_with-4.ensures ∙ c.if-is_equal-2.false))
    (sym c.is_dots.ensures ∙ c.if-is_dots.true)

pub returns-else-is_dots-clause-step : goal.returns-else-is_dots-clause-step
returns-else-is_dots-clause-step c = λ o.
    let n = c.bytes_before.result in
    let e : suc n ≡ 1 + n = omega arith in
    let b = between_to_end c.args.path.now 1 (length c.args.path.now) (omega arith) in
    keep_some c.args.path.now o n
    (or_from _ _ (sym c.begins_with.ensures ∙ c.if-begins_with.false) (sym c.begins_with-else-begins_with.ensures ∙ c.if-begins_with-2.false))
    (or_from _ _ (sym c.begins_with-else-begins_with-2.ensures ∙ c.if-begins_with-3.false) (sym c.is_equal.ensures ∙ c.if-is_equal.false))
    (or_from _ _ (sym c.begins_with-else-is_equal.ensures ∙ c.if-begins_with-4.false) (sym c.is_equal-else-begins_with-4.ensures ∙ c.if-is_equal-2.false))
    (sym c.is_dots.ensures ∙ c.if-is_dots.false)
    c.requires
    (sym (ap (take n) b) ∙ (c.bytes_before.ensures.front ∙ ap (before 47) b))
    (sym (ap (drop n) b) ∙ (c.bytes_before.ensures.rest ∙ ap (from 47) b))
    ∙ ap (λ i. keep i (walk c.args.path.now o)) e
