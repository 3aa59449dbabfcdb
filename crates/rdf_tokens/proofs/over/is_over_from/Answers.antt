-- Where the states stop, they or the count decide the definition's test.
use Rattle.rdf_tokens.proofs.Prelude.{◌≡◌, ◌⊎◌, ◌≤◌, ◌||◌, true, false, is_some, length, ⊎_elim, sym, ap, ◌∙◌, arith, le-ltb, chars}
use Rattle.rdf_tokens.specs.Machine.{kind_at, goes_on}
use Rattle.rdf_tokens.proofs.OverLemmas.{ends-early, by_state}
use Rattle.rdf_tokens.proofs.over.is_over_from.Goals as goal

pub returns-else-end-limit : goal.returns-else-end-limit
returns-else-end-limit c =
    let w = c.walk_on-end in
    let l = w.result in
    let bs = c.args.text.now in
    let within = c.if-end-limit.false in
    let ends : (length bs ≤ l.at) ⊎ (goes_on c.args.dialect l.state ≡ false) = ⊎_elim (λ i. absurd (omega (arith, i, within))) (λ i. i) w.ensures.stop in
    le-ltb _ _ (omega arith) ∙ sym (ends-early c.args.dialect bs l.at l.count c.args.limit l.state w.ensures.came.here w.ensures.came.state (omega arith) ends)

pub returns-else-is_some : goal.returns-else-is_some
returns-else-is_some c =
    let w = c.walk_on-end in
    let l = w.result in
    let d = c.args.dialect in
    let over = c.if-end-limit.true in
    let none : is_some (kind_at l.state) ≡ false = sym (c.is_some.ensures ∙ ap is_some c.kind.ensures) ∙ c.if-is_some.false in
    let most = w.ensures.few in
    c.is_live.ensures
    ∙ sym (by_state d c.args.limit l.count (chars c.args.text.now) l.state (omega arith) w.ensures.came.here.count w.ensures.came.state
    ∙ ap (λ b. b || goes_on d l.state) none)

pub returns-then-is_some : goal.returns-then-is_some
returns-then-is_some c =
    let w = c.walk_on-end in
    let l = w.result in
    let d = c.args.dialect in
    let over = c.if-end-limit.true in
    let some : is_some (kind_at l.state) ≡ true = sym (c.is_some.ensures ∙ ap is_some c.kind.ensures) ∙ c.if-is_some.true in
    let most = w.ensures.few in
    c.if-is_some.true ∙ sym (by_state d c.args.limit l.count (chars c.args.text.now) l.state
    (omega arith) w.ensures.came.here.count w.ensures.came.state ∙ ap (λ b. b || goes_on d l.state) some)
