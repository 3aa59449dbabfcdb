-- What the state and the scope hold together is within the limits, and so fits.
use Rattle.rdf_trig.proofs.Prelude.{◌≤◌, ◌+◌, sym, subst, arith, Sizes, most_bytes_held, most_kept, TreeAt}
use Rattle.rdf_trig.proofs.code.HoldingLemmas.{kept_within, kept_fits}
use Rattle.rdf_trig.proofs.grammar.TreeGrammarHolds.held.Given.{Over}
use Rattle.rdf_trig.proofs.grammar.TreeGrammarHolds.held.Goals as goal

pub held-requires : goal.held-requires
held-requires g c =
    let r = c.self.inside in
    let k = kept_within r.rules.form r.rules.limits r.state c.self.invariant.1 0 (omega arith) in
    let f = kept_fits r.rules.limits c.are_in_range.ensures in
    omega (arith, k, f)

within : (g : Over) (c : goal.After-held-2 g) → c.held.result + c.held-2.result ≤ most_kept c.self.inside.rules.limits
within g c =
    let r = c.self.inside in
    let scope = subst (λ (z : Sizes). c.held-2.result ≤ most_bytes_held z) c.self.invariant.0 c.held-2.ensures.most in
    subst (λ n. n + c.held-2.result ≤ most_kept r.rules.limits) (sym c.held.ensures)
    (kept_within r.rules.form r.rules.limits r.state c.self.invariant.1 c.held-2.result scope)

pub overflow_add-result : goal.overflow_add-result
overflow_add-result g c =
    let k = within g c in
    let f = kept_fits c.self.inside.rules.limits c.are_in_range.ensures in
    omega (arith, k, f)

pub returns-clause-most : goal.returns-clause-most
returns-clause-most g c =
    subst (λ (y : TreeAt). c.held.result + c.held-2.result ≤ most_kept y.state.setting.scope.limits) c.self.view_is
    (subst (λ (z : Sizes). c.held.result + c.held-2.result ≤ most_kept z) (sym c.self.invariant.0) (within g c))

pub returns-clause-few : goal.returns-clause-few
returns-clause-few g c =
    let k = within g c in
    let f = kept_fits c.self.inside.rules.limits c.are_in_range.ensures in
    omega (arith, k, f)
