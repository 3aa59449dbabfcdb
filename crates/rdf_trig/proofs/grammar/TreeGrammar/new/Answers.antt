use Rattle.rdf_trig.proofs.Prelude.{ℕ, ◌∙◌, sym, ap, ap₂, arith, Sizes, InForce, bytes_held, DocForm, at_start, TreeAt}
use Rattle.rdf_trig.specs.Machine.{State}
use Rattle.rdf_trig.proofs.grammar.TreeGrammar.new.Goals as goal

abbrev stands : DocForm → Sizes → State → ℕ → TreeAt
stands form limits state held = record { form = form; limit = limits.token; state = state; held = held }

pub invariant_of-result : goal.invariant_of-result
invariant_of-result g c = (
  ap (λ (s : InForce). s.limits) c.start.ensures ∙ sym c.rules.ensures.limits,
  c.new.ensures.keeps c.rules.result.form c.rules.result.limits,
)

pub returns : goal.returns
returns g c =
    let start = c.args.options.start in
    let none = c.new.ensures.held in
    let scope = ap bytes_held c.start.ensures in
    ap₂ (stands c.rules.result.form c.rules.result.limits) (c.new.ensures.start c.rules.result.form c.start.result ∙ ap at_start c.start.ensures)
    (omega (arith, none, scope))
    ∙ ap₂ (λ form limits. stands form limits (at_start start) (bytes_held start)) c.rules.ensures.form c.rules.ensures.limits
