use Rattle.rdf_tokens.proofs.Prelude.{◌≡◌, true, ◌&&◌, false, cond, sym, ap, ◌∙◌, arith, nat_tests, has, is_base, Letter, Mark, Other, wide_of, is_mark}
use Rattle.rdf_terms.specs.Classes.{scalar}
use Rattle.rdf_tokens.proofs.states.wide.width.Goals as goal

pub returns-else-is_name_mark : goal.returns-else-is_name_mark
unfolding wide_of has
returns-else-is_name_mark c =
    let inside : scalar c.args.c ≡ true = grind (arith, nat_tests, c.ranges.c) in
    let base : is_base c.args.c ≡ false = ap (λ b. b && is_base c.args.c) (sym inside) ∙ (sym c.is_pn_base.ensures ∙ c.if-is_pn_base.false) in
    let mark : is_mark c.args.c ≡ false = sym c.is_name_mark.ensures ∙ c.if-is_name_mark.false in
    sym (ap (λ b. cond b Letter (cond (is_mark c.args.c) Mark Other)) base ∙ ap (λ b. cond b Mark Other) mark)
