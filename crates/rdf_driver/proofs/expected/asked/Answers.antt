use Rattle.rdf_driver.proofs.Prelude.{◌∙◌, sym, subst, KnowsNext}
use Rattle.rdf_driver.proofs.expected.asked.Goals as goal

pub returns-then-may_come-clause-exact : goal.returns-then-may_come-clause-exact
returns-then-may_come-clause-exact g c =
    subst (KnowsNext g.G.Grammar.words g.G.Foresees.trees c.args.grammar.now c.args.kind)
    (c.if-may_come.true ∙ sym c.with.ensures.added) c.may_come.ensures.exact

pub returns-else-may_come-clause-exact : goal.returns-else-may_come-clause-exact
returns-else-may_come-clause-exact g c =
    subst (KnowsNext g.G.Grammar.words g.G.Foresees.trees c.args.grammar.now c.args.kind) (c.if-may_come.false ∙ sym c.requires) c.may_come.ensures.exact
