use Rattle.rdf_trig.proofs.Prelude.{sym, subst, KnowsNext, trees, tree_words}
use Rattle.rdf_trig.proofs.grammar.TreeGrammarForesees.may_come.Goals as goal

pub returns : goal.returns
returns g c = record {
  exact = subst (KnowsNext tree_words (λ x. trees x.form x.start) c.args.self.now c.args.kind) (sym c.may_come.ensures) c.step.ensures.exact;
}
