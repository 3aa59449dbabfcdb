-- What the step knows of its state holds of the grammar that is seen of it.
use Rattle.rdf_trig.proofs.Prelude.{refl, subst, is_some, KnowsNext, trees, state_of, grammar_bytes, TreeAt, StepsFrom, tree_words}
use Rattle.rdf_trig.proofs.code.NextKinds.{decides_goes, knows_next}
use Rattle.rdf_trig.proofs.grammar.TreeGrammar.step.Goals as goal

pub returns-clause-exact : goal.returns-clause-exact
returns-clause-exact g c =
    let r = c.self.inside in
    let here : TreeAt = record {
      form = r.rules.form;
      limit = r.rules.limits.token;
      state = state_of r.rules.form r.scope r.state;
      held = grammar_bytes r.state r.scope;
    } in
    let can = is_some c.step.result.turn in
    subst (λ y. KnowsNext tree_words (λ x. trees x.form x.start) y c.args.kind can) c.self.view_is
    (knows_next here c.args.kind can (decides_goes r.rules.form r.state r.state.mode c.args.kind c.step.result.turn c.step.ensures.turn))

pub returns-clause-stands : goal.returns-clause-stands
returns-clause-stands g c =
    let r = c.self.inside in
    let z = c.step.ensures in
    subst (λ (y : TreeAt). StepsFrom _ y c.args.kind c.step.result) c.self.view_is
    (r.scope, r.state, refl, z.level, z.mode, z.ready, z.turn)
