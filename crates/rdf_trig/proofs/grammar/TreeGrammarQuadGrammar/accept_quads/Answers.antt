-- What a step of the reader did is what the machine does, so the driver may use the grammar.
use Rattle.rdf_trig.proofs.Prelude.{ℕ, arith, subst, sym, ap, ap₂, refl, ◌∙◌, InForce, token_of, Takes, Misses, KeepsLimits, DocForm, reason_of, state_of, most_kept, grammar_bytes, TreeAt, tree_words}
use Rattle.rdf_trig.specs.declared.state.State.{State}
use Rattle.rdf_trig.proofs.code.AnswersOfSteps.{same_scope}
use Rattle.rdf_trig.proofs.code.OpenLists.{open_within}
use Rattle.rdf_trig.proofs.code.LawfulGrammar.{takes_token, misses_token}
use Rattle.rdf_trig.proofs.code.NextKinds.{kept_after, reason_unexpected}
use Rattle.rdf_trig.proofs.grammar.TreeGrammarQuadGrammar.accept_quads.Goals as goal

-- a state and a scope as a grammar has them
abbrev stands : {A : Type 0} → DocForm → ℕ → State A → InForce → TreeAt
stands form limit state scope = record { form = form; limit = limit; state = state_of form scope state; held = grammar_bytes state scope }

pub invariant_of-self-in-Err : goal.invariant_of-self-in-Err
invariant_of-self-in-Err g c =
    let r = c.self.inside in
    kept_after c.in-Err.fault r.rules.form r.rules.limits r.state c.accept.new.self c.begin_anew.new.state r.scope c.accept.new.scope c.begin_anew.new.scope
    c.in-Err.ensures.stays c.begin_anew.ensures.stays c.begin_anew.ensures.anew c.self.invariant

pub returns-in-Ok-clause-ok : goal.returns-in-Ok-clause-ok
returns-in-Ok-clause-ok g c =
    let r = c.self.inside in
    let t = token_of c.args.token.now in
    let old : TreeAt = record {
      form = r.rules.form;
      limit = r.rules.limits.token;
      state = state_of r.rules.form r.scope r.state;
      held = grammar_bytes r.state r.scope;
    } in
    let bytes = grammar_bytes c.accept.new.self c.accept.new.scope in
    let new : TreeAt = record {
      form = r.rules.form;
      limit = r.rules.limits.token;
      state = state_of r.rules.form c.accept.new.scope c.accept.new.self;
      held = bytes;
    } in
    subst (λ y. Takes tree_words g.S.QuadSink.takes y t c.in-Ok.given c.args.sink.now new c.accept.new.sink) c.self.view_is
    (takes_token g.S.QuadSink.takes old t c.accept.new.self c.accept.new.scope c.in-Ok.given bytes c.args.sink.now c.accept.new.sink
    (let enough = open_within r.rules.form c.accept.new.self in omega (arith, enough)) (c.in-Ok.ensures.ok r.scope (same_scope r.scope))
    (c.in-Ok.ensures.count r.scope))

pub returns-in-Err-clause-err : goal.returns-in-Err-clause-err
returns-in-Err-clause-err g c =
    let r = c.self.inside in
    let t = token_of c.args.token.now in
    let old : TreeAt = record {
      form = r.rules.form;
      limit = r.rules.limits.token;
      state = state_of r.rules.form r.scope r.state;
      held = grammar_bytes r.state r.scope;
    } in
    rw c.reason_of.ensures
    (subst (λ y. Misses tree_words g.S.QuadSink.takes g.S.QuadSink.leaves g.S.QuadSink.has_failed
    (reason_of c.in-Err.fault) y t c.args.sink.now c.accept.new.sink) c.self.view_is
    (misses_token g.S.QuadSink.takes old t g.S.QuadSink.leaves g.S.QuadSink.has_failed c.args.sink.now c.accept.new.sink c.in-Err.fault
    (c.in-Err.ensures.err r.scope (same_scope r.scope))))

pub returns-in-Ok-clause-limits : goal.returns-in-Ok-clause-limits
returns-in-Ok-clause-limits g c =
    let r = c.self.inside in
    let bytes = grammar_bytes c.accept.new.self c.accept.new.scope in
    let new : TreeAt = record {
      form = r.rules.form;
      limit = r.rules.limits.token;
      state = state_of r.rules.form c.accept.new.scope c.accept.new.self;
      held = bytes;
    } in
    subst (λ y. KeepsLimits tree_words y new) c.self.view_is (record { token = refl; most = ap most_kept c.in-Ok.ensures.limits })

pub returns-in-Err-clause-limits : goal.returns-in-Err-clause-limits
returns-in-Err-clause-limits g c =
    let r = c.self.inside in
    let bytes = grammar_bytes c.begin_anew.new.state c.begin_anew.new.scope in
    let new : TreeAt = record {
      form = r.rules.form;
      limit = r.rules.limits.token;
      state = state_of r.rules.form c.begin_anew.new.scope c.begin_anew.new.state;
      held = bytes;
    } in
    let kept =
    kept_after c.in-Err.fault r.rules.form r.rules.limits r.state c.accept.new.self c.begin_anew.new.state r.scope c.accept.new.scope c.begin_anew.new.scope
    c.in-Err.ensures.stays c.begin_anew.ensures.stays c.begin_anew.ensures.anew c.self.invariant in
    subst (λ y. KeepsLimits tree_words y new) c.self.view_is (record { token = refl; most = ap most_kept (kept.0 ∙ sym c.self.invariant.0) })

pub returns-in-Err-clause-stays : goal.returns-in-Err-clause-stays
returns-in-Err-clause-stays g c = λ e.
    let r = c.self.inside in
    let u = reason_unexpected c.in-Err.fault (sym c.reason_of.ensures ∙ e) in
    let one = c.in-Err.ensures.stays u in
    let two = c.begin_anew.ensures.stays u in
    ap₂ (stands r.rules.form r.rules.limits.token) (two.0 ∙ one.0) (two.1 ∙ one.1) ∙ c.self.view_is
