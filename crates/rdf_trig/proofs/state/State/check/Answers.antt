use Rattle.rdf_trig.proofs.Prelude.{◌≡◌, false, true, [], None, sym, subst, ◌∙◌, ◌&&◌, nat_le, InForce, Leaf, mode_in, state_of}
use Rattle.rdf_trig.specs.Machine as M
use Rattle.rdf_trig.proofs.code.AnswersOfSteps.{deep_refused, no_reply, may_count}
use Rattle.rdf_trig.proofs.code.TurnsLemmas.{turn_goes}
use Rattle.rdf_trig.proofs.state.State.check.Goals as goal

pub returns-in-None-clause-err : goal.returns-in-None-clause-err
returns-in-None-clause-err g c s l e =
    no_reply c.args.rules.now.form (state_of c.args.rules.now.form s c.args.self.now) c.args.kind l (c.in-None.ensures.means s l)

pub returns-then-is_too_deep-clause-err : goal.returns-then-is_too_deep-clause-err
returns-then-is_too_deep-clause-err g c s l e =
    let self = c.args.self.now in
    let form = c.args.rules.now.form in
    let k = c.args.kind in
    deep_refused form (state_of form s self) k l (turn_goes form self self.mode k c.in-Some.turn c.in-Some.ensures.means s l)
    (subst (λ d. (M.deepens k && nat_le d (M.depth (mode_in form self))) ≡ true) (sym e)
    (subst (λ d. (M.deepens k && nat_le c.args.rules.now.limits.depth d) ≡ true) c.requires
    (subst (λ d. (M.deepens k && nat_le d self.depth) ≡ true) c.depth.ensures (sym c.is_too_deep.ensures.is ∙ c.if-is_too_deep.true))))

pub returns-else-is_too_deep-clause-ok : goal.returns-else-is_too_deep-clause-ok
returns-else-is_too_deep-clause-ok g c s l e =
    let self = c.args.self.now in
    let form = c.args.rules.now.form in
    let k = c.args.kind in (
      turn_goes form self self.mode k c.in-Some.turn c.in-Some.ensures.means s l,
      subst (λ d. (M.deepens k && nat_le d (M.depth (mode_in form self))) ≡ false) (sym e)
          (subst (λ d. (M.deepens k && nat_le c.args.rules.now.limits.depth d) ≡ false) c.requires
          (subst (λ d. (M.deepens k && nat_le d self.depth) ≡ false) c.depth.ensures (sym c.is_too_deep.ensures.is ∙ c.if-is_too_deep.false))),
    )

pub returns-else-is_too_deep-clause-room : goal.returns-else-is_too_deep-clause-room
returns-else-is_too_deep-clause-room g c =
    let s : InForce = record { base = None; bindings = []; limits = record { token = 0; iri = 0; depth = 0; bindings = 0 } } in
    let l : Leaf = record { text = []; at = record { offset = 0; line = 0 } } in
    let self = c.args.self.now in
    let form = c.args.rules.now.form in
    let n = state_of form s self in
    may_count form n.setting n.mode c.args.kind l self.depth
    (turn_goes form self self.mode c.args.kind c.in-Some.turn c.in-Some.ensures.means s l) c.requires (c.is_too_deep.ensures.room c.if-is_too_deep.false)
