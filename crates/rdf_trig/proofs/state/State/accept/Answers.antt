-- Each way through a step: a look-up or a put that failed, memory that was short at the end, and a token that was accepted.
use Rattle.rdf_trig.proofs.Prelude.{◌≡◌, ◌≤◌, ◌∙◌, sym, ap, subst, refl, length, arith, Appends, leaf, moved, mode_in, use_in, scope_in, DepthMoves, state_of, given, GaveUp, DepthMay, FindsNone, most_text, Fits, turned, frames_after}
use Rattle.rdf_trig.specs.Machine as M
use Rattle.rdf_trig.proofs.machine.AcceptedTokens.{accepted}
use Rattle.rdf_trig.proofs.code.HoldingLemmas.{token_within, name_within, named_fits}
use Rattle.rdf_trig.proofs.code.PutsInRow.{told_stops}
use Rattle.rdf_trig.proofs.code.TurnsLemmas.{turned_named}
use Rattle.rdf_trig.proofs.code.AnswersOfSteps.{depth_stays, fails_stops, fails_gave, fails_after, accepts_moved, keeps_moved, limits_kept, same_scope, bytes_at_most}
use Rattle.rdf_trig.proofs.code.AgreeingScopes.{slot_looks, slot_none}
use Rattle.rdf_trig.proofs.code.NextKinds.{other_fault}
use Rattle.rdf_trig.proofs.state.State.accept.Goals as goal

pub returns-in_err-fill-clause-err : goal.returns-in_err-fill-clause-err
returns-in_err-fill-clause-err g c =
    let self = c.args.self.now in
    let form = c.args.rules.now.form in
    let here = c.args.scope.now in
    let k = c.args.token.now.kind in
    let l = leaf c.args.token.now in
    let r = c.in_err-fill.field-0.0 in
    told_stops c.from_residual-in_err-fill.result r _ c.from_residual-in_err-fill.ensures.1
    (λ s e. fails_stops g.S.QuadSink.takes g.S.QuadSink.leaves g.S.QuadSink.has_failed form (state_of form s self) k l r c.args.sink.now c.requires.live
    (c.in_ok-turn.ensures.ok s l (ap (λ z. z.depth) e.limits ∙ sym c.requires.most))
    (slot_none form self c.in-Some.slot c.in_ok-turn.turn s here k l r c.in-Some.ensures.turn c.in_ok-turn.ensures.suits e c.in_err-fill.ensures.err))

pub returns-in-Some-clause-ok : goal.returns-in-Some-clause-ok
returns-in-Some-clause-ok g c = λ s e.
    let self = c.args.self.now in
    let form = c.args.rules.now.form in
    let here = c.args.scope.now in
    let token = c.args.token.now in
    let k = token.kind in
    let l = leaf token in
    let f = c.in_ok-fill.ensures.ok in
    let turn = c.in_ok-turn.turn in
    let m = mode_in form self in
    let now = scope_in s m k l in
    let u = use_in s m k l in
    let looks = slot_looks form self c.in-Some.slot turn s here k l f.name c.in-Some.ensures.turn c.in_ok-turn.ensures.suits e f.names in
    accepts_moved g.S.QuadSink.takes form s here self c.fill.new.self k l f.name c.args.sink.now c.args.sink.now
    (c.in_ok-turn.ensures.ok s l (ap (λ z. z.depth) e.limits ∙ sym c.requires.most)) looks
    (c.in_ok-turn.ensures.turn s l f.name looks.name ∙ (sym (turned_named form self f.name now u f.name turn l)
    ∙ subst (λ t. turned form (record self { name = f.name }) now u f.name t l ≡ moved form now u c.fill.new.self) c.in-Some.ensures.turn (f.takes form now u)))
    (subst (λ qs. Appends g.S.QuadSink.takes c.args.sink.now qs c.args.sink.now) (sym (c.in-Some.ensures.idle form s token)) refl)

pub returns-in-Some-clause-count : goal.returns-in-Some-clause-count
returns-in-Some-clause-count g c = λ s qs n a.
    let form = c.args.rules.now.form in
    let token = c.args.token.now in
    let m = state_of form s c.args.self.now in
    let x = accepted s.limits m token.kind (M.waiting m.setting m.mode token.kind (leaf token)) (M.step form m.setting m.mode token.kind (leaf token)) qs n a in
    ap length (sym (c.in-Some.ensures.idle form s token)) ∙ ap length (sym x.given)

pub returns-in-Some-clause-keeps : goal.returns-in-Some-clause-keeps
returns-in-Some-clause-keeps g c =
    let self = c.args.self.now in
    let new = c.fill.new.self in
    let form = c.args.rules.now.form in
    let token = c.args.token.now in
    let k = token.kind in
    let l = leaf token in
    let s = c.args.scope.now in
    let sizes = s.limits in
    let f = c.in_ok-fill.ensures.ok in
    let turn = c.in_ok-turn.turn in
    let m = mode_in form self in
    let now = scope_in s m k l in
    let u = use_in s m k l in
    let looks = slot_looks form self c.in-Some.slot turn s s k l f.name c.in-Some.ensures.turn c.in_ok-turn.ensures.suits (same_scope s) f.names in
    let frames = subst (λ t. length new.frames.items ≤ frames_after t (length self.frames.items)) c.in-Some.ensures.turn f.stack in
    let most = c.in_ok-turn.ensures.frames (length self.frames.items) in
    keeps_moved form s sizes self new k l _ _ c.requires.keeps (bytes_at_most l.text sizes.token c.requires.short)
    (c.in_ok-turn.ensures.turn s l f.name looks.name ∙ (sym (turned_named form self f.name now u f.name turn l)
    ∙ subst (λ t. turned form (record self { name = f.name }) now u f.name t l ≡ moved form now u new) c.in-Some.ensures.turn (f.takes form now u)))
    (depth_stays k self.depth new.depth c.in-Some.ensures.kind f.depth)
    (λ d. rw (sym c.requires.most) (c.in_ok-turn.ensures.deep d))
    (omega (arith, frames, most))
    (f.fits (most_text sizes) (token_within sizes token c.requires.short) (name_within sizes sizes f.name refl f.limit)
    (named_fits (most_text sizes) self f.name c.requires.keeps.fits))
    (f.same ∙ c.requires.keeps.name)

pub returns-in_err-look_up-clause-err : goal.returns-in_err-look_up-clause-err
returns-in_err-look_up-clause-err g c =
    let self = c.args.self.now in
    let form = c.args.rules.now.form in
    let k = c.args.token.now.kind in
    let l = leaf c.args.token.now in
    told_stops c.from_residual-in_err-look_up.result c.in_err-look_up.field-0.0 _ c.from_residual-in_err-look_up.ensures.1
    (λ s e. fails_stops g.S.QuadSink.takes g.S.QuadSink.leaves g.S.QuadSink.has_failed form
    (state_of form s self) k l c.in_err-look_up.field-0.0 c.args.sink.now c.requires.live
    (c.in_ok-turn.ensures.ok s l (ap (λ z. z.depth) e.limits ∙ sym c.requires.most)) (c.in_err-look_up.ensures.err form s e))

pub returns-in_err-given-clause-err : goal.returns-in_err-given-clause-err
returns-in_err-given-clause-err g c =
    let self = c.args.self.now in
    let form = c.args.rules.now.form in
    let token = c.args.token.now in
    let k = token.kind in
    let l = leaf token in
    told_stops c.from_residual-in_err-given.result c.in_err-given.field-0.0 _ c.from_residual-in_err-given.ensures.1
    (λ s e. fails_gave g.S.QuadSink.takes g.S.QuadSink.leaves g.S.QuadSink.has_failed form
    (state_of form s self) k l c.in_err-given.field-0.0 c.args.sink.now c.give.new.sink
    (c.in_ok-turn.ensures.ok s l (ap (λ z. z.depth) e.limits ∙ sym c.requires.most)) (c.in_ok-look_up.ensures.ok form s e).admitted
    (subst (λ r. GaveUp g.S.QuadSink.takes g.S.QuadSink.leaves g.S.QuadSink.has_failed c.in_err-given.field-0.0
    (given form s r token) c.args.sink.now c.give.new.sink)
    c.look_up.ensures.same (c.in_err-given.ensures.err form s)))

pub returns-in_err-move_on-clause-err : goal.returns-in_err-move_on-clause-err
returns-in_err-move_on-clause-err g c =
    let self = c.args.self.now in
    let form = c.args.rules.now.form in
    let token = c.args.token.now in
    let k = token.kind in
    let l = leaf token in
    told_stops c.from_residual-in_err-move_on.result c.in_err-move_on.field-0.0 _ c.from_residual-in_err-move_on.ensures.1
    (λ s e. fails_after g.S.QuadSink.takes g.S.QuadSink.leaves g.S.QuadSink.has_failed form
    (state_of form s self) k l c.in_err-move_on.field-0.0 c.args.sink.now c.give.new.sink
    (c.in_ok-turn.ensures.ok s l (ap (λ z. z.depth) e.limits ∙ sym c.requires.most)) (c.in_ok-look_up.ensures.ok form s e).admitted
    (subst (λ r. Appends g.S.QuadSink.takes c.args.sink.now (given form s r token) c.give.new.sink) c.look_up.ensures.same (c.in_ok-given.ensures.ok form s))
    c.in_err-move_on.ensures.err c.in_ok-given.ensures.live)

pub move_on-requires-clause-suits : goal.move_on-requires-clause-suits
move_on-requires-clause-suits g c =
    let s = c.args.scope.now in
    c.in_ok-turn.ensures.suits c.look_up.new.self.name (c.in_ok-look_up.ensures.ok c.args.rules.now.form s (same_scope s)).named

pub move_on-requires-clause-room : goal.move_on-requires-clause-room
move_on-requires-clause-room g c =
    subst (λ r. DepthMay c.args.token.now.kind r.depth) (sym c.look_up.ensures.same) c.in_ok-turn.ensures.room

pub returns-clause-ok : goal.returns-clause-ok
returns-clause-ok g c = λ s e.
    let self = c.args.self.now in
    let form = c.args.rules.now.form in
    let token = c.args.token.now in
    let k = token.kind in
    let l = leaf token in
    let name = c.look_up.new.self.name in
    let turn = c.in_ok-turn.turn in
    let m = mode_in form self in
    let looks = c.in_ok-look_up.ensures.ok form s e in
    let same = c.look_up.ensures.same in
    let now = scope_in s m k l in
    let u = use_in s m k l in
    accepts_moved g.S.QuadSink.takes form s c.look_up.new.scope self c.move_on.new.self k l name c.args.sink.now c.give.new.sink
    (c.in_ok-turn.ensures.ok s l (ap (λ z. z.depth) e.limits ∙ sym c.requires.most)) looks
    (c.in_ok-turn.ensures.turn s l name looks.name ∙ (sym (turned_named form self name now u name turn l)
    ∙ subst (λ r. turned form r now u name turn l ≡ moved form now u c.move_on.new.self) same (c.in_ok-move_on.ensures.takes form now u)))
    (subst (λ r. Appends g.S.QuadSink.takes c.args.sink.now (given form s r token) c.give.new.sink) same (c.in_ok-given.ensures.ok form s))

pub returns-clause-count : goal.returns-clause-count
returns-clause-count g c = λ s qs n a.
    let self = c.args.self.now in
    let form = c.args.rules.now.form in
    let token = c.args.token.now in
    let m = state_of form s self in
    let x = accepted s.limits m token.kind (M.waiting m.setting m.mode token.kind (leaf token)) (M.step form m.setting m.mode token.kind (leaf token)) qs n a in
    c.in_ok-given.ensures.count form s ∙ (ap (λ r. length (given form s r token)) c.look_up.ensures.same ∙ ap length (sym x.given))

pub returns-clause-limits : goal.returns-clause-limits
returns-clause-limits g c =
    let s = c.args.scope.now in
    let form = c.args.rules.now.form in
    limits_kept s c.look_up.new.scope (state_of form s c.args.self.now).mode c.args.token.now.kind (leaf c.args.token.now) c.look_up.new.self.name
    (c.in_ok-look_up.ensures.ok form s (same_scope s))

pub returns-clause-keeps : goal.returns-clause-keeps
returns-clause-keeps g c =
    let self = c.args.self.now in
    let form = c.args.rules.now.form in
    let token = c.args.token.now in
    let k = token.kind in
    let l = leaf token in
    let s = c.args.scope.now in
    let sizes = s.limits in
    let name = c.look_up.new.self.name in
    let turn = c.in_ok-turn.turn in
    let m = mode_in form self in
    let same = c.look_up.ensures.same in
    let looks = c.in_ok-look_up.ensures.ok form s (same_scope s) in
    let now = scope_in s m k l in
    let u = use_in s m k l in
    let frames = subst (λ r. length c.move_on.new.self.frames.items ≤ frames_after turn (length r.frames.items)) same c.in_ok-move_on.ensures.stack in
    let most = c.in_ok-turn.ensures.frames (length self.frames.items) in
    keeps_moved form s sizes self c.move_on.new.self k l _ _ c.requires.keeps (bytes_at_most l.text sizes.token c.requires.short)
    (c.in_ok-turn.ensures.turn s l name looks.name ∙ (sym (turned_named form self name now u name turn l)
    ∙ subst (λ r. turned form r now u name turn l ≡ moved form now u c.move_on.new.self) same (c.in_ok-move_on.ensures.takes form now u)))
    (subst (λ r. DepthMoves k r.depth c.move_on.new.self.depth) same c.in_ok-move_on.ensures.depth)
    (λ d. rw (sym c.requires.most) (c.in_ok-turn.ensures.deep d))
    (omega (arith, frames, most))
    (c.in_ok-move_on.ensures.fits (most_text sizes) (token_within sizes token c.requires.short)
    (name_within sizes sizes name refl c.in_ok-look_up.ensures.fits)
    (subst (Fits (most_text sizes)) (sym same) (named_fits (most_text sizes) self name c.requires.keeps.fits)))
    c.in_ok-move_on.ensures.name

-- A name that stands for nothing, and a put that is refused, are no unexpected tokens.
pub returns-in_err-look_up-clause-stays : goal.returns-in_err-look_up-clause-stays
returns-in_err-look_up-clause-stays g c =
    let here = c.args.scope.now in
    other_fault c.from_residual-in_err-look_up.result c.in_err-look_up.field-0.0 _ c.from_residual-in_err-look_up.ensures.1
    (λ u. subst (FindsNone c.args.self.now c.args.self.now.mode here c.args.token.now) u c.in_err-look_up.ensures.err c.args.rules.now.form
    here (same_scope here))

pub returns-in_err-given-clause-stays : goal.returns-in_err-given-clause-stays
returns-in_err-given-clause-stays g c =
    let form = c.args.rules.now.form in
    let here = c.args.scope.now in
    other_fault c.from_residual-in_err-given.result c.in_err-given.field-0.0 _ c.from_residual-in_err-given.ensures.1
    (λ u.
    subst (λ e. GaveUp g.S.QuadSink.takes g.S.QuadSink.leaves g.S.QuadSink.has_failed e
    (given form here c.look_up.new.self c.args.token.now) c.args.sink.now c.give.new.sink) u
    (c.in_err-given.ensures.err form here))
