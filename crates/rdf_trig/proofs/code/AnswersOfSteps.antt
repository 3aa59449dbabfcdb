-- What the machine answers, from the parts of a step.
use Rattle.rdf_trig.proofs.Prelude.{◌≡◌, ◌≤◌, ◌<◌, ◌+◌, ◌*◌, ◌^◌, ℕ, Bool, true, false, List, [], ◌++◌, ◌&&◌, length, Option, None, refl, sym, ap, ◌∙◌, subst, arith, nat_le, cond-true, cond-false, false≢true, Kind, IriRef, PnameNs, PnameLn, OpenBracket, CloseBracket, OpenParen, CloseParen, Quad, Appends, Sizes, Reason, byte_len, InForce, Leaf, DocForm, StepFault, reference_in, Setting, Use, Reply, No, Go, kept, by_use, refuses, accepts, mode_at, use_in, scope_in, is_go, moved, DepthMoves, ShortPrefix, PrefixFits, StandsForIri, IsAdmitted, SameScope, LooksUp, LooksUpNone, most_text, frames_most, Fits, GaveUp, state_of, May, DepthMay, Keeps, Accepts, answered, Fails}
use Rattle.rdf_terms.proofs.CharsLemmas.{few_bytes}
use Rattle.rdf_terms.specs.declared.reason.Reason.TheVariants as reason
use Rattle.rdf_trig.specs.declared.fault.StepFault.TheVariants as fault
use Rattle.rdf_trig.specs.declared.state.State.{State}
use Rattle.rdf_trig.specs.declared.state.Mode.{Mode}
use Rattle.rdf_trig.specs.declared.state.Mode.TheVariants as mode
use Rattle.rdf_trig.specs.declared.state.Outer.TheVariants as outer
use Rattle.rdf_trig.specs.Machine as M
use Rattle.rdf_trig.specs.Steps.{Begins}
use Rattle.rdf_trig.proofs.code.StepBounds.{step_use, step_depth, step_prefix}
use Rattle.rdf_trig.proofs.code.PutsInRow.{begins_all}
use Rattle.rdf_trig.proofs.machine.DepthAndSense.{with_base_limits, with_binding_limits}

-- a reply that accepts, by its parts
abbrev Goes : Reply → Type 0
Goes reply = (u : Use) × (early now : Option Quad) × (c : Setting) × (m : M.Mode) × (reply ≡ Go u early now c m)

-- a reply that is not No has the parts of one that accepts
goes : (reply : Reply) → is_go reply ≡ true → Goes reply
goes No h = absurd (false≢true h)
goes (Go u early now c m) h = (u, early, now, c, m, refl)

-- a token for which the grammar has no reply is refused as unexpected
pub no_reply : (form : DocForm) (n : M.State) (k : Kind) (l : Leaf) → M.step form n.setting n.mode k l ≡ No →
    M.accept form n k l ≡ refuses reason.Unexpected
no_reply form n k l h = ap (M.answer n.setting.scope.limits n k (M.waiting n.setting n.mode k l)) h

-- the depth can be counted after a token that the grammar allows: no overflow at '[' or '(', and none is closed that is not open
pub may_count : (form : DocForm) (c : Setting) (m : M.Mode) (k : Kind) (l : Leaf) (d : ℕ) → is_go (M.step form c m k l) ≡ true → d ≡ M.depth m →
    (M.deepens k ≡ true → d + 1 < 2 ^ 64) → DepthMay k d
may_count form c m OpenBracket l d g e h = h refl
may_count form c m OpenParen l d g e h = h refl
may_count form c m CloseBracket l d g e h =
    let r = goes (M.step form c m CloseBracket l) g in
    let moves : M.depth r.4 + 1 ≡ M.depth m = step_depth form c m CloseBracket l r.0 r.1 r.2 r.3 r.4 r.5 in
    omega (arith, moves, e)
may_count form c m CloseParen l d g e h =
    let r = goes (M.step form c m CloseParen l) g in
    let moves : M.depth r.4 + 1 ≡ M.depth m = step_depth form c m CloseParen l r.0 r.1 r.2 r.3 r.4 r.5 in
    omega (arith, moves, e)
may_count form c m k l d g e h = tt

-- a reference or a name opens and closes no bracket
pub depth_stays : (k : Kind) (old new : ℕ) → StandsForIri k → new ≡ old → DepthMoves k old new
depth_stays IriRef old new h e = e
depth_stays PnameNs old new h e = e
depth_stays PnameLn old new h e = e
depth_stays k old new h e = absurd h

-- the answer, once the token is allowed and not too deep
abbrev quads_out : M.State → Kind → Leaf → List Quad
quads_out n k l = n.ready ++ kept (M.waiting n.setting n.mode k l) []

-- the machine's state after a reply, with the quads that it holds back
abbrev after : Option Quad → Option Quad → Setting → M.Mode → M.State
after early now c m = record { setting = c; mode = m; ready = kept early (kept now []) }

-- a bracket that the grammar allows is refused where as many are open as may be
pub deep_refused : (form : DocForm) (n : M.State) (k : Kind) (l : Leaf) → is_go (M.step form n.setting n.mode k l) ≡ true →
    (M.deepens k && nat_le n.setting.scope.limits.depth (M.depth n.mode)) ≡ true → M.accept form n k l ≡ refuses reason.TooDeep
deep_refused form n k l g d =
    let r = goes (M.step form n.setting n.mode k l) g in
    let sizes = n.setting.scope.limits in
    ap (M.answer sizes n k (M.waiting n.setting n.mode k l)) r.5
    ∙ cond-true (M.deepens k && nat_le sizes.depth (M.depth n.mode)) (refuses reason.TooDeep)
    (by_use sizes k r.0 (accepts (quads_out n k l) (after r.1 r.2 r.3 r.4))) d

-- the answer to an allowed token is decided by what the token stands for alone
answer_is : (form : DocForm) (n : M.State) (k : Kind) (l : Leaf) (u : Use) (early now : Option Quad) (c : Setting) (m : M.Mode) → May form n k l →
    M.step form n.setting n.mode k l ≡ Go u early now c m → M.accept form n k l ≡ by_use n.setting.scope.limits k u
    (accepts (quads_out n k l) (after early now c m))
answer_is form n k l u early now c m may e =
    ap (M.answer n.setting.scope.limits n k (M.waiting n.setting n.mode k l)) e
    ∙ cond-false (M.deepens k && nat_le n.setting.scope.limits.depth (M.depth n.mode)) (refuses reason.TooDeep)
    (by_use n.setting.scope.limits k u (accepts (quads_out n k l) (after early now c m))) may.1

-- and what it stands for passes
passed : (form : DocForm) (n : M.State) (k : Kind) (l : Leaf) → May form n k l → IsAdmitted n.setting.scope.limits k (use_in n.setting.scope n.mode k l) →
    (o : M.State) × (M.accept form n k l ≡ accepts (quads_out n k l) o)
passed form n k l may p =
    let r = goes (M.step form n.setting n.mode k l) may.0 in
    let o = after r.1 r.2 r.3 r.4 in
    let same = step_use form n.setting n.mode k l r.0 r.1 r.2 r.3 r.4 r.5 in (
      o,
      answer_is form n k l r.0 r.1 r.2 r.3 r.4 may r.5
          ∙ (ap (λ u. by_use n.setting.scope.limits k u (accepts (quads_out n k l) o)) same ∙ p (accepts (quads_out n k l) o)),
    )

-- or it does not
stops_answer : (form : DocForm) (n : M.State) (k : Kind) (l : Leaf) (e : Reason) → May form n k l →
    ((a : M.Answer) → by_use n.setting.scope.limits k (use_in n.setting.scope n.mode k l) a ≡ refuses e) → M.accept form n k l ≡ refuses e
stops_answer form n k l e may s =
    let r = goes (M.step form n.setting n.mode k l) may.0 in
    let o = after r.1 r.2 r.3 r.4 in
    let same = step_use form n.setting n.mode k l r.0 r.1 r.2 r.3 r.4 r.5 in
    answer_is form n k l r.0 r.1 r.2 r.3 r.4 may r.5
    ∙ (ap (λ u. by_use n.setting.scope.limits k u (accepts (quads_out n k l) o)) same ∙ s (accepts (quads_out n k l) o))

-- a look-up that failed leaves the sink as it was, and the machine refuses for that reason
pub fails_stops : {S : Type 0} (takes leaves : S → Quad → S → Type 0) (failed : S → Bool) (form : DocForm) (n : M.State) (k : Kind) (l : Leaf)
    (r : StepFault) (sink : S) → failed sink ≡ false →
    May form n k l → LooksUpNone n.setting.scope n.mode k l r → Fails takes leaves failed r (M.accept form n k l) sink sink
fails_stops takes leaves failed form n k l fault.Unbound sink live may s = (stops_answer form n k l reason.Unbound may s, refl)
fails_stops takes leaves failed form n k l fault.NoBase sink live may s = (stops_answer form n k l reason.NoBase may s, refl)
fails_stops takes leaves failed form n k l fault.IriTooLong sink live may s = (stops_answer form n k l reason.IriTooLong may s, refl)
fails_stops takes leaves failed form n k l fault.TooManyBindings sink live may s = (stops_answer form n k l reason.TooManyBindings may s, refl)
fails_stops takes leaves failed form n k l fault.Memory sink live may s = (([], answered (M.accept form n k l), refl, refl), live)
fails_stops takes leaves failed form n k l r sink live may s = absurd s

-- a put that failed is a failure of the step, with some of the quads that were due put
pub fails_gave : {S : Type 0} (takes leaves : S → Quad → S → Type 0) (failed : S → Bool) (form : DocForm) (n : M.State) (k : Kind) (l : Leaf)
    (r : StepFault) (sink new : S) →
    May form n k l → IsAdmitted n.setting.scope.limits k (use_in n.setting.scope n.mode k l) → GaveUp takes leaves failed r (quads_out n k l) sink new →
    Fails takes leaves failed r (M.accept form n k l) sink new
fails_gave takes leaves failed form n k l fault.Memory sink new may p h =
    let a = passed form n k l may p in (subst (λ x. Begins takes leaves (answered x) sink new) (sym a.1) h.0, h.1)
fails_gave takes leaves failed form n k l fault.Sink sink new may p h =
    let a = passed form n k l may p in (subst (λ x. Begins takes leaves (answered x) sink new) (sym a.1) h.0, h.1)
fails_gave takes leaves failed form n k l r sink new may p h = absurd h

-- where memory is short after all quads were put, the step fails so
pub fails_after : {S : Type 0} (takes leaves : S → Quad → S → Type 0) (failed : S → Bool) (form : DocForm) (n : M.State) (k : Kind) (l : Leaf)
    (r : StepFault) (sink new : S) →
    May form n k l → IsAdmitted n.setting.scope.limits k (use_in n.setting.scope n.mode k l) → Appends takes sink (quads_out n k l) new →
    r ≡ fault.Memory → failed new ≡ false → Fails takes leaves failed r (M.accept form n k l) sink new
fails_after takes leaves failed form n k l r sink new may p h e live =
    let a = passed form n k l may p in
    subst (λ x. Fails takes leaves failed x (M.accept form n k l) sink new) (sym e)
    (subst (λ x. Begins takes leaves (answered x) sink new) (sym a.1) (begins_all takes leaves sink new (quads_out n k l) h), live)

-- the state after an accepted token
pub accepts_moved : {A S : Type 0} (takes : S → Quad → S → Type 0) (form : DocForm) (s t : InForce) (old r : State A) (k : Kind) (l : Leaf)
    (i : Option (List ℕ)) (sink new : S) →
    May form (state_of form s old) k l → LooksUp s (state_of form s old).mode k l i t →
    M.step form (state_of form s old).setting (state_of form s old).mode k l ≡ moved form (scope_in s (state_of form s old).mode k l)
    (use_in s (state_of form s old).mode k l) r →
    Appends takes sink (quads_out (state_of form s old) k l) new → Accepts takes form (M.accept form (state_of form s old) k l) sink r t new
accepts_moved takes form s t old r k l i sink new may looks e h =
    let n = state_of form s old in
    let o = state_of form (scope_in s n.mode k l) r in
    let is : M.accept form n k l ≡ accepts (quads_out n k l) o =
    answer_is form n k l (use_in s n.mode k l) _ _ o.setting o.mode may e ∙ looks.admitted (accepts (quads_out n k l) o)
    in
    subst (λ a. Accepts takes form a sink r t new) (sym is) (h, (scope_in s n.mode k l, looks.scope, refl))

-- what is kept
depth_same : (k : Kind) (old new was is : ℕ) → old ≡ was → DepthMoves k old new → DepthMoves k was is → new ≡ is
depth_same OpenBracket old new was is e f g = omega (arith, e, f, g)
depth_same OpenParen old new was is e f g = omega (arith, e, f, g)
depth_same CloseBracket old new was is e f g = omega (arith, e, f, g)
depth_same CloseParen old new was is e f g = omega (arith, e, f, g)
depth_same k old new was is e f g = f ∙ (e ∙ sym g)

-- a prefix that is no longer than its token keeps within the limit of tokens
prefix_kept : {A : Type 0} (a b : ℕ) (form : DocForm) (r : State A) (m : Mode) → a ≤ b → ShortPrefix a (mode_at form r m) → PrefixFits b r m
prefix_kept a b form r (mode.Outer (outer.WantPrefixIri w)) h s = omega (arith, h, s)
prefix_kept a b form r m h s = tt

-- as many brackets as may be are open after a token that opens one only where there was room
depth_within : (k : Kind) (old new most : ℕ) → old ≤ most → (M.deepens k ≡ true → old + 1 ≤ most) → DepthMoves k old new → new ≤ most
depth_within OpenBracket old new most h room d = let r = room refl in omega (arith, r, d)
depth_within OpenParen old new most h room d = let r = room refl in omega (arith, r, d)
depth_within CloseBracket old new most h room d = omega (arith, h, d)
depth_within CloseParen old new most h room d = omega (arith, h, d)
depth_within k old new most h room d = omega (arith, h, d)

-- no more frames are open than brackets after a token either
stack_within : (k : Kind) (old new depth next : ℕ) → old ≤ depth → new ≤ frames_most k old → DepthMoves k depth next → new ≤ next
stack_within OpenBracket old new depth next h m d = omega (arith, h, m, d)
stack_within OpenParen old new depth next h m d = omega (arith, h, m, d)
stack_within CloseBracket old new depth next h m d = omega (arith, h, m, d)
stack_within CloseParen old new depth next h m d = omega (arith, h, m, d)
stack_within k old new depth next h m d = omega (arith, h, m, d)

-- the reader's count of brackets, the length of its prefix, its texts and its frames stay right after a step
pub keeps_moved : {A : Type 0} (form : DocForm) (s : InForce) (sizes : Sizes) (old r : State A) (k : Kind) (l : Leaf) (u : Use) (t : InForce) →
    Keeps form sizes old → byte_len l.text ≤ 4 * sizes.token →
    M.step form (state_of form s old).setting (state_of form s old).mode k l ≡ moved form t u r → DepthMoves k old.depth r.depth →
    (M.deepens k ≡ true → old.depth + 1 ≤ sizes.depth) → length r.frames.items ≤ frames_most k (length old.frames.items) → Fits (most_text sizes) r →
    r.name ≡ None → Keeps form sizes r
keeps_moved form s sizes old r k l u t keeps short e d room stack fits name =
    let n = state_of form s old in
    record {
      depth = depth_same k old.depth r.depth (M.depth n.mode) _ keeps.depth d (step_depth form n.setting n.mode k l u _ _ _ _ e);
      short = prefix_kept (byte_len l.text) (4 * sizes.token) form r r.mode short (step_prefix form n.setting n.mode k l u _ _ _ _ e);
      deep = depth_within k old.depth r.depth sizes.depth keeps.deep room d;
      fits = fits;
      name = name;
      stack = stack_within k (length old.frames.items) (length r.frames.items) old.depth r.depth keeps.stack stack d;
    }

-- a character has at most four bytes
pub bytes_at_most : (w : List ℕ) (n : ℕ) → length w ≤ n → byte_len w ≤ 4 * n
bytes_at_most w n h = let b = few_bytes w in omega (arith, b, h)

-- no token changes the limits
scope_in-limits : (s : InForce) (m : M.Mode) (k : Kind) (l : Leaf) → (scope_in s m k l).limits ≡ s.limits
scope_in-limits s (M.WantPrefixIri w p) IriRef l = with_binding_limits s p (reference_in s l)
scope_in-limits s (M.WantBaseIri w) IriRef l = with_base_limits s (reference_in s l)
scope_in-limits s m k l = refl

-- the limits are the same after a look-up, which the reader's invariant needs
pub limits_kept : (s t : InForce) (m : M.Mode) (k : Kind) (l : Leaf) (i : Option (List ℕ)) → LooksUp s m k l i t → t.limits ≡ s.limits
limits_kept s t m k l i h = sym h.scope.limits ∙ scope_in-limits s m k l

-- a scope agrees with itself
pub same_scope : (s : InForce) → SameScope s s
same_scope s = record { base = refl; limits = refl; bound = λ q. refl; count = refl }
