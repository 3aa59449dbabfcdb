-- Tokens that are accepted pass no limit, and each token that is refused is so for its reason.
use Rattle.rdf_trig.proofs.Prelude.{◌≡◌, ◌≢◌, ℕ, ◌+◌, ◌≤◌, ◌⊎◌, inl, inr, Bool, true, false, cond, List, [], ◌∷◌, ◌++◌, ◌&&◌, Option, Some, None, refl, sym, ap, ◌∙◌, subst, ⊎_elim, arith, nat_le, ltb-true, leb-true, and_parts, lt-ltb, le-leb, PassesNone, Sizes, byte_len, Kind, IriRef, PnameNs, PnameLn, OpenBracket, OpenParen, Quad, Reason, Unexpected, TooDeep, Unbound, NoBase, IriTooLong, TooManyBindings, Token, InForce, Leaf, leaf_of, DocForm, name_in, Setting, in_default, Use, itself, stands, binds, Start, Reply, No, Go, start, waiting, kept, Answer, refuses, accepts, unnamed, too_long, by_use, deepens, answer, accept, at_start, ran, refused, with_quads, accept_all, depth, Excluded, Blamed, InTree, StandsFor, opens, closes, opened, closed, open_in, IsDeep, IsLong, IsOneMore, Passes}
use Rattle.rdf_trig.specs.Machine.{Mode, step}
use Rattle.rdf_trig.specs.Machine.{State, go}
use Rattle.rdf_trig.proofs.machine.ClosingTokens.{has_iri}
use Rattle.rdf_trig.proofs.machine.ViableTokens.{Stand, stand, reach, nameless}
use Rattle.rdf_trig.proofs.machine.ViableTokens as reached
use Rattle.rdf_trig.proofs.machine.AcceptedTokens.{Fits, accepted, first_ran, ran_tokens}
use Rattle.rdf_trig.proofs.machine.DepthAndSense.{IsUse, Facts, step_facts, reached_limits, reached_depth, opened-append, closed-append}
use Rattle.rdf_trig.proofs.trees.Senses.{same_sense, in_tree, stands_for}

-- One more bracket is one more than are open.
deep_kind : (k : Kind) → opens k ≡ 1 → (deepens k ≡ true) × (closes k ≡ 0)
deep_kind OpenBracket e = (refl, refl)
deep_kind OpenParen e = (refl, refl)
deep_kind k e = absurd (let z : 0 ≡ 1 = e in omega arith)

-- what the machine counts as a bracket is what the definition counts
deepens_kind : (k : Kind) → deepens k ≡ true → (opens k ≡ 1) × (closes k ≡ 0)
deepens_kind OpenBracket e = (refl, refl)
deepens_kind OpenParen e = (refl, refl)
deepens_kind k e = absurd (let z : false ≡ true = e in cc)

-- with a bracket more, one more is open than before it
depth_with : (form : DocForm) (ts : List Token) (t : Token) (start : InForce) (s : Stand) → reach true form (in_default start) Start ts ≡ Some s →
    opens t.kind ≡ 1 → closes t.kind ≡ 0 →
    open_in (ts ++ t ∷ []) ≡ depth s.mode + 1
depth_with form ts t start s e o k =
    let h : opened ts + 0 ≡ closed ts + depth s.mode = reached_depth true form ts (in_default start) Start s e in
    omega (arith, h, o, k, opened-append ts (t ∷ []), closed-append ts (t ∷ []))

-- what fits the limits is no IRI that is too long
long_one : (sizes : Sizes) (u : Use) → Fits sizes u → IsLong sizes u → ⊥
long_one sizes itself f l = l
long_one sizes (stands None) f l = l
long_one sizes (stands (Some i)) f l = let z : true ≡ false = sym (lt-ltb sizes.iri (byte_len i) l) ∙ f in cc
long_one sizes (binds full None) f l = l
long_one sizes (binds full (Some i)) f l = let z : true ≡ false = sym (lt-ltb sizes.iri (byte_len i) l) ∙ f.0 in cc

-- what fits the limits is no binding too many
one_more : (sizes : Sizes) (u : Use) → Fits sizes u → IsOneMore u → ⊥
one_more sizes itself f l = l
one_more sizes (stands i) f l = l
one_more sizes (binds full None) f l = f
one_more sizes (binds full (Some i)) f l = let z : true ≡ false = sym l ∙ f.1 in cc

-- where a run stands
abbrev pub place : State → Stand
place s = stand s.setting s.mode

-- a run that is accepted also goes through by the grammar alone, where the meaning of viable tokens is stated
pub reached_start : (form : DocForm) (start : InForce) (ts : List Token) (s : State) (qs : List Quad) → accept_all form (at_start start) ts ≡ ran s qs →
    reach true form (in_default start) Start ts ≡ Some (place s)
reached_start form start ts s qs e = (ran_tokens form ts (at_start start) s qs e).reached

-- the limits on the way are those of the start
same_limits : (form : DocForm) (start : InForce) (ts : List Token) (s : Stand) → reach true form (in_default start) Start ts ≡ Some s →
    s.setting.scope.limits ≡ start.limits
same_limits form start ts s e = reached_limits true form ts (in_default start) Start s e

-- An accepted token passes no limit.
passes_not : (form : DocForm) (start : InForce) (ts : List Token) (t : Token) (s : State) (gs : List Quad) (n : State) →
    reach true form (in_default start) Start ts ≡ Some (place s) →
    accept form s t.kind (leaf_of t) ≡ accepts gs n → Passes form start ts t → ⊥
passes_not form start ts t s gs n e a (u, p, by) =
    let x = accepted s.setting.scope.limits s t.kind (waiting s.setting s.mode t.kind (leaf_of t)) (step form s.setting s.mode t.kind (leaf_of t)) gs n a in
    let same = same_sense true form start ts t (place s) x.sense u x.early x.now x.setting x.mode e x.reply p.place in
    let limits = same_limits form start ts (place s) e in
    let f : Fits start.limits u = subst (λ y. Fits y u) limits (subst (Fits s.setting.scope.limits) (sym same) x.fits) in
    ⊎_elim (deep x.shallow limits) (λ r. ⊎_elim (long_one start.limits u f) (one_more start.limits u f) r) by
  where
    deep : (deepens t.kind && nat_le s.setting.scope.limits.depth (depth s.mode)) ≡ false → s.setting.scope.limits ≡ start.limits → IsDeep start ts t → ⊥
    deep h l d =
        let k = deep_kind t.kind d.0 in
        let w : open_in (ts ++ t ∷ []) ≡ depth s.mode + 1 = depth_with form ts t start (place s) e d.0 k.1 in
        let m : s.setting.scope.limits.depth ≡ start.limits.depth = ap (λ y. y.depth) l in
        let b : nat_le s.setting.scope.limits.depth (depth s.mode) ≡ true = le-leb _ _ (omega (arith, d.1, w, m)) in
        let z : true ≡ false = sym (ap (λ y. y && nat_le s.setting.scope.limits.depth (depth s.mode)) k.0 ∙ b) ∙ h in
        cc

-- a run that goes on after some tokens
pub record Halfway (form : DocForm) (s : State) (ahead : List Token) (t : Token) : Type 0 where
  pub state : State
  pub given : List Quad
  pub next : State
  pub quads : List Quad
  pub before : accept_all form s ahead ≡ ran state given
  pub accepts_it : accept form state t.kind (leaf_of t) ≡ accepts quads next

-- an accepted run has a state before each of its tokens
pub halfway : (form : DocForm) (ahead : List Token) (t : Token) (more : List Token) (s n : State) (qs : List Quad) →
    accept_all form s (ahead ++ t ∷ more) ≡ ran n qs → Halfway form s ahead t
halfway form [] t more s n qs e = by (accept form s t.kind (leaf_of t)) refl e
  where
    by : (a : Answer) → accept form s t.kind (leaf_of t) ≡ a → go a (λ x. accept_all form x more) ≡ ran n qs → Halfway form s [] t
    by (refuses r) h x = absurd (let z : refused r ≡ ran n qs = x in cc)
    by (accepts gs m) h x = record { state = s; given = []; next = m; quads = gs; before = refl; accepts_it = h }
halfway form (y ∷ ahead) t more s n qs e = by (λ m rest x. halfway form ahead t more m n rest x) (accept form s y.kind (leaf_of y)) refl e
  where
    by : ((m : State) (rest : List Quad) → accept_all form m (ahead ++ t ∷ more) ≡ ran n rest → Halfway form m ahead t) →
        (a : Answer) → accept form s y.kind (leaf_of y) ≡ a → go a (λ x. accept_all form x (ahead ++ t ∷ more)) ≡ ran n qs → Halfway form s (y ∷ ahead) t
    by ih (refuses r) h x = absurd (let z : refused r ≡ ran n qs = x in cc)
    by ih (accepts gs m) h x =
        let f = first_ran gs (accept_all form m (ahead ++ t ∷ more)) n qs x in
        let i = ih m f.0 f.1 in
        record {
          state = i.state;
          given = gs ++ i.given;
          next = i.next;
          quads = i.quads;
          before = ap (λ z. go z (λ x. accept_all form x ahead)) h ∙ ap (with_quads gs) i.before;
          accepts_it = i.accepts_it;
        }

-- No token of a run passes a limit.
pub passes_none : (form : DocForm) (start : InForce) (ts : List Token) (n : State) (qs : List Quad) → accept_all form (at_start start) ts ≡ ran n qs →
    PassesNone (Passes form start) ts
passes_none form start ts n qs e ahead after t split p =
    let h = halfway form ahead t after (at_start start) n qs (ap (accept_all form (at_start start)) (sym split) ∙ e) in
    passes_not form start ahead t h.state h.quads h.next (reached_start form start ahead h.state h.given h.before) h.accepts_it p

-- Why an answer refuses.
abbrev Went : Reply → Use → Type 0
Went r u = (early : Option Quad) × (now : Option Quad) × (c : Setting) × (m : Mode) × (r ≡ Go u early now c m)

-- what the machine saw when it refused a token for a reason
abbrev Why : Sizes → State → Kind → Reply → Reason → Type 0
Why sizes s k r Unexpected = r ≡ No
Why sizes s k r Unbound = (k ≢ IriRef) × Went r (stands None)
Why sizes s k r NoBase = ((k ≡ IriRef) × Went r (stands None)) ⊎ ((full : Bool) × Went r (binds full None))
Why sizes s k r TooDeep = ((deepens k && nat_le sizes.depth (depth s.mode)) ≡ true) × ((u : Use) × Went r u)
Why sizes s k r IriTooLong = (u : Use) × (has_iri u ≡ true) × Went r u × IsLong sizes u
Why sizes s k r TooManyBindings = (u : Use) × (has_iri u ≡ true) × Went r u × IsOneMore u × (IsLong sizes u → ⊥)
Why sizes s k r x = ⊥

-- a reason that is the one reported
because : (sizes : Sizes) (s : State) (k : Kind) (r : Reply) (x y : Reason) → Answer.refuses x ≡ Answer.refuses y → Why sizes s k r x → Why sizes s k r y
because sizes s k r x y e w = let z : x ≡ y = cc in subst (Why sizes s k r) z w

-- a token without an IRI is refused for a missing base or an unbound prefix, by its kind
unnamed_why : (sizes : Sizes) (s : State) (k : Kind) (r : Reply) (x : Reason) → Went r (stands None) → refuses (unnamed k) ≡ refuses x → Why sizes s k r x
unnamed_why sizes s IriRef r x w e = because sizes s IriRef r NoBase x e (inl (refl, w))
unnamed_why sizes s k r x w e = because sizes s k r Unbound x e ((λ z. cc), w)

-- a test with a known outcome took one of its sides
either : {T : Type 0} (b : Bool) (x y z : T) → cond b x y ≡ z → ((b ≡ true) × (x ≡ z)) ⊎ ((b ≡ false) × (y ≡ z))
either true x y z e = inl (refl, e)
either false x y z e = inr (refl, e)

use_why : (sizes : Sizes) (s : State) (k : Kind) (r : Reply) (u : Use) (gs : List Quad) (n : State) (x : Reason) → Went r u →
    by_use sizes k u (accepts gs n) ≡ refuses x → Why sizes s k r x
use_why sizes s k r itself gs n x w e = absurd (let z : accepts gs n ≡ refuses x = e in cc)
use_why sizes s k r (stands None) gs n x w e = unnamed_why sizes s k r x w e
use_why sizes s k r (stands (Some i)) gs n x w e =
    ⊎_elim
    (λ h. because sizes s k r IriTooLong x h.1 (stands (Some i), refl, w, ltb-true sizes.iri (byte_len i) h.0))
    (λ h. absurd (let z : accepts gs n ≡ refuses x = h.1 in cc))
    (either (too_long sizes i) (refuses IriTooLong) (accepts gs n) (refuses x) e)
use_why sizes s k r (binds full None) gs n x w e = because sizes s k r NoBase x e (inr (full, w))
use_why sizes s k r (binds full (Some i)) gs n x w e =
    ⊎_elim
    (λ h. because sizes s k r IriTooLong x h.1 (binds full (Some i), refl, w, ltb-true sizes.iri (byte_len i) h.0))
    (λ h.
    ⊎_elim
    (λ g. because sizes s k r TooManyBindings x g.1 (
      binds full (Some i),
      refl,
      w,
      g.0,
      λ l. let z : true ≡ false = sym (lt-ltb sizes.iri (byte_len i) l) ∙ h.0 in cc,
    ))
    (λ g. absurd (let z : accepts gs n ≡ refuses x = g.1 in cc))
    (either full (refuses TooManyBindings) (accepts gs n) (refuses x) h.1))
    (either (too_long sizes i) (refuses IriTooLong) (cond full (refuses TooManyBindings) (accepts gs n)) (refuses x) e)

-- each refusal comes with what the machine saw, so that its reason can be shown to hold
why : (sizes : Sizes) (s : State) (k : Kind) (w : Option Quad) (r : Reply) (x : Reason) → answer sizes s k w r ≡ refuses x → Why sizes s k r x
why sizes s k w No x e = because sizes s k No Unexpected x e refl
why sizes s k w (Go u early now c m) x e =
    let n : State = record { setting = c; mode = m; ready = kept early (kept now []) } in
    let went : Went (Go u early now c m) u = (early, now, c, m, refl) in
    ⊎_elim
    (λ h. because sizes s k (Go u early now c m) TooDeep x h.1 (h.0, (u, went)))
    (λ h. use_why sizes s k (Go u early now c m) u (s.ready ++ kept w []) n x went h.1)
    (either (deepens k && nat_le sizes.depth (depth s.mode)) (refuses TooDeep) (by_use sizes k u (accepts (s.ready ++ kept w []) n)) (refuses x) e)

-- the kinds of tokens that may stand for nothing
name_kind : (s : InForce) (k : Kind) (l : Leaf) → k ≢ IriRef → IsUse s k l (stands None) → (k ≡ PnameLn) ⊎ (k ≡ PnameNs)
name_kind s IriRef l n u = absurd (n refl)
name_kind s PnameLn l n u = inl refl
name_kind s PnameNs l n u = inr refl
name_kind s k l n u = absurd (let z : stands None ≡ itself = u in cc)

-- only an IRIREF binds a prefix
binding_kind : (s : InForce) (k : Kind) (l : Leaf) (full : Bool) (i : Option (List ℕ)) → IsUse s k l (binds full i) → k ≡ IriRef
binding_kind s IriRef l full i u = refl
binding_kind s PnameLn l full i u = absurd (let z : binds full i ≡ stands (name_in s l) = u in cc)
binding_kind s PnameNs l full i u =
    absurd (⊎_elim (λ e. let z : binds full i ≡ stands (name_in s l) = e in cc) (λ e. let z : binds full i ≡ itself = e in cc) u)
binding_kind s k l full i u = absurd (let z : binds full i ≡ itself = u in cc)

-- a bracket stands for itself
deep_use : (s : InForce) (k : Kind) (l : Leaf) (u : Use) → deepens k ≡ true → IsUse s k l u → has_iri u ≡ true
deep_use s OpenBracket l u d h = ap has_iri h
deep_use s OpenParen l u d h = ap has_iri h
deep_use s k l u d h = absurd (let z : false ≡ true = d in cc)

use_of : (form : DocForm) (c : Setting) (m : Mode) (k : Kind) (l : Leaf) (u : Use) → Went (step form c m k l) u → IsUse c.scope k l u
use_of form c m k l u (early, now, c1, m1, e) = (subst (Facts (depth m) c.scope k l) e (step_facts form c m k l)).1

-- Each token that is refused is so for its reason.
pub refused_for : (form : DocForm) (start : InForce) (ts : List Token) (t : Token) (s : State) (x : Reason) →
    reach true form (in_default start) Start ts ≡ Some (place s) →
    accept form s t.kind (leaf_of t) ≡ refuses x → Blamed form start x ts t
refused_for form start ts t s x e a =
    by x (why s.setting.scope.limits s t.kind (waiting s.setting s.mode t.kind (leaf_of t)) (step form s.setting s.mode t.kind (leaf_of t)) x a)
  where
    r : Reply
    r = step form s.setting s.mode t.kind (leaf_of t)

    used : (u : Use) → Went (step form s.setting s.mode t.kind (leaf_of t)) u → IsUse s.setting.scope t.kind (leaf_of t) u
    used u w = use_of form s.setting s.mode t.kind (leaf_of t) u w

    excluded : (u : Use) → has_iri u ≡ false → Went (step form s.setting s.mode t.kind (leaf_of t)) u → Excluded form start ts t
    excluded u h (early, now, c, m, n) = let y = nameless form start ts t (place s) u early now c m e n h in record { shaped = y.1; excluded = y.2 }

    placed : (u : Use) → Went (step form s.setting s.mode t.kind (leaf_of t)) u → InTree form start ts t u
    placed u (early, now, c, m, n) = in_tree form start ts t (place s) u early now c m e n

    stood : (u : Use) → has_iri u ≡ true → Went (step form s.setting s.mode t.kind (leaf_of t)) u → StandsFor form start ts t u
    stood u h (early, now, c, m, n) = stands_for form start ts t (place s) u early now c m e n h

    limits : s.setting.scope.limits ≡ start.limits
    limits = same_limits form start ts (place s) e

    by : (x : Reason) → Why s.setting.scope.limits s t.kind (step form s.setting s.mode t.kind (leaf_of t)) x → Blamed form start x ts t
    by Unexpected w = (reached.unexpected form start ts t (place s) e w).1
    by Unbound w = (excluded (stands None) refl w.1, (name_kind s.setting.scope t.kind (leaf_of t) w.0 (used (stands None) w.1), placed (stands None) w.1))
    by NoBase (inl w) = (excluded (stands None) refl w.1, (w.0, inl (placed (stands None) w.1)))
    by NoBase (inr w) = (
      excluded (binds w.0 None) refl w.1,
      (binding_kind s.setting.scope t.kind (leaf_of t) w.0 None (used (binds w.0 None) w.1), inr (w.0, placed (binds w.0 None) w.1)),
    )
    by TooDeep w =
        let p = and_parts _ _ w.0 in
        let o = deepens_kind t.kind p.0 in
        let d : s.setting.scope.limits.depth ≤ depth s.mode = leb-true _ _ p.1 in
        let m : s.setting.scope.limits.depth ≡ start.limits.depth = ap (λ y. y.depth) limits in
        let z : open_in (ts ++ t ∷ []) ≡ depth s.mode + 1 = depth_with form ts t start (place s) e o.0 o.1 in
        (w.1.0, stood w.1.0 (deep_use s.setting.scope t.kind (leaf_of t) w.1.0 p.0 (used w.1.0 w.1.1)) w.1.1, (o.0, omega (arith, d, m, z)))
    by IriTooLong w = (w.0, stood w.0 w.1 w.2, subst (λ y. IsLong y w.0) limits w.3)
    by TooManyBindings w = (w.0, stood w.0 w.1 w.2, w.3, λ l. w.4 (subst (λ y. IsLong y w.0) (sym limits) l))
    by x w = w
