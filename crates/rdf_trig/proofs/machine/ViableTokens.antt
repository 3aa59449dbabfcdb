-- The machine takes some tokens one by one exactly if some document begins with them; names aside, exactly if some tree does.
use Rattle.rdf_trig.proofs.Prelude.{◌≡◌, Bool, true, false, List, [], ◌∷◌, ◌++◌, Option, Some, None, refl, sym, ap, ◌∙◌, Viable, Quad, Token, InForce, leaf_of, DocForm, Document, Setting, in_default, Use, itself, stands, binds, Event, Took, Gave, give, document_events, event_quads, HasIri, Bound, Start, Reply, No, Go, start, waiting, fronted, put, go_on, run, documents, trees}
use Rattle.rdf_trig.specs.Events.{tokens}
use Rattle.rdf_trig.specs.Machine.{Mode, step}
use Rattle.rdf_trig.proofs.machine.Completeness.{document_good}
use Rattle.rdf_trig.proofs.machine.Soundness.{read_found, unput}
use Rattle.rdf_trig.proofs.machine.ClosingTokens.{has_iri, admits, AllAdmitted, Accepts, passing_give, passing_back, close, closes}

-- where the machine stands
pub record Stand : Type 0 where
  pub setting : Setting
  pub mode : Mode

-- a setting and a mode
abbrev pub stand : Setting → Mode → Stand
stand c m = record { setting = c; mode = m }

-- what is reached if the test holds
abbrev pub if_true : Bool → Option Stand → Option Stand
if_true true o = o
if_true false o = None

-- what was reached passed the test
pub was_true : (b : Bool) (o : Option Stand) (s : Stand) → if_true b o ≡ Some s → (b ≡ true) × (o ≡ Some s)
was_true true o s e = (refl, e)
was_true false o s e = absurd (let z : None ≡ Some s = e in cc)

-- where a reply leads, if what its token stands for is admitted
abbrev pub on_reply : Bool → Reply → (Setting → Mode → Option Stand) → Option Stand
on_reply strict No next = None
on_reply strict (Go u early now c m) next = if_true (admits strict u) (next c m)

-- the state after some tokens, or none where one is refused
abbrev pub reach : Bool → DocForm → Setting → Mode → List Token → Option Stand
reach strict form c m [] = Some (stand c m)
reach strict form c m (t ∷ ts) = on_reply strict (step form c m t.kind (leaf_of t)) (λ c' m'. reach strict form c' m' ts)

module _ (strict : Bool) (form : DocForm) where
  -- a document whose tokens begin so
  abbrev pub Begins : InForce → List Token → Type 0
  Begins start ts = (d : Document form) × (us : List Token) × (tokens (document_events start d) ≡ ts ++ us) × AllAdmitted strict (document_events start d)

  reply_front : (t : Token) (w : Option Quad) (r : Reply) (next : Setting → Mode → Option Stand) (ts us : List Token) (s1 : Stand) →
      ((c : Setting) (m : Mode) → next c m ≡ Some s1 → Accepts strict form c m (ts ++ us)) → on_reply strict r next ≡ Some s1 →
      (es : List Event) × (fronted w (go_on t r (λ c m. run form c m (ts ++ us))) ≡ Some es) × AllAdmitted strict es
  reply_front t w No next ts us s1 ih e = absurd (let z : None ≡ Some s1 = e in cc)
  reply_front t w (Go u early now c m) next ts us s1 ih e =
      let p = was_true (admits strict u) (next c m) s1 e in
      let a = ih c m p.1 in (
        give w (Took t u ∷ give early (give now a.events)),
        ap (λ o. fronted w (put t u early now o)) a.runs,
        passing_give strict form w _ (p.0, passing_give strict form early _ (passing_give strict form now _ a.bound)),
      )

  pub front : (ts us : List Token) (c : Setting) (m : Mode) (s1 : Stand) → Accepts strict form s1.setting s1.mode us → reach strict form c m ts ≡ Some s1 →
      Accepts strict form c m (ts ++ us)
  front [] us c m s1 a e =
      let h : stand c m ≡ s1 = cc in
      record { events = a.events; runs = ap (λ s. run form (Stand.setting s) (Stand.mode s) us) h ∙ a.runs; bound = a.bound }
  front (t ∷ ts) us c m s1 a e =
      let r = reply_front t (waiting c m t.kind (leaf_of t)) (step form c m t.kind (leaf_of t))
      (λ c' m'. reach strict form c' m' ts) ts us s1 (λ c' m' h. front ts us c' m' s1 a h) e in
      record { events = r.0; runs = r.1; bound = r.2 }

  -- a state that is reached has a completion
  pub reached_begins : (ts : List Token) (start : InForce) (s1 : Stand) → reach strict form (in_default start) Start ts ≡ Some s1 → Begins start ts
  reached_begins ts start s1 e =
      let a = front ts (close s1.mode) (in_default start) Start s1 (closes strict form s1.mode s1.setting) e in
      let f = read_found form (ts ++ close s1.mode) (in_default start) a.events a.runs in
      (f.0, close s1.mode, f.2, rw f.1 at a.bound)

  reply_back : (t : Token) (w : Option Quad) (r : Reply) (next : Setting → Mode → Option Stand) (ts us : List Token) →
      ((c : Setting) (m : Mode) (es : List Event) → run form c m (ts ++ us) ≡ Some es → AllAdmitted strict es → (s : Stand) × (next c m ≡ Some s)) →
      (es : List Event) → fronted w (go_on t r (λ c m. run form c m (ts ++ us))) ≡ Some es → AllAdmitted strict es →
      (s : Stand) × (on_reply strict r next ≡ Some s)
  reply_back t w No next ts us ih es e b = absurd (let z : None ≡ Some es = e in cc)
  reply_back t w (Go u early now c m) next ts us ih es e b =
      let x = unput w t u early now _ es e in
      let b1 = passing_back strict form w (Took t u ∷ give early (give now x.0)) (rw x.2 at b) in
      let s = ih c m x.0 x.1 (passing_back strict form now _ (passing_back strict form early _ b1.1)) in
      (s.0, ap (λ f. if_true f (next c m)) b1.0 ∙ s.1)

  back : (ts us : List Token) (c : Setting) (m : Mode) (es : List Event) → run form c m (ts ++ us) ≡ Some es → AllAdmitted strict es →
      (s : Stand) × (reach strict form c m ts ≡ Some s)
  back [] us c m es e b = (stand c m, refl)
  back (t ∷ ts) us c m es e b = reply_back t (waiting c m t.kind (leaf_of t)) (step form c m t.kind (leaf_of t))
      (λ c' m'. reach strict form c' m' ts) ts us (back ts us) es e b

  -- the run over a tree's tokens
  pub run_tree : (d : Document form) (start : InForce) (ts : List Token) → tokens (document_events start d) ≡ ts →
      run form (in_default start) Start ts ≡ Some (document_events start d)
  run_tree d start ts e = ap (run form (in_default start) Start) (sym e) ∙ (document_good d (in_default start)).runs

  -- no document has tokens that are refused
  pub begins_reached : (ts : List Token) (start : InForce) → Begins start ts → (s : Stand) × (reach strict form (in_default start) Start ts ≡ Some s)
  begins_reached ts start (d, us, e, b) = back ts us (in_default start) Start (document_events start d) (run_tree d start (ts ++ us) e) b

-- With names that have to stand for something this is what documents are, without, what trees are.
pub bound_passing : (es : List Event) → Bound es → AllAdmitted true es
bound_passing [] b = tt
bound_passing (Took t u ∷ es) b = (fine u b.0, bound_passing es b.1)
  where
    fine : (u : Use) → HasIri u → has_iri u ≡ true
    fine itself h = refl
    fine (stands None) h = absurd (h refl)
    fine (stands (Some i)) h = refl
    fine (binds full None) h = absurd (h refl)
    fine (binds full (Some i)) h = refl
bound_passing (Gave q ∷ es) b = bound_passing es b

pub use_bound : (u : Use) → has_iri u ≡ true → HasIri u
use_bound itself h = tt
use_bound (stands None) h = absurd (let z : false ≡ true = h in cc)
use_bound (stands (Some i)) h = λ z. cc
use_bound (binds full None) h = absurd (let z : false ≡ true = h in cc)
use_bound (binds full (Some i)) h = λ z. cc

-- events that are admitted by the strict test are bound
pub passing_bound : (es : List Event) → AllAdmitted true es → Bound es
passing_bound [] b = tt
passing_bound (Took t u ∷ es) b = (use_bound u b.0, passing_bound es b.1)
passing_bound (Gave q ∷ es) b = passing_bound es b

-- without the strict test all events are admitted
pub any_passing : (es : List Event) → AllAdmitted false es
any_passing [] = tt
any_passing (Took t u ∷ es) = (refl, any_passing es)
any_passing (Gave q ∷ es) = any_passing es

-- tokens that begin a run of names that are bound begin a document
pub begins_viable : (form : DocForm) (start : InForce) (ts : List Token) → Begins true form start ts → Viable (documents form start) ts
begins_viable form start ts (d, us, e, b) =
    (us, event_quads 0 (document_events start d), (d, sym e, passing_bound (document_events start d) b, refl))

-- tokens that begin a document begin a run of names that are bound
pub viable_begins : (form : DocForm) (start : InForce) (ts : List Token) → Viable (documents form start) ts → Begins true form start ts
viable_begins form start ts v = let d = v.2 in (d.0, v.0, sym d.1, bound_passing (document_events start d.0) d.2)

-- tokens that begin a run begin a tree
pub begins_shaped : (form : DocForm) (start : InForce) (ts : List Token) → Begins false form start ts → Viable (trees form start) ts
begins_shaped form start ts (d, us, e, b) = (us, event_quads 0 (document_events start d), (d, sym e, refl))

-- tokens that begin a tree begin a run, names aside
pub shaped_begins : (form : DocForm) (start : InForce) (ts : List Token) → Viable (trees form start) ts → Begins false form start ts
shaped_begins form start ts v = let d = v.2 in (d.0, v.0, sym d.1, any_passing (document_events start d.0))

-- tokens that the machine takes begin a document
pub reached_viable : (form : DocForm) (start : InForce) (ts : List Token) (s : Stand) → reach true form (in_default start) Start ts ≡ Some s →
    Viable (documents form start) ts
reached_viable form start ts s e = begins_viable form start ts (reached_begins true form ts start s e)

-- tokens that begin a document are taken, so the machine refuses none too early
pub viable_reached : (form : DocForm) (start : InForce) (ts : List Token) → Viable (documents form start) ts →
    (s : Stand) × (reach true form (in_default start) Start ts ≡ Some s)
viable_reached form start ts v = begins_reached true form ts start (viable_begins form start ts v)

-- tokens that it takes, names aside, begin a tree
pub reached_shaped : (form : DocForm) (start : InForce) (ts : List Token) (s : Stand) → reach false form (in_default start) Start ts ≡ Some s →
    Viable (trees form start) ts
reached_shaped form start ts s e = begins_shaped form start ts (reached_begins false form ts start s e)

-- tokens that begin a tree are taken, names aside
pub shaped_reached : (form : DocForm) (start : InForce) (ts : List Token) → Viable (trees form start) ts →
    (s : Stand) × (reach false form (in_default start) Start ts ≡ Some s)
shaped_reached form start ts v = begins_reached false form ts start (shaped_begins form start ts v)

-- one more token
abbrev pub step_on : Bool → DocForm → Stand → Token → Option Stand
step_on strict form s t = on_reply strict (step form s.setting s.mode t.kind (leaf_of t)) (λ c' m'. Some (stand c' m'))

-- where one token more leads, if the tokens before it were taken
abbrev pub and_on : Bool → DocForm → Option Stand → Token → Option Stand
and_on strict form None t = None
and_on strict form (Some s) t = step_on strict form s t

-- the test of a first token and a further token at the end do not touch each other
snoc_true : (strict : Bool) (form : DocForm) (b : Bool) (o o' : Option Stand) (t : Token) → o ≡ and_on strict form o' t →
    if_true b o ≡ and_on strict form (if_true b o') t
snoc_true strict form true o o' t e = e
snoc_true strict form false o o' t e = refl

-- a walk over one token more is the walk before it and a step
pub reach-snoc : (strict : Bool) (form : DocForm) (ts : List Token) (t : Token) (c : Setting) (m : Mode) →
    reach strict form c m (ts ++ t ∷ []) ≡ and_on strict form (reach strict form c m ts) t
reach-snoc strict form [] t c m = refl
reach-snoc strict form (u ∷ ts) t c m = by (step form c m u.kind (leaf_of u)) (λ c' m'. reach-snoc strict form ts t c' m')
  where
    by : (r : Reply) → ((c' : Setting) (m' : Mode) → reach strict form c' m' (ts ++ t ∷ []) ≡ and_on strict form (reach strict form c' m' ts) t) →
        on_reply strict r (λ c' m'. reach strict form c' m' (ts ++ t ∷ [])) ≡ and_on strict form (on_reply strict r (λ c' m'. reach strict form c' m' ts)) t
    by No ih = refl
    by (Go v early now c' m') ih = snoc_true strict form (admits strict v) _ _ t (ih c' m')

-- what passes the strict test is reached without it too
pub lax_true : (fine : Bool) (o : Option Stand) (s : Stand) → if_true fine o ≡ Some s → o ≡ Some s
lax_true true o s e = e
lax_true false o s e = absurd (let z : None ≡ Some s = e in cc)

-- what is reached with the names is reached without
pub lax : (form : DocForm) (ts : List Token) (c : Setting) (m : Mode) (s : Stand) → reach true form c m ts ≡ Some s → reach false form c m ts ≡ Some s
lax form [] c m s e = e
lax form (t ∷ ts) c m s e = by (step form c m t.kind (leaf_of t)) (λ c' m' h. lax form ts c' m' s h) e
  where
    by : (r : Reply) → ((c' : Setting) (m' : Mode) → reach true form c' m' ts ≡ Some s → reach false form c' m' ts ≡ Some s) →
        on_reply true r (λ c' m'. reach true form c' m' ts) ≡ Some s →
        on_reply false r (λ c' m'. reach false form c' m' ts) ≡ Some s
    by No ih e = absurd (let z : None ≡ Some s = e in cc)
    by (Go u early now c' m') ih e = ih c' m' (lax_true (has_iri u) _ s e)

-- a token without a step begins nothing
not_begins : (strict : Bool) (form : DocForm) (ts : List Token) (t : Token) (start : InForce) (s : Stand) →
    reach strict form (in_default start) Start ts ≡ Some s → step_on strict form s t ≡ None →
    Begins strict form start (ts ++ t ∷ []) → ⊥
not_begins strict form ts t start s e n v =
    let r = begins_reached strict form (ts ++ t ∷ []) start v in
    let a = reach-snoc strict form ts t (in_default start) Start in
    let b = ap (λ o. and_on strict form o t) e in
    let z : None ≡ Some r.0 = sym n ∙ sym b ∙ sym a ∙ r.1 in
    cc

-- a token that the strict step refuses begins no document
pub not_viable : (form : DocForm) (ts : List Token) (t : Token) (start : InForce) (s : Stand) → reach true form (in_default start) Start ts ≡ Some s →
    step_on true form s t ≡ None →
    Viable (documents form start) (ts ++ t ∷ []) → ⊥
not_viable form ts t start s e n v = not_begins true form ts t start s e n (viable_begins form start (ts ++ t ∷ []) v)

-- a token that the grammar refuses begins no tree
pub not_shaped : (form : DocForm) (ts : List Token) (t : Token) (start : InForce) (s : Stand) → reach false form (in_default start) Start ts ≡ Some s →
    step_on false form s t ≡ None →
    Viable (trees form start) (ts ++ t ∷ []) → ⊥
not_shaped form ts t start s e n v = not_begins false form ts t start s e n (shaped_begins form start (ts ++ t ∷ []) v)

-- A token that no state takes here begins no tree with those before it.
pub unexpected : (form : DocForm) (start : InForce) (ts : List Token) (t : Token) (s : Stand) → reach true form (in_default start) Start ts ≡ Some s →
    step form s.setting s.mode t.kind (leaf_of t) ≡ No →
    Viable (documents form start) ts × (Viable (trees form start) (ts ++ t ∷ []) → ⊥)
unexpected form start ts t s e n = (
  reached_viable form start ts s e,
  not_shaped form ts t start s (lax form ts (in_default start) Start s e)
      (ap (λ r. on_reply false r (λ c' m'. Some (stand c' m'))) n),
)

-- A name that stands for nothing begins a tree with those before it, and no document.
pub nameless : (form : DocForm) (start : InForce) (ts : List Token) (t : Token) (s : Stand) (u : Use) (early now : Option Quad) (c : Setting) (m : Mode) →
    reach true form (in_default start) Start ts ≡ Some s →
    step form s.setting s.mode t.kind (leaf_of t) ≡ Go u early now c m → has_iri u ≡ false →
    Viable (documents form start) ts × Viable (trees form start) (ts ++ t ∷ []) × (Viable (documents form start) (ts ++ t ∷ []) → ⊥)
nameless form start ts t s u early now c m e n h = (
  reached_viable form start ts s e,
  reached_shaped form start (ts ++ t ∷ []) (stand c m)
      (reach-snoc false form ts t (in_default start) Start ∙ ap (λ o. and_on false form o t) (lax form ts (in_default start) Start s e)
      ∙ ap (λ r. on_reply false r (λ c' m'. Some (stand c' m'))) n),
  not_viable form ts t start s e (ap (λ r. on_reply true r (λ c' m'. Some (stand c' m'))) n ∙ ap (λ b. if_true b (Some (stand c m))) h),
)

-- A token that stands for something begins a document with those before it.
pub goes_on : (form : DocForm) (start : InForce) (ts : List Token) (t : Token) (s : Stand) (u : Use) (early now : Option Quad) (c : Setting) (m : Mode) →
    reach true form (in_default start) Start ts ≡ Some s →
    step form s.setting s.mode t.kind (leaf_of t) ≡ Go u early now c m → has_iri u ≡ true →
    reach true form (in_default start) Start (ts ++ t ∷ []) ≡ Some (stand c m)
goes_on form start ts t s u early now c m e n h =
    reach-snoc true form ts t (in_default start) Start ∙ ap (λ o. and_on true form o t) e
    ∙ ap (λ r. on_reply true r (λ c' m'. Some (stand c' m'))) n ∙ ap (λ b. if_true b (Some (stand c m))) h
