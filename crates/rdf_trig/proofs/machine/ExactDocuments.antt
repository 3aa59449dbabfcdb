-- The machine accepts exactly the documents within the limits, and what it gives out is due, and at the end all of a document's quads.
use Rattle.rdf_trig.proofs.Prelude.{◌≡◌, ℕ, zero, suc, ◌+◌, ◌≤◌, ◌⊎◌, inl, inr, Bool, true, false, List, [], ◌∷◌, ◌++◌, length, Option, Some, None, refl, sym, ap, ◌∙◌, subst, ⊎_elim, append_assoc, length-append, arith, append-nil, Viable, Due, PassesNone, IsFront, items_below, unmarked, Quad, Reason, Unexpected, TooDeep, Unbound, NoBase, IriTooLong, TooManyBindings, Token, Marked, InForce, leaf_of, DocForm, Document, Setting, in_default, Event, Took, Gave, give, document_events, event_quads, Start, Over, Reply, No, Go, start, waiting, fronted, stop, go_on, run, Answer, refuses, accepts, accept, at_start, ran, with_quads, accept_all, depth, Excluded, Blamed, documents, trees, Passes}
use Rattle.rdf_trig.specs.Events.{tokens}
use Rattle.rdf_trig.specs.Machine.{Mode, step}
use Rattle.rdf_trig.specs.Machine.{State, go}
use Rattle.rdf_trig.proofs.machine.Soundness.{read_found, unput}
use Rattle.rdf_trig.proofs.machine.ClosingTokens.{Accepts, admits}
use Rattle.rdf_trig.proofs.machine.ViableTokens.{Stand, stand, reach, on_reply, if_true, front, run_tree, passing_bound, reached_viable}
use Rattle.rdf_trig.proofs.machine.DueQuads.{due, before_due, emits, lag}
use Rattle.rdf_trig.proofs.machine.AcceptedTokens.{ran_tokens}
use Rattle.rdf_trig.proofs.machine.DepthAndSense.{Facts, Quiet, step_facts}
use Rattle.rdf_trig.proofs.machine.RefusedTokens.{place, reached_start, passes_none, refused_for}

-- what is due
pub due_in : (form : DocForm) (start : InForce) (ts more : List Token) (s : State) (qs : List Quad) (all : List Marked) →
    accept_all form (at_start start) ts ≡ ran s qs → documents form start (ts ++ more) all →
    items_below (length ts) all ≡ qs
due_in form start ts more s qs all e d =
    let told : tokens (document_events start d.0) ≡ ts ++ more = sym d.1 in
    ap (items_below (length ts)) (sym d.3)
    ∙ before_due (document_events start d.0) (length ts) 0 (length ts) (omega arith)
    ∙ sym (lag form ts more start d.0 told)
    ∙ sym (ran_tokens form ts (at_start start) s qs e).given

-- what was given out is due in some document that begins so
pub due_ran : (form : DocForm) (start : InForce) (ts : List Token) (s : State) (qs : List Quad) → accept_all form (at_start start) ts ≡ ran s qs →
    Due (documents form start) ts qs
due_ran form start ts s qs e =
    let v = reached_viable form start ts (place s) (reached_start form start ts s qs e) in
    (v.0, v.1, v.2, due_in form start ts v.0 s qs v.1 e v.2)

-- Every document that begins with the tokens has the same quads due.
due_of : (form : DocForm) (start : InForce) (ts : List Token) (qs : List Quad) → Due (documents form start) ts qs →
    qs ≡ emits form (in_default start) Start [] ts
due_of form start ts qs (more, all, d, e) =
    let told : tokens (document_events start d.0) ≡ ts ++ more = sym d.1 in
    sym e
    ∙ ap (items_below (length ts)) (sym d.3)
    ∙ before_due (document_events start d.0) (length ts) 0 (length ts) (omega arith)
    ∙ sym (lag form ts more start d.0 told)

-- what is due is settled by the tokens: no document that begins so gives anything else
pub same_due : (form : DocForm) (start : InForce) (ts : List Token) (qs rs : List Quad) → Due (documents form start) ts qs → Due (documents form start) ts rs →
    qs ≡ rs
same_due form start ts qs rs a b = due_of form start ts qs a ∙ sym (due_of form start ts rs b)

-- Every tree of the same tokens has the same quads.
tree_events : (form : DocForm) (start : InForce) (d e : Document form) → tokens (document_events start d) ≡ tokens (document_events start e) →
    document_events start d ≡ document_events start e
tree_events form start d e h =
    let a = run_tree true form d start (tokens (document_events start d)) refl in
    let b = run_tree true form e start (tokens (document_events start d)) (sym h) in
    let z : Some (document_events start d) ≡ Some (document_events start e) = sym a ∙ b in
    cc

-- the tokens settle the quads and their marks
pub same_quads : (form : DocForm) (start : InForce) (ts : List Token) (qs rs : List Marked) → trees form start ts qs → trees form start ts rs → qs ≡ rs
same_quads form start ts qs rs a b =
    sym a.2 ∙ ap (event_quads 0) (tree_events form start a.0 b.0 (sym a.1 ∙ b.1)) ∙ b.2

-- all quads of some events
abbrev quads : List Event → List Quad
quads [] = []
quads (Took t u ∷ es) = quads es
quads (Gave q ∷ es) = q ∷ quads es

-- the quads of events are those of their marked list
quads_marked : (es : List Event) (n : ℕ) → unmarked (event_quads n es) ≡ quads es
quads_marked [] n = refl
quads_marked (Took t u ∷ es) n = quads_marked es (n + 1)
quads_marked (Gave q ∷ es) n = ap (λ x. q ∷ x) (quads_marked es n)

-- a quad that is given out is one of the quads
quads_give : (q : Option Quad) (n : ℕ) (es : List Event) → due (suc n) es ≡ quads es → due (suc n) (give q es) ≡ quads (give q es)
quads_give None n es e = e
quads_give (Some q) n es e = ap (λ x. q ∷ x) e

-- no quad stands after the last token of a run
over_due : (n : Mode) (early now : Option Quad) (fs : List Event) → stop n ≡ Some fs → Quiet n early now →
    due zero (give early (give now fs)) ≡ quads (give early (give now fs))
over_due Over early now fs h q = let z : [] ≡ fs = cc in sym (ap (λ x. quads (give x (give now fs))) q.0 ∙ ap (λ x. quads (give x fs)) q.1 ∙ ap quads (sym z))
over_due n early now fs h q = absurd (let z : None ≡ Some fs = h in cc)

-- at the last token of a document all of its quads are due
last_due : (form : DocForm) (t : Token) (n : ℕ) (s : InForce) (w : Option Quad) (r : Reply) (es : List Event) → Facts n s t.kind (leaf_of t) r →
    fronted w (go_on t r (λ c' m'. run form c' m' [])) ≡ Some es →
    due (suc zero) es ≡ quads es
last_due form t n s w No es f e = absurd (let z : None ≡ Some es = e in cc)
last_due form t n s w (Go u early now c' m') es f e =
    let x = unput w t u early now (run form c' m' []) es e in
    ap (due (suc zero)) x.2 ∙ quads_give w zero (Took t u ∷ give early (give now x.0)) (over_due m' early now x.0 x.1 f.3) ∙ ap quads (sym x.2)

-- with a token before them all quads of a document are due at its end too
more_due : (form : DocForm) (t : Token) (ts : List Token) (k : ℕ) (w : Option Quad) (r : Reply) (es : List Event) →
    fronted w (go_on t r (λ c' m'. run form c' m' ts)) ≡ Some es →
    ((c' : Setting) (m' : Mode) (fs : List Event) → run form c' m' ts ≡ Some fs → due (suc k) fs ≡ quads fs) → due (suc (suc k)) es ≡ quads es
more_due form t ts k w No es e ih = absurd (let z : None ≡ Some es = e in cc)
more_due form t ts k w (Go u early now c' m') es e ih =
    let x = unput w t u early now (run form c' m' ts) es e in
    let i = quads_give early k (give now x.0) (quads_give now k x.0 (ih c' m' x.0 x.1)) in
    ap (due (suc (suc k))) x.2 ∙ quads_give w (suc k) (Took t u ∷ give early (give now x.0)) i ∙ ap quads (sym x.2)

-- so all quads of a document are due at its end
all_due : (form : DocForm) (ts : List Token) (t : Token) (c : Setting) (m : Mode) (es : List Event) → run form c m (t ∷ ts) ≡ Some es →
    due (suc (length ts)) es ≡ quads es
all_due form [] t c m es e = last_due form t (depth m) c.scope (waiting c m t.kind (leaf_of t)) (step form c m t.kind (leaf_of t)) es
    (step_facts form c m t.kind (leaf_of t)) e
all_due form (y ∷ ys) t c m es e = more_due form t (y ∷ ys) (length ys) (waiting c m t.kind (leaf_of t))
    (step form c m t.kind (leaf_of t)) es e (λ c' m' fs h. all_due form ys y c' m' fs h)

-- the quads of a document are all given out when its tokens are accepted
document_due : (form : DocForm) (start : InForce) (ts : List Token) (d : Document form) → tokens (document_events start d) ≡ ts →
    emits form (in_default start) Start [] ts ≡ unmarked (event_quads 0 (document_events start d))
document_due form start [] d e = absurd (let r = run_tree true form d start [] e in let z : None ≡ Some (document_events start d) = r in cc)
document_due form start (t ∷ ts) d e =
    let es = document_events start d in
    lag form (t ∷ ts) [] start d (e ∙ sym (append-nil (t ∷ ts)))
    ∙ all_due form ts t (in_default start) Start es (run_tree true form d start (t ∷ ts) e)
    ∙ sym (quads_marked es 0)

-- What the machine accepts to its end is a document, with these quads.
pub accepted_document : (form : DocForm) (start : InForce) (ts : List Token) (s : State) (qs : List Quad) → accept_all form (at_start start) ts ≡ ran s qs →
    s.mode ≡ Over →
    (ms : List Marked) × documents form start ts ms × (unmarked ms ≡ qs)
accepted_document form start ts s qs e o =
    let r = ran_tokens form ts (at_start start) s qs e in
    let at_over : Accepts true form s.setting s.mode [] = record { events = []; runs = ap stop o; bound = tt } in
    let a = front true form ts [] (in_default start) Start (place s) at_over r.reached in
    let runs : run form (in_default start) Start ts ≡ Some a.events = ap (run form (in_default start) Start) (sym (append-nil ts)) ∙ a.runs in
    let f = read_found form ts (in_default start) a.events runs in (
      event_quads 0 (document_events start f.0),
      (f.0, sym f.2, passing_bound (document_events start f.0) (rw f.1 at a.bound), refl),
      sym (document_due form start ts f.0 f.2) ∙ sym r.given,
    )

-- a run that stops at a token
pub record Stuck (form : DocForm) (s : State) (ts : List Token) : Type 0 where
  pub ahead : List Token
  pub token : Token
  pub more : List Token
  pub state : State
  pub given : List Quad
  pub reason : Reason
  pub split : ts ≡ ahead ++ token ∷ more
  pub before : accept_all form s ahead ≡ ran state given
  pub refuses_it : accept form state token.kind (leaf_of token) ≡ refuses reason

-- the machine accepts the tokens
abbrev pub Goes : DocForm → State → List Token → Type 0
Goes form s ts = (n : State) × (qs : List Quad) × (accept_all form s ts ≡ ran n qs)

-- a run is accepted as a whole, or refuses a first token
pub outcome : (form : DocForm) (ts : List Token) (s : State) → Goes form s ts ⊎ Stuck form s ts
outcome form [] s = inl (s, [], refl)
outcome form (t ∷ ts) s = by (λ n. outcome form ts n) (accept form s t.kind (leaf_of t)) refl
  where
    by : ((n : State) → Goes form n ts ⊎ Stuck form n ts) → (a : Answer) → accept form s t.kind (leaf_of t) ≡ a → Goes form s (t ∷ ts) ⊎ Stuck form s (t ∷ ts)
    by ih (refuses r) h = inr (record { ahead = []; token = t; more = ts; state = s; given = []; reason = r; split = refl; before = refl; refuses_it = h })
    by ih (accepts gs n) h =
        ⊎_elim
        (λ g. inl (g.0, gs ++ g.1, ap (λ x. go x (λ y. accept_all form y ts)) h ∙ ap (with_quads gs) g.2))
        (λ k. inr (record {
          ahead = t ∷ k.ahead;
          token = k.token;
          more = k.more;
          state = k.state;
          given = gs ++ k.given;
          reason = k.reason;
          split = ap (λ x. t ∷ x) k.split;
          before = ap (λ x. go x (λ y. accept_all form y k.ahead)) h ∙ ap (with_quads gs) k.before;
          refuses_it = k.refuses_it;
        }))
        (ih n)

-- the front of a beginning of a document is one
viable_front : (form : DocForm) (start : InForce) (ts us : List Token) → Viable (documents form start) (ts ++ us) → Viable (documents form start) ts
viable_front form start ts us (more, qs, d) = (us ++ more, qs, subst (λ x. documents form start x qs) (append_assoc ts us more) d)

-- A token that is refused is in no document after those before it, or passes a limit there.
pub not_both : (form : DocForm) (start : InForce) (ts : List Token) (t : Token) (x : Reason) → Blamed form start x ts t →
    Viable (documents form start) (ts ++ t ∷ []) → (Passes form start ts t → ⊥) → ⊥
not_both form start ts t Unexpected r v p = let d = v.2 in r (v.0, v.1, (d.0, d.1, d.3))
not_both form start ts t Unbound r v p = Excluded.excluded r.0 v
not_both form start ts t NoBase r v p = Excluded.excluded r.0 v
not_both form start ts t TooDeep r v p = p (r.0, r.1, inl r.2)
not_both form start ts t IriTooLong r v p = p (r.0, r.1, inr (inl r.2))
not_both form start ts t TooManyBindings r v p = p (r.0, r.1, inr (inr r.2))
not_both form start ts t x r v p = r

-- the machine refuses no token of a document that passes no limit
stuck_not : (form : DocForm) (start : InForce) (ts : List Token) → Viable (documents form start) ts → PassesNone (Passes form start) ts →
    Stuck form (at_start start) ts → ⊥
stuck_not form start ts v p k =
    not_both form start k.ahead k.token k.reason
    (refused_for form start k.ahead k.token k.state k.reason (reached_start form start k.ahead k.state k.given k.before) k.refuses_it)
    (viable_front form start (k.ahead ++ k.token ∷ []) k.more
    (subst (Viable (documents form start)) (k.split ∙ sym (append_assoc k.ahead (k.token ∷ []) k.more)) v))
    (p k.ahead k.more k.token k.split)

-- Tokens that begin a document, and of which none passes a limit, are accepted.
pub viable_goes : (form : DocForm) (start : InForce) (ts : List Token) → Viable (documents form start) ts → PassesNone (Passes form start) ts →
    Goes form (at_start start) ts
viable_goes form start ts v p = ⊎_elim (λ g. g) (λ k. absurd (stuck_not form start ts v p k)) (outcome form ts (at_start start))

-- where the run over a whole document stands
run_over : (strict : Bool) (form : DocForm) (ts : List Token) (c : Setting) (m : Mode) (es : List Event) (s : Stand) → run form c m ts ≡ Some es →
    reach strict form c m ts ≡ Some s → s.mode ≡ Over
run_over strict form [] c m es s r e = let z : stand c m ≡ s = cc in sym (ap (λ x. Stand.mode x) z) ∙ over m r
  where
    over : (m : Mode) → stop m ≡ Some es → m ≡ Over
    over Over h = refl
    over m h = absurd (let z : None ≡ Some es = h in cc)
run_over strict form (t ∷ ts) c m es s r e = by (step form c m t.kind (leaf_of t)) r e (λ c' m' fs a b. run_over strict form ts c' m' fs s a b)
  where
    when : (b : Bool) (o : Option Stand) → if_true b o ≡ Some s → o ≡ Some s
    when true o e = e
    when false o e = absurd (let z : None ≡ Some s = e in cc)

    by : (x : Reply) → fronted (waiting c m t.kind (leaf_of t)) (go_on t x (λ c' m'. run form c' m' ts)) ≡ Some es →
        on_reply strict x (λ c' m'. reach strict form c' m' ts) ≡ Some s →
        ((c' : Setting) (m' : Mode) (fs : List Event) → run form c' m' ts ≡ Some fs → reach strict form c' m' ts ≡ Some s → s.mode ≡ Over) → s.mode ≡ Over
    by No r e ih = absurd (let z : None ≡ Some s = e in cc)
    by (Go u early now c' m') r e ih =
        let x = unput (waiting c m t.kind (leaf_of t)) t u early now (run form c' m' ts) es r in
        ih c' m' x.0 x.1 (when (admits strict u) (reach strict form c' m' ts) e)

-- A document of which no token passes a limit is accepted to its end, and its quads are given out.
pub document_accepted : (form : DocForm) (start : InForce) (ts : List Token) (ms : List Marked) → documents form start ts ms →
    PassesNone (Passes form start) ts →
    (s : State) × (accept_all form (at_start start) ts ≡ ran s (unmarked ms)) × (s.mode ≡ Over)
document_accepted form start ts ms d p =
    let v : Viable (documents form start) ts = ([], ms, subst (λ x. documents form start x ms) (sym (append-nil ts)) d) in
    let g = viable_goes form start ts v p in
    let r = ran_tokens form ts (at_start start) g.0 g.1 g.2 in
    let told : tokens (document_events start d.0) ≡ ts = sym d.1 in
    let given : g.1 ≡ unmarked ms = r.given ∙ document_due form start ts d.0 told ∙ ap unmarked d.3 in (
      g.0,
      g.2 ∙ ap (ran g.0) given,
      run_over true form ts (in_default start) Start (document_events start d.0) (place g.0)
          (run_tree true form d.0 start ts told) r.reached,
    )

-- Tokens that are accepted up to one that is refused are the front of the whole.
pub front_to : (form : DocForm) (start : InForce) (ts : List Token) (t : Token) (more : List Token) (s : State) (qs : List Quad) (x : Reason) →
    accept_all form (at_start start) ts ≡ ran s qs →
    accept form s t.kind (leaf_of t) ≡ refuses x → IsFront (documents form start) (Passes form start) (ts ++ t ∷ more) ts
front_to form start ts t more s qs x e a =
    let reached = reached_start form start ts s qs e in
    record {
      begins = (t ∷ more, refl);
      viable = reached_viable form start ts (place s) reached;
      kept = passes_none form start ts s qs e;
      longest = λ longer rest h v p. most longer rest h (λ more2 w.
          not_both form start ts t x (refused_for form start ts t s x reached a)
          (viable_front form start (ts ++ t ∷ []) more2 (subst (Viable (documents form start)) (w ∙ sym (append_assoc ts (t ∷ []) more2)) v))
          (p ts more2 t w));
    }
  where
    -- a longer beginning has the token too
    shorter : (longer rest us : List Token) → longer ++ rest ≡ us ++ t ∷ more → ((more2 : List Token) → longer ≡ us ++ t ∷ more2 → ⊥) →
        length longer ≤ length us
    shorter [] rest us h n = omega arith
    shorter (y ∷ longer) rest [] h n = absurd (let z : y ≡ t = cc in n longer (ap (λ w. w ∷ longer) z))
    shorter (y ∷ longer) rest (u ∷ us) h n =
        let z : y ≡ u = cc in
        let w : longer ++ rest ≡ us ++ t ∷ more = cc in
        let i = shorter longer rest us w (λ more2 g. n more2 (ap (λ a. a ∷ longer) z ∙ ap (λ a. u ∷ a) g)) in
        omega (arith, i)

    most : (longer rest : List Token) → ts ++ t ∷ more ≡ longer ++ rest → ((more2 : List Token) → longer ≡ ts ++ t ∷ more2 → ⊥) → length longer ≤ length ts
    most longer rest h n = shorter longer rest ts (sym h) n

-- Tokens that are all accepted are their own front.
pub front_all : (form : DocForm) (start : InForce) (ts : List Token) (s : State) (qs : List Quad) → accept_all form (at_start start) ts ≡ ran s qs →
    IsFront (documents form start) (Passes form start) ts ts
front_all form start ts s qs e = record {
  begins = ([], sym (append-nil ts));
  viable = reached_viable form start ts (place s) (reached_start form start ts s qs e);
  kept = passes_none form start ts s qs e;
  longest = λ longer rest h v p. let l = ap length h ∙ length-append longer rest in omega (arith, l);
}
