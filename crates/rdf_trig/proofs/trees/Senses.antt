-- What a token stands for is the same in every tree that begins with the tokens before it and with it.
use Rattle.rdf_trig.proofs.Prelude.{◌≡◌, ℕ, zero, suc, Bool, true, false, List, [], ◌∷◌, ◌++◌, length, Option, Some, None, refl, sym, ap, ◌∙◌, subst, append_assoc, Quad, Token, InForce, leaf_of, DocForm, Setting, in_default, Use, Event, Took, Gave, give, document_events, Bound, Start, Reply, No, Go, start, waiting, fronted, go_on, run, InTree, StandsFor}
use Rattle.rdf_trig.specs.Events.{tokens}
use Rattle.rdf_trig.specs.Machine.{Mode, step}
use Rattle.rdf_trig.proofs.machine.Soundness.{unput}
use Rattle.rdf_trig.proofs.machine.ClosingTokens.{has_iri, admits}
use Rattle.rdf_trig.proofs.machine.ViableTokens.{Stand, stand, reach, on_reply, if_true, run_tree, Begins, reached_begins, reach-snoc, and_on, passing_bound, goes_on, lax}

-- what the token of this number, from 0, stands for
abbrev pub sense_at : ℕ → List Event → Option Use
sense_at n [] = None
sense_at n (Gave q ∷ es) = sense_at n es
sense_at zero (Took t u ∷ es) = Some u
sense_at (suc n) (Took t u ∷ es) = sense_at n es

-- a quad among the events does not count as a token
sense_give : (q : Option Quad) (n : ℕ) (es : List Event) → sense_at n (give q es) ≡ sense_at n es
sense_give None n es = refl
sense_give (Some q) n es = refl

-- a token in the middle stands for what its event says
sense_after : (front : List Event) (t : Token) (u : Use) (rest : List Event) → sense_at (length (tokens front)) (front ++ Took t u ∷ rest) ≡ Some u
sense_after [] t u rest = refl
sense_after (Took x v ∷ front) t u rest = sense_after front t u rest
sense_after (Gave q ∷ front) t u rest = sense_after front t u rest

-- the tokens of events with one in the middle
pub tokens_after : (front : List Event) (t : Token) (u : Use) (rest : List Event) → tokens (front ++ Took t u ∷ rest) ≡ tokens front ++ t ∷ tokens rest
tokens_after [] t u rest = refl
tokens_after (Took x v ∷ front) t u rest = ap (λ y. x ∷ y) (tokens_after front t u rest)
tokens_after (Gave q ∷ front) t u rest = tokens_after front t u rest

-- the events before a token and after it
record Split (es : List Event) (ts : List Token) (t : Token) : Type 0 where
  front : List Event
  sense : Use
  rest : List Event
  events : es ≡ front ++ Took t sense ∷ rest
  read : tokens front ≡ ts

-- events can be split at a token, if those after a first quad can
gave_first : (q : Quad) {es : List Event} {ts : List Token} {t : Token} → Split es ts t → Split (Gave q ∷ es) ts t
gave_first q s = record { front = Gave q ∷ s.front; sense = s.sense; rest = s.rest; events = ap (λ x. Gave q ∷ x) s.events; read = s.read }

-- events can be split at a token, if those after a first token can
took_first : (x : Token) (v : Use) {es : List Event} {ts : List Token} {t : Token} → Split es ts t → Split (Took x v ∷ es) (x ∷ ts) t
took_first x v s = record {
  front = Took x v ∷ s.front;
  sense = s.sense;
  rest = s.rest;
  events = ap (λ y. Took x v ∷ y) s.events;
  read = ap (λ y. x ∷ y) s.read;
}

-- events can be split at each of their tokens
split : (es : List Event) (ts : List Token) (t : Token) (us : List Token) → tokens es ≡ ts ++ t ∷ us → Split es ts t
split [] [] t us e = absurd (let z : [] ≡ t ∷ us = e in cc)
split [] (x ∷ ts) t us e = absurd (let z : [] ≡ x ∷ (ts ++ t ∷ us) = e in cc)
split (Gave q ∷ es) ts t us e = gave_first q (split es ts t us e)
split (Took x v ∷ es) [] t us e = let z : x ≡ t = cc in record { front = []; sense = v; rest = es; events = ap (λ y. Took y v ∷ es) z; read = refl }
split (Took x v ∷ es) (y ∷ ts) t us e =
    let z : x ≡ y = cc in
    let w : tokens es ≡ ts ++ t ∷ us = cc in
    subst (λ a. Split (Took x v ∷ es) (a ∷ ts) t) z (took_first x v (split es ts t us w))

-- the sense of the first token of a run
first_sense : (w : Option Quad) (t : Token) (u : Use) (early now : Option Quad) (fs es : List Event) → es ≡ give w (Took t u ∷ give early (give now fs)) →
    sense_at zero es ≡ Some u
first_sense w t u early now fs es e = ap (sense_at zero) e ∙ sense_give w zero (Took t u ∷ give early (give now fs))

-- the sense of a later token is that among the tokens after the first
later_sense : (w : Option Quad) (t : Token) (u : Use) (early now : Option Quad) (n : ℕ) (fs es : List Event) →
    es ≡ give w (Took t u ∷ give early (give now fs)) → sense_at (suc n) es ≡ sense_at n fs
later_sense w t u early now n fs es e =
    ap (sense_at (suc n)) e ∙ sense_give w (suc n) (Took t u ∷ give early (give now fs)) ∙ sense_give early n (give now fs) ∙ sense_give now n fs

-- in a run the token stands for what the machine's step says
sense_run : (strict : Bool) (form : DocForm) (ts : List Token) (t : Token) (us : List Token) (c : Setting) (m : Mode) (es : List Event) (s : Stand)
    (u : Use) (early now : Option Quad) (c1 : Setting) (m1 : Mode) →
    run form c m (ts ++ t ∷ us) ≡ Some es → reach strict form c m ts ≡ Some s → step form s.setting s.mode t.kind (leaf_of t) ≡ Go u early now c1 m1 →
    sense_at (length ts) es ≡ Some u
sense_run strict form [] t us c m es s u early now c1 m1 r e n =
    let z : stand c m ≡ s = cc in
    let n1 : step form c m t.kind (leaf_of t) ≡ Go u early now c1 m1 =
    subst (λ x. step form (Stand.setting x) (Stand.mode x) t.kind (leaf_of t) ≡ Go u early now c1 m1) (sym z) n in
    let r1 = sym (ap (λ x. fronted (waiting c m t.kind (leaf_of t)) (go_on t x (λ c' m'. run form c' m' us))) n1) ∙ r in
    let x = unput (waiting c m t.kind (leaf_of t)) t u early now (run form c1 m1 us) es r1 in
    first_sense (waiting c m t.kind (leaf_of t)) t u early now x.0 es x.2
sense_run strict form (y ∷ ts) t us c m es s u early now c1 m1 r e n =
    by (step form c m y.kind (leaf_of y)) r e (λ c' m' fs a b. sense_run strict form ts t us c' m' fs s u early now c1 m1 a b n)
  where
    when : (b : Bool) (o : Option Stand) → if_true b o ≡ Some s → o ≡ Some s
    when true o e = e
    when false o e = absurd (let z : None ≡ Some s = e in cc)

    by : (x : Reply) → fronted (waiting c m y.kind (leaf_of y)) (go_on y x (λ c' m'. run form c' m' (ts ++ t ∷ us))) ≡ Some es →
        on_reply strict x (λ c' m'. reach strict form c' m' ts) ≡ Some s →
        ((c' : Setting) (m' : Mode) (fs : List Event) → run form c' m' (ts ++ t ∷ us) ≡ Some fs → reach strict form c' m' ts ≡ Some s →
        sense_at (length ts) fs ≡ Some u) →
        sense_at (suc (length ts)) es ≡ Some u
    by No r e ih = absurd (let z : None ≡ Some s = e in cc)
    by (Go v e1 n1 c' m') r e ih =
        let x = unput (waiting c m y.kind (leaf_of y)) y v e1 n1 (run form c' m' (ts ++ t ∷ us)) es r in
        later_sense (waiting c m y.kind (leaf_of y)) y v e1 n1 (length ts) x.0 es x.2 ∙ ih c' m' x.0 x.1 (when (admits strict v) (reach strict form c' m' ts) e)

-- in every tree that begins so, a token stands for what the machine found
pub same_sense : (strict : Bool) (form : DocForm) (start : InForce) (ts : List Token) (t : Token) (s : Stand) (u v : Use) (early now : Option Quad)
    (c : Setting) (m : Mode) →
    reach strict form (in_default start) Start ts ≡ Some s → step form s.setting s.mode t.kind (leaf_of t) ≡ Go u early now c m →
    InTree form start ts t v → v ≡ u
same_sense strict form start ts t s u v early now c m e n p =
    let told : tokens (document_events start p.tree) ≡ ts ++ t ∷ tokens p.rest =
    ap tokens p.events ∙ tokens_after p.front t v p.rest ∙ ap (λ x. x ++ t ∷ tokens p.rest) p.read in
    let a = sense_run strict form ts t (tokens p.rest) (in_default start) Start (document_events start p.tree) s u early now c m
    (run_tree strict form p.tree start (ts ++ t ∷ tokens p.rest) told) e n in
    let b : sense_at (length ts) (document_events start p.tree) ≡ Some v = ap (λ x. sense_at (length ts) x) p.events
    ∙ ap (λ x. sense_at (length x) (p.front ++ Took t v ∷ p.rest)) (sym p.read) ∙ sense_after p.front t v p.rest in
    let z : Some v ≡ Some u = sym b ∙ a in
    cc

-- the place of a token in a tree that begins so
placed : (strict : Bool) (form : DocForm) (start : InForce) (ts : List Token) (t : Token) (s : Stand) (u : Use) (early now : Option Quad)
    (c : Setting) (m : Mode) →
    reach strict form (in_default start) Start ts ≡ Some s → step form s.setting s.mode t.kind (leaf_of t) ≡ Go u early now c m →
    (b : Begins strict form start (ts ++ t ∷ [])) →
    (p : InTree form start ts t u) × (p.tree ≡ b.0)
placed strict form start ts t s u early now c m e n (d, us, told, b) =
    let x = split (document_events start d) ts t us (told ∙ append_assoc ts (t ∷ []) us) in
    let p : InTree form start ts t x.sense = record { tree = d; front = x.front; rest = x.rest; events = x.events; read = x.read } in
    let z = same_sense strict form start ts t s u x.sense early now c m e n p in
    (record { tree = d; front = x.front; rest = x.rest; events = x.events ∙ ap (λ y. x.front ++ Took t y ∷ x.rest) z; read = x.read }, refl)

-- there is such a tree, whether names are bound or not
pub in_tree : (form : DocForm) (start : InForce) (ts : List Token) (t : Token) (s : Stand) (u : Use) (early now : Option Quad) (c : Setting) (m : Mode) →
    reach true form (in_default start) Start ts ≡ Some s →
    step form s.setting s.mode t.kind (leaf_of t) ≡ Go u early now c m → InTree form start ts t u
in_tree form start ts t s u early now c m e n =
    let f = lax form ts (in_default start) Start s e in
    let g = reach-snoc false form ts t (in_default start) Start ∙ ap (λ o. and_on false form o t) f
    ∙ ap (λ r. on_reply false r (λ c' m'. Some (stand c' m'))) n in
    (placed false form start ts t s u early now c m f n (reached_begins false form (ts ++ t ∷ []) start (stand c m) g)).0

-- where its name is bound there is such a document
pub stands_for : (form : DocForm) (start : InForce) (ts : List Token) (t : Token) (s : Stand) (u : Use) (early now : Option Quad) (c : Setting) (m : Mode) →
    reach true form (in_default start) Start ts ≡ Some s →
    step form s.setting s.mode t.kind (leaf_of t) ≡ Go u early now c m → has_iri u ≡ true → StandsFor form start ts t u
stands_for form start ts t s u early now c m e n h =
    let b = reached_begins true form (ts ++ t ∷ []) start (stand c m) (goes_on form start ts t s u early now c m e n h) in
    let p = placed true form start ts t s u early now c m e n b in
    record { place = p.0; bound = subst (λ d. Bound (document_events start d)) (sym p.1) (passing_bound (document_events start b.0) b.3) }
