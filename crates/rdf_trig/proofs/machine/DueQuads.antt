-- What is given out for some tokens is due: in each document that begins with them, the quads whose mark is below their number. Marks never fall.
use Rattle.rdf_trig.proofs.Prelude.{◌≡◌, ℕ, zero, suc, ◌+◌, ◌≤◌, true, List, [], ◌∷◌, ◌++◌, length, Option, Some, None, refl, sym, ap, ◌∙◌, arith, nat_lt, cond-true, cond-false, lt-ltb, le-ltb, items_below, Rises, Quad, Token, InForce, leaf_of, DocForm, Document, Setting, in_default, Event, Took, Gave, give, document_events, event_quads, Start, Reply, No, Go, start, waiting, fronted, go_on, run, kept}
use Rattle.rdf_tokens.proofs.GrammarsLemmas.{rises_from}
use Rattle.rdf_trig.specs.Events.{tokens}
use Rattle.rdf_trig.specs.Machine.{Mode, step}
use Rattle.rdf_trig.proofs.machine.Soundness.{unput}
use Rattle.rdf_trig.proofs.machine.ViableTokens.{run_tree}

-- the quads in front of the token of this number, from 1
abbrev pub due : ℕ → List Event → List Quad
due zero es = []
due (suc n) [] = []
due (suc n) (Took t u ∷ es) = due n es
due (suc n) (Gave q ∷ es) = q ∷ due (suc n) es

-- no quad is due before the first token of its events
before_none : (es : List Event) (k n : ℕ) → k ≤ n → items_below k (event_quads n es) ≡ []
before_none [] k n l = refl
before_none (Took t u ∷ es) k n l = before_none es k (n + 1) (omega arith)
before_none (Gave q ∷ es) k n l = cond-false (nat_lt n k) _ _ (le-ltb _ _ l) ∙ before_none es k n l

-- the quads that are due after some tokens, counted from where the events begin
pub before_due : (es : List Event) (n k j : ℕ) → j ≡ k + n → items_below j (event_quads k es) ≡ due n es
before_due es zero k j e = before_none es j k (omega arith)
before_due [] (suc n) k j e = refl
before_due (Took t u ∷ es) (suc n) k j e = before_due es n (k + 1) j (omega arith)
before_due (Gave q ∷ es) (suc n) k j e = cond-true (nat_lt k j) _ _ (lt-ltb _ _ (omega arith)) ∙ ap (λ x. q ∷ x) (before_due es (suc n) k j e)

-- the marks of events rise, as the law of marks says
pub marked_rises : (es : List Event) (n : ℕ) → Rises n (event_quads n es)
marked_rises [] n = tt
marked_rises (Took t u ∷ es) n = rises_from (event_quads (n + 1) es) n (n + 1) (omega arith) (marked_rises es (n + 1))
marked_rises (Gave q ∷ es) n = (omega arith, marked_rises es n)

-- what a reader that holds these quads gives out for these tokens
abbrev pub on_emits : Option Quad → Reply → (Setting → Mode → List Quad → List Quad) → List Quad
on_emits w No next = kept w []
on_emits w (Go u early now c m) next = kept w (next c m (kept early (kept now [])))

-- what the machine gives out for some tokens, where some quads are ready already
abbrev pub emits : DocForm → Setting → Mode → List Quad → List Token → List Quad
emits form c m ready [] = []
emits form c m ready (t ∷ ts) = ready ++ on_emits (waiting c m t.kind (leaf_of t)) (step form c m t.kind (leaf_of t)) (λ c' m' ready'. emits form c' m' ready' ts)

-- a quad that is given out is due with the next token
due_give : (q : Option Quad) (n : ℕ) (es : List Event) → due (suc n) (give q es) ≡ kept q (due (suc n) es)
due_give None n es = refl
due_give (Some q) n es = refl

-- two quads that are ready come before the others
kept_all : (a b : Option Quad) (qs : List Quad) → kept a (kept b []) ++ qs ≡ kept a (kept b qs)
kept_all None None qs = refl
kept_all None (Some b) qs = refl
kept_all (Some a) None qs = refl
kept_all (Some a) (Some b) qs = refl

module _ (form : DocForm) where
  on_due : (t u : Token) (ts us : List Token) (w : Option Quad) (r : Reply) →
      ((c : Setting) (m : Mode) (ready : List Quad) (es : List Event) → run form c m ((u ∷ ts) ++ us) ≡ Some es →
      emits form c m ready (u ∷ ts) ≡ ready ++ due (suc (length ts)) es) →
      (es : List Event) → fronted w (go_on t r (λ c m. run form c m ((u ∷ ts) ++ us))) ≡ Some es →
      on_emits w r (λ c m ready. emits form c m ready (u ∷ ts)) ≡ due (suc (suc (length ts))) es
  on_due t u ts us w No ih es e = absurd (let z : None ≡ Some es = e in cc)
  on_due t u ts us w (Go v early now c m) ih es e =
      let x = unput w t v early now _ es e in
      ap (kept w) (ih c m (kept early (kept now [])) x.0 x.1 ∙ kept_all early now _
      ∙ sym (due_give early (length ts) (give now x.0) ∙ ap (kept early) (due_give now (length ts) x.0)))
      ∙ sym (ap (due (suc (suc (length ts)))) x.2 ∙ due_give w (suc (length ts)) _)

  on_due_last : (t : Token) (us : List Token) (w : Option Quad) (r : Reply) (es : List Event) → fronted w (go_on t r (λ c m. run form c m us)) ≡ Some es →
      on_emits w r (λ c m ready. emits form c m ready []) ≡ due (suc zero) es
  on_due_last t us w No es e = absurd (let z : None ≡ Some es = e in cc)
  on_due_last t us w (Go u early now c m) es e = let x = unput w t u early now _ es e in sym (ap (due (suc zero)) x.2 ∙ due_give w zero _)

  emits_due : (t : Token) (ts us : List Token) (c : Setting) (m : Mode) (ready : List Quad) (es : List Event) → run form c m ((t ∷ ts) ++ us) ≡ Some es →
      emits form c m ready (t ∷ ts) ≡ ready ++ due (suc (length ts)) es
  emits_due t [] us c m ready es e = ap (λ qs. ready ++ qs) (on_due_last t us (waiting c m t.kind (leaf_of t)) (step form c m t.kind (leaf_of t)) es e)
  emits_due t (u ∷ ts) us c m ready es e =
      ap (λ qs. ready ++ qs) (on_due t u ts us (waiting c m t.kind (leaf_of t)) (step form c m t.kind (leaf_of t))
      (λ c' m' ready' fs h. emits_due u ts us c' m' ready' fs h) es e)

  -- in each tree that begins with the tokens
  pub lag : (ts us : List Token) (start : InForce) (d : Document form) → tokens (document_events start d) ≡ ts ++ us →
      emits form (in_default start) Start [] ts ≡ due (length ts) (document_events start d)
  lag [] us start d e = refl
  lag (t ∷ ts) us start d e = emits_due t ts us (in_default start) Start [] (document_events start d) (run_tree true form d start ((t ∷ ts) ++ us) e)
