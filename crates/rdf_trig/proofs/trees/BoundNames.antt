-- Tokens begin a document exactly where they begin a tree with their names bound by what stands before.
use Rattle.rdf_trig.proofs.Prelude.{◌≡◌, ℕ, zero, suc, true, false, List, [], ◌∷◌, ◌++◌, length, Option, Some, None, refl, sym, ap, ◌∙◌, subst, append_assoc, Viable, Quad, Token, InForce, leaf_of, DocForm, Document, Setting, in_default, Use, itself, stands, binds, Event, Took, Gave, give, document_events, HasIri, BoundFront, Start, Reply, No, Go, start, waiting, fronted, go_on, run, documents, InTree, ViableWhereBound}
use Rattle.rdf_trig.specs.Events.{tokens}
use Rattle.rdf_trig.specs.Machine.{Mode, step}
use Rattle.rdf_trig.proofs.machine.Soundness.{unput}
use Rattle.rdf_trig.proofs.machine.ClosingTokens.{has_iri}
use Rattle.rdf_trig.proofs.machine.ViableTokens.{Stand, stand, reach, on_reply, if_true, run_tree, reach-snoc, step_on, and_on, use_bound, reached_viable, viable_reached, begins_reached, any_passing, was_true}
use Rattle.rdf_trig.proofs.trees.Senses.{same_sense, tokens_after}

-- a quad among the events makes no difference to bound names
bound_give : (q : Option Quad) (n : ℕ) (es : List Event) → BoundFront n es → BoundFront n (give q es)
bound_give None n es b = b
bound_give (Some q) n es b = b

-- a quad that is taken out of the events makes no difference to bound names
bound_back : (q : Option Quad) (n : ℕ) (es : List Event) → BoundFront n (give q es) → BoundFront n es
bound_back None n es b = b
bound_back (Some q) n es b = b

-- among no tokens all names are bound
bound_none : (es : List Event) → BoundFront zero es
bound_none [] = tt
bound_none (Took t u ∷ es) = tt
bound_none (Gave q ∷ es) = bound_none es

use_iri : (u : Use) → HasIri u → has_iri u ≡ true
use_iri itself h = refl
use_iri (stands None) h = absurd (h refl)
use_iri (stands (Some i)) h = refl
use_iri (binds full None) h = absurd (h refl)
use_iri (binds full (Some i)) h = refl

-- the names of tokens that the machine takes strictly are bound in each tree of theirs
reached_bound : (form : DocForm) (ts us : List Token) (c : Setting) (m : Mode) (es : List Event) (s : Stand) → run form c m (ts ++ us) ≡ Some es →
    reach true form c m ts ≡ Some s → BoundFront (length ts) es
reached_bound form [] us c m es s r e = bound_none es
reached_bound form (t ∷ ts) us c m es s r e = by (step form c m t.kind (leaf_of t)) r e (λ c' m' fs a b. reached_bound form ts us c' m' fs s a b)
  where
    by : (x : Reply) → fronted (waiting c m t.kind (leaf_of t)) (go_on t x (λ c' m'. run form c' m' (ts ++ us))) ≡ Some es →
        on_reply true x (λ c' m'. reach true form c' m' ts) ≡ Some s →
        ((c' : Setting) (m' : Mode) (fs : List Event) → run form c' m' (ts ++ us) ≡ Some fs → reach true form c' m' ts ≡ Some s → BoundFront (length ts) fs) →
        BoundFront (suc (length ts)) es
    by No r e ih = absurd (let z : None ≡ Some s = e in cc)
    by (Go u early now c' m') r e ih =
        let w = waiting c m t.kind (leaf_of t) in
        let x = unput w t u early now (run form c' m' (ts ++ us)) es r in
        let p = was_true (has_iri u) (reach true form c' m' ts) s e in
        let i = bound_give early (length ts) (give now x.0) (bound_give now (length ts) x.0 (ih c' m' x.0 x.1 p.1)) in
        subst (BoundFront (suc (length ts))) (sym x.2) (bound_give w (suc (length ts)) (Took t u ∷ give early (give now x.0)) (use_bound u p.0, i))

-- tokens with bound names are taken strictly
bound_reached : (form : DocForm) (ts us : List Token) (c : Setting) (m : Mode) (es : List Event) → run form c m (ts ++ us) ≡ Some es →
    BoundFront (length ts) es → (s : Stand) × (reach true form c m ts ≡ Some s)
bound_reached form [] us c m es r b = (stand c m, refl)
bound_reached form (t ∷ ts) us c m es r b = by (step form c m t.kind (leaf_of t)) r (λ c' m' fs a b. bound_reached form ts us c' m' fs a b)
  where
    by : (x : Reply) → fronted (waiting c m t.kind (leaf_of t)) (go_on t x (λ c' m'. run form c' m' (ts ++ us))) ≡ Some es →
        ((c' : Setting) (m' : Mode) (fs : List Event) → run form c' m' (ts ++ us) ≡ Some fs → BoundFront (length ts) fs →
        (s : Stand) × (reach true form c' m' ts ≡ Some s)) →
        (s : Stand) × (on_reply true x (λ c' m'. reach true form c' m' ts) ≡ Some s)
    by No r ih = absurd (let z : None ≡ Some es = r in cc)
    by (Go u early now c' m') r ih =
        let w = waiting c m t.kind (leaf_of t) in
        let x = unput w t u early now (run form c' m' (ts ++ us)) es r in
        let f = bound_back w (suc (length ts)) (Took t u ∷ give early (give now x.0)) (subst (BoundFront (suc (length ts))) x.2 b) in
        let i = ih c' m' x.0 x.1 (bound_back now (length ts) x.0 (bound_back early (length ts) (give now x.0) f.1)) in
        (i.0, ap (λ y. if_true y (reach true form c' m' ts)) (use_iri u f.0) ∙ i.1)

-- the law of viable tokens, for all tokens at once
pub viable_bound : (form : DocForm) (start : InForce) (ts : List Token) → ViableWhereBound form start ts
viable_bound form start ts = record {
  bound = λ v. let d = v.2 in record { tree = d.0; more = v.0; tokens = d.1; bound = every v d.0 v.0 d.1 };
  viable = λ b.
      let r = run_tree true form b.tree start (ts ++ b.more) (sym b.tokens) in
      let s = bound_reached form ts b.more (in_default start) Start (document_events start b.tree) r b.bound in
      reached_viable form start ts s.0 s.1;
  every = every;
}
  where
    every : Viable (documents form start) ts → (d : Document form) (more : List Token) → ts ++ more ≡ tokens (document_events start d) →
        BoundFront (length ts) (document_events start d)
    every v d more e =
        let s = viable_reached form start ts v in
        reached_bound form ts more (in_default start) Start (document_events start d) s.0 (run_tree true form d start (ts ++ more) (sym e)) s.1

-- What a token stands for is settled by the tokens before it.
pub settled : (form : DocForm) (start : InForce) (ahead : List Token) (t : Token) (u v : Use) → InTree form start ahead t u → InTree form start ahead t v →
    u ≡ v
settled form start ahead t u v p q =
    let told : tokens (document_events start p.tree) ≡ ahead ++ t ∷ tokens p.rest =
    ap tokens p.events ∙ tokens_after p.front t u p.rest ∙ ap (λ x. x ++ t ∷ tokens p.rest) p.read in
    let all = any_passing (document_events start p.tree) in
    let s = begins_reached false form ahead start (p.tree, t ∷ tokens p.rest, told, all) in
    let n = begins_reached false form (ahead ++ t ∷ []) start (p.tree, tokens p.rest, told ∙ sym (append_assoc ahead (t ∷ []) (tokens p.rest)), all) in
    let z : step_on false form s.0 t ≡ Some n.0 = sym (reach-snoc false form ahead t (in_default start) Start ∙ ap (λ o. and_on false form o t) s.1) ∙ n.1 in
    by s.0 n.0 s.1 (step form (Stand.setting s.0) (Stand.mode s.0) t.kind (leaf_of t)) refl z
  where
    by : (s n : Stand) → reach false form (in_default start) Start ahead ≡ Some s → (r : Reply) → step form s.setting s.mode t.kind (leaf_of t) ≡ r →
        on_reply false r (λ c' m'. Some (stand c' m')) ≡ Some n → u ≡ v
    by s n e No h z = absurd (let y : None ≡ Some n = z in cc)
    by s n e (Go x early now c m) h z = same_sense false form start ahead t s x u early now c m e h p
        ∙ sym (same_sense false form start ahead t s x v early now c m e h q)
