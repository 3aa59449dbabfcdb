-- Scopes that agree in every look-up give tokens the same meaning, and stay so.
use Rattle.rdf_trig.proofs.Prelude.{◌≡◌, ◌+◌, ℕ, cond, List, ◌++◌, ◌&&◌, not, length, Option, Some, None, option_map, refl, sym, ap, ◌∙◌, subst, false≢true, nat_le, is_some, Result, Ok, Err, OnOk, IfErr, Kind, IriRef, PnameNs, PnameLn, Sizes, equal, resolved, InForce, bound_to, Binds, Leaf, iri_of, DocForm, TriG, StepFault, Outer, Turn, reference_in, name_in, prefix_of, local_of, with_base, with_binding, is_full, Use, stands, binds, IsNamedIn, name_at, use_at, mode_at, outer_of, level_of, place_in, text_in, after_semicolon_at, IsAdmitted, IsDenied, Names, Unnamed, Based, Binding, NotBinding, SameScope, LooksUp, LooksUpNone, Suits, SuitsIn}
use Rattle.rdf_trig.specs.declared.form.DocForm.TheVariants.{Turtle}
use Rattle.rdf_trig.specs.declared.state.Outer.TheVariants as outer
use Rattle.rdf_trig.specs.declared.state.State.{State}
use Rattle.rdf_trig.specs.declared.state.Mode.{Mode}
use Rattle.rdf_trig.specs.declared.state.Mode.TheVariants as mode
use Rattle.rdf_trig.specs.declared.state.Spelling.{Spelling}
use Rattle.rdf_trig.specs.declared.straight.Slot.{Slot}
use Rattle.rdf_trig.specs.declared.straight.Slot.TheVariants as slot
use Rattle.rdf_trig.specs.Machine as M
use Rattle.rdf_trig.specs.Straight.{slot_turn}
use Rattle.rdf_trig.proofs.trees.NamesLemmas.{bind_bound, bind_length}

-- a reference depends on the base alone, on which such scopes agree
reference_same : (s t : InForce) (l : Leaf) → SameScope s t → reference_in s l ≡ reference_in t l
unfolding reference_in
reference_same s t l e = ap (λ b. resolved b (iri_of l)) e.base

-- a prefixed name stands for the same IRI in both, so the machine's scope may be used for the reader's
name_same : (s t : InForce) (l : Leaf) → SameScope s t → name_in s l ≡ name_in t l
unfolding name_in
name_same s t l e = ap (option_map (λ x. x ++ local_of l)) (e.bound (prefix_of l))

-- whether a prefix would be one too many depends on the look-up and the count alone
full_same : (s t : InForce) (p : List ℕ) → SameScope s t → is_full s p ≡ is_full t p
unfolding is_full
full_same s t p e =
    ap (λ o. not (is_some o) && nat_le s.limits.bindings (length s.bindings)) (e.bound p)
    ∙ (ap (λ x. not (is_some (bound_to t.bindings p)) && nat_le x.bindings (length s.bindings)) e.limits
    ∙ ap (λ n. not (is_some (bound_to t.bindings p)) && nat_le t.limits.bindings n) e.count)

-- what any token names is the same in both scopes
name_at-same : (s t : InForce) (k : Kind) (l : Leaf) → SameScope s t → name_at s k l ≡ name_at t k l
name_at-same s t IriRef l e = reference_same s t l e
name_at-same s t PnameNs l e = name_same s t l e
name_at-same s t PnameLn l e = name_same s t l e
name_at-same s t k l e = refl

use_at-same : (s t : InForce) (k : Kind) (l : Leaf) → SameScope s t → use_at s k l ≡ use_at t k l
use_at-same s t IriRef l e = ap stands (reference_same s t l e)
use_at-same s t PnameNs l e = ap stands (name_same s t l e)
use_at-same s t PnameLn l e = ap stands (name_same s t l e)
use_at-same s t k l e = refl

-- what is allowed under equal limits is allowed: it carries a fact on the reader's scope over to the machine's
passes_at : (a b : Sizes) (k : Kind) (u v : Use) → a ≡ b → u ≡ v → IsAdmitted b k v → IsAdmitted a k u
passes_at a b k u v e f p = subst (λ x. IsAdmitted x k u) (sym e) (subst (IsAdmitted b k) (sym f) p)

-- what is refused under equal limits is refused: it carries a refusal of the reader's scope over to the machine's
stops_at : (a b : Sizes) (k : Kind) (u v : Use) (r : StepFault) → a ≡ b → u ≡ v → IsDenied b k v r → IsDenied a k u r
stops_at a b k u v r e f p = subst (λ x. IsDenied x k u r) (sym e) (subst (λ x. IsDenied b k x r) (sym f) p)

-- outside of directives
abbrev Ordinary : M.Mode → Type 0
Ordinary (M.WantPrefix w) = ⊥
Ordinary (M.WantPrefixIri w p) = ⊥
Ordinary (M.WantBaseIri w) = ⊥
Ordinary m = Unit {0}

-- what the reader looked up in its own scope holds in the machine's
looks_same : (s t : InForce) (k : Kind) (l : Leaf) (i : Option (List ℕ)) → SameScope s t → Names t k l i →
    (name_at s k l ≡ i) × IsAdmitted s.limits k (use_at s k l)
looks_same s t k l i e n =
    (name_at-same s t k l e ∙ n.name, passes_at s.limits t.limits k (use_at s k l) (use_at t k l) e.limits (use_at-same s t k l e) n.admitted)

-- outside of directives a look-up in the reader's scope is what the machine expects, and no scope changes
looks_ordinary : (s t : InForce) (m : M.Mode) (k : Kind) (l : Leaf) (i : Option (List ℕ)) → Ordinary m → SameScope s t → Names t k l i → LooksUp s m k l i t
looks_ordinary s t (M.WantPrefix w) k l i o e n = absurd o
looks_ordinary s t (M.WantPrefixIri w p) k l i o e n = absurd o
looks_ordinary s t (M.WantBaseIri w) k l i o e n = absurd o
looks_ordinary s t m k l i o e n = let h = looks_same s t k l i e n in record { admitted = h.1; name = h.0; named = n.named; scope = e }

-- outside of directives a look-up that failed is one that the machine refuses for the same reason
none_ordinary : (s t : InForce) (m : M.Mode) (k : Kind) (l : Leaf) (r : StepFault) → Ordinary m → SameScope s t → Unnamed t k l r → LooksUpNone s m k l r
none_ordinary s t (M.WantPrefix w) k l r o e n = absurd o
none_ordinary s t (M.WantPrefixIri w p) k l r o e n = absurd o
none_ordinary s t (M.WantBaseIri w) k l r o e n = absurd o
none_ordinary s t m k l r o e n = stops_at s.limits t.limits k (use_at s k l) (use_at t k l) r e.limits (use_at-same s t k l e) n

-- what comes after a subject is no directive
subject_ordinary : (form : DocForm) (v : M.Level) (x : M.Topic) → Ordinary (M.after_subject form v x)
subject_ordinary TriG M.Top x = tt
subject_ordinary TriG M.InBlock x = tt
subject_ordinary Turtle M.Top x = tt
subject_ordinary Turtle M.InBlock x = tt

semicolon_ordinary : (p : M.Place) → Ordinary (after_semicolon_at p)
semicolon_ordinary (M.Listed s p a) = tt
semicolon_ordinary (M.InCollection first cell u) = tt

-- no mode of a statement is in a directive, so that one lemma serves all of them
mode_ordinary : {A : Type 0} (form : DocForm) (n : State A) (m : Mode) → ((o : Outer) → m ≡ mode.Outer o → ⊥) → Ordinary (mode_at form n m)
mode_ordinary form n (mode.Outer o) h = absurd (h o refl)
mode_ordinary form n mode.AfterSubject h = subject_ordinary form (level_of n.level) n.frame.subject
mode_ordinary form n mode.AfterSemicolon h = semicolon_ordinary (place_in n)
mode_ordinary form n m h = tt

-- outside of statements only the three modes that wait for a directive's parts are not ordinary
outer_ordinary : (o : Outer) (n : ℕ) (p : List ℕ) (g : M.Topic) → ((w : Spelling) → o ≡ outer.WantPrefix w → ⊥) →
    ((w : Spelling) → o ≡ outer.WantPrefixIri w → ⊥) → ((w : Spelling) → o ≡ outer.WantBaseIri w → ⊥) → Ordinary (outer_of o n p g)
outer_ordinary (outer.WantPrefix w) n p g a b c = absurd (a w refl)
outer_ordinary (outer.WantPrefixIri w) n p g a b c = absurd (b w refl)
outer_ordinary (outer.WantBaseIri w) n p g a b c = absurd (c w refl)
outer_ordinary o n p g a b c = tt

-- in a statement, whatever frames are open, a look-up that succeeds is the machine's
pub mode_looks : {A T : Type 0} (n : State A) (m : Mode) (t : InForce) (k : Kind) (l : Leaf) (i : Option (List ℕ)) (r : Result T StepFault) →
    ((o : Outer) → m ≡ mode.Outer o → ⊥) →
    OnOk r (Names t k l i) → OnOk r ((form : DocForm) (s : InForce) → SameScope s t → LooksUp s (mode_at form n m) k l i t)
mode_looks n m t k l i (Ok x) h e = λ form s y. looks_ordinary s t (mode_at form n m) k l i (mode_ordinary form n m h) y e
mode_looks n m t k l i (Err r) h e = tt

-- in a statement, whatever frames are open, a look-up that fails is the machine's
pub mode_none : {A T : Type 0} (n : State A) (m : Mode) (t : InForce) (k : Kind) (l : Leaf) (r : Result T StepFault) →
    ((o : Outer) → m ≡ mode.Outer o → ⊥) →
    IfErr r (λ f. Unnamed t k l f) → IfErr r (λ e. (form : DocForm) (s : InForce) → SameScope s t → LooksUpNone s (mode_at form n m) k l e)
mode_none n m t k l (Ok x) h e = tt
mode_none n m t k l (Err r) h e = λ form s y. none_ordinary s t (mode_at form n m) k l r (mode_ordinary form n m h) y e

-- outside of statements and of directives a look-up that succeeds is the machine's
pub outer_looks : {A T : Type 0} (n : State A) (o : Outer) (t : InForce) (k : Kind) (l : Leaf) (i : Option (List ℕ)) (r : Result T StepFault) →
    ((w : Spelling) → o ≡ outer.WantPrefix w → ⊥) → ((w : Spelling) → o ≡ outer.WantPrefixIri w → ⊥) →
    ((w : Spelling) → o ≡ outer.WantBaseIri w → ⊥) →
    OnOk r (Names t k l i) → OnOk r ((form : DocForm) (s : InForce) → SameScope s t → LooksUp s (mode_at form n (mode.Outer o)) k l i t)
outer_looks n o t k l i (Ok x) a b c h =
    λ form s e. looks_ordinary s t (outer_of o n.bracket (text_in n) n.graph) k l i (outer_ordinary o n.bracket (text_in n) n.graph a b c) e h
outer_looks n o t k l i (Err r) a b c h = tt

-- outside of statements and of directives a look-up that fails is the machine's
pub outer_none : {A T : Type 0} (n : State A) (o : Outer) (t : InForce) (k : Kind) (l : Leaf) (r : Result T StepFault) →
    ((w : Spelling) → o ≡ outer.WantPrefix w → ⊥) → ((w : Spelling) → o ≡ outer.WantPrefixIri w → ⊥) →
    ((w : Spelling) → o ≡ outer.WantBaseIri w → ⊥) →
    IfErr r (λ f. Unnamed t k l f) → IfErr r (λ f. (form : DocForm) (s : InForce) → SameScope s t → LooksUpNone s (mode_at form n (mode.Outer o)) k l f)
outer_none n o t k l (Ok x) a b c h = tt
outer_none n o t k l (Err r) a b c h =
    λ form s e. none_ordinary s t (outer_of o n.bracket (text_in n) n.graph) k l r (outer_ordinary o n.bracket (text_in n) n.graph a b c) e h

-- a turn that takes an IRI is none of a directive, where none comes
named_ordinary : (m : M.Mode) (k : Kind) (t : Turn) → (Suits t k None → ⊥) → ((i : Option (List ℕ)) → IsNamedIn m k i → Suits t k i) → Ordinary m
named_ordinary (M.WantPrefix w) k t none h = absurd (none (h None tt))
named_ordinary (M.WantPrefixIri w p) k t none h = absurd (none (h None tt))
named_ordinary (M.WantBaseIri w) k t none h = absurd (none (h None tt))
named_ordinary m k t none h = tt

-- what goes into a slot is an IRI
slot_named : (p : Slot) (k : Kind) → Suits (slot_turn p) k None → ⊥
slot_named (slot.Subject v) k h = false≢true h
slot_named (slot.Verb a) k h = false≢true h
slot_named slot.Object k h = false≢true h
slot_named slot.Datatype k h = false≢true h

slot_ordinary : {A : Type 0} (form : DocForm) (n : State A) (p : Slot) (t : Turn) (k : Kind) → slot_turn p ≡ t → SuitsIn form n n.mode k t →
    Ordinary (mode_at form n n.mode)
slot_ordinary form n p t k e h =
    named_ordinary (mode_at form n n.mode) k (slot_turn p) (slot_named p k) (subst (SuitsIn form n n.mode k) (sym e) h)

-- so the look-up of a name that goes straight into its slot is the machine's
pub slot_looks : {A : Type 0} (form : DocForm) (n : State A) (p : Slot) (t : Turn) (s here : InForce) (k : Kind) (l : Leaf) (i : Option (List ℕ)) →
    slot_turn p ≡ t → SuitsIn form n n.mode k t → SameScope s here → Names here k l i → LooksUp s (mode_at form n n.mode) k l i here
slot_looks form n p t s here k l i is h e names = looks_ordinary s here (mode_at form n n.mode) k l i (slot_ordinary form n p t k is h) e names

pub slot_none : {A : Type 0} (form : DocForm) (n : State A) (p : Slot) (t : Turn) (s here : InForce) (k : Kind) (l : Leaf) (r : StepFault) →
    slot_turn p ≡ t → SuitsIn form n n.mode k t → SameScope s here → Unnamed here k l r → LooksUpNone s (mode_at form n n.mode) k l r
slot_none form n p t s here k l r is h e none = none_ordinary s here (mode_at form n n.mode) k l r (slot_ordinary form n p t k is h) e none

-- scopes that agree do so after both have taken a base
based_same : (s t : InForce) (o : Option (List ℕ)) → SameScope s t → SameScope (with_base s o) (with_base t o)
based_same s t None e = e
based_same s t (Some i) e = record { base = refl; limits = e.limits; bound = e.bound; count = e.count }

-- a base that the reader has taken is the one that the machine takes
pub base_looks : (s t n : InForce) (w : M.Spelling) (l : Leaf) (i : Option (List ℕ)) → SameScope s t → Based t l n → LooksUp s (M.WantBaseIri w) IriRef l i n
base_looks s t n w l i e b =
    let r = reference_same s t l e in
    record {
      admitted = passes_at s.limits t.limits IriRef _ _ e.limits (ap stands r) b.admitted;
      name = tt;
      named = tt;
      scope = subst (λ x. SameScope (with_base s x) n) (sym r)
          (subst (SameScope (with_base s (reference_in t l))) (sym b.scope) (based_same s t (reference_in t l) e));
    }

-- a base that the reader cannot take is refused by the machine for the same reason
pub base_none : (s t : InForce) (w : M.Spelling) (l : Leaf) (r : StepFault) → SameScope s t → Unnamed t IriRef l r → LooksUpNone s (M.WantBaseIri w) IriRef l r
base_none s t w l r e n = stops_at s.limits t.limits IriRef _ _ r e.limits (ap stands (reference_same s t l e)) n

-- scopes that agree do so after a binding, though the code may keep the prefixes in another order
bound_same : (s t n : InForce) (p i : List ℕ) → SameScope s t → Binds t p i n → SameScope (with_binding s p (Some i)) n
bound_same s t n p i e b = record {
  base = e.base ∙ sym b.base;
  limits = e.limits ∙ sym b.limits;
  bound = λ q. bind_bound s.bindings p i q ∙ (ap (λ z. cond (equal p q) (Some i) z) (e.bound q) ∙ sym (b.bound q));
  count = bind_length s.bindings p i
      ∙ (ap (λ (z : ℕ). z + cond (is_some (bound_to s.bindings p)) 0 1) e.count
      ∙ (ap (λ o. length t.bindings + cond (is_some o) 0 1) (e.bound p) ∙ sym b.count));
}

-- what a directive's IRIREF stands for is the same in both scopes
binds-same : (s t : InForce) (p : List ℕ) (l : Leaf) → SameScope s t → binds (is_full s p) (reference_in s l) ≡ binds (is_full t p) (reference_in t l)
binds-same s t p l e = ap (λ x. binds x (reference_in s l)) (full_same s t p e) ∙ ap (binds (is_full t p)) (reference_same s t l e)

-- a binding that the reader has made is the one that the machine makes
pub binding_looks : (s t n : InForce) (w : M.Spelling) (p : List ℕ) (l : Leaf) (i : Option (List ℕ)) → SameScope s t → Binding t p l n →
    LooksUp s (M.WantPrefixIri w p) IriRef l i n
binding_looks s t n w p l i e b = record {
  admitted = passes_at s.limits t.limits IriRef _ _ e.limits (binds-same s t p l e) b.admitted;
  name = tt;
  named = tt;
  scope = subst (λ x. SameScope (with_binding s p x) n) (sym (reference_same s t l e ∙ b.reference)) (bound_same s t n p b.iri e b.binds);
}

-- a binding that the reader cannot make is refused by the machine for the same reason
pub binding_none : (s t : InForce) (w : M.Spelling) (p : List ℕ) (l : Leaf) (r : StepFault) → SameScope s t → NotBinding t p l r →
    LooksUpNone s (M.WantPrefixIri w p) IriRef l r
binding_none s t w p l r e n = stops_at s.limits t.limits IriRef _ _ r e.limits (binds-same s t p l e) n
