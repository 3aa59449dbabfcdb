-- Look-ups in scopes, and what directives do to them.
use Rattle.rdf_trig.proofs.Prelude.{◌≡◌, ◌≢◌, ◌≤◌, ◌<◌, ℕ, true, false, List, [], ◌++◌, ◌&&◌, not, length, Option, Some, None, option_map, refl, sym, ap, ◌∙◌, subst, nat_le, is_some, unwrap_or, cond-true, cond-false, le-ltb, lt-ltb, le-leb, lt-leb, Kind, IriRef, PnameNs, PnameLn, without_backslashes, has_scheme, iri_value, value_is, Sizes, byte_len, Resolves, resolved, based, InForce, bound_to, HasRoom, ResolvesHere, UnresolvedHere, IsBased, IsBound, NotBound, ExpandsHere, NotExpanded, Leaf, iri_of, StepFault, reference_in, name_in, prefix_of, local_of, with_base, is_full, stands, binds, by_use, refuses, too_long, IsReference, IsPrefixed, MeansLocal, step_fault, IsAdmitted, IsDenied, Names, Unnamed, Based, Binding, NotBinding}
use Rattle.rdf_terms.specs.Values.{inside}
use Rattle.rdf_terms.specs.declared.reason.Reason.TheVariants as reason
use Rattle.rdf_iri.specs.declared.fault.IriFault.{IriFault}
use Rattle.rdf_iri.specs.declared.fault.IriFault.TheVariants as iri
use Rattle.rdf_iri.specs.Texts.{after}
use Rattle.rdf_iri.proofs.ResolveLemmas.{resolves-only}
use Rattle.rdf_trig.specs.Machine as M

-- the checks of what a token stands for
stands_passes : (sizes : Sizes) (k : Kind) (o : Option (List ℕ)) (i : List ℕ) → o ≡ Some i → byte_len i ≤ sizes.iri → IsAdmitted sizes k (stands o)
stands_passes sizes k o i e h a = subst (λ x. by_use sizes k (stands x) a ≡ a) (sym e) (cond-false (too_long sizes i) _ _ (le-ltb sizes.iri (byte_len i) h))

-- an IRI that is too long is refused as such, whatever the grammar says
stands_long : (sizes : Sizes) (k : Kind) (o : Option (List ℕ)) (i : List ℕ) → o ≡ Some i → sizes.iri < byte_len i → (a : M.Answer) →
    by_use sizes k (stands o) a ≡ refuses reason.IriTooLong
stands_long sizes k o i e h a = subst (λ x. by_use sizes k (stands x) a ≡ refuses reason.IriTooLong) (sym e)
    (cond-true (too_long sizes i) _ _ (lt-ltb sizes.iri (byte_len i) h))

-- references
reference_is : (s : InForce) (l : Leaf) (i : List ℕ) → Resolves s.base (iri_of l) i → reference_in s l ≡ Some i
unfolding reference_in
reference_is s l i r = resolves-only s.base (iri_of l) i r

-- a reference without scheme has no IRI where there is no base
reference_none : (s : InForce) (l : Leaf) → (has_scheme (iri_of l) ≡ false) × (s.base ≡ None) → reference_in s l ≡ None
unfolding reference_in resolved
reference_none s l h = cond-false (has_scheme (iri_of l)) _ _ h.0 ∙ ap (λ b. based b (iri_of l)) h.1

-- a reference that the scope resolved within the limit is what the token stands for
pub reference_names : (s : InForce) (l : Leaf) (w i : List ℕ) → w ≡ iri_of l → ResolvesHere s w i → Names s IriRef l (Some i)
reference_names s l w i e r =
    let is = reference_is s l i (subst (λ x. Resolves s.base x i) e r.0) in
    record { name = is; named = tt; admitted = stands_passes s.limits IriRef (reference_in s l) i is r.1 }

-- why the scope did not resolve a reference is why the machine refuses its token
pub reference_stops : (s : InForce) (l : Leaf) (w : List ℕ) (f : IriFault) → w ≡ iri_of l → UnresolvedHere s w f →
    IsDenied s.limits IriRef (stands (reference_in s l)) (step_fault f)
reference_stops s l w iri.NoBase e h =
    λ a. let none = reference_none s l (subst (λ x. (has_scheme x ≡ false) × (s.base ≡ None)) e h) in ap (λ x. by_use s.limits IriRef (stands x) a) none
reference_stops s l w iri.IriTooLong e h =
    λ a. stands_long s.limits IriRef (reference_in s l) h.0 (reference_is s l h.0 (subst (λ x. Resolves s.base x h.0) e h.1)) h.2 a
reference_stops s l w iri.Memory e h = tt
reference_stops s l w iri.Unbound e h = absurd h
reference_stops s l w iri.TooManyBindings e h = absurd h

-- names
name_is : (s : InForce) (l : Leaf) (p v i front : List ℕ) → p ≡ prefix_of l → v ≡ local_of l → bound_to s.bindings p ≡ Some front → i ≡ front ++ v →
    name_in s l ≡ Some i
unfolding name_in
name_is s l p v i front e f b g =
    ap (option_map (λ x. x ++ local_of l)) (ap (bound_to s.bindings) (sym e) ∙ b) ∙ ap Some (ap (λ x. front ++ x) (sym f) ∙ sym g)

-- a name whose prefix is not bound has no IRI
name_none : (s : InForce) (l : Leaf) (p : List ℕ) → p ≡ prefix_of l → bound_to s.bindings p ≡ None → name_in s l ≡ None
unfolding name_in
name_none s l p e b = ap (option_map (λ x. x ++ local_of l)) (ap (bound_to s.bindings) (sym e) ∙ b)

-- a name that the scope expanded within the limit is what the token stands for
pub name_names : (s : InForce) (k : Kind) (l : Leaf) (p v i : List ℕ) → IsPrefixed k → p ≡ prefix_of l → v ≡ local_of l → ExpandsHere s p v i →
    Names s k l (Some i)
name_names s PnameNs l p v i k e f r =
    let is = name_is s l p v i r.0.0 e f r.0.1 r.0.2 in record { name = is; named = tt; admitted = stands_passes s.limits PnameNs (name_in s l) i is r.1 }
name_names s PnameLn l p v i k e f r =
    let is = name_is s l p v i r.0.0 e f r.0.1 r.0.2 in record { name = is; named = tt; admitted = stands_passes s.limits PnameLn (name_in s l) i is r.1 }
name_names s k l p v i h e f r = absurd h

-- why the scope did not expand a name is why the machine refuses its token
name_stops_at : (s : InForce) (k : Kind) (l : Leaf) (p v : List ℕ) (f : IriFault) → M.unnamed k ≡ reason.Unbound → p ≡ prefix_of l → v ≡ local_of l →
    NotExpanded s p v f →
    IsDenied s.limits k (stands (name_in s l)) (step_fault f)
name_stops_at s k l p v iri.Unbound u e f h = λ a. ap (λ x. by_use s.limits k (stands x) a) (name_none s l p e h) ∙ ap refuses u
name_stops_at s k l p v iri.IriTooLong u e f h = λ a. stands_long s.limits k (name_in s l) h.0 (name_is s l p v h.0 h.1.0 e f h.1.1 h.1.2) h.2 a
name_stops_at s k l p v iri.Memory u e f h = tt
name_stops_at s k l p v iri.NoBase u e f h = absurd h
name_stops_at s k l p v iri.TooManyBindings u e f h = absurd h

-- why the scope did not expand a prefixed name is why the machine refuses it
pub name_stops : (s : InForce) (k : Kind) (l : Leaf) (p v : List ℕ) (f : IriFault) → IsPrefixed k → p ≡ prefix_of l → v ≡ local_of l → NotExpanded s p v f →
    Unnamed s k l (step_fault f)
name_stops s PnameNs l p v f k e g h = name_stops_at s PnameNs l p v f refl e g h
name_stops s PnameLn l p v f k e g h = name_stops_at s PnameLn l p v f refl e g h
name_stops s k l p v f n e g h = absurd n

-- the inside of a reference without escapes is what the reference spells
pub unescaped : (l : Leaf) (w : List ℕ) → w ≡ inside 1 l.text → iri_value w ≡ Some w → w ≡ iri_of l
unescaped l w e v = ap (λ o. unwrap_or o []) (sym v ∙ ap iri_value e)

-- the base
pub base_is : (s t : InForce) (l : Leaf) (w : List ℕ) → w ≡ iri_of l → IsBased s w t → Based s l t
base_is s t l w e h =
    let n = reference_names s l w h.0 e h.1 in
    record { admitted = n.admitted; scope = h.2 ∙ sym (ap (with_base s) n.name) }

-- bindings
room_full : (s : InForce) (p : List ℕ) → HasRoom s p → is_full s p ≡ false
unfolding is_full
room_full s p h = by (bound_to s.bindings p) refl
  where
    by : (o : Option (List ℕ)) → bound_to s.bindings p ≡ o → (not (is_some o) && nat_le s.limits.bindings (length s.bindings)) ≡ false
    by None e = lt-leb s.limits.bindings (length s.bindings) (h e)
    by (Some i) e = refl

-- where the scope has no room for a new prefix, the definition says that it is full
full_full : (s : InForce) (p : List ℕ) → (bound_to s.bindings p ≡ None) × (s.limits.bindings ≤ length s.bindings) → is_full s p ≡ true
unfolding is_full
full_full s p h = ap (λ o. not (is_some o) && nat_le s.limits.bindings (length s.bindings)) h.0 ∙ le-leb s.limits.bindings (length s.bindings) h.1

-- a binding that the scope made is that of the directive
pub binding_is : (s t : InForce) (p : List ℕ) (l : Leaf) (w : List ℕ) → w ≡ iri_of l → IsBound s p w t → Binding s p l t
binding_is s t p l w e h =
    let n = reference_names s l w h.0 e h.1 in
    record {
      iri = h.0;
      reference = n.name;
      admitted = λ a. ap (λ x. by_use s.limits IriRef (binds x (reference_in s l)) a) (room_full s p h.2)
          ∙ (ap (λ x. by_use s.limits IriRef (binds false x) a) n.name ∙ cond-false (too_long s.limits h.0) _ _ (le-ltb s.limits.iri (byte_len h.0) h.1.1));
      binds = h.3;
    }

-- a binding whose reference has no IRI is refused for that reason
unresolved_stops : (s : InForce) (p : List ℕ) (l : Leaf) (w : List ℕ) (f : IriFault) → w ≡ iri_of l → UnresolvedHere s w f → NotBinding s p l (step_fault f)
unresolved_stops s p l w iri.NoBase e h =
    λ a. let none = reference_none s l (subst (λ x. (has_scheme x ≡ false) × (s.base ≡ None)) e h) in
    ap (λ x. by_use s.limits IriRef (binds (is_full s p) x) a) none
unresolved_stops s p l w iri.IriTooLong e h =
    λ a. ap (λ x. by_use s.limits IriRef (binds (is_full s p) x) a) (reference_is s l h.0 (subst (λ x. Resolves s.base x h.0) e h.1))
    ∙ cond-true (too_long s.limits h.0) _ _ (lt-ltb s.limits.iri (byte_len h.0) h.2)
unresolved_stops s p l w iri.Memory e h = tt
unresolved_stops s p l w iri.Unbound e h = absurd h
unresolved_stops s p l w iri.TooManyBindings e h = absurd h

-- why the scope made no binding is why the machine refuses the IRIREF
pub binding_stops : (s : InForce) (p : List ℕ) (l : Leaf) (w : List ℕ) (f : IriFault) → w ≡ iri_of l → NotBound s p w f → NotBinding s p l (step_fault f)
binding_stops s p l w iri.TooManyBindings e h =
    let n = reference_names s l w h.0 e h.1 in
    λ a. ap (λ x. by_use s.limits IriRef (binds x (reference_in s l)) a) (full_full s p h.2)
    ∙ (ap (λ x. by_use s.limits IriRef (binds true x) a) n.name ∙ cond-false (too_long s.limits h.0) _ _ (le-ltb s.limits.iri (byte_len h.0) h.1.1))
binding_stops s p l w iri.NoBase e h = unresolved_stops s p l w iri.NoBase e h
binding_stops s p l w iri.IriTooLong e h = unresolved_stops s p l w iri.IriTooLong e h
binding_stops s p l w iri.Memory e h = unresolved_stops s p l w iri.Memory e h
binding_stops s p l w iri.Unbound e h = unresolved_stops s p l w iri.Unbound e h

-- the same of a token's kind, and of a fault that was turned into one of a step
pub reference_at : (s : InForce) (k : Kind) (l : Leaf) (w i : List ℕ) → IsReference k → w ≡ iri_of l → ResolvesHere s w i → Names s k l (Some i)
reference_at s IriRef l w i h e r = reference_names s l w i e r
reference_at s k l w i h e r = absurd h

-- a reference that stands for nothing is refused, by the name that the reader has for the reason
pub reference_not : (s : InForce) (k : Kind) (l : Leaf) (w : List ℕ) (f : IriFault) (r : StepFault) → IsReference k → w ≡ iri_of l →
    r ≡ step_fault f → UnresolvedHere s w f → Unnamed s k l r
reference_not s IriRef l w f r h e g u = subst (IsDenied s.limits IriRef (stands (reference_in s l))) (sym g) (reference_stops s l w f e u)
reference_not s k l w f r h e g u = absurd h

-- a prefixed name that stands for nothing is refused, by the name that the reader has for the reason
pub name_not : (s : InForce) (k : Kind) (l : Leaf) (p v : List ℕ) (f : IriFault) (r : StepFault) → IsPrefixed k → p ≡ prefix_of l → v ≡ local_of l →
    r ≡ step_fault f → NotExpanded s p v f → Unnamed s k l r
name_not s k l p v f r h e g i u = subst (Unnamed s k l) (sym i) (name_stops s k l p v f h e g u)

-- the same of a name with escapes, where it is not known that a name for which memory was short had an IRI
pub escaped_not : (s : InForce) (k : Kind) (l : Leaf) (p v : List ℕ) (f : IriFault) (r : StepFault) → IsPrefixed k → p ≡ prefix_of l → v ≡ local_of l →
    r ≡ step_fault f → (f ≢ iri.Memory → NotExpanded s p v f) → Unnamed s k l r
escaped_not s k l p v iri.Memory r h e g i u = subst (Unnamed s k l) (sym i) tt
escaped_not s k l p v iri.NoBase r h e g i u = name_not s k l p v iri.NoBase r h e g i (u (λ m. cc))
escaped_not s k l p v iri.IriTooLong r h e g i u = name_not s k l p v iri.IriTooLong r h e g i (u (λ m. cc))
escaped_not s k l p v iri.Unbound r h e g i u = name_not s k l p v iri.Unbound r h e g i (u (λ m. cc))
escaped_not s k l p v iri.TooManyBindings r h e g i u = name_not s k l p v iri.TooManyBindings r h e g i (u (λ m. cc))

-- the local part of such a name means its text without backslashes
pub means_without : (w : List ℕ) (l : Leaf) → w ≡ unwrap_or (after 58 l.text) [] → MeansLocal (unwrap_or (after 58 l.text) []) →
    without_backslashes w ≡ local_of l
means_without w l e m = ap without_backslashes e ∙ ap (λ o. unwrap_or o []) (sym (value_is (unwrap_or (after 58 l.text) []) m).0)

-- a binding that is not made is refused, by the name that the reader has for the reason
pub binding_not : (s : InForce) (p : List ℕ) (l : Leaf) (w : List ℕ) (f : IriFault) (r : StepFault) → w ≡ iri_of l → r ≡ step_fault f →
    NotBound s p w f → NotBinding s p l r
binding_not s p l w f r e g u = subst (NotBinding s p l) (sym g) (binding_stops s p l w f e u)
