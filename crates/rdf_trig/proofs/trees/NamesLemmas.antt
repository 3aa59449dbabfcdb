-- Names and references that stand for nothing, and what a directive binds.
use Rattle.rdf_trig.proofs.Prelude.{◌≡◌, ℕ, ◌+◌, Bool, true, false, cond, List, [], ◌∷◌, ◌++◌, length, Option, Some, None, is_some, refl, sym, ap, ◌∙◌, ⊎_elim, arith, option_map, cases_Bool, cond-false, has_scheme, equal, resolved, based, InForce, bound_to, Binds, Leaf, iri_of, reference_in, name_in, prefix_of, local_of, bind, with_binding, NamelessWhere, equal-true, equal-from}

-- nothing comes of nothing alone
map_none : {T U : Type 0} (f : T → U) (o : Option T) → option_map f o ≡ None → o ≡ None
map_none f None e = refl
map_none f (Some x) e = absurd (let z : Some (f x) ≡ None = e in cc)

-- a reference is left without a result only where there is no base
based_none : (base : Option (List ℕ)) (r : List ℕ) → based base r ≡ None → base ≡ None
based_none None r e = refl
based_none (Some b) r e = absurd (some_none e)
  where
    some_none : {x : List ℕ} → Some x ≡ None → ⊥
    some_none z = cc

-- so an IRIREF stands for nothing only where it has no scheme and there is no base
unresolved : (base : Option (List ℕ)) (r : List ℕ) (b : Bool) → cond b (Some r) (based base r) ≡ None → (b ≡ false) × (base ≡ None)
unresolved base r true e = absurd (let z : Some r ≡ None = e in cc)
unresolved base r false e = (refl, based_none base r e)

-- the law of names that stand for nothing
pub nameless_where : (s : InForce) (l : Leaf) → NamelessWhere s l
unfolding reference_in name_in resolved
nameless_where s l = record {
  name = λ e. map_none (λ front. front ++ local_of l) (bound_to s.bindings (prefix_of l)) e;
  no_name = λ e. ap (option_map (λ front. front ++ local_of l)) e;
  reference = λ e. unresolved s.base (iri_of l) (has_scheme (iri_of l)) e;
  no_reference = λ e. cond-false (has_scheme (iri_of l)) _ _ e.0 ∙ ap (λ b. based b (iri_of l)) e.1;
}

-- Equal texts, in either order.
pub equal-sym : (v w : List ℕ) → equal v w ≡ equal w v
equal-sym v w = ⊎_elim (λ e. e ∙ sym (equal-from w v (sym (equal-true v w e)))) (λ e. e ∙ sym (other e)) (cases_Bool (equal v w))
  where
    other : equal v w ≡ false → equal w v ≡ false
    other e = ⊎_elim (λ h. absurd (let z : true ≡ false = sym (equal-from v w (sym (equal-true w v h))) ∙ e in cc)) (λ h. h) (cases_Bool (equal w v))

-- two tests that exclude each other may be made in either order
swap : {T : Type 0} (a b : Bool) (x y z : T) → (a ≡ true → b ≡ true → ⊥) → cond a x (cond b y z) ≡ cond b y (cond a x z)
swap true true x y z h = absurd (h refl refl)
swap true false x y z h = refl
swap false b x y z h = refl

-- the second test is the first where it matters
once : {T : Type 0} (a b : Bool) (x y z : T) → (b ≡ true → a ≡ true) → cond a x z ≡ cond a x (cond b y z)
once true b x y z h = refl
once false true x y z h = absurd (let e : false ≡ true = h refl in cc)
once false false x y z h = refl

-- after a binding the prefix has its new IRI, and every other prefix what it had
pub bind_bound : (es : List (List ℕ × List ℕ)) (p i q : List ℕ) → bound_to (bind es p i) q ≡ cond (equal p q) (Some i) (bound_to es q)
bind_bound [] p i q = ap (λ b. cond b (Some i) None) (equal-sym q p)
bind_bound (e ∷ es) p i q = by (equal p e.0) refl (bind_bound es p i q)
  where
    by : (b : Bool) → equal p e.0 ≡ b → bound_to (bind es p i) q ≡ cond (equal p q) (Some i) (bound_to es q) →
        bound_to (cond b ((p, i) ∷ es) (e ∷ bind es p i)) q ≡ cond (equal p q) (Some i) (cond (equal q e.0) (Some e.1) (bound_to es q))
    by true h ih =
        ap (λ b. cond b (Some i) (bound_to es q)) (equal-sym q p)
        ∙ once (equal p q) (equal q e.0) (Some i) (Some e.1) (bound_to es q) (λ a. equal-from p q (equal-true p e.0 h ∙ sym (equal-true q e.0 a)))
    by false h ih =
        ap (cond (equal q e.0) (Some e.1)) ih
        ∙ swap (equal q e.0) (equal p q) (Some e.1) (Some i) (bound_to es q)
        (λ a b. let z : true ≡ false = sym (equal-from p e.0 (equal-true p q b ∙ equal-true q e.0 a)) ∙ h in cc)

-- a binding of a new prefix makes the list one longer
pub bind_length : (es : List (List ℕ × List ℕ)) (p i : List ℕ) → length (bind es p i) ≡ length es + cond (is_some (bound_to es p)) 0 1
bind_length [] p i = refl
bind_length (e ∷ es) p i = by (equal p e.0) (bind_length es p i)
  where
    by : (b : Bool) → length (bind es p i) ≡ length es + cond (is_some (bound_to es p)) 0 1 →
        length (cond b ((p, i) ∷ es) (e ∷ bind es p i)) ≡ length (e ∷ es) + cond (is_some (cond b (Some e.1) (bound_to es p))) 0 1
    by true ih = omega arith
    by false ih = omega (arith, ih)

-- the law of directives that bind a prefix
pub binds_prefix : (s : InForce) (p i : List ℕ) → Binds s p i (with_binding s p (Some i))
binds_prefix s p i = record { base = refl; limits = refl; bound = λ q. bind_bound s.bindings p i q; count = bind_length s.bindings p i }
