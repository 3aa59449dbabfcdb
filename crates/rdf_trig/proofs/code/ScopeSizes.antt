-- Scopes that agree in every look-up take the same bytes.
use Rattle.rdf_trig.proofs.Prelude.{◌≡◌, ◌+◌, ◌≤◌, ℕ, true, false, cond, List, [], ◌∷◌, Option, Some, None, is_some, refl, sym, ap, ◌∙◌, subst, ⊎_elim, arith, cond-true, cond-false, cases_Bool, sum_by, sum_by-cons, equal, byte_len, bound_to, base_bytes, binding_bytes, equal-true, equal-self, in_force, ScopesAlikeTakeAlike}

abbrev Bindings : Type 0
Bindings = List (List ℕ × List ℕ)

-- the bindings without the first of a prefix
abbrev without : Bindings → List ℕ → Bindings
without [] q = []
without (e ∷ es) q = cond (equal q e.0) es (e ∷ without es q)

-- what is bound is not nothing
bound_none : {P : Type 0} {i : List ℕ} → None ≡ Some i → P
bound_none {P} {i} e = absurd (let z : None ≡ Some i = e in cc)

-- a binding has its bytes of all
bytes_without : (es : Bindings) (q i : List ℕ) → bound_to es q ≡ Some i →
    sum_by binding_bytes es ≡ byte_len q + byte_len i + sum_by binding_bytes (without es q)
bytes_without [] q i e = bound_none e
bytes_without (e ∷ es) q i b = ⊎_elim here (λ f. there f (bytes_without es q i (sym (cond-false _ _ _ f) ∙ b))) (cases_Bool (equal q e.0))
  where
    here : equal q e.0 ≡ true → sum_by binding_bytes (e ∷ es) ≡ byte_len q + byte_len i + sum_by binding_bytes (cond (equal q e.0) es (e ∷ without es q))
    here t =
        let s : Some e.1 ≡ Some i = sym (cond-true _ _ _ t) ∙ b in
        let x : e.1 ≡ i = cc in
        let k = ap byte_len (equal-true q e.0 t) in
        let l = ap byte_len x in
        let r = ap (sum_by binding_bytes) (cond-true (equal q e.0) es (e ∷ without es q) t) in
        let c = sum_by-cons binding_bytes e es in
        omega (arith, k, l, r, c)

    there : equal q e.0 ≡ false → sum_by binding_bytes es ≡ byte_len q + byte_len i + sum_by binding_bytes (without es q) →
        sum_by binding_bytes (e ∷ es) ≡ byte_len q + byte_len i + sum_by binding_bytes (cond (equal q e.0) es (e ∷ without es q))
    there f h =
        let r = ap (sum_by binding_bytes) (cond-false (equal q e.0) es (e ∷ without es q) f) in
        let c = sum_by-cons binding_bytes e es in
        let d = sum_by-cons binding_bytes e (without es q) in
        omega (arith, h, r, c, d)

-- and every other prefix is bound as before
bound_without : (es : Bindings) (q p : List ℕ) → equal p q ≡ false → bound_to (without es q) p ≡ bound_to es p
bound_without [] q p n = refl
bound_without (e ∷ es) q p n = ⊎_elim here (λ f. there f (bound_without es q p n)) (cases_Bool (equal q e.0))
  where
    here : equal q e.0 ≡ true → bound_to (cond (equal q e.0) es (e ∷ without es q)) p ≡ bound_to (e ∷ es) p
    here t =
        ap (λ x. bound_to x p) (cond-true (equal q e.0) es (e ∷ without es q) t)
        ∙ sym (cond-false _ _ _ (subst (λ x. equal p x ≡ false) (equal-true q e.0 t) n))

    there : equal q e.0 ≡ false → bound_to (without es q) p ≡ bound_to es p → bound_to (cond (equal q e.0) es (e ∷ without es q)) p ≡ bound_to (e ∷ es) p
    there f h =
        ap (λ x. bound_to x p) (cond-false (equal q e.0) es (e ∷ without es q) f)
        ∙ ap (λ o. cond (equal p e.0) (Some e.1) o) h

-- a prefix that others bind is not the first of its bindings, and one that they do not bind is no other's
apart : (others : Bindings) (q p : List ℕ) (o : Option (List ℕ)) → bound_to others p ≡ o → is_some o ≡ true → bound_to others q ≡ None → equal q p ≡ false
apart others q p o e s n = ⊎_elim (λ t. absurd (same t)) (λ f. f) (cases_Bool (equal q p))
  where
    same : equal q p ≡ true → ⊥
    same t =
        let z : None ≡ o = sym n ∙ (ap (bound_to others) (equal-true q p t) ∙ e) in
        let x : false ≡ true = ap is_some z ∙ s in cc

-- the bindings that are in force are found among others, so they have no more bytes
bytes_within : (es fs others : Bindings) →
    ((q i : List ℕ) → bound_to others q ≡ None → bound_to es q ≡ Some i → bound_to fs q ≡ Some i) →
    sum_by binding_bytes (in_force others es) ≤ sum_by binding_bytes fs
bytes_within [] fs others h = let z : sum_by binding_bytes (in_force others []) ≡ 0 = refl in omega (arith, z)
bytes_within (e ∷ es) fs others h = at (bound_to others e.0) refl (λ gs ms k. bytes_within es gs ms k)
  where
    later : (q i : List ℕ) → equal q e.0 ≡ false → bound_to es q ≡ Some i → bound_to (e ∷ es) q ≡ Some i
    later q i n b = cond-false (equal q e.0) (Some e.1) (bound_to es q) n ∙ b

    at : (o : Option (List ℕ)) → bound_to others e.0 ≡ o →
        ((gs ms : Bindings) → ((q i : List ℕ) → bound_to ms q ≡ None → bound_to es q ≡ Some i → bound_to gs q ≡ Some i) →
        sum_by binding_bytes (in_force ms es) ≤ sum_by binding_bytes gs) →
        sum_by binding_bytes (in_force others (e ∷ es)) ≤ sum_by binding_bytes fs
    at (Some j) s ih =
        let r = ap (sum_by binding_bytes) (cond-true (is_some (bound_to others e.0)) (in_force others es) (e ∷ in_force (e ∷ others) es) (ap is_some s)) in
        let l = ih fs others (λ q i n b. h q i n (later q i (apart others q e.0 (Some j) s refl n) b)) in
        omega (arith, r, l)
    at None s ih =
        let found : bound_to fs e.0 ≡ Some e.1 = h e.0 e.1 s (cond-true (equal e.0 e.0) (Some e.1) (bound_to es e.0) (equal-self e.0)) in
        let r = ap (sum_by binding_bytes) (cond-false (is_some (bound_to others e.0)) (in_force others es) (e ∷ in_force (e ∷ others) es) (ap is_some s)) in
        let b = bytes_without fs e.0 e.1 found in
        let l = ih (without fs e.0) (e ∷ others) rest in
        let c = sum_by-cons binding_bytes e (in_force (e ∷ others) es) in
        omega (arith, r, b, l, c)
      where
        rest : (q i : List ℕ) → bound_to (e ∷ others) q ≡ None → bound_to es q ≡ Some i → bound_to (without fs e.0) q ≡ Some i
        rest q i n b = ⊎_elim here there (cases_Bool (equal q e.0))
          where
            here : equal q e.0 ≡ true → bound_to (without fs e.0) q ≡ Some i
            here t = bound_none (sym n ∙ cond-true (equal q e.0) (Some e.1) (bound_to others q) t)

            there : equal q e.0 ≡ false → bound_to (without fs e.0) q ≡ Some i
            there f =
                bound_without fs e.0 q f
                ∙ h q i (sym (cond-false (equal q e.0) (Some e.1) (bound_to others q) f) ∙ n) (later q i f b)

-- the bindings that are in force bind as all do
bound_in_force : (es others : Bindings) (q : List ℕ) → bound_to others q ≡ None → bound_to (in_force others es) q ≡ bound_to es q
bound_in_force [] others q n = refl
bound_in_force (e ∷ es) others q n = at (bound_to others e.0) refl (λ ms k. bound_in_force es ms q k)
  where
    at : (o : Option (List ℕ)) → bound_to others e.0 ≡ o → ((ms : Bindings) → bound_to ms q ≡ None → bound_to (in_force ms es) q ≡ bound_to es q) →
        bound_to (in_force others (e ∷ es)) q ≡ bound_to (e ∷ es) q
    at (Some j) s ih =
        ap (λ x. bound_to x q) (cond-true (is_some (bound_to others e.0)) (in_force others es) (e ∷ in_force (e ∷ others) es) (ap is_some s))
        ∙ (ih others n ∙ sym (cond-false (equal q e.0) (Some e.1) (bound_to es q) (apart others q e.0 (Some j) s refl n)))
    at None s ih =
        ap (λ x. bound_to x q) (cond-false (is_some (bound_to others e.0)) (in_force others es) (e ∷ in_force (e ∷ others) es) (ap is_some s))
        ∙ ⊎_elim
        (λ t. cond-true (equal q e.0) (Some e.1) (bound_to (in_force (e ∷ others) es) q) t ∙ sym (cond-true (equal q e.0) (Some e.1) (bound_to es q) t))
        (λ f. cond-false (equal q e.0) (Some e.1) (bound_to (in_force (e ∷ others) es) q) f
        ∙ (ih (e ∷ others) (cond-false (equal q e.0) (Some e.1) (bound_to others q) f ∙ n)
        ∙ sym (cond-false (equal q e.0) (Some e.1) (bound_to es q) f)))
        (cases_Bool (equal q e.0))

-- bindings that agree in every look-up have the same bytes in force
no_more : (es fs : Bindings) → ((q : List ℕ) → bound_to es q ≡ bound_to fs q) → sum_by binding_bytes (in_force [] es) ≤ sum_by binding_bytes (in_force [] fs)
no_more es fs h = bytes_within es (in_force [] fs) [] (λ q i n b. bound_in_force fs [] q refl ∙ (sym (h q) ∙ b))

-- Scopes with the same names take the same bytes, and a scope takes no more than it holds.
pub scopes_alike : ScopesAlikeTakeAlike
scopes_alike s t h =
    let b = ap base_bytes h.base in
    let l = no_more s.bindings t.bindings h.bound in
    let r = no_more t.bindings s.bindings (λ q. sym (h.bound q)) in
    let k = bytes_within s.bindings t.bindings [] (λ q i n e. sym (h.bound q) ∙ e) in
    (omega (arith, b, l, r), omega (arith, b, k))
