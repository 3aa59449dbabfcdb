-- A line that is taken or refused by the scope that it is bound in.
use Rattle.rdf_iri.proofs.Prelude.{◌≡◌, ℕ, ◌+◌, ◌*◌, ◌<◌, ◌≤◌, Bool, true, false, cond, List, [], ◌∷◌, ◌++◌, length, Option, Some, None, refl, sym, ap, ◌∙◌, subst, ⊎_elim, arith, is_some, cases_Bool, cond-true, cond-false, false≢true, length-append, chars, has_scheme, IsIri, Sizes, byte_len, equal, Resolves, InForce, bound_to, Binds, HasRoom, IsFull, IsBound, NotBound, BaseFits, KeepsLimits, IsBinding, SaysNothing, Entry, TextSays, bindings_of, BindingMap, KeepsSizes}
use Rattle.rdf_iri.specs.declared.fault.IriFault.TheVariants as fault
use Rattle.rdf_iri.proofs.TextsLemmas.{equal-true, equal-from}

-- an IRI with a scheme resolves to itself, whatever the base
kept : (base : Option (List ℕ)) (r iri : List ℕ) → has_scheme r ≡ true → Resolves base r iri → iri ≡ r
kept base r iri h x = ⊎_elim (λ a. a.1) (λ b. absurd (false≢true (sym b.0 ∙ h))) x

-- an absolute IRI that was bound: within its limit, where there was room, and nothing else changed
pub record Bound (s : InForce) (p r : List ℕ) (t : InForce) : Type 0 where
  pub room : HasRoom s p
  pub binds : Binds s p r t
  pub short : byte_len r ≤ s.limits.iri

-- the scope binds an absolute IRI as it stands in the line
pub bound_line : (s t : InForce) (p r : List ℕ) → has_scheme r ≡ true → IsBound s p r t → Bound s p r t
bound_line s t p r h b =
    let e = kept s.base r b.0 h b.1.0 in
    record { room = b.2; binds = subst (λ i. Binds s p i t) e b.3; short = subst (λ i. byte_len i ≤ s.limits.iri) e b.1.1 }

-- an IRI too long in the scope is one that is too long in the line
pub long_line : (s : InForce) (p r : List ℕ) → has_scheme r ≡ true → NotBound s p r fault.IriTooLong → s.limits.iri < byte_len r
long_line s p r h b = subst (λ i. s.limits.iri < byte_len i) (kept s.base r b.0 h b.1) b.2

-- a binding that was refused for its number is a prefix more than there is room for
pub full_line : (s : InForce) (p r : List ℕ) → has_scheme r ≡ true → NotBound s p r fault.TooManyBindings → (byte_len r ≤ s.limits.iri) × IsFull s p
full_line s p r h b = (subst (λ i. byte_len i ≤ s.limits.iri) (kept s.base r b.0 h b.1.0) b.1.1, b.2)

-- the colon counts
pub long_name : (p : List ℕ) (n t k : ℕ) → n ≡ length p → t ≡ k → t ≤ n → k < length (p ++ 58 ∷ [])
long_name p n t k e f l = omega (arith, length-append p (58 ∷ []), e, f, l)

-- the code counts the prefix without its colon: fewer characters than the limit are within it
pub short_name : (p : List ℕ) (n t k : ℕ) → n ≡ length p → t ≡ k → n < t → length (p ++ 58 ∷ []) ≤ k
short_name p n t k e f l = omega (arith, length-append p (58 ∷ []), e, f, l)

-- the map of a file, one binding on
-- how many bindings more a prefix is, by what it was bound to
abbrev pub more : Option (List ℕ) → ℕ
more o = cond (is_some o) 0 1

-- what an entry adds to a map
pub record Adds (es : List (List ℕ × List ℕ)) (p i : List ℕ) (fs : List (List ℕ × List ℕ)) : Type 0 where
  pub bound : (q : List ℕ) → bound_to fs q ≡ cond (equal p q) (Some i) (bound_to es q)
  pub count : length fs ≡ length es + cond (is_some (bound_to es p)) 0 1

-- texts compare alike either way round
swapped : (v w : List ℕ) → equal v w ≡ equal w v
swapped v w =
    ⊎_elim
    (λ t. t ∙ sym (equal-from w v (sym (equal-true v w t))))
    (λ f. ⊎_elim (λ u. absurd (false≢true (sym f ∙ equal-from v w (sym (equal-true w v u))))) (λ g. f ∙ sym g) (cases_Bool (equal w v)))
    (cases_Bool (equal v w))

-- a binding that is added to later ones: it counts only where its prefix is not bound by them
abbrev kept_in : List ℕ × List ℕ → List (List ℕ × List ℕ) → List (List ℕ × List ℕ)
kept_in e es = cond (is_some (bound_to es e.0)) es (e ∷ es)

-- an entry before others counts where they do not bind its prefix
kept_bound : (e : List ℕ × List ℕ) (es : List (List ℕ × List ℕ)) (q : List ℕ) →
    bound_to (kept_in e es) q ≡ cond (is_some (bound_to es q)) (bound_to es q) (bound_to (e ∷ []) q)
kept_bound e es q =
    ⊎_elim
    (λ (t : equal q e.0 ≡ true).
    let s : q ≡ e.0 = equal-true q e.0 t in
    ⊎_elim
    (λ (h : is_some (bound_to es e.0) ≡ true).
    let k : is_some (bound_to es q) ≡ true = ap (λ x. is_some (bound_to es x)) s ∙ h in
    ap (λ m. bound_to m q) (cond-true (is_some (bound_to es e.0)) es (e ∷ es) h) ∙ sym (cond-true (is_some (bound_to es q)) (bound_to es q) _ k))
    (λ (h : is_some (bound_to es e.0) ≡ false).
    let k : is_some (bound_to es q) ≡ false = ap (λ x. is_some (bound_to es x)) s ∙ h in
    ap (λ m. bound_to m q) (cond-false (is_some (bound_to es e.0)) es (e ∷ es) h)
    ∙ (cond-true (equal q e.0) (Some e.1) (bound_to es q) t
    ∙ sym (cond-false (is_some (bound_to es q)) (bound_to es q) _ k ∙ cond-true (equal q e.0) (Some e.1) None t)))
    (cases_Bool (is_some (bound_to es e.0))))
    (λ (f : equal q e.0 ≡ false).
    let r : cond (is_some (bound_to es q)) (bound_to es q) (bound_to (e ∷ []) q) ≡ bound_to es q =
    ap (λ x. cond (is_some (bound_to es q)) (bound_to es q) x) (cond-false (equal q e.0) (Some e.1) None f) ∙ itself (bound_to es q) in
    ⊎_elim
    (λ (h : is_some (bound_to es e.0) ≡ true). ap (λ m. bound_to m q) (cond-true (is_some (bound_to es e.0)) es (e ∷ es) h) ∙ sym r)
    (λ (h : is_some (bound_to es e.0) ≡ false). ap (λ m. bound_to m q) (cond-false (is_some (bound_to es e.0)) es (e ∷ es) h)
    ∙ (cond-false (equal q e.0) (Some e.1) (bound_to es q) f ∙ sym r))
    (cases_Bool (is_some (bound_to es e.0))))
    (cases_Bool (equal q e.0))
  where
    itself : (o : Option (List ℕ)) → cond (is_some o) o None ≡ o
    itself None = refl
    itself (Some i) = refl

-- the number of bindings after that
kept_count : (e : List ℕ × List ℕ) (es : List (List ℕ × List ℕ)) → length (kept_in e es) ≡ length es + cond (is_some (bound_to es e.0)) 0 1
kept_count e es = by (is_some (bound_to es e.0))
  where
    by : (b : Bool) → length (cond b es (e ∷ es)) ≡ length es + cond b 0 1
    by true = omega arith
    by false = omega arith

-- by cases of three tests
joined_bound : (a b c : Bool) (i j : Option (List ℕ)) (o : Option (List ℕ)) → is_some i ≡ true →
    cond (is_some (cond a i o)) (cond a i o) j ≡ cond a i (cond (is_some o) o j)
joined_bound true b c i j o h = cond-true (is_some i) i j h
joined_bound false b c i j o h = refl

-- one more binding after some entries
pub adds : (es : List Entry) (p i : List ℕ) → Adds (bindings_of es) p i (bindings_of (es ++ Some (p, i) ∷ []))
adds [] p i = record { bound = λ q. ap (λ b. cond b (Some i) None) (swapped q p); count = refl }
adds (None ∷ es) p i = adds es p i
adds (Some e ∷ es) p i =
    let r = adds es p i in
    let m = bindings_of es in
    let n = bindings_of (es ++ Some (p, i) ∷ []) in
    record {
      bound = λ q. kept_bound e n q
          ∙ (ap (λ o. cond (is_some o) o (bound_to (e ∷ []) q)) (r.bound q)
          ∙ (joined_bound (equal p q) true true (Some i) (bound_to (e ∷ []) q) (bound_to m q) refl
          ∙ ap (λ o. cond (equal p q) (Some i) o) (sym (kept_bound e m q))));
      count = counted (kept_count e n) (kept_count e m) r.count (r.bound e.0) (kept_bound e m p);
    }
  where
    -- a prefix that is bound anew takes the place of the one before it
    counted : length (kept_in e (bindings_of (es ++ Some (p, i) ∷ []))) ≡ length (bindings_of (es ++ Some (p, i) ∷ [])) + cond
        (is_some (bound_to (bindings_of (es ++ Some (p, i) ∷ [])) e.0)) 0 1 →
        length (kept_in e (bindings_of es)) ≡ length (bindings_of es) + cond (is_some (bound_to (bindings_of es) e.0)) 0 1 →
        length (bindings_of (es ++ Some (p, i) ∷ [])) ≡ length (bindings_of es) + cond (is_some (bound_to (bindings_of es) p)) 0 1 →
        bound_to (bindings_of (es ++ Some (p, i) ∷ [])) e.0 ≡ cond (equal p e.0) (Some i) (bound_to (bindings_of es) e.0) →
        bound_to (kept_in e (bindings_of es)) p ≡ cond (is_some (bound_to (bindings_of es) p)) (bound_to (bindings_of es) p) (bound_to (e ∷ []) p) →
        length (kept_in e (bindings_of (es ++ Some (p, i) ∷ []))) ≡ length (kept_in e (bindings_of es)) + cond
        (is_some (bound_to (kept_in e (bindings_of es)) p)) 0 1
    counted a b c d f =
        ⊎_elim
        (λ (t : equal p e.0 ≡ true).
        let same : p ≡ e.0 = equal-true p e.0 t in
        let d2 = ap (λ (o : Option (List ℕ)). more o) (d ∙ cond-true (equal p e.0) (Some i) (bound_to (bindings_of es) e.0) t) in
        let f2 : ◌≡◌ {A = ℕ} (cond (is_some (bound_to (kept_in e (bindings_of es)) p)) 0 1) 0 =
        ap (λ (o : Option (List ℕ)). more o) (f ∙ ap (λ o. cond (is_some (bound_to (bindings_of es) p)) (bound_to (bindings_of es) p) o)
        (cond-true (equal p e.0) (Some e.1) None t)) ∙ always (bound_to (bindings_of es) p) in
        let c2 = ap (λ x. more (bound_to (bindings_of es) x)) same in
        omega (arith, a, b, c, d2, f2, c2))
        (λ (t : equal p e.0 ≡ false).
        let d2 = ap (λ (o : Option (List ℕ)). more o) (d ∙ cond-false (equal p e.0) (Some i) (bound_to (bindings_of es) e.0) t) in
        let f2 = ap (λ (o : Option (List ℕ)). more o)
        (f ∙ ap (λ o. cond (is_some (bound_to (bindings_of es) p)) (bound_to (bindings_of es) p) o) (cond-false (equal p e.0) (Some e.1) None t)) in
        let f3 = f2 ∙ itself (bound_to (bindings_of es) p) in
        omega (arith, a, b, c, d2, f3))
        (cases_Bool (equal p e.0))
      where
        always : (o : Option (List ℕ)) → ◌≡◌ {A = ℕ} (cond (is_some (cond (is_some o) o (Some e.1))) 0 1) 0
        always None = refl
        always (Some i) = refl

        itself : (o : Option (List ℕ)) → ◌≡◌ {A = ℕ} (cond (is_some (cond (is_some o) o None)) 0 1) (cond (is_some o) 0 1)
        itself None = refl
        itself (Some i) = refl

-- an empty line adds no binding
pub adds_nothing : (es : List Entry) → bindings_of (es ++ None ∷ []) ≡ bindings_of es
adds_nothing [] = refl
adds_nothing (None ∷ es) = adds_nothing es
adds_nothing (Some e ∷ es) = ap (kept_in e) (adds_nothing es)

-- a text that neither says nothing nor binds a prefix says nothing that could be taken
pub none_said : (text : List ℕ) → (SaysNothing (chars text) → ⊥) → ((prefix iri : List ℕ) → IsBinding text prefix iri → ⊥) →
    (entry : Entry) → TextSays text entry → ⊥
none_said text m n None s = m s.1
none_said text m n (Some e) s = n e.0 e.1 s

-- a scope that begins with what is handed in keeps the limits
pub starting_keeps : (base : Option (List ℕ)) (limits : Sizes) (b : BindingMap) → BaseFits base limits → KeepsSizes b → b.limits ≡ limits →
    KeepsLimits (record { base = base; bindings = b.bindings; limits = limits })
starting_keeps base limits b f k e = record {
  base = f;
  count = subst (λ (z : Sizes). length b.bindings ≤ z.bindings) e k.count;
  bindings = λ prefix iri h. subst (λ (z : Sizes). (byte_len prefix ≤ 4 * z.token) × (byte_len iri ≤ z.iri)) e (k.sizes prefix iri h);
}

-- and so does what is taken out of a scope
pub taken_keeps : (s : InForce) → KeepsLimits s → ((prefix iri : List ℕ) → bound_to s.bindings prefix ≡ Some iri → IsIri iri) →
    KeepsSizes (record { bindings = s.bindings; limits = s.limits })
taken_keeps s k i = record { count = k.count; sizes = k.bindings; iris = i }
