-- What the calls of a scope give is what references and names stand for.
use Rattle.rdf_trig.proofs.Prelude.{◌≡◌, ℕ, ◌+◌, cond, List, ◌++◌, ◌&&◌, length, Some, is_some, refl, sym, ap, ◌∙◌, option_map, nat_le, not, equal, resolved, InForce, bound_to, Binds, Leaf, iri_of, reference_in, name_in, prefix_of, local_of, with_base, with_binding, is_full, SameNames}
use Rattle.rdf_trig.proofs.trees.NamesLemmas.{binds_prefix}

-- a reference stands for the same in scopes that agree
pub same_reference : (s t : InForce) (l : Leaf) → SameNames s t → reference_in s l ≡ reference_in t l
unfolding reference_in
same_reference s t l h = ap (λ b. resolved b (iri_of l)) h.base

-- a prefixed name stands for the same in scopes that agree
pub same_name : (s t : InForce) (l : Leaf) → SameNames s t → name_in s l ≡ name_in t l
unfolding name_in
same_name s t l h = ap (option_map (λ front. front ++ local_of l)) (h.bound (prefix_of l))

-- a new prefix has room in both or in none
pub same_full : (s t : InForce) (p : List ℕ) → SameNames s t → is_full s p ≡ is_full t p
unfolding is_full
same_full s t p h =
    ap (λ o. not (is_some o) && nat_le s.limits.bindings (length s.bindings)) (h.bound p)
    ∙ ap (λ x. not (is_some (bound_to t.bindings p)) && nat_le x.bindings (length s.bindings)) h.limits
    ∙ ap (λ n. not (is_some (bound_to t.bindings p)) && nat_le t.limits.bindings n) h.count

-- a scope agrees with itself
pub same_itself : (s : InForce) → SameNames s s
same_itself s = record { base = refl; limits = refl; bound = λ q. refl; count = refl }

-- after a directive that took an IRI as base
pub same_based : (s t : InForce) (i : List ℕ) → SameNames s t → SameNames (with_base s (Some i)) (with_base t (Some i))
same_based s t i h = record { base = refl; limits = h.limits; bound = h.bound; count = h.count }

-- after a directive that bound a prefix, whatever the order in which the map keeps its entries
pub same_binding : (s t u : InForce) (p i : List ℕ) → SameNames s t → Binds s p i u → SameNames u (with_binding t p (Some i))
same_binding s t u p i h b =
    let c = binds_prefix t p i in
    record {
      base = b.base ∙ h.base;
      limits = b.limits ∙ h.limits;
      bound = λ q. b.bound q ∙ ap (cond (equal p q) (Some i)) (h.bound q) ∙ sym (c.bound q);
      count = b.count ∙ ap (λ n. n + cond (is_some (bound_to s.bindings p)) 0 1) h.count
          ∙ ap (λ o. length t.bindings + cond (is_some o) 0 1) (h.bound p) ∙ sym c.count;
    }
