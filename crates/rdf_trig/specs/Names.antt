-- What references and prefixed names stand for in a scope, and how directives change the scope (Turtle 2.4 and 6.3).
use Prim.Native.Char.{code}
use Rattle.std.specs.Prelude.{◌≡◌, ℕ, Bool, cond, List, [], ◌∷◌, ◌++◌, ◌&&◌, length, nat_le, not, is_some, Option, Some, None, option_map, unwrap_or}
use Rattle.rdf_terms.specs.Values.{local_value}
use Rattle.rdf_iri.specs.Texts.{before, after, equal}
use Rattle.rdf_iri.specs.Resolve.{resolved}
use Rattle.rdf_iri.specs.Scope.{InForce, bound_to}
use Rattle.rdf_tokens.specs.Leaves.{Leaf, iri_of}
use Rattle.rdf_trig.specs.Trees.{pname_ln, pname_ns, Iri, iri_ref, prefixed, Directive, prefix_id, base, sparql_prefix, sparql_base}

-- an IRIREF: its text with escapes replaced, resolved against the base in force; none where it needs a base and there is none
unfoldable pub reference_in : InForce → Leaf → Option (List ℕ)
reference_in s l = resolved s.base (iri_of l)

-- what stands before the first ':' of a name, and the characters that what stands after it means; these are there, since each token is fit
abbrev pub prefix_of : Leaf → List ℕ
prefix_of l = before (code ":") l.text

-- the local part of a name with its escapes replaced (PN_LOCAL_ESC), a %-escape kept as it is written (Turtle 6.4); empty for a PNAME_NS
abbrev pub local_of : Leaf → List ℕ
local_of l = unwrap_or (local_value (unwrap_or (after (code ":") l.text) [])) []

-- a prefixed name: the IRI that its prefix is bound to, with the local part after it; none where the prefix is not bound
unfoldable pub name_in : InForce → Leaf → Option (List ℕ)
name_in s l = option_map (λ front. front ++ local_of l) (bound_to s.bindings (prefix_of l))

-- the absolute IRI that the production iri stands for in a scope, or none; a PrefixedName has a local part or none
abbrev pub iri_in : InForce → Iri → Option (List ℕ)
iri_in s (iri_ref l) = reference_in s l
iri_in s (prefixed (pname_ln l)) = name_in s l
iri_in s (prefixed (pname_ns l)) = name_in s l

-- a prefix has one IRI, that of its last binding
abbrev pub bind : List (List ℕ × List ℕ) → List ℕ → List ℕ → List (List ℕ × List ℕ)
bind [] prefix iri = (prefix, iri) ∷ []
bind (e ∷ es) prefix iri = cond (equal prefix e.0) ((prefix, iri) ∷ es) (e ∷ bind es prefix iri)

-- the scope after the IRIREF of a directive; one that stands for nothing changes nothing
abbrev pub with_base : InForce → Option (List ℕ) → InForce
with_base s None = s
with_base s (Some iri) = record { base = Some iri; bindings = s.bindings; limits = s.limits }

-- the scope after the IRIREF of @prefix or PREFIX, which replaces an older binding of the prefix (Turtle 2.4)
abbrev pub with_binding : InForce → List ℕ → Option (List ℕ) → InForce
with_binding s prefix None = s
with_binding s prefix (Some iri) = record { base = s.base; bindings = bind s.bindings prefix iri; limits = s.limits }

-- the scope after a directive, which is in force for what comes after it, up to the next change (Turtle 2.4, 6.3)
abbrev pub scope_after : InForce → Directive → InForce
scope_after s (prefix_id w p i d) = with_binding s (prefix_of p) (reference_in s i)
scope_after s (base w i d) = with_base s (reference_in s i)
scope_after s (sparql_prefix w p i) = with_binding s (prefix_of p) (reference_in s i)
scope_after s (sparql_base w i) = with_base s (reference_in s i)

-- the prefix is new, and as many are bound as may be
unfoldable pub is_full : InForce → List ℕ → Bool
is_full s prefix = not (is_some (bound_to s.bindings prefix)) && nat_le s.limits.bindings (length s.bindings)

-- scopes in which every reference and name stands for the same, and a new prefix has room or not
pub record SameNames (s t : InForce) : Type 0 where
  pub base : s.base ≡ t.base
  pub limits : s.limits ≡ t.limits
  pub bound : (q : List ℕ) → bound_to s.bindings q ≡ bound_to t.bindings q
  pub count : length s.bindings ≡ length t.bindings
