-- The scope at a place of a document: the base in force, or none, and the prefixes that are bound, with their IRIs.
use Rattle.std.specs.Prelude.{◌≡◌, ℕ, ◌+◌, ◌*◌, ◌<◌, ◌≤◌, cond, List, [], ◌∷◌, ◌++◌, length, Option, Some, None, MatchOption, is_some, ⊤}
use Rattle.std.specs.List.{sum_by}
use Rattle.rdf_iri.specs.declared.fault.IriFault.{IriFault}
use Rattle.rdf_iri.specs.declared.fault.IriFault.TheVariants.{NoBase, IriTooLong, Memory, Unbound, TooManyBindings}
use Rattle.rdf_iri.specs.Limits.{Sizes}
use Rattle.rdf_iri.specs.Texts.{equal, byte_len}
use Rattle.rdf_iri.specs.Resolution.{Resolves}
use Rattle.rdf_iri.specs.Faults.{Unresolved}

-- what decides which IRI a name or a reference stands for (Turtle 6.3); a prefix is kept without its colon, an IRI resolved
pub record InForce : Type 0 where
  pub base : Option (List ℕ)
  pub bindings : List (List ℕ × List ℕ)
  pub limits : Sizes

-- the IRI that a prefix is bound to
abbrev pub bound_to : List (List ℕ × List ℕ) → List ℕ → Option (List ℕ)
bound_to [] prefix = None
bound_to (e ∷ es) prefix = cond (equal prefix e.0) (Some e.1) (bound_to es prefix)

-- the base, or none, has at most so many bytes
abbrev pub BaseFits : Option (List ℕ) → Sizes → Type 0
BaseFits base limits = MatchOption base ⊤ (λ b. byte_len b ≤ limits.iri)

-- what every scope keeps to; a character of a prefix has at most four bytes
pub record KeepsLimits (s : InForce) : Type 0 where
  pub base : BaseFits s.base s.limits
  pub count : length s.bindings ≤ s.limits.bindings
  pub bindings : (prefix iri : List ℕ) → bound_to s.bindings prefix ≡ Some iri → (byte_len prefix ≤ 4 * s.limits.token) × (byte_len iri ≤ s.limits.iri)

-- the bytes of the base, if there is one
abbrev pub base_bytes : Option (List ℕ) → ℕ
base_bytes None = 0
base_bytes (Some b) = byte_len b

-- the bytes of a prefix, without its colon, and of its IRI
abbrev pub binding_bytes : List ℕ × List ℕ → ℕ
binding_bytes e = byte_len e.0 + byte_len e.1

-- the bytes of the texts in force: the base, and each prefix with its IRI
abbrev pub bytes_held : InForce → ℕ
bytes_held s = base_bytes s.base + sum_by binding_bytes s.bindings

-- the most that these texts have within the limits
abbrev pub most_bytes_held : Sizes → ℕ
most_bytes_held l = l.iri + l.bindings * (4 * l.token + l.iri)

-- the IRI that a reference stands for
abbrev pub ResolvesHere : InForce → List ℕ → List ℕ → Type 0
ResolvesHere s reference iri = Resolves s.base reference iri × (byte_len iri ≤ s.limits.iri)

-- why a reference stands for none
abbrev pub UnresolvedHere : InForce → List ℕ → IriFault → Type 0
UnresolvedHere s reference fault = Unresolved s.base reference s.limits.iri fault

-- the reference's IRI is the base
abbrev pub IsBased : InForce → List ℕ → InForce → Type 0
IsBased s reference t = (iri : List ℕ) × ResolvesHere s reference iri × (t ≡ record s { base = Some iri })

-- the prefix is bound to the IRI, and all others are bound as before
pub record Binds (s : InForce) (prefix iri : List ℕ) (t : InForce) : Type 0 where
  pub base : t.base ≡ s.base
  pub limits : t.limits ≡ s.limits
  pub bound : (q : List ℕ) → bound_to t.bindings q ≡ cond (equal prefix q) (Some iri) (bound_to s.bindings q)
  pub count : length t.bindings ≡ length s.bindings + cond (is_some (bound_to s.bindings prefix)) 0 1

-- a prefix that is new is one more
abbrev pub HasRoom : InForce → List ℕ → Type 0
HasRoom s prefix = bound_to s.bindings prefix ≡ None → length s.bindings < s.limits.bindings

-- a new prefix would be one too many
abbrev pub IsFull : InForce → List ℕ → Type 0
IsFull s prefix = (bound_to s.bindings prefix ≡ None) × (s.limits.bindings ≤ length s.bindings)

-- the prefix is bound to the reference's IRI
abbrev pub IsBound : InForce → List ℕ → List ℕ → InForce → Type 0
IsBound s prefix reference t = (iri : List ℕ) × ResolvesHere s reference iri × HasRoom s prefix × Binds s prefix iri t

-- why a prefix was not bound
abbrev pub NotBound : InForce → List ℕ → List ℕ → IriFault → Type 0
NotBound s prefix reference TooManyBindings = (iri : List ℕ) × ResolvesHere s reference iri × IsFull s prefix
NotBound s prefix reference fault = UnresolvedHere s reference fault

-- the prefix's IRI with the local part after it
abbrev pub Expands : InForce → List ℕ → List ℕ → List ℕ → Type 0
Expands s prefix local iri = (front : List ℕ) × (bound_to s.bindings prefix ≡ Some front) × (iri ≡ front ++ local)

-- the IRI of a prefixed name, within the limit on the bytes of an IRI
abbrev pub ExpandsHere : InForce → List ℕ → List ℕ → List ℕ → Type 0
ExpandsHere s prefix local iri = Expands s prefix local iri × (byte_len iri ≤ s.limits.iri)

-- why a name was not expanded
abbrev pub NotExpanded : InForce → List ℕ → List ℕ → IriFault → Type 0
NotExpanded s prefix local Unbound = bound_to s.bindings prefix ≡ None
NotExpanded s prefix local IriTooLong = (iri : List ℕ) × Expands s prefix local iri × (s.limits.iri < byte_len iri)
NotExpanded s prefix local Memory = (iri : List ℕ) × ExpandsHere s prefix local iri
NotExpanded s prefix local NoBase = ⊥
NotExpanded s prefix local TooManyBindings = ⊥
