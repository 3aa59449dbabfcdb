-- What one line of a file of bindings does to a scope without a base, and the parts of a line that are read one by one.
use Prim.Native.Char.{code}
use Rattle.std.specs.Prelude.{◌≡◌, ◌<◌, ◌≤◌, List, ℕ, ◌++◌, ◌⊎◌, length, Some, None, codes, ⊤}
use Rattle.rdf_terms.specs.declared.kind.Dialect.TheVariants.{Turtle}
use Rattle.rdf_terms.specs.declared.kind.Kind.TheVariants.{PnameNs}
use Rattle.rdf_terms.specs.Terminals.{Shape}
use Rattle.rdf_terms.specs.Terms.{IsIri}
use Rattle.rdf_iri.specs.declared.fault.BindingReason.{BindingReason}
use Rattle.rdf_iri.specs.declared.fault.BindingReason.TheVariants.{BadBinding, TokenTooLong, IriTooLong, TooManyBindings, Memory}
use Rattle.rdf_iri.specs.Texts.{Lacks, byte_len}
use Rattle.rdf_iri.specs.Scope.{InForce, Binds, HasRoom, IsFull}
use Rattle.rdf_iri.specs.BindingLines.{Begins, BeginsBlank, SaysNothing, IsPrefixId, IsSparqlPrefix}
use Rattle.rdf_iri.specs.Bindings.{Entry, EntryFits, TextSays}

-- an entry binds its prefix, or nothing
abbrev pub Enters : InForce → Entry → InForce → Type 0
Enters s None t = t ≡ s
Enters s (Some e) t = HasRoom s e.0 × Binds s e.0 e.1 t

-- the text says something within the limits that is taken
abbrev pub TakesLine : InForce → List ℕ → InForce → Type 0
TakesLine s text t = (entry : Entry) × TextSays text entry × EntryFits s.limits entry × Enters s entry t

-- why the text was not taken
abbrev pub StopsAt : BindingReason → InForce → List ℕ → Type 0
StopsAt BadBinding s text = (entry : Entry) → TextSays text entry → ⊥
StopsAt TokenTooLong s text = (e : List ℕ × List ℕ) × TextSays text (Some e) × (s.limits.token < length (e.0 ++ codes ":"))
StopsAt IriTooLong s text = (e : List ℕ × List ℕ) × TextSays text (Some e) × (length (e.0 ++ codes ":") ≤ s.limits.token) × (s.limits.iri < byte_len e.1)
StopsAt TooManyBindings s text = (e : List ℕ × List ℕ) × TextSays text (Some e) × EntryFits s.limits (Some e) × IsFull s e.0
StopsAt Memory s text = ⊤

-- a comment, from its first character on
abbrev pub IsComment : List ℕ → Type 0
IsComment w = (comment : List ℕ) × (w ≡ codes "#" ++ comment) × Lacks (code "\r") comment

-- a blank at least, PNAME_NS and the rest
pub record NameThen (w prefix rest : List ℕ) : Type 0 where
  pub apart : BeginsBlank w
  pub name : Begins w (prefix ++ codes ":") rest
  pub shape : Shape Turtle PnameNs (prefix ++ codes ":")

-- an IRIREF whose IRI is absolute and has no escapes, and the rest
pub record IriThen (w iri rest : List ℕ) : Type 0 where
  pub reference : Begins w (codes "<" ++ (iri ++ codes ">")) rest
  pub absolute : IsIri iri

-- both, and the rest
abbrev pub PairThen : List ℕ → List ℕ × List ℕ × List ℕ → Type 0
PairThen w p = (middle : List ℕ) × NameThen w p.0 middle × IriThen middle p.1 p.2

-- a dot, and nothing more
abbrev pub EndsAtDot : List ℕ → Type 0
EndsAtDot w = (rest : List ℕ) × Begins w (codes ".") rest × SaysNothing rest

-- what follows the word of a declaration, which ends in some way
abbrev pub Declares : (List ℕ → Type 0) → List ℕ → List ℕ → List ℕ → Type 0
Declares Ends w prefix iri = (rest : List ℕ) × PairThen w (prefix, iri, rest) × Ends rest

-- a form of Turtle's or SPARQL's
abbrev pub IsDeclaration : List ℕ → List ℕ → List ℕ → Type 0
IsDeclaration w prefix iri = IsPrefixId w prefix iri ⊎ IsSparqlPrefix w prefix iri

-- a binding in one of the forms, as characters
pub record IsIn (Form : List ℕ → List ℕ → List ℕ → Type 0) (w prefix iri : List ℕ) : Type 0 where
  pub form : Form w prefix iri
  pub shape : Shape Turtle PnameNs (prefix ++ codes ":")
  pub absolute : IsIri iri
