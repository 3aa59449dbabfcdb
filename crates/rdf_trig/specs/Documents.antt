-- Documents of Turtle and TriG as a relation between tokens and marked quads, what passes a limit, and what a reader has to hold.
use Rattle.std.specs.Prelude.{◌≡◌, ℕ, ◌+◌, ◌-◌, ◌<◌, ◌⊎◌, true, List, [], ◌∷◌, ◌++◌, IsSomeAnd}
use Rattle.rdf_terms.specs.declared.kind.Kind.{Kind}
use Rattle.rdf_terms.specs.declared.kind.Kind.TheVariants.{OpenBracket, CloseBracket, OpenParen, CloseParen}
use Rattle.rdf_tokens.specs.Tokens.{Token}
use Rattle.rdf_tokens.specs.Grammars.{Marked}
use Rattle.rdf_iri.specs.Limits.{Sizes}
use Rattle.rdf_iri.specs.Texts.{byte_len}
use Rattle.rdf_iri.specs.Scope.{InForce}
use Rattle.rdf_trig.specs.declared.form.DocForm.{DocForm}
use Rattle.rdf_trig.specs.Trees.{Document}
use Rattle.rdf_trig.specs.Events.{Use, itself, stands, binds, Event, Took, tokens, event_quads, Bound, document_events}

-- The documents of a form: the tokens are those of a tree from left to right, each of its names and references stands for an IRI in the scope at its place,
-- and these are its quads with their marks. The scope at the start has the base, or none, the bindings that were handed in, and the limits.
abbrev pub documents : DocForm → InForce → List Token → List Marked → Type 0
documents form start ts qs =
    (d : Document form) × (ts ≡ tokens (document_events start d)) × Bound (document_events start d) × (event_quads 0 (document_events start d) ≡ qs)

-- the same whether names and references stand for something or not, by which unbound prefixes and missing bases are told from syntax errors
abbrev pub trees : DocForm → InForce → List Token → List Marked → Type 0
trees form start ts qs = (d : Document form) × (ts ≡ tokens (document_events start d)) × (event_quads 0 (document_events start d) ≡ qs)

-- '[' and '(' that are open after some tokens
abbrev pub opens : Kind → ℕ
opens OpenBracket = 1
opens OpenParen = 1
opens k = 0

-- '[' and '(' that a token closes
abbrev pub closes : Kind → ℕ
closes CloseBracket = 1
closes CloseParen = 1
closes k = 0

-- how many brackets and parentheses some tokens open
abbrev pub opened : List Token → ℕ
opened [] = 0
opened (t ∷ ts) = opens t.kind + opened ts

-- how many of them they close
abbrev pub closed : List Token → ℕ
closed [] = 0
closed (t ∷ ts) = closes t.kind + closed ts

-- how many are open after some tokens that begin a document, where none is closed that was not opened
abbrev pub open_in : List Token → ℕ
open_in ts = opened ts - closed ts

-- the IRI that a token stands for has too many bytes
abbrev pub IsLong : Sizes → Use → Type 0
IsLong sizes itself = ⊥
IsLong sizes (stands i) = IsSomeAnd i (λ i. sizes.iri < byte_len i)
IsLong sizes (binds full i) = IsSomeAnd i (λ i. sizes.iri < byte_len i)

-- the token would bind one prefix too many
abbrev pub IsOneMore : Use → Type 0
IsOneMore (binds full i) = full ≡ true
IsOneMore u = ⊥

-- what the token stands for in a tree that begins with the tokens before it and with it
pub record InTree (form : DocForm) (start : InForce) (ahead : List Token) (t : Token) (u : Use) : Type 0 where
  pub tree : Document form
  pub front : List Event
  pub rest : List Event
  pub events : document_events start tree ≡ front ++ Took t u ∷ rest
  pub read : tokens front ≡ ahead

-- the same in a document
pub record StandsFor (form : DocForm) (start : InForce) (ahead : List Token) (t : Token) (u : Use) : Type 0 where
  pub place : InTree form start ahead t u
  pub bound : Bound (document_events start place.tree)

-- one bracket more than may be open
abbrev pub IsDeep : InForce → List Token → Token → Type 0
IsDeep start ahead t = (opens t.kind ≡ 1) × (start.limits.depth < open_in (ahead ++ t ∷ []))

-- after these tokens, which begin a document, the token passes a limit: of open brackets, of the bytes of an IRI, or of bound prefixes
abbrev pub Passes : DocForm → InForce → List Token → Token → Type 0
Passes form start ahead t = (u : Use) × StandsFor form start ahead t u × (IsDeep start ahead t ⊎ (IsLong start.limits u ⊎ IsOneMore u))
