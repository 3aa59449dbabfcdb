-- Terms and quads. A text is its characters.
use Prim.Native.Char.{code}
use Rattle.std.specs.Prelude.{◌≡◌, ℕ, ◌<◌, ◌^◌, Bool, true, false, List, [], ◌∷◌, ◌&&◌, ◌||◌, ◌==◌, codes, Option, Some, None}
use Rattle.rdf_terms.specs.Classes.{has, scalar, is_letter, is_digit}
use Rattle.rdf_terms.specs.declared.kind.Dialect.TheVariants.{Lines}
use Rattle.rdf_terms.specs.Classes.Class.{iri_char}
use Rattle.rdf_terms.specs.Expressions.{Matches}
use Rattle.rdf_terms.specs.Terminals.{label_name, tag_name}

-- a blank node: by its label without `_:`, or without a label, by the byte offset of its `[`, or of the first token of a collection's item
pub data Node : Type 0 where
  Label : List ℕ → Node
  Anon : ℕ → Node
  Cell : ℕ → Node

-- what a literal has besides its lexical form: a language tag without `@`, or a datatype IRI (RDF 1.1 Concepts 3.3)
pub data Tail : Type 0 where
  Lang : List ℕ → Tail
  Typed : List ℕ → Tail

-- a subject or a graph label
pub data Subject : Type 0 where
  Iri : List ℕ → Subject
  Blank : Node → Subject

-- an object: an IRI or a blank node, or a literal, by its lexical form and its language tag or datatype (RDF 1.1 Concepts 3.1)
pub data Term : Type 0 where
  Resource : Subject → Term
  Literal : List ℕ → Tail → Term

-- a triple and the label of its graph; without a label it belongs to the default graph (RDF 1.1 Concepts 4, N-Quads 2)
pub record Quad : Type 0 where
  pub subject : Subject
  pub predicate : List ℕ
  pub object : Term
  pub graph : Option Subject

-- the type of a plain string (RDF 1.1 Concepts 3.3)
abbrev pub xsd_string : List ℕ
xsd_string = codes "http://www.w3.org/2001/XMLSchema#string"

-- a scheme and its colon stand first (RFC 3986, 3.1): ALPHA (ALPHA | DIGIT | '+' | '-' | '.')* ':'
abbrev pub scheme_goes_on : List ℕ → Bool
scheme_goes_on [] = false
scheme_goes_on (c ∷ w) = c == code ":" || ((is_letter c || is_digit c || c == code "+" || c == code "-" || c == code ".") && scheme_goes_on w)

-- the text begins with a scheme and ':', so it is no relative reference (RFC 3986, 3.1 and 4.2)
abbrev pub has_scheme : List ℕ → Bool
has_scheme [] = false
has_scheme (c ∷ w) = is_letter c && scheme_goes_on w

-- the test holds for each character of the text
abbrev pub all_have : (ℕ → Bool) → List ℕ → Bool
all_have test [] = true
all_have test (c ∷ w) = test c && all_have test w

-- what the types of terms say of their texts
pub record IsIri (w : List ℕ) : Type 0 where
  pub characters : all_have (has iri_char) w ≡ true
  pub scheme : has_scheme w ≡ true

-- a blank node label without its `_:`, by BLANK_NODE_LABEL of N-Triples and N-Quads
abbrev pub IsLabel : List ℕ → Type 0
IsLabel w = Matches (label_name Lines) w

-- a language tag without its `@`, by LANGTAG
abbrev pub IsTag : List ℕ → Type 0
IsTag w = Matches tag_name w

-- a label is well formed, and a byte offset fits in 64 bits
abbrev pub IsNode : Node → Type 0
IsNode (Label x) = IsLabel x
IsNode (Anon n) = n < 2 ^ 64
IsNode (Cell n) = n < 2 ^ 64

-- an absolute IRI or a well-formed blank node, as a subject or a graph label has to be
abbrev pub IsSubject : Subject → Type 0
IsSubject (Iri i) = IsIri i
IsSubject (Blank n) = IsNode n

-- the language tag is well formed, or the datatype is an absolute IRI
abbrev pub IsTail : Tail → Type 0
IsTail (Lang t) = IsTag t
IsTail (Typed i) = IsIri i

-- each text of an object is well formed; a lexical form may have any characters
abbrev pub IsTerm : Term → Type 0
IsTerm (Resource s) = IsSubject s
IsTerm (Literal w t) = (all_have scalar w ≡ true) × IsTail t

-- the default graph, or a graph with a well-formed label
abbrev pub IsGraph : Option Subject → Type 0
IsGraph None = Unit
IsGraph (Some s) = IsSubject s

-- each of the four terms is well formed, and the predicate is an absolute IRI
pub record IsQuad (q : Quad) : Type 0 where
  pub subject : IsSubject q.subject
  pub predicate : IsIri q.predicate
  pub object : IsTerm q.object
  pub graph : IsGraph q.graph
