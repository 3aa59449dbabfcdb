-- The line formats (N-Triples 7, N-Quads 4): a type for each production. A leaf is a token of the kind that the production names.
use Rattle.std.specs.Prelude.{◌≡◌, ℕ, ◌+◌, Bool, true, List, [], ◌∷◌, ◌++◌, length, drop, Option, Some, None, option_map, unwrap_or}
use Rattle.std.specs.List.{AllByRecursion}
use Rattle.rdf_terms.specs.declared.kind.Kind.TheVariants.{IriRef, LabelNode, ShortString, LangTag, Carets, Dot, LineEnd, End}
use Rattle.rdf_terms.specs.Values.{string_value, inside}
use Rattle.rdf_tokens.specs.Tokens.{Token}
use Rattle.rdf_tokens.specs.Leaves.{Leaf, leaf_of, token, iri_of}
use Rattle.rdf_tokens.specs.Grammars.{Marked}
use Rattle.rdf_terms.specs.Terms.{Label, Lang, Typed, Subject, Iri, Blank, Term, Resource, Literal, Quad, xsd_string, has_scheme}
use Rattle.rdf_lines.specs.declared.form.LineForm.{LineForm}
use Rattle.rdf_lines.specs.declared.form.LineForm.TheVariants.{NTriples, NQuads}

-- subject, graphLabel ::= IriRef | LabelNode
pub data Name : Type 0 where
  Ref : Leaf → Name
  Lab : Leaf → Name

-- object ::= IriRef | LabelNode | literal; literal ::= ShortString (Carets IriRef | LangTag)?
pub data Object : Type 0 where
  Named : Name → Object
  Plain : Leaf → Object
  WithType : Leaf → Leaf → Leaf → Object
  WithTag : Leaf → Leaf → Object

-- statement ::= subject predicate object graphLabel? '.'
pub record Statement : Type 0 where
  pub subject : Name
  pub predicate : Leaf
  pub object : Object
  pub graph : Option Name
  pub dot : Leaf

-- Line ::= (nothing) | statement
pub data Line : Type 0 where
  empty : Line
  one : Statement → Line

-- document ::= Line (LineEnd Line)* End
pub data Document : Type 0 where
  last : Line → Leaf → Document
  next : Line → Leaf → Document → Document

-- the tokens that an IRI or a label derives
abbrev pub name_tokens : Name → List Token
name_tokens (Ref l) = token IriRef l ∷ []
name_tokens (Lab l) = token LabelNode l ∷ []

-- those of an object
abbrev pub object_tokens : Object → List Token
object_tokens (Named n) = name_tokens n
object_tokens (Plain s) = token ShortString s ∷ []
object_tokens (WithType s c i) = token ShortString s ∷ token Carets c ∷ token IriRef i ∷ []
object_tokens (WithTag s t) = token ShortString s ∷ token LangTag t ∷ []

-- those of a graph label, where there is one
abbrev pub graph_tokens : Option Name → List Token
graph_tokens None = []
graph_tokens (Some n) = name_tokens n

-- the head of a statement's quad ends at the last token of its object, or at its graph label where there is one
abbrev pub head_tokens : Statement → List Token
head_tokens s = name_tokens s.subject ++ (token IriRef s.predicate ∷ []) ++ object_tokens s.object ++ graph_tokens s.graph

-- those of a statement, its dot last
abbrev pub statement_tokens : Statement → List Token
statement_tokens s = head_tokens s ++ (token Dot s.dot ∷ [])

-- those of a line, without its end
abbrev pub line_tokens : Line → List Token
line_tokens empty = []
line_tokens (one s) = statement_tokens s

-- those of a document
abbrev pub document_tokens : Document → List Token
document_tokens (last l e) = line_tokens l ++ token End e ∷ []
document_tokens (next l e d) = line_tokens l ++ token LineEnd e ∷ document_tokens d

-- the characters that a string spells; each token is fit, so there are some
abbrev pub string_of : Leaf → List ℕ
string_of l = unwrap_or (string_value (inside 1 l.text)) []

-- the node that a name stands for
abbrev pub subject_of : Name → Subject
subject_of (Ref l) = Iri (iri_of l)
subject_of (Lab l) = Blank (Label (drop 2 l.text))

-- the term that an object stands for
abbrev pub term_of : Object → Term
term_of (Named n) = Resource (subject_of n)
term_of (Plain s) = Literal (string_of s) (Typed xsd_string)
term_of (WithType s c i) = Literal (string_of s) (Typed (iri_of i))
term_of (WithTag s t) = Literal (string_of s) (Lang (drop 1 t.text))

-- the quad of a statement
abbrev pub quad_of : Statement → Quad
quad_of s = record { subject = subject_of s.subject; predicate = iri_of s.predicate; object = term_of s.object; graph = option_map subject_of s.graph }

-- the quads with their marks, where n tokens stand before the tree
abbrev pub line_quads : ℕ → Line → List Marked
line_quads n empty = []
line_quads n (one s) = record { item = quad_of s; mark = n + length (head_tokens s) } ∷ []

-- those of a document
abbrev pub document_quads : ℕ → Document → List Marked
document_quads n (last l e) = line_quads n l
document_quads n (next l e d) = line_quads n l ++ document_quads (n + length (line_tokens l) + 1) d

-- an IRIREF spells an IRI that passes a test: that it has a scheme, in documents; or any, in trees
abbrev pub iri_passes : (List ℕ → Bool) → Token → Type 0
iri_passes test t = t.kind ≡ IriRef → test (iri_of (leaf_of t)) ≡ true

-- a graph label stands in N-Quads only
abbrev pub graph_fits : {T : Type 0} → LineForm → Option T → Type 0
graph_fits NTriples g = g ≡ None
graph_fits NQuads g = Unit

-- each IRI of the tokens passes the test, and each graph of the quads fits the form
abbrev pub IsOfForm : (List ℕ → Bool) → LineForm → List Token → List Marked → Type 0
IsOfForm test form ts qs = AllByRecursion (iri_passes test) ts × AllByRecursion (λ (q : Marked). graph_fits form q.item.graph) qs

-- the tokens are a document of the form, and these are its quads with their marks
abbrev pub IsDocument : (List ℕ → Bool) → LineForm → List Token → List Marked → Type 0
IsDocument test form ts qs = (d : Document) × (ts ≡ document_tokens d) × IsOfForm test form ts qs × (document_quads 0 d ≡ qs)

-- every IRI passes
abbrev pub any_iri : List ℕ → Bool
any_iri i = true

-- the documents of a form: each IRI has a scheme
abbrev pub documents : LineForm → List Token → List Marked → Type 0
documents form ts qs = IsDocument has_scheme form ts qs

-- its trees, whether their IRIs have a scheme or not
abbrev pub trees : LineForm → List Token → List Marked → Type 0
trees form ts qs = IsDocument any_iri form ts qs
