-- The text that is written for a quad, and how labels are renamed in it.
use Prim.Native.Char.{code}
use Rattle.std.specs.Prelude.{codes, ℕ, ◌+◌, ◌/◌, ◌%◌, ◌<◌, Bool, true, false, cond, nat_le, nat_lt, List, [], ◌∷◌, ◌++◌, ◌==◌, map, flat_map, decimal, bytes_eq, Option, Some, None, option_map}
use Rattle.rdf_terms.specs.Terms.{Node, Label, Anon, Cell, Tail, Lang, Typed, Subject, Iri, Blank, Term, Resource, Literal, Quad, xsd_string, IsQuad}
use Rattle.std.specs.List.{AllByRecursion}
use Rattle.rdf_lines.specs.declared.form.Escapes.{Escapes}
use Rattle.rdf_lines.specs.declared.form.Escapes.TheVariants.{Plain, Ascii}
use Rattle.rdf_lines.specs.declared.form.Style.{Style}
use Rattle.rdf_lines.specs.declared.form.Style.TheVariants.{Kept, Tagged}

-- Label(x) becomes n and x, Anon(n) becomes a and n in decimal, Cell(n) becomes c and n in decimal
abbrev pub rename_node : Style → Node → Node
rename_node Kept n = n
rename_node Tagged (Label x) = Label (code "n" ∷ x)
rename_node Tagged (Anon n) = Label (code "a" ∷ decimal n)
rename_node Tagged (Cell n) = Label (code "c" ∷ decimal n)

-- a quad with its nodes changed: a subject or a graph label,
abbrev pub map_subject : (Node → Node) → Subject → Subject
map_subject f (Iri i) = Iri i
map_subject f (Blank n) = Blank (f n)

-- an object,
abbrev pub map_term : (Node → Node) → Term → Term
map_term f (Resource s) = Resource (map_subject f s)
map_term f (Literal w t) = Literal w t

-- and all of it
abbrev pub map_nodes : (Node → Node) → Quad → Quad
map_nodes f q = record { subject = map_subject f q.subject; predicate = q.predicate; object = map_term f q.object; graph = option_map (map_subject f) q.graph }

-- what holds of each node of a quad: of its subject,
abbrev pub OfSubject : (Node → Type 0) → Subject → Type 0
OfSubject P (Iri i) = Unit
OfSubject P (Blank n) = P n

-- its object,
abbrev pub OfTerm : (Node → Type 0) → Term → Type 0
OfTerm P (Resource s) = OfSubject P s
OfTerm P (Literal w t) = Unit

-- its graph label,
abbrev pub OfGraph : (Node → Type 0) → Option Subject → Type 0
OfGraph P None = Unit
OfGraph P (Some g) = OfSubject P g

-- and all of it
pub record AllNodes (P : Node → Type 0) (q : Quad) : Type 0 where
  pub subject : OfSubject P q.subject
  pub object : OfTerm P q.object
  pub graph : OfGraph P q.graph

-- each node gets its name in the style
abbrev pub rename : Style → Quad → Quad
rename s q = map_nodes (rename_node s) q

-- style Kept cannot write a node without a label
abbrev pub CanWriteNode : Style → Node → Type 0
CanWriteNode Tagged n = Unit
CanWriteNode Kept (Label x) = Unit
CanWriteNode Kept (Anon n) = ⊥
CanWriteNode Kept (Cell n) = ⊥

-- the style can write each node of the quad
abbrev pub CanWrite : Style → Quad → Type 0
CanWrite s q = AllNodes (CanWriteNode s) q

-- a hex digit in upper case
abbrev pub hex_character : ℕ → ℕ
hex_character d = cond (nat_lt d 10) (48 + d) (55 + d)

-- the hex digits of a number at some places, each a power of 16
abbrev pub hex_digits : List ℕ → ℕ → List ℕ
hex_digits places n = map (λ place. hex_character (n / place % 16)) places

-- UCHAR: \u and four digits up to U+FFFF, \U and eight above
abbrev pub uchar : ℕ → List ℕ
uchar c = cond (nat_le c 0xFFFF) (code "\\" ∷ code "u" ∷ hex_digits (0x1000 ∷ 0x100 ∷ 0x10 ∷ 1 ∷ []) c)
    (code "\\" ∷ code "U" ∷ hex_digits (0x10000000 ∷ 0x1000000 ∷ 0x100000 ∷ 0x10000 ∷ 0x1000 ∷ 0x100 ∷ 0x10 ∷ 1 ∷ []) c)

-- a character as it stands in a written IRI: the two forms differ here alone
abbrev pub written : Escapes → ℕ → List ℕ
written Plain c = c ∷ []
written Ascii c = cond (nat_le c 0x7F) (c ∷ []) (uchar c)

-- a character as it stands in a written string: " \ LF CR are escaped
abbrev pub escaped : Escapes → ℕ → List ℕ
escaped e c = cond (c == code "\"") (codes "\\\"") (cond (c == code "\\") (codes "\\\\") (cond (c == code "\n") (codes "\\n") (cond (c == code "\r") (codes "\\r") (written e c))))

-- an IRI in its brackets
abbrev pub iri_text : Escapes → List ℕ → List ℕ
iri_text e i = code "<" ∷ flat_map (written e) i ++ code ">" ∷ []

-- a node without a label has no text of its own: it is written renamed; a label has no escapes
abbrev pub node_text : Node → List ℕ
node_text (Label x) = code "_" ∷ code ":" ∷ x
node_text n = []

-- an IRI or a node as it is written
abbrev pub subject_text : Escapes → Subject → List ℕ
subject_text e (Iri i) = iri_text e i
subject_text e (Blank n) = node_text n

-- a string in its quotes
abbrev pub string_text : Escapes → List ℕ → List ℕ
string_text e w = code "\"" ∷ flat_map (escaped e) w ++ code "\"" ∷ []

-- the type of a plain string is not written
abbrev pub type_text : Escapes → Bool → List ℕ → List ℕ
type_text e true i = []
type_text e false i = code "^" ∷ code "^" ∷ iri_text e i

-- what follows a string: its tag, or its type
abbrev pub tail_text : Escapes → Tail → List ℕ
tail_text e (Lang t) = code "@" ∷ t
tail_text e (Typed i) = type_text e (bytes_eq i xsd_string) i

-- an object as it is written
abbrev pub term_text : Escapes → Term → List ℕ
term_text e (Resource s) = subject_text e s
term_text e (Literal w t) = string_text e w ++ tail_text e t

-- one space
abbrev pub space : List ℕ
space = code " " ∷ []

-- a graph label with its space, or nothing
abbrev pub graph_text : Escapes → Option Subject → List ℕ
graph_text e None = []
graph_text e (Some g) = subject_text e g ++ space

-- each part and a space, then a dot and LF
abbrev pub quad_text : Escapes → Quad → List ℕ
quad_text e q =
    (subject_text e q.subject ++ space) ++ (iri_text e q.predicate ++ space) ++ (term_text e q.object ++ space)
    ++ graph_text e q.graph ++ (code "." ∷ []) ++ (code "\n" ∷ [])

-- the line of a quad in a style and a form
abbrev pub line : Style → Escapes → Quad → List ℕ
line s e q = quad_text e (rename s q)

-- the lines of some quads
abbrev pub text : Style → Escapes → List Quad → List ℕ
text s e qs = flat_map (line s e) qs

-- well formed quads that the style can write
abbrev pub Writable : Style → List Quad → Type 0
Writable s qs = AllByRecursion (λ q. IsQuad q × CanWrite s q) qs

-- the label of a node, if it has one, has characters below 128 alone
abbrev pub HasAsciiLabel : Node → Type 0
HasAsciiLabel (Label x) = AllByRecursion (λ c. c < 128) x
HasAsciiLabel n = Unit

-- each label of the quad has characters below 128 alone
abbrev pub HasAsciiLabels : Quad → Type 0
HasAsciiLabels q = AllNodes HasAsciiLabel q
