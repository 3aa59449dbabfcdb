-- Bytes that are placed in a buffer that has room for them, and how much room a line takes at most.
use Rattle.std.specs.Prelude.{◌≡◌, ℕ, ◌+◌, ◌*◌, ◌/◌, ◌%◌, ◌<◌, ◌≤◌, List, [], ◌∷◌, ◌++◌, Option, Some, None, ⊤, decimal, length, take}
use Rattle.rdf_terms.specs.declared.views.IriView.{IriView}
use Rattle.rdf_terms.specs.declared.views.LiteralRef.{LiteralRef}
use Rattle.rdf_terms.specs.declared.views.NodeRef.{NodeRef}
use Rattle.rdf_terms.specs.declared.views.NodeRef.TheVariants as node_ref
use Rattle.rdf_terms.specs.declared.views.TailRef.{TailRef}
use Rattle.rdf_terms.specs.declared.views.TailRef.TheVariants as tail_ref
use Rattle.rdf_terms.specs.declared.views.SubjectRef.{SubjectRef}
use Rattle.rdf_terms.specs.declared.views.SubjectRef.TheVariants as subject_ref
use Rattle.rdf_terms.specs.declared.views.TermRef.{TermRef}
use Rattle.rdf_terms.specs.declared.views.TermRef.TheVariants as term_ref
use Rattle.rdf_terms.specs.declared.views.QuadRef.{QuadRef}
use Rattle.rdf_lines.specs.declared.form.Escapes.TheVariants.{Plain}
use Rattle.rdf_lines.specs.declared.form.WrittenForm.{WrittenForm}
use Rattle.rdf_lines.specs.declared.form.Style.{Style}
use Rattle.rdf_lines.specs.declared.form.Style.TheVariants.{Kept, Tagged}

-- new has xs after the first `at` bytes of old, up to `end`, and anything after that
pub record WrittenAt (old new : List ℕ) (at : ℕ) (xs : List ℕ) (end : ℕ) : Type 0 where
  pub bytes : take end new ≡ take at old ++ xs
  pub within : end ≤ length new

-- the first `at` bytes stay
pub record KeptFront (old new : List ℕ) (at : ℕ) : Type 0 where
  pub bytes : take at new ≡ take at old
  pub within : at ≤ length new

-- the bytes of a label, or the most digits of an offset
abbrev pub node_room : NodeRef → ℕ
node_room (node_ref.Label l) = length l.text.now
node_room (node_ref.Anon n) = 20
node_room (node_ref.Cell n) = 20

-- the same of an IRI or a node
abbrev pub subject_room : SubjectRef → ℕ
subject_room (subject_ref.Iri i) = length i.text.now
subject_room (subject_ref.Node n) = node_room n

-- the bytes of a tag or a datatype
abbrev pub tail_room : TailRef → ℕ
tail_room (tail_ref.Lang t) = length t.text.now
tail_room (tail_ref.Typed i) = length i.text.now

-- the bytes of a literal's texts
abbrev pub literal_room : LiteralRef → ℕ
literal_room l = length l.lexical.now + tail_room l.tail

-- the most bytes that the texts of an object have
abbrev pub term_room : TermRef → ℕ
term_room (term_ref.Iri i) = length i.text.now
term_room (term_ref.Node n) = node_room n
term_room (term_ref.Literal l) = literal_room l

-- the same of a graph label
abbrev pub graph_room : Option SubjectRef → ℕ
graph_room None = 0
graph_room (Some s) = subject_room s

-- the most bytes of a line in the plain form, in which a byte of a string may become two, with a word of so many bytes in front of each name
abbrev pub line_room : ℕ → QuadRef → ℕ
line_room word q = subject_room q.subject + length q.predicate.text.now + 2 * term_room q.object + graph_room q.graph + 3 * word + 20

-- the bytes of the line of three IRIs, in the plain form and in the default graph
abbrev pub iris_room : IriView → IriView → IriView → ℕ
iris_room s p o = length s.text.now + length p.text.now + length o.text.now + 11

-- the bytes of a label with its `_:` and a word in front
abbrev pub label_bytes : Style → List ℕ → List ℕ → List ℕ
label_bytes Kept word l = 95 ∷ 58 ∷ (word ++ l)
label_bytes Tagged word l = 95 ∷ 58 ∷ (word ++ 110 ∷ l)

-- the same of an offset after its letter, which style Kept can't write
abbrev pub number_bytes : Style → List ℕ → ℕ → ℕ → List ℕ
number_bytes Kept word letter n = []
number_bytes Tagged word letter n = 95 ∷ 58 ∷ (word ++ letter ∷ decimal n)

-- the two digits of a number below 100
abbrev pub two_digits : ℕ → List ℕ
two_digits n = (48 + n / 10) ∷ (48 + n % 10) ∷ []

-- a label of at most 64 bytes, or an offset of at most twelve digits
abbrev pub IsShortNode : NodeRef → Type 0
IsShortNode (node_ref.Label l) = length l.text.now ≤ 64
IsShortNode (node_ref.Anon n) = n < 1000000000000
IsShortNode (node_ref.Cell n) = n < 1000000000000

-- an IRI of at most 64 bytes, or such a node, named by its letter without a word
abbrev pub IsShortSubject : WrittenForm → SubjectRef → Type 0
IsShortSubject f (subject_ref.Iri i) = length i.text.now ≤ 64
IsShortSubject f (subject_ref.Node n) = (f.style ≡ Tagged) × (f.prefix.word.now ≡ []) × IsShortNode n

-- the same of an object; the two texts of a literal have at most 128 bytes together
abbrev pub IsShortTerm : WrittenForm → TermRef → Type 0
IsShortTerm f (term_ref.Iri i) = length i.text.now ≤ 64
IsShortTerm f (term_ref.Node n) = (f.style ≡ Tagged) × (f.prefix.word.now ≡ []) × IsShortNode n
IsShortTerm f (term_ref.Literal l) = literal_room l ≤ 128

-- no graph, or an IRI
abbrev pub IsShortGraph : Option SubjectRef → Type 0
IsShortGraph None = ⊤
IsShortGraph (Some (subject_ref.Iri i)) = length i.text.now ≤ 64
IsShortGraph (Some (subject_ref.Node n)) = ⊥

-- what a short line is: its texts and offsets are short, and it is in the plain form
pub record IsShort (f : WrittenForm) (q : QuadRef) : Type 0 where
  pub plain : f.escapes ≡ Plain
  pub subject : IsShortSubject f q.subject
  pub predicate : length q.predicate.text.now ≤ 64
  pub object : IsShortTerm f q.object
  pub graph : IsShortGraph q.graph
