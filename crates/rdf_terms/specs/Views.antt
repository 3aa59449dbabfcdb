-- What the code's terms mean: each text is seen as its characters.
use Rattle.std.specs.Prelude.{ℕ, List, None, option_map}
use Rattle.std.specs.Str.{chars}
use Rattle.rdf_terms.specs.declared.views.IriView.{IriView}
use Rattle.rdf_terms.specs.declared.views.LabelView.{LabelView}
use Rattle.rdf_terms.specs.declared.views.TagView.{TagView}
use Rattle.rdf_terms.specs.declared.views.NodeRef.{NodeRef}
use Rattle.rdf_terms.specs.declared.views.NodeRef.TheVariants as node
use Rattle.rdf_terms.specs.declared.views.TailRef.{TailRef}
use Rattle.rdf_terms.specs.declared.views.TailRef.TheVariants as tail
use Rattle.rdf_terms.specs.declared.views.SubjectRef.{SubjectRef}
use Rattle.rdf_terms.specs.declared.views.SubjectRef.TheVariants as subject
use Rattle.rdf_terms.specs.declared.views.TermRef.{TermRef}
use Rattle.rdf_terms.specs.declared.views.TermRef.TheVariants as term
use Rattle.rdf_terms.specs.declared.views.QuadRef.{QuadRef}
use Rattle.rdf_terms.specs.Terms.{Node, Label, Anon, Cell, Tail, Lang, Typed, Subject, Iri, Blank, Term, Resource, Literal, Quad}

-- the characters of a view
abbrev pub iri_chars : IriView → List ℕ
iri_chars v = chars v.text.now

-- a blank node's label, without its `_:`
abbrev pub label_chars : LabelView → List ℕ
label_chars v = chars v.text.now

-- a language tag, without its `@`
abbrev pub tag_chars : TagView → List ℕ
tag_chars v = chars v.text.now

-- the terms, with each text seen by a function: as its characters, or as its bytes
abbrev pub node_by : (List ℕ → List ℕ) → NodeRef → Node
node_by f (node.Label v) = Label (f v.text.now)
node_by f (node.Anon n) = Anon n
node_by f (node.Cell n) = Cell n

-- the language tag or the datatype of a literal, its text seen so
abbrev pub tail_by : (List ℕ → List ℕ) → TailRef → Tail
tail_by f (tail.Lang v) = Lang (f v.text.now)
tail_by f (tail.Typed v) = Typed (f v.text.now)

-- a subject or a graph label, its text seen so
abbrev pub subject_by : (List ℕ → List ℕ) → SubjectRef → Subject
subject_by f (subject.Iri v) = Iri (f v.text.now)
subject_by f (subject.Node n) = Blank (node_by f n)

-- an object, each of its texts seen so
abbrev pub term_by : (List ℕ → List ℕ) → TermRef → Term
term_by f (term.Iri v) = Resource (Iri (f v.text.now))
term_by f (term.Node n) = Resource (Blank (node_by f n))
term_by f (term.Literal l) = Literal (f l.lexical.now) (tail_by f l.tail)

-- a quad, each of its texts seen so
abbrev pub quad_by : (List ℕ → List ℕ) → QuadRef → Quad
quad_by f q =
    record { subject = subject_by f q.subject; predicate = f q.predicate.text.now; object = term_by f q.object; graph = option_map (subject_by f) q.graph }

-- the quad of three IRIs, in the default graph
abbrev pub iris_quad : IriView → IriView → IriView → QuadRef
iris_quad s p o = record { subject = subject.Iri s; predicate = p; object = term.Iri o; graph = None }

-- the node and the quad that a view means
abbrev pub node_of : NodeRef → Node
node_of n = node_by chars n

-- the quad that a view stands for, its texts as characters
abbrev pub quad_of : QuadRef → Quad
quad_of q = quad_by chars q
