-- What the terms that own their texts mean.
use Rattle.std.specs.Prelude.{option_map}
use Rattle.std.specs.Str.{chars}
use Rattle.std.specs.String.{string_bytes}
use Rattle.rdf_terms.specs.declared.terms.Node.{Node as OwnedNode}
use Rattle.rdf_terms.specs.declared.terms.Node.TheVariants as node
use Rattle.rdf_terms.specs.declared.terms.Tail.{Tail as OwnedTail}
use Rattle.rdf_terms.specs.declared.terms.Tail.TheVariants as tail
use Rattle.rdf_terms.specs.declared.terms.Subject.{Subject as OwnedSubject}
use Rattle.rdf_terms.specs.declared.terms.Subject.TheVariants as subject
use Rattle.rdf_terms.specs.declared.terms.Term.{Term as OwnedTerm}
use Rattle.rdf_terms.specs.declared.terms.Term.TheVariants as term
use Rattle.rdf_terms.specs.declared.terms.Quad.{Quad as OwnedQuad}
use Rattle.rdf_terms.specs.Terms.{Node, Label, Anon, Cell, Tail, Lang, Typed, Subject, Iri, Blank, Term, Resource, Literal, Quad}

-- the blank node that an owned one means
abbrev pub owned_node : {A : Type 0} → OwnedNode A → Node
owned_node (node.Label l) = Label l
owned_node (node.Anon n) = Anon n
owned_node (node.Cell n) = Cell n

-- the language tag or the datatype of an owned literal
abbrev pub owned_tail : {A : Type 0} → OwnedTail A → Tail
owned_tail (tail.Lang t) = Lang t
owned_tail (tail.Typed i) = Typed i

-- the subject or graph label that an owned one means
abbrev pub owned_subject : {A : Type 0} → OwnedSubject A → Subject
owned_subject (subject.Iri i) = Iri i
owned_subject (subject.Node n) = Blank (owned_node n)

-- the object that an owned one means, its lexical form read as UTF-8
abbrev pub owned_term : {A : Type 0} → OwnedTerm A → Term
owned_term (term.Iri i) = Resource (Iri i)
owned_term (term.Node n) = Resource (Blank (owned_node n))
owned_term (term.Literal l) = Literal (chars (string_bytes l.lexical)) (owned_tail l.tail)

-- the quad that an owned one means
abbrev pub owned_quad : {A : Type 0} → OwnedQuad A → Quad
owned_quad q = record { subject = owned_subject q.subject; predicate = q.predicate; object = owned_term q.object; graph = option_map owned_subject q.graph }
