-- A document of a line format names each of its blank nodes, so the quads that are due of it can be written with their labels kept. With
-- labels renamed each quad can be written.
use Rattle.rdf_stream.proofs.Prelude.{ℕ, Bool, true, false, List, [], ◌∷◌, length, subst, Option, Some, None, cond, AllByRecursion, Blank, Iri, Literal, Quad, Resource, Subject, Term, Tagged, Token, items_below, Due, LineForm, CanWrite, option_map, ◌≡◌, sym, Style, Rules, line_words, Chosen, tree_words, IsConvertible, of_quads}
use Rattle.rdf_lines.specs.declared.form.Style.TheVariants.{Kept}
use Rattle.rdf_lines.specs.Lines.{Name, Ref, Lab, Object, Named, Plain, WithType, WithTag, Statement, empty, one, Document, last, next, subject_of, term_of, quad_of, document_quads, documents}
use Rattle.rdf_lines.specs.NodeNames.{CanWriteSubject, CanWriteTerm, CanWriteGraph}
use Rattle.rdf_lines.proofs.AcceptingLemmas.{lawful as lines_lawful}
use Rattle.rdf_trig.proofs.code.LawfulGrammar.{lawful as trees_lawful}

-- each node of a line document has a label, so it can be written as it is
name_kept : (n : Name) → CanWriteSubject Kept (subject_of n)
name_kept (Ref l) = tt
name_kept (Lab l) = tt

-- each object of a line document can be written as it is
object_kept : (o : Object) → CanWriteTerm Kept (term_of o)
object_kept (Named n) = name_kept n
object_kept (Plain s) = tt
object_kept (WithType s c i) = tt
object_kept (WithTag s t) = tt

-- each graph label of a line document can be written as it is
graph_kept : (g : Option Name) → CanWriteGraph Kept (option_map subject_of g)
graph_kept None = tt
graph_kept (Some n) = name_kept n

-- each quad of a line document can be written as it is
statement_kept : (s : Statement) → CanWrite Kept (quad_of s)
statement_kept s = record { subject = name_kept s.subject; object = object_kept s.object; graph = graph_kept s.graph }

-- what is put before the quads that are due
more_kept : (b : Bool) (q : Quad) (qs : List Quad) → CanWrite Kept q → AllByRecursion (CanWrite Kept) qs → AllByRecursion (CanWrite Kept) (cond b (q ∷ qs) qs)
more_kept true q qs h hs = (h, hs)
more_kept false q qs h hs = hs

-- the quads that are due of a line document can be written with their labels kept
marked_kept : (d : Document) (n k : ℕ) → AllByRecursion (CanWrite Kept) (items_below k (document_quads n d))
marked_kept (last empty e) n k = tt
marked_kept (last (one s) e) n k = more_kept _ (quad_of s) [] (statement_kept s) tt
marked_kept (next empty e d) n k = marked_kept d _ k
marked_kept (next (one s) e d) n k = more_kept _ (quad_of s) _ (statement_kept s) (marked_kept d _ k)

-- what is due after some tokens
pub due_kept : (f : LineForm) (ts : List Token) (qs : List Quad) → Due (documents f) ts qs → AllByRecursion (CanWrite Kept) qs
due_kept f ts qs d =
    let (tree, same, good, marks) = d.2 in
    subst (AllByRecursion (CanWrite Kept)) d.3
    (subst (λ ms. AllByRecursion (CanWrite Kept) (items_below (length ts) ms)) marks (marked_kept tree 0 (length ts)))

-- with a letter before it each node can be written
subject_tagged : (s : Subject) → CanWriteSubject Tagged s
subject_tagged (Iri i) = tt
subject_tagged (Blank n) = tt

-- with a letter before its label each object can be written
term_tagged : (t : Term) → CanWriteTerm Tagged t
term_tagged (Resource s) = subject_tagged s
term_tagged (Literal w t) = tt

-- with a letter before its label each graph label can be written
graph_tagged : (g : Option Subject) → CanWriteGraph Tagged g
graph_tagged None = tt
graph_tagged (Some s) = subject_tagged s

-- Labels are renamed, so each quad can be written.
all_tagged : (qs : List Quad) → AllByRecursion (CanWrite Tagged) qs
all_tagged [] = tt
all_tagged (q ∷ qs) = (record { subject = subject_tagged q.subject; object = term_tagged q.object; graph = graph_tagged q.graph }, all_tagged qs)

-- The line formats suit lines with labels kept.
pub lines_convertible : (x : Rules) (style : Style) → style ≡ Kept → IsConvertible of_quads line_words x style
lines_convertible x style e =
    subst (IsConvertible of_quads line_words x) (sym e) (record { lawful = lines_lawful; can_write = λ ts quads d. due_kept x.form ts quads d })

-- Turtle and TriG suit lines with labels renamed.
pub trees_convertible : (x : Chosen) (style : Style) → style ≡ Tagged → IsConvertible of_quads tree_words x style
trees_convertible x style e = subst (IsConvertible of_quads tree_words x) (sym e) (record { lawful = trees_lawful; can_write = λ ts quads d. all_tagged quads })
