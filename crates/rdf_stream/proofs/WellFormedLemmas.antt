-- That a quad is well formed is one fact: where it holds under a truncation, it holds.
use Rattle.rdf_stream.proofs.Prelude.{◌≡◌, ℕ, List, Bool, true, Option, Some, None, Node, Label, Anon, Cell, Tail, Lang, Typed, Subject, Iri, Blank, Term, Resource, Literal, Quad, IsIri, IsNode, IsSubject, IsTail, IsTerm, IsGraph, IsQuad}
use Rattle.std.proofs.Math.Logic.{∥∥₁_elim, ∥∥₁_map}
use Rattle.std.proofs.Math.Bool.{Bool-set}
use Rattle.std.proofs.Math.Bridge.{le_prop}
use Rattle.rdf_terms.specs.declared.kind.Dialect.TheVariants.{Lines}
use Rattle.rdf_terms.specs.Regex.{Regex, Matches}
use Rattle.rdf_terms.specs.Shapes.{label_name, tag_name}
use Rattle.rdf_terms.proofs.ShapesLemmas.{form-matches, matches-form}

-- that a test holds is one fact
untruncated_truth : (b : Bool) → ∥ b ≡ true ∥₁ → b ≡ true
untruncated_truth b h = ∥∥₁_elim h (Bool-set b true) (λ e. e)

-- that a text matches an expression is one fact
untruncated_matches : (r : Regex) (w : List ℕ) → ∥ Matches r w ∥₁ → Matches r w
untruncated_matches r w h = form-matches r w (untruncated_truth _ (∥∥₁_map h (matches-form r w)))

-- that a text is an absolute IRI is one fact
untruncated_iri : (w : List ℕ) → ∥ IsIri w ∥₁ → IsIri w
untruncated_iri w h = record {
  characters = untruncated_truth _ (∥∥₁_map h (λ i. i.characters));
  scheme = untruncated_truth _ (∥∥₁_map h (λ i. i.scheme));
}

-- that a blank node is well formed is one fact
untruncated_node : (n : Node) → ∥ IsNode n ∥₁ → IsNode n
untruncated_node (Label x) h = untruncated_matches (label_name Lines) x h
untruncated_node (Anon n) h = ∥∥₁_elim h le_prop (λ e. e)
untruncated_node (Cell n) h = ∥∥₁_elim h le_prop (λ e. e)

-- that a subject is well formed is one fact
untruncated_subject : (s : Subject) → ∥ IsSubject s ∥₁ → IsSubject s
untruncated_subject (Iri i) h = untruncated_iri i h
untruncated_subject (Blank n) h = untruncated_node n h

-- that a tag or datatype is well formed is one fact
untruncated_tail : (t : Tail) → ∥ IsTail t ∥₁ → IsTail t
untruncated_tail (Lang w) h = untruncated_matches tag_name w h
untruncated_tail (Typed i) h = untruncated_iri i h

-- that an object is well formed is one fact
untruncated_term : (t : Term) → ∥ IsTerm t ∥₁ → IsTerm t
untruncated_term (Resource s) h = untruncated_subject s h
untruncated_term (Literal w t) h = (untruncated_truth _ (∥∥₁_map h (λ p. p.0)), untruncated_tail t (∥∥₁_map h (λ p. p.1)))

-- that a graph label is well formed is one fact
untruncated_graph : (g : Option Subject) → ∥ IsGraph g ∥₁ → IsGraph g
untruncated_graph None h = tt
untruncated_graph (Some s) h = untruncated_subject s h

-- that a quad is well formed is one fact, so a sink may use it
pub untruncated_quad : (q : Quad) → ∥ IsQuad q ∥₁ → IsQuad q
untruncated_quad q h = record {
  subject = untruncated_subject q.subject (∥∥₁_map h (λ i. i.subject));
  predicate = untruncated_iri q.predicate (∥∥₁_map h (λ i. i.predicate));
  object = untruncated_term q.object (∥∥₁_map h (λ i. i.object));
  graph = untruncated_graph q.graph (∥∥₁_map h (λ i. i.graph));
}
