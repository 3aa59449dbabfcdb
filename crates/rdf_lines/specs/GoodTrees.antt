-- The documents of a form by their trees. That these are the documents by tokens and quads is shown in proofs/GoodTreesLemmas.
use Rattle.std.specs.Prelude.{◌≡◌, ℕ, Bool, true, List, Option, Some, None}
use Rattle.rdf_tokens.specs.Leaves.{iri_of}
use Rattle.rdf_lines.specs.declared.form.LineForm.{LineForm}
use Rattle.rdf_lines.specs.Lines.{Name, Ref, Lab, Object, Named, Plain, WithType, WithTag, Statement, Line, empty, one, Document, last, next, graph_fits}

-- each IRI of a name passes a test
abbrev pub name_bound : (List ℕ → Bool) → Name → Type 0
name_bound test (Ref l) = test (iri_of l) ≡ true
name_bound test (Lab l) = Unit

-- the same of an object
abbrev pub object_bound : (List ℕ → Bool) → Object → Type 0
object_bound test (Named n) = name_bound test n
object_bound test (Plain s) = Unit
object_bound test (WithType s c i) = test (iri_of i) ≡ true
object_bound test (WithTag s t) = Unit

-- the same of a graph label
abbrev pub graph_bound : (List ℕ → Bool) → Option Name → Type 0
graph_bound test None = Unit
graph_bound test (Some n) = name_bound test n

-- a statement of the form whose IRIs pass the test
pub record GoodStatement (test : List ℕ → Bool) (form : LineForm) (s : Statement) : Type 0 where
  pub subject : name_bound test s.subject
  pub predicate : test (iri_of s.predicate) ≡ true
  pub object : object_bound test s.object
  pub graph : graph_bound test s.graph
  pub labels : graph_fits form s.graph

-- a line of such a statement, or of none
abbrev pub GoodLine : (List ℕ → Bool) → LineForm → Line → Type 0
GoodLine test form empty = Unit
GoodLine test form (one s) = GoodStatement test form s

-- a document of such lines
abbrev pub GoodDocument : (List ℕ → Bool) → LineForm → Document → Type 0
GoodDocument test form (last l e) = GoodLine test form l
GoodDocument test form (next l e d) = GoodLine test form l × GoodDocument test form d
