-- The graph that quads of the default graph are written in, where one was asked for.
use Rattle.std.specs.Prelude.{ℕ, List, map, Option, Some, None}
use Rattle.rdf_terms.specs.Terms.{Subject, Iri, Quad}

-- the label that a quad has, and where it has none, the graph
abbrev pub or_graph : List ℕ → Option Subject → Option Subject
or_graph g None = Some (Iri g)
or_graph g (Some label) = Some label

-- a quad of the default graph gets the graph, where there is one; a quad that has a graph stays as it is
abbrev pub in_graph : Option (List ℕ) → Quad → Quad
in_graph None q = q
in_graph (Some g) q = record q { graph = or_graph g q.graph }

-- each of the quads so
abbrev pub all_in_graph : Option (List ℕ) → List Quad → List Quad
all_in_graph g qs = map (in_graph g) qs
