-- Quads that are written in a graph keep the limits that its IRI keeps.
use Rattle.rdf_read_back.proofs.Prelude.{ℕ, ◌≤◌, List, [], ◌∷◌, length, Option, Some, None, option_map, map, IfSome, AllByRecursion, Quad, byte_len, Escapes, iri_text, rename, GraphShort, GraphWithin, IrisWithin, TokensWithin}
use Rattle.rdf_terms.specs.Terms.{Subject}
use Rattle.rdf_lines.specs.declared.form.Style.{Style}
use Rattle.rdf_lines.specs.NodeNames.{rename_subject}
use Rattle.rdf_stream.specs.Graphs.{all_in_graph, in_graph, or_graph}

module _ (s : Style) (e : Escapes) (n : ℕ) where
  -- the label of a quad is short where the graph's IRI is
  label_short : (i : List ℕ) → length (iri_text e i) ≤ n → (g : Option Subject) → GraphShort e n (option_map (rename_subject s) g)
      → GraphShort e n (option_map (rename_subject s) (or_graph i g))
  label_short i l None h = l
  label_short i l (Some g) h = h

  -- so are all tokens of the quad
  quad_short : (g : Option (List ℕ)) → IfSome g (λ i. length (iri_text e i) ≤ n) → (q : Quad) → TokensWithin e n (rename s q) →
      TokensWithin e n (rename s (in_graph g q))
  quad_short None l q h = h
  quad_short (Some i) l q h = record { subject = h.subject; predicate = h.predicate; object = h.object; graph = label_short i l q.graph h.graph }

  -- and those of all quads
  pub placed_shorts : (g : Option (List ℕ)) → IfSome g (λ i. length (iri_text e i) ≤ n) → (qs : List Quad) →
      AllByRecursion (TokensWithin e n) (map (rename s) qs)
      → AllByRecursion (TokensWithin e n) (map (rename s) (all_in_graph g qs))
  placed_shorts g l [] h = tt
  placed_shorts g l (q ∷ qs) h = (quad_short g l q h.0, placed_shorts g l qs h.1)

module _ (n : ℕ) where
  -- the label of a quad has few bytes where the graph has
  label_within : (i : List ℕ) → byte_len i ≤ n → (g : Option Subject) → GraphWithin n g → GraphWithin n (or_graph i g)
  label_within i l None h = l
  label_within i l (Some g) h = h

  -- so have all IRIs of the quad
  quad_within : (g : Option (List ℕ)) → IfSome g (λ i. byte_len i ≤ n) → (q : Quad) → IrisWithin n q → IrisWithin n (in_graph g q)
  quad_within None l q h = h
  quad_within (Some i) l q h = record { subject = h.subject; predicate = h.predicate; object = h.object; graph = label_within i l q.graph h.graph }

  -- and those of all quads
  pub placed_iris : (g : Option (List ℕ)) → IfSome g (λ i. byte_len i ≤ n) → (qs : List Quad) → AllByRecursion (IrisWithin n) qs →
      AllByRecursion (IrisWithin n) (all_in_graph g qs)
  placed_iris g l [] h = tt
  placed_iris g l (q ∷ qs) h = (quad_within g l q h.0, placed_iris g l qs h.1)
