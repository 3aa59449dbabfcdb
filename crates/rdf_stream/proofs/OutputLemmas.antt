-- A graph as a text.
use Rattle.rdf_stream.proofs.Prelude.{◌≡◌, ℕ, List, [], ◌∷◌, None, Some, length, refl, sym, ap, ◌∙◌, arith, false≢true, chars-nil, chars, IsIri, has_scheme}
use Rattle.rdf_stream.specs.GraphTexts.{graph_in}

-- the text of an IRI has characters, so it is that of a graph
pub graph_text : (bytes iri : List ℕ) → chars bytes ≡ iri → IsIri iri → graph_in bytes ≡ Some iri
graph_text [] iri e is = absurd (false≢true (ap has_scheme (sym chars-nil ∙ e) ∙ is.scheme))
graph_text (b ∷ bytes) iri e is = ap Some e

-- there is no graph in an empty text
pub no_graph : (bytes : List ℕ) → length bytes ≡ 0 → graph_in bytes ≡ None
no_graph [] h = refl
no_graph (b ∷ bytes) h = absurd (omega (arith, h))
