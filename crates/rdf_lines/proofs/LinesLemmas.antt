-- The quads of a tree with their marks and without: those that are due without their marks are those that the machine gives out.
use Rattle.rdf_lines.proofs.Prelude.{◌≡◌, ℕ, ◌+◌, Bool, List, ◌∷◌, refl, sym, ap, ◌∙◌, subst, length, AllByRecursion, Token, Marked, unmarked, Quad, has_scheme, LineForm, Line, Document, last, next, line_tokens, line_quads, document_tokens, document_quads, iri_passes, graph_fits, IsDocument, documents, GoodDocument}
use Rattle.rdf_lines.specs.Lines.{quad_of}
use Rattle.rdf_lines.proofs.GoodTreesLemmas.{tree_good, tree_passes, tree_labels}
use Rattle.rdf_lines.proofs.PlainQuads.{plain_line, plain_quads, IsPlain}
use Rattle.rdf_lines.specs.Lines as L

-- a line has the same quads with marks and without
unmarked_line : (n : ℕ) (l : Line) → unmarked (line_quads n l) ≡ plain_line l
unmarked_line n L.empty = refl
unmarked_line n (L.one s) = refl

-- a document has the same quads with marks and without
pub unmarked_quads : (n : ℕ) (d : Document) → unmarked (document_quads n d) ≡ plain_quads d
unmarked_quads n (last l e) = unmarked_line n l
unmarked_quads n (next L.empty e d) = unmarked_quads (n + length (line_tokens L.empty) + 1) d
unmarked_quads n (next (L.one s) e d) = ap (λ x. quad_of s ∷ x) (unmarked_quads (n + length (line_tokens (L.one s)) + 1) d)

-- a tree of the form with its tokens and its quads is a document
pub good_document : (test : List ℕ → Bool) (f : LineForm) (ts : List Token) (d : Document) → ts ≡ document_tokens d →
    GoodDocument test f d → IsDocument test f ts (document_quads 0 d)
good_document test f ts d e h = (d, e, (subst (AllByRecursion (iri_passes test)) (sym e) (tree_passes test f d h), tree_labels test f d 0 h), refl)

-- and a document has such a tree
pub document_good : (test : List ℕ → Bool) (f : LineForm) (ts : List Token) (qs : List Marked) (d : IsDocument test f ts qs) → GoodDocument test f d.0
document_good test f ts qs d =
    tree_good test f d.0 0 (subst (AllByRecursion (iri_passes test)) d.1 d.2.0)
    (subst (AllByRecursion (λ (q : Marked). graph_fits f q.item.graph)) (sym d.3) d.2.1)

-- a document with marks is one without them
pub marked_document : (test : List ℕ → Bool) (f : LineForm) (ts : List Token) (qs : List Marked) → IsDocument test f ts qs → IsPlain test f ts (unmarked qs)
marked_document test f ts qs d = (d.0, d.1, document_good test f ts qs d, sym (unmarked_quads 0 d.0) ∙ ap unmarked d.3)

-- a document without marks has marks
pub document_marked : (test : List ℕ → Bool) (f : LineForm) (ts : List Token) (qs : List Quad) → IsPlain test f ts qs →
    (ms : List Marked) × IsDocument test f ts ms × (unmarked ms ≡ qs)
document_marked test f ts qs d = (document_quads 0 d.0, good_document test f ts d.0 d.1 d.2, unmarked_quads 0 d.0 ∙ d.3)

-- What is a document with some marks has these quads.
pub without_marks : (f : LineForm) (ts : List Token) (qs : List Quad) → (all : List Marked) × documents f ts all × (unmarked all ≡ qs) →
    IsPlain has_scheme f ts qs
without_marks f ts qs d = subst (IsPlain has_scheme f ts) d.2 (marked_document has_scheme f ts d.0 d.1)
