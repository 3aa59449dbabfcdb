-- The quads of a tree without their marks: what the machine gives out.
use Rattle.rdf_lines.proofs.Prelude.{◌≡◌, Bool, ℕ, List, [], ◌∷◌, ◌++◌, Token, Quad, LineForm, Line, Document, last, next, document_tokens, GoodDocument}
use Rattle.rdf_lines.specs.Lines.{quad_of}
use Rattle.rdf_lines.specs.Lines as L

-- those of a line
abbrev pub plain_line : Line → List Quad
plain_line L.empty = []
plain_line (L.one s) = quad_of s ∷ []

-- those of a document, in order
abbrev pub plain_quads : Document → List Quad
plain_quads (last l e) = plain_line l
plain_quads (next l e d) = plain_line l ++ plain_quads d

-- the tokens are a document of the form, with these quads
abbrev pub IsPlain : (List ℕ → Bool) → LineForm → List Token → List Quad → Type 0
IsPlain test form ts qs = (d : Document) × (ts ≡ document_tokens d) × GoodDocument test form d × (plain_quads d ≡ qs)
