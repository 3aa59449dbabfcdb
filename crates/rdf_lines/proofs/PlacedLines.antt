-- The bytes of the parts of a line whose texts stand as they are.
use Rattle.rdf_lines.proofs.Prelude.{◌≡◌, ◌≤◌, ℕ, Option, Some, None, List, [], ◌∷◌, ◌++◌, append_assoc, refl, ap, length, subst, sym, take, ◌∙◌, arith, flat_map, decimal, encode_utf8_all, chars, form_of, append-nil, length-append, length-take, length-take-le, Placed, iri_chars, iris_quad, tail_by, Escapes, Style, Kept, Tagged, Form, unprefixed, IsShort, IsShortGraph, IsShortSubject, IsShortTerm, label_bytes, number_bytes, graph_text, space, string_text, tail_text, written, graph_bytes, iris_bytes, line_bytes, node_bytes, subject_bytes, term_bytes, usual}
use Rattle.rdf_terms.specs.declared.views.QuadRef.{QuadRef}
use Rattle.rdf_terms.specs.declared.views.SubjectRef.{SubjectRef}
use Rattle.rdf_terms.specs.declared.views.SubjectRef.TheVariants as subject
use Rattle.rdf_terms.specs.Terms.{Iri}
use Rattle.rdf_lines.specs.declared.form.WrittenForm.{WrittenForm}
use Rattle.std.proofs.Math.Nat.{min-le_right}
use Rattle.rdf_terms.specs.declared.views.IriView.{IriView}
use Rattle.rdf_terms.specs.declared.views.LabelView.{LabelView}
use Rattle.rdf_terms.specs.declared.views.NodeRef.TheVariants as node_ref
use Rattle.rdf_terms.specs.declared.views.TermRef.{TermRef}
use Rattle.rdf_terms.specs.declared.views.TermRef.TheVariants as term
use Rattle.rdf_lines.specs.declared.form.Escapes.TheVariants.{Plain}
use Rattle.rdf_lines.specs.WrittenBytes.{iri_bytes}
use Rattle.rdf_lines.proofs.EncodedLine.{between, encoded_line, encoded_node}
use Rattle.rdf_lines.proofs.EscapedRuns.{plain_iri}

-- an IRI in its brackets, in the plain form
pub plain_iri_bytes : (i : IriView) → iri_bytes Plain i ≡ 60 ∷ i.text.now ++ 62 ∷ []
plain_iri_bytes i = between 60 62 (flat_map (written Plain) (iri_chars i)) (omega arith) (omega arith) ∙ ap (λ x. 60 ∷ x ++ 62 ∷ []) (plain_iri i)

-- the label of a node, with a word in front
pub placed_label : (s : Style) (e : Escapes) (prefix word : List ℕ) (l : LabelView) → encode_utf8_all prefix ≡ word
    → label_bytes s word l.text.now ≡ node_bytes (record { style = s; escapes = e; prefix = prefix }) (node_ref.Label l)
placed_label Kept e prefix word l h = sym (encoded_node (record { style = Kept; escapes = e; prefix = prefix }) (node_ref.Label l) word l.text.now h refl)
placed_label Tagged e prefix word l h =
    sym (encoded_node (record { style = Tagged; escapes = e; prefix = prefix }) (node_ref.Label l) word (110 ∷ l.text.now) h refl)

-- the offset of a node without a label
pub placed_anon : (s : Style) (e : Escapes) (prefix word : List ℕ) (n : ℕ) → encode_utf8_all prefix ≡ word
    → number_bytes s word 97 n ≡ node_bytes (record { style = s; escapes = e; prefix = prefix }) (node_ref.Anon n)
placed_anon Kept e prefix word n h = refl
placed_anon Tagged e prefix word n h =
    sym (encoded_node (record { style = Tagged; escapes = e; prefix = prefix }) (node_ref.Anon n) word (97 ∷ decimal n) h refl)

-- the same of a cell
pub placed_cell : (s : Style) (e : Escapes) (prefix word : List ℕ) (n : ℕ) → encode_utf8_all prefix ≡ word
    → number_bytes s word 99 n ≡ node_bytes (record { style = s; escapes = e; prefix = prefix }) (node_ref.Cell n)
placed_cell Kept e prefix word n h = refl
placed_cell Tagged e prefix word n h =
    sym (encoded_node (record { style = Tagged; escapes = e; prefix = prefix }) (node_ref.Cell n) word (99 ∷ decimal n) h refl)

-- the line of three IRIs is that of their quad
pub plain_iris_bytes : (f : Form) (s p o : IriView) → f.escapes ≡ Plain → iris_bytes s p o ≡ line_bytes f (iris_quad s p o)
plain_iris_bytes f s p o plain =
    let front : Escapes → List ℕ = λ e. (iri_bytes e s ++ space) ++ (iri_bytes e p ++ space) ++ (iri_bytes e o ++ space) in
    let end = ap (λ x. (x ++ 46 ∷ []) ++ 10 ∷ []) (sym (append-nil (front f.escapes))) in
    ap (λ e. front e ++ 46 ∷ 10 ∷ []) (sym plain) ∙ sym (append_assoc (front f.escapes) (46 ∷ []) (10 ∷ [])) ∙ end ∙ sym (encoded_line f (iris_quad s p o))

-- what was placed ends within the bytes
pub placed_within : {a b xs : List ℕ} {i j : ℕ} → i ≤ length a → Placed a b i xs j → j ≤ length b
placed_within {a} {b} {xs} {i} {j} within p =
    let lens = sym (length-take j b) ∙ ap length p.bytes ∙ length-append (take i a) xs in
    omega (arith, lens, p.moved, length-take-le i a within, min-le_right j (length b))

-- a form that names nodes by their letters alone, in the plain form, is the usual one
same_form : (f : WrittenForm) → f.escapes ≡ Plain → f.style ≡ Tagged → f.prefix.word.now ≡ [] → usual ≡ form_of f
unfolding chars
same_form f e s p =
    ap (λ x. unprefixed x Plain) (sym s) ∙ ap (unprefixed f.style) (sym e) ∙ ap (λ w. record { style = f.style; escapes = f.escapes; prefix = chars w }) (sym p)

-- each part of a short line is written in the usual form as it is in its own
usual_subject : (f : WrittenForm) (s : SubjectRef) → f.escapes ≡ Plain → IsShortSubject f s → subject_bytes usual s ≡ subject_bytes (form_of f) s
usual_subject f (subject.Iri i) e h = ap (λ x. iri_bytes x i) (sym e)
usual_subject f (subject.Node n) e h = ap (λ g. subject_bytes g (subject.Node n)) (same_form f e h.0 h.1)

usual_term : (f : WrittenForm) (o : TermRef) → f.escapes ≡ Plain → IsShortTerm f o → term_bytes usual o ≡ term_bytes (form_of f) o
usual_term f (term.Iri i) e h = ap (λ x. iri_bytes x i) (sym e)
usual_term f (term.Node n) e h = ap (λ g. term_bytes g (term.Node n)) (same_form f e h.0 h.1)
usual_term f (term.Literal l) e h = ap (λ x. encode_utf8_all (string_text x (chars l.lexical.now) ++ tail_text x (tail_by chars l.tail))) (sym e)

usual_graph : (f : WrittenForm) (g : Option SubjectRef) → f.escapes ≡ Plain → IsShortGraph g → graph_bytes usual g ≡ graph_bytes (form_of f) g
usual_graph f None e h = refl
usual_graph f (Some (subject.Iri i)) e h = ap (λ x. encode_utf8_all (graph_text x (Some (Iri (iri_chars i))))) (sym e)
usual_graph f (Some (subject.Node n)) e h = absurd h

-- the line of a short quad in the usual form is its line
pub short_line : (f : WrittenForm) (q : QuadRef) → IsShort f q →
    (subject_bytes usual q.subject ++ space) ++ (iri_bytes Plain q.predicate ++ space) ++ (term_bytes usual q.object ++ space)
    ++ graph_bytes usual q.graph ++ 46 ∷ 10 ∷ []
    ≡ line_bytes (form_of f) q
short_line f q h =
    let e = h.plain in
    let line : List ℕ → List ℕ → List ℕ → List ℕ → List ℕ = λ s p o g. (s ++ space) ++ (p ++ space) ++ (o ++ space) ++ g in
    let front = line (subject_bytes usual q.subject) (iri_bytes Plain q.predicate) (term_bytes usual q.object) (graph_bytes usual q.graph) in
    let whole =
    ap (λ s. line s (iri_bytes Plain q.predicate) (term_bytes usual q.object) (graph_bytes usual q.graph)) (usual_subject f q.subject e h.subject)
    ∙ ap (λ x. line (subject_bytes (form_of f) q.subject) (iri_bytes x q.predicate) (term_bytes usual q.object) (graph_bytes usual q.graph)) (sym e)
    ∙ ap (λ o. line (subject_bytes (form_of f) q.subject) (iri_bytes f.escapes q.predicate) o (graph_bytes usual q.graph)) (usual_term f q.object e h.object)
    ∙ ap (line (subject_bytes (form_of f) q.subject) (iri_bytes f.escapes q.predicate) (term_bytes (form_of f) q.object)) (usual_graph f q.graph e h.graph) in
    sym (append_assoc front (46 ∷ []) (10 ∷ [])) ∙ ap (λ x. (x ++ 46 ∷ []) ++ 10 ∷ []) whole ∙ sym (encoded_line (form_of f) q)

-- what was placed, in the same bytes up to the same end
pub placed_at : {a b c xs : List ℕ} {i j k : ℕ} → c ≡ b → k ≡ j → Placed a b i xs j → Placed a c i xs k
placed_at {a} {b} {c} {xs} {i} {j} {k} e f p = subst (λ l. Placed a l i xs k) (sym e) (subst (λ n. Placed a b i xs n) (sym f) p)
