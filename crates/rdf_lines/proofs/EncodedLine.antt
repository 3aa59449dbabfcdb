-- The bytes of a line are those of its parts, one after the other.
use Rattle.rdf_lines.proofs.Prelude.{◌≡◌, ℕ, zero, suc, ◌<◌, ◌≤◌, ◌/◌, ◌%◌, false, List, [], ◌∷◌, ◌++◌, ◌==◌, refl, sym, ap, ◌∙◌, subst, ⊎_elim, Some, arith, option_map, encode_utf8_all, decimal, bytes_eq, chars, IsUtf8, digits_onto, digit_glyph, AllByRecursion, encode, encodes, cases_Bool, cases_lt, cond-true, cond-false, false_from_ne_true, false≢true, nat_tests, bytes_eq-Decides, IsUtf8-had, encodes-append, encodes-chars, encode_ascii, encodes_same, Node, Label, Anon, Cell, xsd_string, node_of, tail_by, subject_by, term_by, iri_chars, encode_two, encode_three, encode_four, Escapes, Style, Kept, Tagged, prefix_chars, Form, prefix_node, CanWriteNode, rename_node, iri_text, node_text, subject_text, string_text, tail_text, term_text, space, graph_text, name_subject, name_term, name_graph, IsNamed, node_bytes, subject_bytes, term_bytes, graph_bytes, line_bytes, string_bytes_of, tail_bytes}
use Rattle.std.specs.Fmt.{digits}
use Rattle.rdf_terms.specs.declared.views.NodeRef.{NodeRef}
use Rattle.rdf_terms.specs.declared.views.NodeRef.TheVariants as node_ref
use Rattle.rdf_terms.specs.declared.views.TailRef.{TailRef}
use Rattle.rdf_terms.specs.declared.views.SubjectRef.{SubjectRef}
use Rattle.rdf_terms.specs.declared.views.QuadRef.{QuadRef}
use Rattle.rdf_terms.specs.declared.views.TagView.{TagView}
use Rattle.rdf_lines.specs.declared.prefix.NodePrefixView.{NodePrefixView}
use Rattle.rdf_lines.specs.WrittenBytes.{iri_bytes}

-- an ASCII character is its own byte
pub low : (c : ℕ) (w : List ℕ) → c < 128 → encodes (c ∷ w) ≡ c ∷ encodes w
low c w l = ap (λ x. x ++ encodes w) (encode_ascii c l)

-- the bytes of a character from U+0080 on are from 128 on, so none of them is escaped
pub high_bytes : (c : ℕ) → 128 ≤ c → AllByRecursion (λ b. 128 ≤ b) (encode c)
high_bytes c l =
    ⊎_elim
    (λ h. subst (AllByRecursion (λ b. 128 ≤ b)) (sym (encode_two c l h)) (omega arith, (omega arith, tt)))
    (λ h. ⊎_elim
    (λ i. subst (AllByRecursion (λ b. 128 ≤ b)) (sym (encode_three c h i)) (omega arith, (omega arith, (omega arith, tt))))
    (λ i. subst (AllByRecursion (λ b. 128 ≤ b)) (sym (encode_four c i)) (omega arith, (omega arith, (omega arith, (omega arith, tt)))))
    (cases_lt c 65536))
    (cases_lt c 2048)

-- in delimiters
pub between : (a b : ℕ) (w : List ℕ) → a < 128 → b < 128 → encode_utf8_all (a ∷ w ++ b ∷ []) ≡ a ∷ encode_utf8_all w ++ b ∷ []
between a b w l m = low a (w ++ b ∷ []) l ∙ ap (λ x. a ∷ x) (encodes-append w (b ∷ []) ∙ ap (λ x. encodes w ++ x) (low b [] m))

-- a label with its `_:`, in bytes
in_front : (w v : List ℕ) → encodes w ≡ v → encodes (95 ∷ 58 ∷ w) ≡ 95 ∷ 58 ∷ v
in_front w v e = low 95 (58 ∷ w) (omega arith) ∙ ap (λ x. 95 ∷ x) (low 58 w (omega arith) ∙ ap (λ x. 58 ∷ x) e)

-- a text after an ASCII character, in bytes
pub after : (c : ℕ) (w v : List ℕ) → c < 128 → encode_utf8_all w ≡ v → encode_utf8_all (c ∷ w) ≡ c ∷ v
after c w v l e = low c w l ∙ ap (λ x. c ∷ x) e

-- digits are of ASCII
encoded_digits : (k n : ℕ) (w : List ℕ) → encodes w ≡ w → encodes (digits_onto k 10 false n w) ≡ digits_onto k 10 false n w
encoded_digits zero n w e = e
encoded_digits (suc k) n w e =
    let d = digit_glyph false (n % 10) ∷ w in
    let f : encodes d ≡ d = after (digit_glyph false (n % 10)) w w (grind (arith, nat_tests)) e in
    ⊎_elim
    (λ t. subst (λ x. encodes x ≡ x) (sym (cond-true (n / 10 == 0) d _ t)) f)
    (λ t. subst (λ x. encodes x ≡ x) (sym (cond-false (n / 10 == 0) d _ t)) (encoded_digits k (n / 10) d f))
    (cases_Bool (n / 10 == 0))

-- decimal digits are their own bytes
number : (n : ℕ) → encodes (decimal n) ≡ decimal n
unfolding digits
number n = encoded_digits 64 n [] refl

-- the label that the style gives a node, its bytes known
pub encoded_label : (s : Style) (n : NodeRef) (w : List ℕ) → IsNamed s n w → (x : List ℕ) × (rename_node s (node_of n) ≡ Label x) × (encodes x ≡ w)
encoded_label Kept (node_ref.Label v) w e = let z : v.text.now ≡ w = cc in (chars v.text.now, refl, encodes-chars v.text.now (IsUtf8-had _ v.utf8) ∙ z)
encoded_label Kept (node_ref.Anon n) w e = absurd (let z : Anon n ≡ Label w = e in cc)
encoded_label Kept (node_ref.Cell n) w e = absurd (let z : Cell n ≡ Label w = e in cc)
encoded_label Tagged (node_ref.Label v) w e =
    let z : 110 ∷ v.text.now ≡ w = cc in
    (110 ∷ chars v.text.now, refl, after 110 (chars v.text.now) v.text.now (omega arith) (encodes-chars v.text.now (IsUtf8-had _ v.utf8)) ∙ z)
encoded_label Tagged (node_ref.Anon n) w e = let z : 97 ∷ decimal n ≡ w = cc in
    (97 ∷ decimal n, refl, after 97 (decimal n) (decimal n) (omega arith) (number n) ∙ z)
encoded_label Tagged (node_ref.Cell n) w e = let z : 99 ∷ decimal n ≡ w = cc in
    (99 ∷ decimal n, refl, after 99 (decimal n) (decimal n) (omega arith) (number n) ∙ z)

-- the name of a node, in bytes
pub encoded_name : (s : Style) (n : NodeRef) (w : List ℕ) → IsNamed s n w → encodes (node_text (rename_node s (node_of n))) ≡ 95 ∷ 58 ∷ w
encoded_name s n w e = let (x, is, b) = encoded_label s n w e in ap (λ m. encodes (node_text m)) is ∙ in_front x w b

-- the same with a word in front
pub encoded_node : (f : Form) (n : NodeRef) (p w : List ℕ) → encodes f.prefix ≡ p → IsNamed f.style n w → node_bytes f n ≡ 95 ∷ 58 ∷ (p ++ w)
encoded_node f n p w h e =
    let (x, is, b) = encoded_label f.style n w e in
    ap (λ m. encodes (node_text (prefix_node f.prefix m))) is
    ∙ in_front (f.prefix ++ x) (p ++ w) (encodes-append f.prefix x ∙ (ap (λ y. y ++ encodes x) h ∙ ap (λ y. p ++ y) b))

-- a word is its own bytes
pub encoded_prefix : (v : NodePrefixView) → encodes (prefix_chars v) ≡ v.word.now
encoded_prefix v = encodes-chars v.word.now (IsUtf8-had _ v.utf8)

-- a node that the style can't write has no text
pub encoded_none : (f : Form) (n : NodeRef) → (CanWriteNode f.style (node_of n) → ⊥) → node_bytes f n ≡ []
encoded_none f n h = ap encodes (by f.style (node_of n) h)
  where
    by : (s : Style) (m : Node) → (CanWriteNode s m → ⊥) → node_text (prefix_node f.prefix (rename_node s m)) ≡ []
    by Kept (Label x) h = absurd (h tt)
    by Kept (Anon n) h = refl
    by Kept (Cell n) h = refl
    by Tagged m h = absurd (h tt)

-- a tag
pub encoded_tag : (v : TagView) → encode_utf8_all (64 ∷ chars v.text.now) ≡ 64 ∷ v.text.now
encoded_tag v = after 64 (chars v.text.now) v.text.now (omega arith) (encodes-chars v.text.now (IsUtf8-had _ v.utf8))

-- a type
pub xsd : encodes xsd_string ≡ xsd_string
unfolding encode
xsd = refl

-- whether a type is xsd:string may be asked of its bytes
pub same_type : (w : List ℕ) → IsUtf8 w → bytes_eq (chars w) xsd_string ≡ bytes_eq w xsd_string
same_type w u =
    let D = bytes_eq-Decides (chars w) xsd_string in
    let E = bytes_eq-Decides w xsd_string in
    ⊎_elim
    (λ t. t ∙ sym (E.1 (sym (encodes-chars w u) ∙ (ap encodes (D.0 t) ∙ xsd))))
    (λ f. f ∙ sym (false_from_ne_true _ (λ t. false≢true (sym f ∙ D.1 (encodes_same (chars w) xsd_string (encodes-chars w u ∙ (E.0 t ∙ sym xsd)))))))
    (cases_Bool (bytes_eq (chars w) xsd_string))

-- a datatype's two carets are their own bytes
pub encoded_type : (e : Escapes) (i : List ℕ) → encode_utf8_all (94 ∷ 94 ∷ iri_text e i) ≡ 94 ∷ 94 ∷ encode_utf8_all (iri_text e i)
encoded_type e i = after 94 (94 ∷ iri_text e i) _ (omega arith) (after 94 (iri_text e i) _ (omega arith) refl)

-- a text and its bytes
record Coded (u a : List ℕ) : Type 0 where
  is : encodes u ≡ a

-- two texts encode to their bytes in a row
joined : {u v a b : List ℕ} → Coded u a → Coded v b → Coded (u ++ v) (a ++ b)
joined {u} {v} {a} {b} e f = record { is = encodes-append u v ∙ (ap (λ x. x ++ encodes v) e.is ∙ ap (λ x. a ++ x) f.is) }

-- the space between terms is its own byte
blank : Coded space space
blank = record { is = low 32 [] (omega arith) }

-- a text has the bytes that encode it
itself : (u : List ℕ) → Coded u (encodes u)
itself u = record { is = refl }

-- a graph label, and its space
pub encoded_graph : (f : Form) (g : SubjectRef) → graph_bytes f (Some g) ≡ subject_bytes f g ++ space
encoded_graph f g = (joined (itself (subject_text f.escapes (name_subject f (subject_by chars g)))) blank).is

-- the line that is written from bytes is the UTF-8 of the line by the definition
pub encoded_line : (f : Form) (q : QuadRef) →
    line_bytes f q ≡ (subject_bytes f q.subject ++ space) ++ (iri_bytes f.escapes q.predicate ++ space) ++ (term_bytes f q.object ++ space)
    ++ graph_bytes f q.graph ++ (46 ∷ []) ++ (10 ∷ [])
encoded_line f q =
    let a = joined (itself (subject_text f.escapes (name_subject f (subject_by chars q.subject)))) blank in
    let b = joined (itself (iri_text f.escapes (iri_chars q.predicate))) blank in
    let c = joined (itself (term_text f.escapes (name_term f (term_by chars q.object)))) blank in
    let d = itself (graph_text f.escapes (name_graph f (option_map (subject_by chars) q.graph))) in
    let dot : Coded (46 ∷ []) (46 ∷ []) = record { is = low 46 [] (omega arith) } in
    let feed : Coded (10 ∷ []) (10 ∷ []) = record { is = low 10 [] (omega arith) } in
    (joined (joined (joined (joined (joined a b) c) d) dot) feed).is

-- a string, and what follows it
pub literal_bytes : (e : Escapes) (w : List ℕ) (t : TailRef) → encode_utf8_all (string_text e (chars w) ++ tail_text e (tail_by chars t))
    ≡ string_bytes_of e w ++ tail_bytes e t
literal_bytes e w t = encodes-append (string_text e (chars w)) (tail_text e (tail_by chars t))
