-- The written bytes are good text.
use Rattle.rdf_lines.proofs.Prelude.{◌≡◌, ℕ, Bool, true, false, cond, List, [], ◌∷◌, ◌++◌, ◌==◌, refl, ap, ◌∙◌, ⊎_elim, length, take, drop, Option, Some, None, arith, flat_map, encode_utf8_all, bytes_eq, AllByRecursion, chars, utf8_valid_len, scalars, cases_Bool, cond-true, cond-false, and_parts, and_from, or_cases, false≢true, eq-eqb, nat_tests, take_all, utf8_valid_len-IsUtf8, chars-encodes, Class, Lines, iri_char, Regex, Matches, nothing, many, label_name, tag_name, good, tail_of, mark, has_byte_order_mark, tokens_of, first_place, past, tokens, ended, Label, Anon, Cell, Lang, Typed, Subject, Blank, Term, Resource, Literal, Quad, xsd_string, all_have, IsIri, IsSubject, IsTerm, IsGraph, IsQuad, Escapes, Kept, uchar, written, escaped, CanWrite, iri_text, subject_text, string_text, type_text, term_text, space, graph_text, quad_text, CanWriteSubject, CanWriteTerm, CanWriteGraph, uses, all_used}
use Rattle.std.proofs.Math.Utf8.{scalar as utf8_scalar}
use Rattle.rdf_terms.specs.declared.kind.Dialect.{Dialect}
use Rattle.rdf_terms.specs.Classes.{has, scalar}
use Rattle.rdf_terms.specs.Regex.Regex.{empty, one, ◌·◌, ◌∣◌}
use Rattle.rdf_terms.specs.Terms.{Iri}
use Rattle.rdf_lines.proofs.AsciiLemmas.{low_scalars}
use Rattle.rdf_lines.proofs.UcharLemmas.{written_cases, uchar_low}
use Rattle.rdf_lines.proofs.SpelledLine.{Written, upto_subject, upto_predicate, upto_object, upto_graph}

-- each character of a matched text is a scalar value
pub uses_scalar : (r : Regex) (c : ℕ) → uses r c ≡ true → scalar c ≡ true
unfolding has
uses_scalar nothing c e = absurd (false≢true e)
uses_scalar empty c e = absurd (false≢true e)
uses_scalar (one k) c e = (and_parts (scalar c) _ e).0
uses_scalar (r · s) c e = ⊎_elim (λ x. uses_scalar r c x) (λ x. uses_scalar s c x) (or_cases (uses r c) (uses s c) e)
uses_scalar (r ∣ s) c e = ⊎_elim (λ x. uses_scalar r c x) (λ x. uses_scalar s c x) (or_cases (uses r c) (uses s c) e)
uses_scalar (many r) c e = uses_scalar r c e

-- what std calls a character is one here
same_scalar : (c : ℕ) → scalar c ≡ true → utf8_scalar c ≡ true
same_scalar c h = grind (arith, nat_tests)

-- characters of a class are characters
scalars_from : (test : ℕ → Bool) → ((c : ℕ) → test c ≡ true → scalar c ≡ true) → (w : List ℕ) → AllByRecursion (λ c. test c ≡ true) w → scalars w ≡ true
scalars_from test f [] a = refl
scalars_from test f (c ∷ w) a = and_from _ _ (same_scalar c (f c a.0)) (scalars_from test f w a.1)

-- a text of an expression consists of characters
matched_scalars : (r : Regex) (w : List ℕ) → Matches r w → scalars w ≡ true
matched_scalars r w m = scalars_from (uses r) (uses_scalar r) w (all_used r w m)

-- two texts of characters have only characters together
pub scalars_append : (u v : List ℕ) → scalars u ≡ true → scalars v ≡ true → scalars (u ++ v) ≡ true
scalars_append [] v a b = b
scalars_append (c ∷ u) v a b = let p = and_parts (utf8_scalar c) (scalars u) a in and_from _ _ p.0 (scalars_append u v p.1 b)

-- a member of a class is a character
has_scalar : (k : Class) (c : ℕ) → has k c ≡ true → scalar c ≡ true
unfolding has
has_scalar k c h = (and_parts (scalar c) _ h).0

-- a character of an IRI is written by scalar values
written_scalars : (e : Escapes) (c : ℕ) → scalar c ≡ true → scalars (written e c) ≡ true
written_scalars e c h = written_cases e (λ w. scalars w ≡ true) c (and_from _ true (same_scalar c h) refl) (λ l. low_scalars (uchar c) (uchar_low c))

-- a text is of scalar values where what stands for each character is
all_written : (f : ℕ → List ℕ) (test : ℕ → Bool) → ((c : ℕ) → test c ≡ true → scalars (f c) ≡ true) → (w : List ℕ) →
    all_have test w ≡ true → scalars (flat_map f w) ≡ true
all_written f test g [] a = refl
all_written f test g (c ∷ w) a = let p = and_parts (test c) (all_have test w) a in scalars_append (f c) (flat_map f w) (g c p.0) (all_written f test g w p.1)

-- an IRI is written in characters
iri_scalars : (e : Escapes) (i : List ℕ) → IsIri i → scalars (iri_text e i) ≡ true
iri_scalars e i h =
    scalars_append (flat_map (written e) i) (62 ∷ [])
    (all_written (written e) (has iri_char) (λ c k. written_scalars e c (has_scalar iri_char c k)) i h.characters) refl

-- a subject is written in characters
subject_scalars : (e : Escapes) (s : Subject) → IsSubject s → CanWriteSubject Kept s → scalars (subject_text e s) ≡ true
subject_scalars e (Iri i) h c = iri_scalars e i h
subject_scalars e (Blank (Label x)) h c = matched_scalars (label_name Lines) x h
subject_scalars e (Blank (Anon n)) h c = absurd c
subject_scalars e (Blank (Cell n)) h c = absurd c

-- a character is escaped in characters
escaped_scalars : (e : Escapes) (c : ℕ) → scalar c ≡ true → scalars (escaped e c) ≡ true
escaped_scalars e c h =
    test 34 _ _ refl (test 92 _ _ refl (test 10 _ _ refl (test 13 _ _ refl (written_scalars e c h))))
  where
    test : (x : ℕ) (u v : List ℕ) → scalars u ≡ true → scalars v ≡ true → scalars (cond (c == x) u v) ≡ true
    test x u v a b = ⊎_elim (λ t. ap scalars (cond-true (c == x) u v t) ∙ a) (λ t. ap scalars (cond-false (c == x) u v t) ∙ b) (cases_Bool (c == x))

-- so a string is written by scalar values
string_scalars : (e : Escapes) (w : List ℕ) → all_have scalar w ≡ true → scalars (string_text e w) ≡ true
string_scalars e w a = scalars_append (flat_map (escaped e) w) (34 ∷ []) (all_written (escaped e) scalar (escaped_scalars e) w a) refl

-- and a datatype
type_scalars : (e : Escapes) (b : Bool) (i : List ℕ) → IsIri i → scalars (type_text e b i) ≡ true
type_scalars e true i h = refl
type_scalars e false i h = iri_scalars e i h

-- and an object
term_scalars : (e : Escapes) (t : Term) → IsTerm t → CanWriteTerm Kept t → scalars (term_text e t) ≡ true
term_scalars e (Resource s) h c = subject_scalars e s h c
term_scalars e (Literal w (Lang t)) h c = scalars_append (string_text e w) (64 ∷ t) (string_scalars e w h.0) (matched_scalars tag_name t h.1)
term_scalars e (Literal w (Typed i)) h c =
    scalars_append (string_text e w) (type_text e (bytes_eq i xsd_string) i) (string_scalars e w h.0) (type_scalars e (bytes_eq i xsd_string) i h.1)

-- and a graph label
graph_scalars : (e : Escapes) (g : Option Subject) → IsGraph g → CanWriteGraph Kept g → scalars (graph_text e g) ≡ true
graph_scalars e None h c = refl
graph_scalars e (Some g) h c = scalars_append (subject_text e g) space (subject_scalars e g h c) refl

-- and a statement, up to its dot
pub statement_scalars : (e : Escapes) (q : Quad) → IsQuad q → CanWrite Kept q → scalars (upto_graph e q ++ 46 ∷ []) ≡ true
statement_scalars e q h c =
    let a = scalars_append (subject_text e q.subject) space (subject_scalars e q.subject h.subject c.subject) refl in
    let b = scalars_append (iri_text e q.predicate) space (iri_scalars e q.predicate h.predicate) refl in
    let d = scalars_append (term_text e q.object) space (term_scalars e q.object h.object c.object) refl in
    let f = graph_scalars e q.graph h.graph c.graph in
    scalars_append (upto_graph e q) (46 ∷ []) (scalars_append (upto_object e q) (graph_text e q.graph)
    (scalars_append (upto_predicate e q) (term_text e q.object ++ space) (scalars_append (upto_subject e q) (iri_text e q.predicate ++ space) a b) d) f) refl

-- and a line
pub quad_scalars : (e : Escapes) (q : Quad) → IsQuad q → CanWrite Kept q → scalars (quad_text e q) ≡ true
quad_scalars e q h c = scalars_append (upto_graph e q ++ 46 ∷ []) (10 ∷ []) (statement_scalars e q h c) refl

-- so all that is written encodes to UTF-8, which the reader asks
pub text_scalars : (e : Escapes) (qs : List Quad) → Written qs → scalars (flat_map (quad_text e) qs) ≡ true
text_scalars e [] h = refl
text_scalars e (q ∷ qs) h = scalars_append (quad_text e q) (flat_map (quad_text e) qs) (quad_scalars e q h.0.0 h.0.1) (text_scalars e qs h.1)

-- and it does not begin with a byte order mark, which the reader would drop
pub no_mark : (e : Escapes) (qs : List Quad) → Written qs → has_byte_order_mark (flat_map (quad_text e) qs) ≡ false
no_mark x [] h = refl
no_mark x (q ∷ qs) h =
    at q.subject space (iri_text x q.predicate ++ space) (term_text x q.object ++ space) (graph_text x q.graph) (46 ∷ []) (10 ∷ [])
    (flat_map (quad_text x) qs) h.0.0.subject h.0.1.subject
  where
    at : (s : Subject) (a b d e f g r : List ℕ) → IsSubject s → CanWriteSubject Kept s →
        has_byte_order_mark (subject_text x s ++ a ++ b ++ d ++ e ++ f ++ g ++ r) ≡ false
    at (Iri i) a b d e f g r h c = refl
    at (Blank (Label x)) a b d e f g r h c = refl
    at (Blank (Anon n)) a b d e f g r h c = absurd c
    at (Blank (Cell n)) a b d e f g r h c = absurd c

-- the tokens of encoded characters are those of the characters
pub encoded_tokens : (d : Dialect) (limit : ℕ) (w : List ℕ) → scalars w ≡ true → has_byte_order_mark w ≡ false →
    tokens_of d limit (encode_utf8_all w) true ≡ tokens d limit ended false first_place w
unfolding tokens_of
encoded_tokens d limit w s n =
    let bytes = encode_utf8_all w in
    let l : utf8_valid_len bytes ≡ length bytes = utf8_valid_len-IsUtf8 bytes (w, (s, refl)) in
    let g : good bytes ≡ w = ap chars (ap (λ x. take x bytes) l ∙ take_all (length bytes) bytes (omega arith)) ∙ chars-encodes w s in
    let t : tail_of bytes true ≡ ended = cond-true _ _ _ (eq-eqb (utf8_valid_len bytes) (length bytes) l) in
    let m : mark w ≡ 0 = cond-false (has_byte_order_mark w) 1 0 n in
    ap (λ x. tokens d limit x false (past first_place (take (mark (good bytes)) (good bytes))) (drop (mark (good bytes)) (good bytes))) t
    ∙ (ap (λ x. tokens d limit ended false (past first_place (take (mark x) x)) (drop (mark x) x)) g
    ∙ ap (λ x. tokens d limit ended false (past first_place (take x w)) (drop x w)) m)
