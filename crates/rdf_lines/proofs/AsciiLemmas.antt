-- In ASCII each byte that is written is below 128, where the labels have such characters alone.
use Rattle.rdf_lines.proofs.Prelude.{◌≡◌, ℕ, ◌<◌, ◌/◌, ◌%◌, zero, suc, Bool, true, false, List, [], ◌∷◌, ◌++◌, ◌==◌, nat_le, refl, sym, ap, ◌∙◌, subst, Option, Some, None, arith, flat_map, encode_utf8_all, decimal, bytes_eq, digits_onto, digit_glyph, AllByRecursion, cond_both, and_from, nat_tests, encode_ascii, encodes, scalars, tag_name, Node, Label, Anon, Cell, Lang, Typed, Subject, Blank, Term, Resource, Literal, Quad, xsd_string, IsTag, IsTail, IsTerm, IsQuad, uses, all_used, Ascii, Kept, uchar, written, escaped, iri_text, node_text, subject_text, string_text, type_text, tail_text, term_text, space, graph_text, quad_text, Writable, HasAsciiLabel, HasAsciiLabels, SubjectHasAsciiLabel, TermHasAsciiLabel, GraphHasAsciiLabel}
use Rattle.std.specs.Fmt.{digits}
use Rattle.std.proofs.Math.Utf8.{scalar}
use Rattle.rdf_terms.specs.Classes.{has}
use Rattle.rdf_terms.specs.Terms.{Tail, Iri}
use Rattle.rdf_lines.proofs.UcharLemmas.{uchar_low}

abbrev AllLow : List ℕ → Type 0
AllLow w = AllByRecursion (λ c. c < 128) w

-- such a text is its own bytes
pub low_encodes : (w : List ℕ) → AllByRecursion (λ c. c < 128) w → encode_utf8_all w ≡ w
low_encodes [] a = refl
low_encodes (c ∷ w) a = ap (λ x. x ++ encodes w) (encode_ascii c a.0) ∙ ap (λ x. c ∷ x) (low_encodes w a.1)

-- characters of ASCII are scalar values, so their text can be encoded
pub low_scalars : (w : List ℕ) → AllByRecursion (λ c. c < 128) w → scalars w ≡ true
low_scalars [] a = refl
low_scalars (c ∷ w) a = and_from _ _ (low_scalar c a.0) (low_scalars w a.1)
  where
    low_scalar : (c : ℕ) → c < 128 → scalar c ≡ true
    low_scalar c l = grind (arith, nat_tests)

-- two texts in a row are ASCII where each is
pub joined : (u v : List ℕ) → AllLow u → AllLow v → AllLow (u ++ v)
joined [] v a b = b
joined (c ∷ u) v a b = (a.0, joined u v a.1 b)

-- a text is ASCII where what stands for each character is
each : (f : ℕ → List ℕ) → ((c : ℕ) → AllLow (f c)) → (w : List ℕ) → AllLow (flat_map f w)
each f h [] = tt
each f h (c ∷ w) = joined (f c) (flat_map f w) (h c) (each f h w)

-- the test of the code, as an order
below : (c : ℕ) → nat_le c 127 ≡ true → c < 128
below c e = grind (arith, nat_tests)

-- a character of an IRI is itself, or an escape of ASCII
written_low : (c : ℕ) → AllLow (written Ascii c)
written_low c = cond_both (nat_le c 127) (c ∷ []) (uchar c) AllLow (λ h. (below c h, tt)) (λ h. uchar_low c)

-- a character of a string is one of the four short escapes, or as in an IRI
escaped_low : (c : ℕ) → AllLow (escaped Ascii c)
escaped_low c =
    cond_both (c == 34) _ _ AllLow (λ h. (omega arith, (omega arith, tt)))
    (λ h. cond_both (c == 92) _ _ AllLow (λ h. (omega arith, (omega arith, tt)))
    (λ h. cond_both (c == 10) _ _ AllLow (λ h. (omega arith, (omega arith, tt)))
    (λ h. cond_both (c == 13) _ _ AllLow (λ h. (omega arith, (omega arith, tt))) (λ h. written_low c))))

-- so an IRI in its brackets is ASCII
iri_low : (i : List ℕ) → AllLow (iri_text Ascii i)
iri_low i = (omega arith, joined (flat_map (written Ascii) i) (62 ∷ []) (each (written Ascii) written_low i) (omega arith, tt))

-- so is a string in its quotes
string_low : (w : List ℕ) → AllLow (string_text Ascii w)
string_low w = (omega arith, joined (flat_map (escaped Ascii) w) (34 ∷ []) (each (escaped Ascii) escaped_low w) (omega arith, tt))

-- digits are ASCII, however many
digits_low : (k n : ℕ) (w : List ℕ) → AllLow w → AllLow (digits_onto k 10 false n w)
digits_low zero n w a = a
digits_low (suc k) n w a =
    let d = digit_glyph false (n % 10) ∷ w in
    let b : AllLow d = (glyph_low (n % 10) (omega arith), a) in
    cond_both (n / 10 == 0) d _ AllLow (λ h. b) (λ h. digits_low k (n / 10) d b)
  where
    glyph_low : (d : ℕ) → d < 10 → digit_glyph false d < 128
    glyph_low d l = grind (arith, nat_tests)

-- so is an offset, which names a node
pub number_low : (n : ℕ) → AllLow (decimal n)
unfolding digits
number_low n = digits_low 64 n [] tt

-- a label is ASCII where it has such characters alone
node_low : (n : Node) → HasAsciiLabel n → AllLow (node_text n)
node_low (Label x) h = (omega arith, (omega arith, h))
node_low (Anon n) h = tt
node_low (Cell n) h = tt

-- so a subject is ASCII, be it an IRI or a node
subject_low : (t : Subject) → SubjectHasAsciiLabel t → AllLow (subject_text Ascii t)
subject_low (Iri i) h = iri_low i
subject_low (Blank n) h = node_low n h

-- a tag has letters, digits and '-'
tag_char : (c : ℕ) → uses tag_name c ≡ true → c < 128
unfolding has
tag_char c h = grind (arith, nat_tests)

-- so a language tag needs no escape
tag_low : (t : List ℕ) → IsTag t → AllLow t
tag_low t m = each_low t (all_used tag_name t m)
  where
    each_low : (w : List ℕ) → AllByRecursion (λ c. uses tag_name c ≡ true) w → AllLow w
    each_low [] a = tt
    each_low (c ∷ w) a = (tag_char c a.0, each_low w a.1)

-- a datatype is ASCII, or left out where it is xsd:string
type_low : (b : Bool) (i : List ℕ) → AllLow (type_text Ascii b i)
type_low true i = tt
type_low false i = (omega arith, (omega arith, iri_low i))

-- so what comes after a string is ASCII, a tag or a datatype
tail_low : (t : Tail) → IsTail t → AllLow (tail_text Ascii t)
tail_low (Lang t) h = (omega arith, tag_low t h)
tail_low (Typed i) h = type_low (bytes_eq i xsd_string) i

-- so an object is ASCII, part by part
term_low : (t : Term) → IsTerm t → TermHasAsciiLabel t → AllLow (term_text Ascii t)
term_low (Resource r) f h = subject_low r h
term_low (Literal w t) f h = joined (string_text Ascii w) (tail_text Ascii t) (string_low w) (tail_low t f.1)

-- the space between two terms is ASCII
space_low : AllLow space
space_low = (omega arith, tt)

-- so a graph label is ASCII with its space, or nothing is there
graph_low : (g : Option Subject) → GraphHasAsciiLabel g → AllLow (graph_text Ascii g)
graph_low None h = tt
graph_low (Some g) h = joined (subject_text Ascii g) space (subject_low g h) space_low

-- a line is ASCII, part by part
line_low : (q : Quad) → IsQuad q → HasAsciiLabels q → AllLow (quad_text Ascii q)
line_low q f h =
    let u = subject_text Ascii q.subject ++ space in
    let v = iri_text Ascii q.predicate ++ space in
    let w = term_text Ascii q.object ++ space in
    let g = graph_text Ascii q.graph in
    let a = joined (subject_text Ascii q.subject) space (subject_low q.subject h.subject) space_low in
    let b = joined (iri_text Ascii q.predicate) space (iri_low q.predicate) space_low in
    let c = joined (term_text Ascii q.object) space (term_low q.object f.object h.object) space_low in
    joined (u ++ v ++ w ++ g ++ 46 ∷ []) (10 ∷ []) (joined (u ++ v ++ w ++ g) (46 ∷ [])
    (joined (u ++ v ++ w) g (joined (u ++ v) w (joined u v a b) c) (graph_low q.graph h.graph)) (omega arith, tt)) (omega arith, tt)

-- and so are all lines
text_low : (qs : List Quad) → Writable Kept qs → AllByRecursion HasAsciiLabels qs → AllLow (flat_map (quad_text Ascii) qs)
text_low [] w h = tt
text_low (q ∷ qs) w h = joined (quad_text Ascii q) (flat_map (quad_text Ascii) qs) (line_low q w.0.0 h.0) (text_low qs w.1 h.1)

-- so in the form that escapes all else each byte is below 128, where all nodes have labels of such characters
pub ascii_written : (qs : List Quad) → Writable Kept qs → AllByRecursion HasAsciiLabels qs → AllLow (encode_utf8_all (flat_map (quad_text Ascii) qs))
ascii_written qs w h = let a = text_low qs w h in subst AllLow (sym (low_encodes (flat_map (quad_text Ascii) qs) a)) a
