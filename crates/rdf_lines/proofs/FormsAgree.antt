-- Where what the plain form writes is ASCII, no character is escaped in ASCII.
use Rattle.rdf_lines.proofs.Prelude.{◌≡◌, ℕ, ◌<◌, ◌≤◌, Bool, true, false, List, [], ◌∷◌, ◌++◌, refl, ap, ◌∙◌, subst, ⊎_elim, length, Option, Some, None, arith, flat_map, bytes_eq, AllByRecursion, cases_lt, nat_tests, length-encode, len_utf8_bounds, encode, encodes, Lang, Typed, Subject, Blank, Term, Resource, Literal, Quad, xsd_string, Ascii, written, escaped, iri_text, subject_text, string_text, type_text, tail_text, term_text, space, graph_text, quad_text, Form, named, line_in, FormsAgreeOnAscii}
use Rattle.rdf_terms.specs.Terms.{Tail, Iri}
use Rattle.rdf_lines.specs.declared.form.Escapes.TheVariants.{Plain}
use Rattle.rdf_lines.proofs.EncodedLine.{high_bytes}
use Rattle.rdf_lines.proofs.PlainRuns.{plain_high}

abbrev AllLow : List ℕ → Type 0
AllLow w = AllByRecursion (λ c. c < 128) w

-- of two texts in a row that are ASCII, each is
parts : (u v : List ℕ) → AllLow (u ++ v) → AllLow u × AllLow v
parts [] v a = (tt, a)
parts (c ∷ u) v a = let p = parts u v a.1 in ((a.0, p.0), p.1)

-- two equations side by side
both : {u v w x : List ℕ} → u ≡ v → w ≡ x → u ++ w ≡ v ++ x
both {u} {v} {w} {x} p q = ap (λ y. y ++ w) p ∙ ap (λ y. v ++ y) q

-- a list of bytes below 128 has none from 128 on
no_high : (w : List ℕ) → 0 < length w → AllByRecursion (λ b. 128 ≤ b) w → AllLow w → ⊥
no_high [] l h a = omega arith
no_high (b ∷ w) l h a = omega (arith, h.0, a.0)

-- a text whose bytes are below 128 has such characters alone
low_text : (w : List ℕ) → AllLow (encodes w) → AllLow w
low_text [] a = tt
low_text (c ∷ w) a = let p = parts (encode c) (encodes w) a in (low_char c p.0, low_text w p.1)
  where
    low_char : (c : ℕ) → AllLow (encode c) → c < 128
    low_char c a =
        ⊎_elim
        (λ (l : c < 128). l)
        (λ l. absurd (no_high (encode c) (let n = length-encode c in let one = (len_utf8_bounds c).0 in omega arith) (high_bytes c l) a))
        (cases_lt c 128)

-- a character of an IRI, and of a string
written_same : (c : ℕ) → c < 128 → written Ascii c ≡ written Plain c
written_same c l = grind (arith, nat_tests)

-- below 128 both forms escape the same four characters
escaped_low : (c : ℕ) → c < 128 → escaped Ascii c ≡ escaped Plain c
escaped_low c l = grind (arith, nat_tests)

-- so where the plain form is ASCII the other one writes the same
escaped_same : (c : ℕ) → AllLow (escaped Plain c) → escaped Ascii c ≡ escaped Plain c
escaped_same c a =
    ⊎_elim
    (λ l. escaped_low c l)
    (λ (l : 128 ≤ c). absurd (let (high, none) = subst AllLow (plain_high c l) a in omega (arith, high, l)))
    (cases_lt c 128)

-- texts whose characters are written alike are
each_same : {X : Type 0} (f g : X → List ℕ) → ((x : X) → AllLow (f x) → g x ≡ f x) → (xs : List X) → AllLow (flat_map f xs) → flat_map g xs ≡ flat_map f xs
each_same f g h [] a = refl
each_same f g h (x ∷ xs) a = let p = parts (f x) (flat_map f xs) a in both (h x p.0) (each_same f g h xs p.1)

-- so an IRI is written the same in both forms, where the plain one is ASCII
iri_same : (i : List ℕ) → AllLow (iri_text Plain i) → iri_text Ascii i ≡ iri_text Plain i
iri_same i a =
    let p = parts (flat_map (written Plain) i) (62 ∷ []) a.1 in
    ap (λ x. 60 ∷ x ++ 62 ∷ []) (each_same (written Plain) (written Ascii) (λ c l. written_same c l.0) i p.0)

-- so is a string
string_same : (w : List ℕ) → AllLow (string_text Plain w) → string_text Ascii w ≡ string_text Plain w
string_same w a =
    let p = parts (flat_map (escaped Plain) w) (34 ∷ []) a.1 in
    ap (λ x. 34 ∷ x ++ 34 ∷ []) (each_same (escaped Plain) (escaped Ascii) escaped_same w p.0)

-- so is a subject, whose label no form escapes
subject_same : (t : Subject) → AllLow (subject_text Plain t) → subject_text Ascii t ≡ subject_text Plain t
subject_same (Iri i) a = iri_same i a
subject_same (Blank n) a = refl

-- so is a datatype, or neither writes it
type_same : (b : Bool) (i : List ℕ) → AllLow (type_text Plain b i) → type_text Ascii b i ≡ type_text Plain b i
type_same true i a = refl
type_same false i a = ap (λ x. 94 ∷ 94 ∷ x) (iri_same i a.1.1)

-- so is what comes after a string
tail_same : (t : Tail) → AllLow (tail_text Plain t) → tail_text Ascii t ≡ tail_text Plain t
tail_same (Lang t) a = refl
tail_same (Typed i) a = type_same (bytes_eq i xsd_string) i a

-- so is an object
term_same : (t : Term) → AllLow (term_text Plain t) → term_text Ascii t ≡ term_text Plain t
term_same (Resource r) a = subject_same r a
term_same (Literal w t) a = let p = parts (string_text Plain w) (tail_text Plain t) a in both (string_same w p.0) (tail_same t p.1)

-- so is a graph label
graph_same : (g : Option Subject) → AllLow (graph_text Plain g) → graph_text Ascii g ≡ graph_text Plain g
graph_same None a = refl
graph_same (Some g) a = ap (λ x. x ++ space) (subject_same g (parts (subject_text Plain g) space a).0)

-- so is a line, part by part
line_same : (q : Quad) → AllLow (quad_text Plain q) → quad_text Ascii q ≡ quad_text Plain q
line_same q a =
    let u = subject_text Plain q.subject ++ space in
    let v = iri_text Plain q.predicate ++ space in
    let w = term_text Plain q.object ++ space in
    let g = graph_text Plain q.graph in
    let dot = parts (u ++ v ++ w ++ g) (46 ∷ []) (parts (u ++ v ++ w ++ g ++ 46 ∷ []) (10 ∷ []) a).0 in
    let graph = parts (u ++ v ++ w) g dot.0 in
    let object = parts (u ++ v) w graph.0 in
    let subject = parts u v object.0 in
    let s = ap (λ x. x ++ space) (subject_same q.subject (parts (subject_text Plain q.subject) space subject.0).0) in
    let i = ap (λ x. x ++ space) (iri_same q.predicate (parts (iri_text Plain q.predicate) space subject.1).0) in
    let o = ap (λ x. x ++ space) (term_same q.object (parts (term_text Plain q.object) space object.1).0) in
    ap (λ x. x ++ 46 ∷ [] ++ 10 ∷ []) (both (both (both s i) o) (graph_same q.graph graph.1))

-- the law: lines of ASCII are the same in both forms, so they may be passed as they stand
pub forms_agree : FormsAgreeOnAscii
forms_agree s p qs a =
    let plain : Form = record { style = s; escapes = Plain; prefix = p } in
    let ascii : Form = record { style = s; escapes = Ascii; prefix = p } in
    each_same (line_in plain) (line_in ascii) (λ q l. line_same (named plain q) l) qs (low_text (flat_map (line_in plain) qs) a)
