-- Lines that end in CR and LF are the written ones, but for their CRs.
use Rattle.rdf_lines.proofs.Prelude.{◌≡◌, ℕ, ◌≤◌, ◌==◌, Bool, true, false, not, cond, List, [], ◌∷◌, ◌++◌, refl, sym, ap, ◌∙◌, ⊎_elim, Option, Some, None, arith, flat_map, bytes_eq, encode_utf8_all, AllByRecursion, encode, encodes, and_from, and_parts, cases_Bool, cases_lt, cond-true, cond-false, eqb-true, false≢true, nat_tests, filter-append, encodes-append, encode_ascii, iri_char, Lines, Regex, Matches, label_name, tag_name, Label, Anon, Cell, Lang, Typed, Subject, Blank, Term, Resource, Literal, Quad, xsd_string, all_have, IsIri, IsSubject, IsTerm, IsGraph, IsQuad, uses, all_used, Lf, CrLf, Kept, statement_text, ended_line, ended_lines, without_crs, CanonicalLinesAreWritten, CanWrite, written, escaped, iri_text, subject_text, string_text, type_text, term_text, space, graph_text, quad_text, CanWriteSubject, CanWriteTerm, CanWriteGraph}
use Rattle.rdf_terms.specs.Classes.{has}
use Rattle.rdf_terms.specs.Terms.{Iri}
use Rattle.rdf_lines.specs.declared.form.Escapes.TheVariants.{Plain}
use Rattle.rdf_lines.proofs.CanonicalLines.{written_quads, text_kept}
use Rattle.rdf_lines.proofs.EncodedLine.{high_bytes, low}
use Rattle.rdf_lines.proofs.EscapedRuns.{each}
use Rattle.rdf_lines.proofs.FrontsLemmas.{have_both}
use Rattle.rdf_lines.proofs.SpelledLine.{Written}

abbrev is_other : ℕ → Bool
is_other c = not (c == 13)

-- the text has no CR
abbrev Others : List ℕ → Type 0
Others w = all_have is_other w ≡ true

-- what passes a test that CR does not pass
other : (p : ℕ → Bool) → p 13 ≡ false → (c : ℕ) → p c ≡ true → is_other c ≡ true
other p f c e = ⊎_elim (λ t. absurd (false≢true (sym f ∙ (ap p (sym (eqb-true c 13 t)) ∙ e)))) (λ n. ap not n) (cases_Bool (c == 13))

-- characters of a class that has no CR are none
all_other : (p : ℕ → Bool) → p 13 ≡ false → (w : List ℕ) → all_have p w ≡ true → Others w
all_other p f [] a = refl
all_other p f (c ∷ w) a = let h = and_parts (p c) (all_have p w) a in and_from (is_other c) (all_have is_other w) (other p f c h.0) (all_other p f w h.1)

-- nor has a text of a shape that uses none
matched : (r : Regex) → uses r 13 ≡ false → (w : List ℕ) → Matches r w → Others w
matched r f w m = by w (all_used r w m)
  where
    by : (v : List ℕ) → AllByRecursion (λ c. uses r c ≡ true) v → Others v
    by [] a = refl
    by (c ∷ v) a = and_from (is_other c) (all_have is_other v) (other (uses r) f c a.0) (by v a.1)

-- the class of characters in an IRI has no CR
iri_cr : has iri_char 13 ≡ false
unfolding has
iri_cr = refl

-- the shape of a label uses no CR
label_cr : uses (label_name Lines) 13 ≡ false
unfolding has
label_cr = refl

-- the shape of a language tag uses no CR
tag_cr : uses tag_name 13 ≡ false
unfolding has
tag_cr = refl

-- two texts in a row have no CR where neither has one
both : (u v : List ℕ) → Others u → Others v → Others (u ++ v)
both u v a b = have_both is_other u v a b

-- no part of a written line has one
iri_others : (i : List ℕ) → IsIri i → Others (iri_text Plain i)
iri_others i h = both (flat_map (written Plain) i) (62 ∷ []) (ap (all_have is_other) (each i) ∙ all_other (has iri_char) iri_cr i h.characters) refl

-- so a subject is written without one
subject_others : (s : Subject) → IsSubject s → CanWriteSubject Kept s → Others (subject_text Plain s)
subject_others (Iri i) h c = iri_others i h
subject_others (Blank (Label x)) h c = matched (label_name Lines) label_cr x h
subject_others (Blank (Anon n)) h c = absurd c
subject_others (Blank (Cell n)) h c = absurd c

-- a CR in a string is written as an escape, so no character of a string leaves one
escaped_others : (c : ℕ) → Others (escaped Plain c)
escaped_others c = test 34 _ _ refl (test 92 _ _ refl (test 10 _ _ refl last))
  where
    test : (x : ℕ) (u v : List ℕ) → Others u → Others v → Others (cond (c == x) u v)
    test x u v a b = ⊎_elim (λ t. ap (all_have is_other) (cond-true (c == x) u v t) ∙ a)
        (λ t. ap (all_have is_other) (cond-false (c == x) u v t) ∙ b) (cases_Bool (c == x))

    last : Others (cond (c == 13) (92 ∷ 114 ∷ []) (c ∷ []))
    last =
        ⊎_elim
        (λ t. ap (all_have is_other) (cond-true (c == 13) (92 ∷ 114 ∷ []) (c ∷ []) t))
        (λ t. ap (all_have is_other) (cond-false (c == 13) (92 ∷ 114 ∷ []) (c ∷ []) t) ∙ and_from (is_other c) true (ap not t) refl)
        (cases_Bool (c == 13))

-- so the characters of a string are written without one
characters_others : (w : List ℕ) → Others (flat_map (escaped Plain) w)
characters_others [] = refl
characters_others (c ∷ w) = both (escaped Plain c) (flat_map (escaped Plain) w) (escaped_others c) (characters_others w)

-- and a string with its quotes
string_others : (w : List ℕ) → Others (string_text Plain w)
string_others w = both (flat_map (escaped Plain) w) (34 ∷ []) (characters_others w) refl

-- and a datatype
type_others : (b : Bool) (i : List ℕ) → IsIri i → Others (type_text Plain b i)
type_others true i h = refl
type_others false i h = iri_others i h

-- and an object
term_others : (t : Term) → IsTerm t → CanWriteTerm Kept t → Others (term_text Plain t)
term_others (Resource s) h c = subject_others s h c
term_others (Literal w (Lang t)) h c = both (string_text Plain w) (64 ∷ t) (string_others w) (matched tag_name tag_cr t h.1)
term_others (Literal w (Typed i)) h c =
    both (string_text Plain w) (type_text Plain (bytes_eq i xsd_string) i) (string_others w) (type_others (bytes_eq i xsd_string) i h.1)

-- and a graph label
graph_others : (g : Option Subject) → IsGraph g → CanWriteGraph Kept g → Others (graph_text Plain g)
graph_others None h c = refl
graph_others (Some g) h c = both (subject_text Plain g) space (subject_others g h c) refl

-- so no statement has a CR: the only ones are in the ends of lines
statement_others : (q : Quad) → IsQuad q → CanWrite Kept q → Others (statement_text q)
statement_others q h c =
    let s = subject_text Plain q.subject ++ space in
    let p = iri_text Plain q.predicate ++ space in
    let o = term_text Plain q.object ++ space in
    let g = graph_text Plain q.graph in
    both (s ++ p ++ o ++ g) (46 ∷ [])
    (both (s ++ p ++ o) g
    (both (s ++ p) o
    (both s p (both (subject_text Plain q.subject) space (subject_others q.subject h.subject c.subject) refl)
    (both (iri_text Plain q.predicate) space (iri_others q.predicate h.predicate) refl))
    (both (term_text Plain q.object) space (term_others q.object h.object c.object) refl))
    (graph_others q.graph h.graph c.graph))
    refl

-- nor have its bytes
high_stay : (w : List ℕ) → AllByRecursion (λ b. 128 ≤ b) w → without_crs w ≡ w
high_stay [] a = refl
high_stay (b ∷ w) a =
    let l = a.0 in
    cond-true (is_other b) (b ∷ without_crs w) (without_crs w) (let n : is_other b ≡ true = grind (arith, nat_tests) in n) ∙ ap (λ x. b ∷ x) (high_stay w a.1)

-- a character that is no CR keeps its bytes when the CRs are left out
character_stays : (c : ℕ) → is_other c ≡ true → without_crs (encode c) ≡ encode c
character_stays c e =
    ⊎_elim
    (λ l. ap without_crs (encode_ascii c l) ∙ (cond-true (is_other c) (c ∷ []) [] e ∙ sym (encode_ascii c l)))
    (λ h. high_stay (encode c) (high_bytes c h))
    (cases_lt c 128)

-- so does a text without one
stays : (w : List ℕ) → Others w → without_crs (encodes w) ≡ encodes w
stays [] a = refl
stays (c ∷ w) a =
    let h = and_parts (is_other c) (all_have is_other w) a in
    filter-append is_other (encode c) (encodes w) ∙ (ap (λ x. x ++ without_crs (encodes w)) (character_stays c h.0) ∙ ap (λ x. encode c ++ x) (stays w h.1))

-- so only those of the ends go
line_left : (q : Quad) → IsQuad q → CanWrite Kept q → without_crs (encode_utf8_all (ended_line CrLf q)) ≡ encode_utf8_all (quad_text Plain q)
line_left q h c =
    let w = statement_text q in
    let end : encodes (13 ∷ 10 ∷ []) ≡ 13 ∷ 10 ∷ [] = low 13 (10 ∷ []) (omega arith) ∙ ap (λ x. 13 ∷ x) (low 10 [] (omega arith)) in
    let feed : encodes (10 ∷ []) ≡ 10 ∷ [] = low 10 [] (omega arith) in
    ap without_crs (encodes-append w (13 ∷ 10 ∷ []) ∙ ap (λ x. encodes w ++ x) end)
    ∙ (filter-append is_other (encodes w) (13 ∷ 10 ∷ [])
    ∙ (ap (λ x. x ++ 10 ∷ []) (stays w (statement_others q h c))
    ∙ sym (encodes-append w (10 ∷ []) ∙ ap (λ x. encodes w ++ x) feed)))

-- so lines that end in CR and LF become those that end in LF
lines_left : (qs : List Quad) → Written qs → without_crs (encode_utf8_all (ended_lines CrLf qs)) ≡ encode_utf8_all (flat_map (quad_text Plain) qs)
lines_left [] h = refl
lines_left (q ∷ qs) h =
    ap without_crs (encodes-append (ended_line CrLf q) (ended_lines CrLf qs))
    ∙ (filter-append is_other (encodes (ended_line CrLf q)) (encodes (ended_lines CrLf qs))
    ∙ (ap (λ x. x ++ without_crs (encodes (ended_lines CrLf qs))) (line_left q h.0.0 h.0.1)
    ∙ (ap (λ x. encodes (quad_text Plain q) ++ x) (lines_left qs h.1)
    ∙ sym (encodes-append (quad_text Plain q) (flat_map (quad_text Plain) qs)))))

-- the law: the passed lines without their CRs are what would be written for their quads
pub lines_written : CanonicalLinesAreWritten
lines_written Lf form token iri bytes qs h = h.is ∙ ap encode_utf8_all (sym (text_kept qs))
lines_written CrLf form token iri bytes qs h =
    ap without_crs h.is ∙ (lines_left qs (written_quads form token iri qs h.each) ∙ ap encode_utf8_all (sym (text_kept qs)))
