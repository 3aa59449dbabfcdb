-- What is written with a word in front of the names reads back, with a token limit that is higher by the word's length.
use Rattle.rdf_lines.proofs.Prelude.{◌≡◌, ℕ, ◌≤◌, ◌<◌, ◌+◌, List, [], ◌∷◌, ◌++◌, length, refl, sym, ap, ◌∙◌, subst, Option, Some, None, arith, length-append, map, flat_map, encode_utf8_all, AllByRecursion, flat_map-append, encodes-append, Node, Label, Anon, Cell, Lang, Typed, Subject, Blank, Term, Resource, Literal, Quad, IsNode, IsSubject, IsTerm, IsGraph, IsQuad, IsDocumentOf, IsReadToItsEnd, NQuads, Escapes, Ascii, Kept, in_lines, OfSubject, OfTerm, OfGraph, AllNodes, CanWriteNode, Writable, rename, subject_text, quad_text, HasAsciiLabel, HasAsciiLabels, IsNodePrefix, put_prefix, Form, named, line_in, prefix_subject, prefix_term, prefix_graph, name_node, name_subject, name_term, name_graph, SubjectWithin, TermWithin, GraphWithin, IrisWithin, TailShort, TermShort, GraphShort, TokensWithin, WrittenTextReadsBack, WrittenTextIsRead, AsciiIsWritten, JoinedTextsReadBack}
use Rattle.rdf_terms.specs.Terms.{Tail, Iri}
use Rattle.rdf_lines.specs.NodePrefixes.{text_in}
use Rattle.rdf_lines.proofs.NodePrefixLemmas.{named_node, named_label, named_low}
use Rattle.rdf_lines.proofs.AsciiLemmas.{ascii_written}
use Rattle.rdf_lines.proofs.ReadBack.{quads_read_back}
use Rattle.rdf_lines.proofs.AcceptedLemmas.{quads_read}

-- The text in a form is that of the named quads, line by line.
text_named : (f : Form) (qs : List Quad) → text_in f qs ≡ flat_map (quad_text f.escapes) (map (named f) qs)
text_named f [] = refl
text_named f (q ∷ qs) = ap (λ x. line_in f q ++ x) (text_named f qs)

-- A quad stays well formed where its nodes are named, and what holds of its nodes holds of the named ones.
module _ (f : Form) (P Q : Node → Type 0) (h : (n : Node) → IsNode n → P n → IsNode (name_node f n) × Q (name_node f n)) where
  -- of its subject
  named_subject : (s : Subject) → IsSubject s → OfSubject P s → IsSubject (name_subject f s) × OfSubject Q (name_subject f s)
  named_subject (Iri i) w c = (w, tt)
  named_subject (Blank n) w c = h n w c

  -- of its object
  named_term : (t : Term) → IsTerm t → OfTerm P t → IsTerm (name_term f t) × OfTerm Q (name_term f t)
  named_term (Resource s) w c = named_subject s w c
  named_term (Literal l t) w c = (w, tt)

  -- of its graph label
  named_graph : (g : Option Subject) → IsGraph g → OfGraph P g → IsGraph (name_graph f g) × OfGraph Q (name_graph f g)
  named_graph None w c = (tt, tt)
  named_graph (Some g) w c = named_subject g w c

  -- so of all of it
  named_quad : (q : Quad) → IsQuad q → AllNodes P q → IsQuad (named f q) × AllNodes Q (named f q)
  named_quad q w c =
      let a = named_subject q.subject w.subject c.subject in
      let b = named_term q.object w.object c.object in
      let d = named_graph q.graph w.graph c.graph in
      (record { subject = a.0; predicate = w.predicate; object = b.0; graph = d.0 }, record { subject = a.1; object = b.1; graph = d.1 })

-- quads that can be written in the form can be written with their nodes named
pub named_writable : (f : Form) (qs : List Quad) → IsNodePrefix f.prefix → Writable f.style qs → Writable Kept (map (named f) qs)
named_writable f [] p h = tt
named_writable f (q ∷ qs) p h = (
  named_quad f (CanWriteNode f.style) (CanWriteNode Kept) (λ n i c. (named_node f p n i, named_label f n c)) q h.0.0 h.0.1,
  named_writable f qs p h.1,
)

-- The law: what is written reads back, with any limit that is not below the text's length.
pub form_reads_back : WrittenTextReadsBack
form_reads_back f qs limit p h l iri =
    let same = text_named f qs in
    subst (λ x. IsDocumentOf (in_lines NQuads limit iri) (encode_utf8_all x) (map (named f) qs)) (sym same)
    (quads_read_back f.escapes (map (named f) qs) limit (named_writable f qs p h) (subst (λ x. length x ≤ limit) same l) iri)

-- naming keeps the IRIs
subject_named : (n : ℕ) (f : Form) (s : Subject) → SubjectWithin n s → SubjectWithin n (name_subject f s)
subject_named n f (Iri i) w = w
subject_named n f (Blank b) w = tt

-- so an object has the same IRIs within the limit
term_named : (n : ℕ) (f : Form) (t : Term) → TermWithin n t → TermWithin n (name_term f t)
term_named n f (Resource s) w = subject_named n f s w
term_named n f (Literal l t) w = w

-- so has a graph label
graph_named : (n : ℕ) (f : Form) (g : Option Subject) → GraphWithin n g → GraphWithin n (name_graph f g)
graph_named n f None w = tt
graph_named n f (Some g) w = subject_named n f g w

-- so have all quads: with a word the limit on IRIs stays the same
iris_named : (n : ℕ) (f : Form) (qs : List Quad) → AllByRecursion (IrisWithin n) qs → AllByRecursion (IrisWithin n) (map (named f) qs)
iris_named n f [] w = tt
iris_named n f (q ∷ qs) w = (
  record {
    subject = subject_named n f q.subject w.0.subject;
    predicate = w.0.predicate;
    object = term_named n f q.object w.0.object;
    graph = graph_named n f q.graph w.0.graph;
  },
  iris_named n f qs w.1,
)

-- A token is longer by the word at most.
module _ (e : Escapes) (p : List ℕ) (n : ℕ) where
  -- an IRI or a node is longer by the word at most
  subject_short : (s : Subject) → length (subject_text e s) ≤ n → length (subject_text e (prefix_subject p s)) ≤ length p + n
  subject_short (Iri i) l = omega arith
  subject_short (Blank (Label x)) l = let a = length-append p x in omega arith
  subject_short (Blank (Anon m)) l = omega arith
  subject_short (Blank (Cell m)) l = omega arith

  -- what comes after a literal's string has no name in it, so it is as long as before
  tail_short : (t : Tail) → TailShort e n t → TailShort e (length p + n) t
  tail_short (Lang t) l = omega arith
  tail_short (Typed i) l = omega arith

  -- so is an object
  term_short : (t : Term) → TermShort e n t → TermShort e (length p + n) (prefix_term p t)
  term_short (Resource s) l = subject_short s l
  term_short (Literal w t) l = (let a = l.0 in omega arith, tail_short t l.1)

  -- so is a graph label
  graph_short : (g : Option Subject) → GraphShort e n g → GraphShort e (length p + n) (prefix_graph p g)
  graph_short None l = tt
  graph_short (Some g) l = subject_short g l

  -- so is each part of a quad
  quad_short : (q : Quad) → TokensWithin e n q → TokensWithin e (length p + n) (put_prefix p q)
  quad_short q l = record {
    subject = subject_short q.subject l.subject;
    predicate = (let a = l.predicate in omega arith);
    object = term_short q.object l.object;
    graph = graph_short q.graph l.graph;
  }

-- so is each part of all quads, as the law of reading back with a limit asks it
pub all_short : (f : Form) (n : ℕ) (qs : List Quad) → AllByRecursion (TokensWithin f.escapes n) (map (rename f.style) qs) →
    AllByRecursion (TokensWithin f.escapes (length f.prefix + n)) (map (named f) qs)
all_short f n [] l = tt
all_short f n (q ∷ qs) l = (quad_short f.escapes f.prefix n (rename f.style q) l.0, all_short f n qs l.1)

-- The law: what is written is read to its end, with the limits that suffice without a word, and the word's length more for tokens.
pub form_text_read : WrittenTextIsRead
form_text_read f qs limit iri p h two t w =
    subst (λ x. IsReadToItsEnd (in_lines NQuads (length f.prefix + limit) iri) (encode_utf8_all x)) (sym (text_named f qs))
    (quads_read f.escapes (map (named f) qs) (length f.prefix + limit) iri (named_writable f qs p h) (omega (arith, two)) (all_short f limit qs t)
    (iris_named iri f qs w))

-- The law: two texts in a row read back as the quads of both.
pub joined_read_back : JoinedTextsReadBack
joined_read_back f g qs rs limit iri same p r h k l =
    let us = map (named f) qs in
    let vs = map (named g) rs in
    let lines : List Quad → List ℕ = flat_map (quad_text f.escapes) in
    let second : text_in g rs ≡ lines vs = text_named g rs ∙ ap (λ x. flat_map (quad_text x) vs) (sym same) in
    let whole : text_in f qs ++ text_in g rs ≡ lines (us ++ vs) =
    ap (λ x. x ++ text_in g rs) (text_named f qs) ∙ (ap (λ x. lines us ++ x) second ∙ sym (flat_map-append (quad_text f.escapes) us vs)) in
    let back = quads_read_back f.escapes (us ++ vs) limit (both_writable us vs (named_writable f qs p h) (named_writable g rs r k))
    (subst (λ x. length x ≤ limit) whole l) iri in
    subst (λ x. IsDocumentOf (in_lines NQuads limit iri) x (us ++ vs)) (ap encode_utf8_all (sym whole) ∙ encodes-append (text_in f qs) (text_in g rs)) back
  where
    both_writable : (us vs : List Quad) → Writable Kept us → Writable Kept vs → Writable Kept (us ++ vs)
    both_writable [] vs a b = b
    both_writable (q ∷ us) vs a b = (a.0, both_writable us vs a.1 b)

-- The law: in ASCII each byte is below 128.
pub form_ascii : AsciiIsWritten
form_ascii s p qs h w a =
    let f : Form = record { style = s; escapes = Ascii; prefix = p } in
    subst (λ x. AllByRecursion (λ b. b < 128) (encode_utf8_all x)) (sym (text_named f qs))
    (ascii_written (map (named f) qs) (named_writable f qs h w) (all_low f h qs w a))
  where
    all_low : (f : Form) → IsNodePrefix f.prefix → (qs : List Quad) → Writable f.style qs → AllByRecursion HasAsciiLabels qs →
        AllByRecursion HasAsciiLabels (map (named f) qs)
    all_low f h [] w a = tt
    all_low f h (q ∷ qs) w a = (
      (named_quad f HasAsciiLabel HasAsciiLabel (λ n i l. (named_node f h n i, named_low f h n l)) q w.0.0 a.0).1,
      all_low f h qs w.1 a.1,
    )
