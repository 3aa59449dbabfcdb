-- The lines of a document's quads keep limits that are a little higher than the document's.
use Rattle.rdf_lines.proofs.Prelude.{◌≡◌, ℕ, ◌+◌, ◌-◌, ◌*◌, ◌<◌, ◌≤◌, true, List, [], ◌∷◌, ◌++◌, length, drop, refl, ap, subst, ⊎_elim, Option, Some, None, option_map, arith, length-append, map, flat_map, ◌==◌, All, AllByRecursion, length-drop, All-head, All-tail, cases_lt, cond_both, nat_tests, length-encode, len_utf8_bounds, encode, encodes, Lines, IriRef, LabelNode, ShortString, LangTag, Dot, LineEnd, End, Quad, xsd_string, string_short, byte_len, Token, tokens_of, PassesNone, IsDocumentOf, IsWhole, LineForm, Escapes, Kept, Leaf, leaf_of, iri_of, Name, Ref, Lab, Object, Named, WithType, WithTag, Statement, last, next, name_tokens, object_tokens, graph_tokens, statement_tokens, document_tokens, string_of, subject_of, term_of, Passes, in_lines, Form, uchar, written, escaped, iri_text, subject_text, string_text, rename, Writable, rename_subject, rename_term, string_width, iri_width, WrittenDocumentIsRead, SubjectWithin, TermWithin, GraphWithin, IrisWithin, TermShort, GraphShort, TokensWithin}
use Rattle.std.proofs.Math.Nat.{mul-suc, mul-add}
use Rattle.std.specs.Char.{len_utf8}
use Rattle.rdf_tokens.proofs.LimitLemmas.{no_longer}
use Rattle.rdf_lines.specs.declared.form.Escapes.TheVariants as escapes
use Rattle.rdf_tokens.specs.Leaves.{token}
use Rattle.rdf_lines.specs.Lines.{Plain, Document as Tree, quad_of}
use Rattle.rdf_lines.proofs.PlainQuads.{plain_quads}
use Rattle.rdf_lines.specs.Lines as L
use Rattle.rdf_lines.proofs.LinesLemmas.{without_marks}
use Rattle.rdf_lines.proofs.UcharLemmas.{written_cases, uchar_cases}
use Rattle.rdf_lines.proofs.FormReadBack.{form_text_read}
use Rattle.rdf_lines.proofs.GoodTreesLemmas.{split}
use Rattle.rdf_lines.proofs.WellFormed.{document_writable}

-- an escape has ten characters at most
length-uchar : (c : ℕ) → length (uchar c) ≤ 10
length-uchar c = uchar_cases (λ w. length w ≤ 10) c (λ l. omega arith) (λ l. omega arith)

-- so a character of an IRI has no more than the form's width
written_short : (e : Escapes) (c : ℕ) → length (written e c) ≤ string_width e
written_short escapes.Plain c = omega arith
written_short escapes.Ascii c = written_cases escapes.Ascii (λ w. length w ≤ 10) c (omega arith) (λ l. length-uchar c)

-- a short escape has two, which is within the width
wide : (e : Escapes) → 2 ≤ string_width e
wide escapes.Plain = omega arith
wide escapes.Ascii = omega arith

-- a character is written with two at most
escaped_short : (e : Escapes) (c : ℕ) → length (escaped e c) ≤ string_width e
escaped_short e c =
    let two = wide e in
    cond_both (c == 34) _ _ (λ x. length x ≤ string_width e) (λ h. omega (arith, two))
    (λ h. cond_both (c == 92) _ _ (λ x. length x ≤ string_width e) (λ h. omega (arith, two))
    (λ h. cond_both (c == 10) _ _ (λ x. length x ≤ string_width e) (λ h. omega (arith, two))
    (λ h. cond_both (c == 13) _ _ (λ x. length x ≤ string_width e) (λ h. omega (arith, two)) (λ h. written_short e c))))

-- a text whose characters have so many each
all_short : (f : ℕ → List ℕ) (n : ℕ) → ((c : ℕ) → length (f c) ≤ n) → (w : List ℕ) → length (flat_map f w) ≤ n * length w
all_short f n h [] = omega arith
all_short f n h (c ∷ w) =
    let a = h c in
    let b = all_short f n h w in
    let s = length-append (f c) (flat_map f w) in
    let m : n * length (c ∷ w) ≡ n * length w + n = mul-suc n (length w) in
    omega arith

-- a string as it is written has its quotes, and so many characters for each at most; an IRI its brackets, and so many for each byte
pub written_string : (e : Escapes) (w : List ℕ) → length (string_text e w) ≤ 2 + string_width e * length w
written_string e w = let a = all_short (escaped e) (string_width e) (escaped_short e) w in let s =
    length-append (flat_map (escaped e) w) (34 ∷ []) in omega arith

-- an escape has up to ten characters for a character of two bytes or more
uchar_bytes : (c : ℕ) → 127 < c → length (uchar c) ≤ 3 * length (encode c)
uchar_bytes c l =
    let n = length-encode c in
    uchar_cases (λ w. length w ≤ 3 * length (encode c)) c
    (λ h. let two = more_than_one c l in omega (arith, n, two))
    (λ h. let four = four_bytes c h in omega (arith, n, four))
  where
    more_than_one : (c : ℕ) → 127 < c → 2 ≤ len_utf8 c
    more_than_one c l = grind (arith, nat_tests)

    four_bytes : (c : ℕ) → 0xFFFF < c → len_utf8 c ≡ 4
    four_bytes c l = grind (arith, nat_tests)

-- so the width of an IRI is counted by its bytes, as its limit is
char_bytes : (e : Escapes) (c : ℕ) → length (written e c) ≤ iri_width e * length (encode c)
char_bytes e c = let n = length-encode c in let one = (len_utf8_bounds c).0 in by e one n
  where
    by : (e : Escapes) → 1 ≤ len_utf8 c → length (encode c) ≡ len_utf8 c → length (written e c) ≤ iri_width e * length (encode c)
    by escapes.Plain o n = omega arith
    by escapes.Ascii o n = written_cases escapes.Ascii (λ w. length w ≤ 3 * length (encode c)) c (omega (arith, o, n)) (λ l. uchar_bytes c l)

-- and the text of an IRI is within that many times its bytes
iri_bytes : (e : Escapes) (i : List ℕ) → length (flat_map (written e) i) ≤ iri_width e * byte_len i
iri_bytes e [] = omega arith
iri_bytes e (c ∷ i) =
    let a = char_bytes e c in
    let b = iri_bytes e i in
    let s = length-append (written e c) (flat_map (written e) i) in
    let t = length-append (encode c) (encodes i) in
    let m : iri_width e * (length (encode c) + byte_len i) ≡ iri_width e * length (encode c) + iri_width e * byte_len i =
    mul-add (iri_width e) (length (encode c)) (byte_len i) in
    let k : iri_width e * byte_len (c ∷ i) ≡ iri_width e * (length (encode c) + byte_len i) = ap (λ x. iri_width e * x) t in
    omega arith

-- an IRI is written with two brackets more
pub written_iri : (e : Escapes) (i : List ℕ) → length (iri_text e i) ≤ 2 + iri_width e * byte_len i
written_iri e i = let a = iri_bytes e i in let s = length-append (flat_map (written e) i) (62 ∷ []) in omega arith

-- the size of the IRI of xsd:string, which a limit has to allow
xsd_bytes : byte_len xsd_string ≡ 39
unfolding encode
xsd_bytes = refl

-- the datatype that is not written has a length of its own
xsd_text : (e : Escapes) → length (iri_text e xsd_string) ≡ 41
xsd_text escapes.Plain = refl
xsd_text escapes.Ascii = refl

-- room for a string of so many characters, for an IRI of so many bytes, and for a token that is no longer
pub string_room : (e : Escapes) (v n limit t : ℕ) → v ≤ n - 1 → n ≤ limit → string_width e * limit ≤ t → 64 ≤ t → 2 + string_width e * v ≤ t
string_room escapes.Plain v n limit t a b c d = omega arith
string_room escapes.Ascii v n limit t a b c d = omega arith

-- the brackets are two more
pub iri_room : (e : Escapes) (v n t : ℕ) → v ≤ n → iri_width e * n + 2 ≤ t → 2 + iri_width e * v ≤ t
iri_room escapes.Plain v n t a b = omega arith
iri_room escapes.Ascii v n t a b = omega arith

-- a limit that has room for a string has room for its quotes
pub token_room : (e : Escapes) (limit t : ℕ) → string_width e * limit ≤ t → 2 * limit ≤ t
token_room escapes.Plain limit t a = omega arith
token_room escapes.Ascii limit t a = omega arith

module _ (form : Escapes) (limit n token_then iri_then : ℕ) (a : string_width form * limit ≤ token_then)
    (b : iri_width form * n + 2 ≤ token_then) (c : 64 ≤ token_then) (d : n ≤ iri_then) (e : 64 ≤ iri_then) where
  -- what is known of a token
  abbrev Good : Token → Type 0
  Good t = (length t.text ≤ limit) × (t.kind ≡ IriRef → byte_len (iri_of (leaf_of t)) ≤ n)

  -- a token that is an IRI within the limit is written within the limit of what is written
  iri_fits : (l : Leaf) → Good (token IriRef l) → (byte_len (iri_of l) ≤ iri_then) × (length (iri_text form (iri_of l)) ≤ token_then)
  iri_fits l g = let z = g.1 refl in let w = written_iri form (iri_of l) in let r = iri_room form _ _ _ z b in (omega arith, omega arith)

  -- so is one that is a label, which no form changes
  label_fits : (l : Leaf) → Good (token LabelNode l) → length (95 ∷ 58 ∷ drop 2 l.text) ≤ token_then
  label_fits l g = let s = length-drop 2 l.text in let z = g.0 in let r = token_room form limit token_then a in omega (arith, s)

  -- so is one that is a string
  string_fits : (l : Leaf) → Good (token ShortString l) → length (string_text form (string_of l)) ≤ token_then
  string_fits l g = let w = written_string form (string_of l) in let r = string_room form _ _ _ _ (string_short 1 l.text) g.0 a c in omega arith

  -- so is one that is a language tag
  tag_fits : (l : Leaf) → Good (token LangTag l) → length (64 ∷ drop 1 l.text) ≤ token_then
  tag_fits l g = let s = length-drop 1 l.text in let z = g.0 in let r = token_room form limit token_then a in omega (arith, s)

  -- so the subject that the tokens mean keeps both limits
  name_fits : (x : Name) → AllByRecursion Good (name_tokens x) →
      SubjectWithin iri_then (subject_of x) × (length (subject_text form (rename_subject Kept (subject_of x))) ≤ token_then)
  name_fits (Ref l) g = iri_fits l g.0
  name_fits (Lab l) g = (tt, label_fits l g.0)

  -- so does the object
  object_fits : (x : Object) → AllByRecursion Good (object_tokens x) →
      TermWithin iri_then (term_of x) × TermShort form token_then (rename_term Kept (term_of x))
  object_fits (Named x) g = name_fits x g
  object_fits (Plain l) g = (let z = xsd_bytes in omega arith, (string_fits l g.0, let w = xsd_text form in omega arith))
  object_fits (WithType l k i) g = let z = iri_fits i g.1.1.0 in (z.0, (string_fits l g.0, z.1))
  object_fits (WithTag l t) g = (tt, (string_fits l g.0, tag_fits t g.1.0))

  -- so does the graph label
  graph_fits_in : (x : Option Name) → AllByRecursion Good (graph_tokens x) →
      GraphWithin iri_then (option_map subject_of x) × GraphShort form token_then (option_map (rename_subject Kept) (option_map subject_of x))
  graph_fits_in None g = (tt, tt)
  graph_fits_in (Some x) g = name_fits x g

  abbrev Fits : Quad → Type 0
  Fits q = IrisWithin iri_then q × TokensWithin form token_then (rename Kept q)

  -- so does the quad of a statement
  statement_fits : (s : Statement) → AllByRecursion Good (statement_tokens s) → Fits (quad_of s)
  statement_fits s g =
      let n = name_tokens s.subject in
      let i = token IriRef s.predicate ∷ [] in
      let o = object_tokens s.object in
      let r = graph_tokens s.graph in
      let h = (split Good (n ++ i ++ o ++ r) (token Dot s.dot ∷ []) g).0 in
      let k = split Good (n ++ i ++ o) r h in
      let j = split Good (n ++ i) o k.0 in
      let m = split Good n i j.0 in
      let x = name_fits s.subject m.0 in
      let y = iri_fits s.predicate m.1.0 in
      let z = object_fits s.object j.1 in
      let w = graph_fits_in s.graph k.1 in
      (record { subject = x.0; predicate = y.0; object = z.0; graph = w.0 }, record { subject = x.1; predicate = y.1; object = z.1; graph = w.1 })

  -- so do all quads of a document
  tree_fits : (t : Tree) → AllByRecursion Good (document_tokens t) → AllByRecursion Fits (plain_quads t)
  tree_fits (last L.empty l) g = tt
  tree_fits (last (L.one s) l) g = (statement_fits s (split Good (statement_tokens s) (token End l ∷ []) g).0, tt)
  tree_fits (next L.empty l t) g = tree_fits t g.1
  tree_fits (next (L.one s) l t) g =
      let p = split Good (statement_tokens s) (token LineEnd l ∷ document_tokens t) g in
      (statement_fits s p.0, tree_fits t p.1.1)

  -- the half of that for IRIs, as the law of reading back asks it
  iris : (qs : List Quad) → AllByRecursion Fits qs → AllByRecursion (IrisWithin iri_then) qs
  iris [] h = tt
  iris (q ∷ qs) h = (h.0.0, iris qs h.1)

  -- the half of that for tokens
  shorts : (qs : List Quad) → AllByRecursion Fits qs → AllByRecursion (TokensWithin form token_then) (map (rename Kept) qs)
  shorts [] h = tt
  shorts (q ∷ qs) h = (h.0.1, shorts qs h.1)

  -- what is known of all tokens of a reading
  good : (ts : List Token) → All (λ t. length t.text ≤ limit) ts → PassesNone (Passes n) ts → AllByRecursion Good ts
  good [] s k = tt
  good (t ∷ ts) s k = (
    (All-head (λ t. length t.text ≤ limit) t ts s, λ i. ⊎_elim (λ l. absurd (k [] ts t refl (i, l))) (λ l. l) (cases_lt n (byte_len (iri_of (leaf_of t))))),
    good ts (All-tail (λ t. length t.text ≤ limit) t ts s) (λ ahead after u r p. k (t ∷ ahead) after u (ap (λ x. t ∷ x) r) p),
  )

-- so the quads of a document fit
document_fits : (x : Escapes) (form : LineForm) (limit n : ℕ) (bytes : List ℕ) (qs : List Quad) →
    IsDocumentOf (in_lines form limit n) bytes qs → IsWhole (in_lines form limit n) bytes →
    (token_then iri_then : ℕ) (a : string_width x * limit ≤ token_then) (b : iri_width x * n + 2 ≤ token_then) (c : 64 ≤ token_then)
    (d : n ≤ iri_then) (e : 64 ≤ iri_then) →
    AllByRecursion (Fits x limit n token_then iri_then a b c d e) qs
document_fits x form limit n bytes qs document whole token_then iri_then a b c d e =
    let ts = (tokens_of Lines limit bytes true).tokens in
    let (tree, tokens, bound, same) = without_marks form ts qs (document.1, document.2, document.3) in
    let g = good x limit n token_then iri_then a b c d e ts (no_longer Lines limit bytes true) whole.front.kept in
    let here = subst (AllByRecursion (Good x limit n token_then iri_then a b c d e)) tokens g in
    subst (AllByRecursion (Fits x limit n token_then iri_then a b c d e)) same (tree_fits x limit n token_then iri_then a b c d e tree here)

-- the quads of a document, and the limits that suffice
pub record Fitting (x : Escapes) (qs : List Quad) (token_then iri_then : ℕ) : Type 0 where
  pub writable : Writable Kept qs
  pub least : 2 ≤ token_then
  pub shorts : AllByRecursion (TokensWithin x token_then) (map (rename Kept) qs)
  pub iris : AllByRecursion (IrisWithin iri_then) qs

pub fitting : (x : Escapes) (form : LineForm) (limit n : ℕ) (bytes : List ℕ) (qs : List Quad) →
    IsDocumentOf (in_lines form limit n) bytes qs → IsWhole (in_lines form limit n) bytes →
    (token_then iri_then : ℕ) → string_width x * limit ≤ token_then → iri_width x * n + 2 ≤ token_then → 64 ≤ token_then → n ≤ iri_then →
    64 ≤ iri_then → Fitting x qs token_then iri_then
fitting x form limit n bytes qs document whole token_then iri_then a b c d e =
    let fits = document_fits x form limit n bytes qs document whole token_then iri_then a b c d e in
    record {
      writable = document_writable form limit n bytes qs document;
      least = omega arith;
      shorts = shorts x limit n token_then iri_then a b c d e qs fits;
      iris = iris x limit n token_then iri_then a b c d e qs fits;
    }

-- the law that what was written is read to its end
pub document_read_back : WrittenDocumentIsRead
document_read_back x p form limit n bytes qs word document whole token_then iri_then a b c d e =
    let fits = fitting x form limit n bytes qs document whole token_then iri_then a b c d e in
    let f : Form = record { style = Kept; escapes = x; prefix = p } in
    form_text_read f qs token_then iri_then word fits.writable fits.least fits.shorts fits.iris
