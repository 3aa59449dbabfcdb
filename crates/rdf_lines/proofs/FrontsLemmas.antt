-- What stands at the front of some bytes, put together from its parts.
use Rattle.rdf_lines.proofs.Prelude.{◌≡◌, ℕ, ◌+◌, ◌<◌, ◌≤◌, ◌⊎◌, Bool, true, false, List, [], ◌∷◌, ◌++◌, refl, sym, ap, ◌∙◌, subst, ⊎_elim, length, take, get_or, append_assoc, Option, Some, None, arith, length-append, flat_map, IfSome, bytes_eq, encode_utf8_all, chars, IsUtf8, AllByRecursion, append-nil, length-take-le, get_or-take, flat_map-append, and_parts, and_from, eq-eqb, nat_tests, bytes_eq-Decides, IsUtf8-take, encodes-append, encodes-chars, length-le-encodes, scalars-chars, scalars, iri_char, Label, Lang, Typed, Subject, Blank, Term, Resource, Literal, Quad, xsd_string, all_have, has_scheme, IsIri, IsLabel, IsTag, LineForm, NTriples, NQuads, LineEnding, Lf, CrLf, end_text, end_count, statement_text, ended_line, ended_lines, type_count, term_count, graph_count, quad_count, count, LabelFits, IsTaken, Stands, IriStands, NameStands, StringStands, SubjectStands, PredicateStands, TailStands, ObjectStands, GraphStands, LineStands, LinesStand, CharactersStand, EscapeStands, TermShort, TailShort, GraphShort, TokensWithin, written, escaped, iri_text, subject_text, string_text, type_text, tail_text, term_text, space, graph_text, iri_byte, is_short_byte, IsRun}
use Rattle.std.proofs.Math.Utf8 as Utf8
use Rattle.rdf_terms.specs.Classes.{has, scalar}
use Rattle.rdf_terms.specs.Terms.{Tail, Iri}
pub use Rattle.rdf_iri.proofs.RootLemmas.{front-slice as front_slice}
pub use Rattle.rdf_iri.proofs.IriKept.{all_have-append as have_both}
use Rattle.rdf_lines.specs.declared.form.Escapes.TheVariants.{Plain}
use Rattle.rdf_terms.proofs.IriBytes.{iri_bytes}
use Rattle.rdf_terms.proofs.RunsLemmas.{run_decides}
use Rattle.rdf_lines.proofs.EscapedRuns.{each, run_cut}
use Rattle.rdf_lines.proofs.PlainRuns.{plain_front, run_plain, escaped_text}
use Rattle.rdf_lines.proofs.EncodedLine.{low, xsd, same_type}

-- what holds of an answer
pub if_some : {A : Type 0} (o : Option A) (P Q : A → Type 0) → ((x : A) → P x → Q x) → IfSome o P → IfSome o Q
if_some None P Q f h = h
if_some (Some x) P Q f h = f x h

-- the bytes of a run have its test
pub run_taken : (p : ℕ → Bool) (bs : List ℕ) (end : ℕ) → IsRun p bs 0 end → all_have p (take end bs) ≡ true
run_taken p bs end r =
    let s = take end bs in
    let n = length-take-le end bs r.within in
    let all : IsRun p s 0 (length s) = record {
      from = omega arith;
      within = omega arith;
      pass = λ k from to. ap p (get_or-take end bs k 0 (omega (arith, n))) ∙ r.pass k from (omega (arith, n));
      stops = λ short. absurd (omega arith);
    } in
    sym (run_decides p s (length s) all) ∙ eq-eqb (length s) (length s) refl

-- the run of the code goes over bytes of characters that an IRI may have
pub iri_taken : (bs : List ℕ) (end : ℕ) → IsRun iri_byte bs 0 end → IsUtf8 (take end bs) → all_have (has iri_char) (chars (take end bs)) ≡ true
iri_taken bs end r u = sym (iri_bytes (take end bs) u) ∙ run_taken iri_byte bs end r

-- one text after another
pub stands_then : (u w a b c : List ℕ) → Stands u a b → Stands w b c → Stands (u ++ w) a c
stands_then u w a b c f g =
    f ∙ (ap (λ x. encode_utf8_all u ++ x) g
    ∙ (sym (append_assoc (encode_utf8_all u) (encode_utf8_all w) c) ∙ ap (λ x. x ++ c) (sym (encodes-append u w))))

-- a character of ASCII is its byte
pub stands_byte : (c : ℕ) (a b : List ℕ) → c < 128 → a ≡ c ∷ b → Stands (c ∷ []) a b
stands_byte c a b l e = e ∙ ap (λ x. x ++ b) (sym (low c [] l))

-- a text by its bytes
pub stands_text : (part a b : List ℕ) → IsUtf8 part → a ≡ part ++ b → Stands (chars part) a b
stands_text part a b u e = e ∙ ap (λ x. x ++ b) (sym (encodes-chars part u))

-- a run of such bytes with a scheme, up to the closing bracket, is an IRI of the line
pub iri_stands : (limit : ℕ) (part a b : List ℕ) → IsUtf8 part → all_have (has iri_char) (chars part) ≡ true →
    has_scheme (chars part) ≡ true → length part ≤ limit → a ≡ part ++ 62 ∷ b → IriStands limit (chars part) a b
iri_stands limit part a b u h s l e = record {
  is = record { characters = h; scheme = s };
  within = subst (λ x. length x ≤ limit) (sym (encodes-chars part u)) l;
  stands = subst (λ w. Stands (w ++ 62 ∷ []) a b) (sym (each (chars part)))
      (stands_then (chars part) (62 ∷ []) a (62 ∷ b) b (stands_text part a (62 ∷ b) u e) (stands_byte 62 (62 ∷ b) b (omega arith) refl));
}

-- bytes that are a label or a tag, at the front
pub name_stands : (is : List ℕ → Type 0) (part a b : List ℕ) → IsUtf8 part → is (chars part) → a ≡ part ++ b → NameStands is (chars part) a b
name_stands is part a b u h e = record { part = part; utf8 = u; named = refl; is_name = h; stands = e }

-- they are its characters
name_text : (is : List ℕ → Type 0) (x a b : List ℕ) → NameStands is x a b → Stands x a b
name_text is x a b h = subst (λ y. Stands y a b) h.named (stands_text h.part a b h.utf8 h.stands)

-- a scalar value of UTF-8 is one of a string's characters
scalar_same : (c : ℕ) → Utf8.scalar c ≡ true → scalar c ≡ true
scalar_same c e = grind (arith, nat_tests)

-- so the characters of UTF-8 may all stand in a string
pub all_scalar : (w : List ℕ) → scalars w ≡ true → all_have scalar w ≡ true
all_scalar [] e = refl
all_scalar (c ∷ w) e = let p = and_parts (Utf8.scalar c) (scalars w) e in and_from (scalar c) (all_have scalar w) (scalar_same c p.0) (all_scalar w p.1)

-- where a loop over the parts of a string begins
pub no_characters : (a : List ℕ) → CharactersStand a a
no_characters a = record { characters = []; are = refl; stands = refl }

-- where it goes on
pub characters_then : (a b c : List ℕ) → CharactersStand a b → CharactersStand b c → CharactersStand a c
characters_then a b c f g = record {
  characters = f.characters ++ g.characters;
  are = have_both scalar f.characters g.characters f.are g.are;
  stands =
      subst (λ w. Stands w a c) (sym (flat_map-append (escaped Plain) f.characters g.characters))
      (stands_then (flat_map (escaped Plain) f.characters) (flat_map (escaped Plain) g.characters) a b c f.stands g.stands);
}

-- a run, and characters after it
pub run_then : (a : List ℕ) (end : ℕ) (b c : List ℕ) → IsUtf8 a → IsRun (is_short_byte 34) a 0 end → a ≡ take end a ++ b →
    CharactersStand b c → CharactersStand a c
run_then a end b c u r e f =
    let run = take end a in
    let good : IsUtf8 run = IsUtf8-take a end u (run_cut Plain a end u r) in
    let plain : flat_map (escaped Plain) run ≡ run = plain_front a end (λ k l. run_plain (get_or a k 0) (r.pass k (omega arith) l)) in
    let same : encode_utf8_all (flat_map (escaped Plain) (chars run)) ≡ run =
    escaped_text (chars run) ∙ (ap (flat_map (escaped Plain)) (encodes-chars run good) ∙ plain) in
    characters_then a b c (record { characters = chars run; are = all_scalar (chars run) (scalars-chars run good); stands = e ∙ ap (λ x. x ++ b) (sym same) }) f

-- an escape
pub escape_stands : (a b c : List ℕ) → a ≡ 92 ∷ b → EscapeStands b c → CharactersStand a c
escape_stands a b c e h = record {
  characters = h.character ∷ [];
  are = and_from (scalar h.character) true h.is refl;
  stands = subst (λ w. Stands w a c) (sym (append-nil (escaped Plain h.character))) (e ∙ h.stands);
}

-- the four escapes, by what stands after the backslash
letter_means : (letter c : ℕ) (a b : List ℕ) → escaped Plain c ≡ 92 ∷ letter ∷ [] → scalar c ≡ true → letter < 128 → a ≡ letter ∷ b → EscapeStands a b
letter_means letter c a b w s l e = record {
  character = c;
  is = s;
  stands = subst (λ x. Stands x (92 ∷ a) b) (sym w)
      (stands_then (92 ∷ []) (letter ∷ []) (92 ∷ a) a b (stands_byte 92 (92 ∷ a) a (omega arith) refl) (stands_byte letter a b l e));
}

-- a backslash and one of the four letters is the escape that would be written
pub letter_stands : (letter : ℕ) (a b : List ℕ) → (letter ≡ 34) ⊎ ((letter ≡ 92) ⊎ ((letter ≡ 110) ⊎ (letter ≡ 114))) → a ≡ letter ∷ b → EscapeStands a b
letter_stands letter a b h e =
    let means = λ (n c : ℕ) (w : escaped Plain c ≡ 92 ∷ n ∷ []) (s : scalar c ≡ true) (l : n < 128) (i : letter ≡ n). letter_means n c a b w
    s l (e ∙ ap (λ x. x ∷ b) i) in
    ⊎_elim (means 34 34 refl refl (omega arith)) (⊎_elim (means 92 92 refl refl (omega arith))
    (⊎_elim (means 110 10 refl refl (omega arith)) (means 114 13 refl refl (omega arith)))) h

module _ (limit : ℕ) where
  -- an IRI in its brackets
  bracketed : (i a b c : List ℕ) → a ≡ 60 ∷ b → IriStands limit i b c → Stands (iri_text Plain i) a c
  bracketed i a b c e h = stands_then (60 ∷ []) (flat_map (written Plain) i ++ 62 ∷ []) a b c (stands_byte 60 a b (omega arith) e) h.stands

  -- a part and a space
  spaced : (w a b c : List ℕ) → Stands w a b → b ≡ 32 ∷ c → Stands (w ++ space) a c
  spaced w a b c h e = stands_then w space a b c h (stands_byte 32 b c (omega arith) e)

  -- an IRI in its brackets with a space is a subject
  pub iri_subject : (i a b c d : List ℕ) → a ≡ 60 ∷ b → IriStands limit i b c → c ≡ 32 ∷ d → SubjectStands limit a d
  iri_subject i a b c d e h f = record {
    subject = Iri i;
    is = h.is;
    labels = tt;
    within = h.within;
    stands = spaced (iri_text Plain i) a c d (bracketed i a b c e h) f;
  }

  -- so is a label after its two characters, with a space
  pub label_subject : (x a b c d r : List ℕ) → a ≡ 95 ∷ b → b ≡ 58 ∷ c → NameStands IsLabel x c d → d ≡ 32 ∷ r → SubjectStands limit a r
  label_subject x a b c d r e f h g =
      let mark : Stands (95 ∷ 58 ∷ []) a c = stands_then (95 ∷ []) (58 ∷ []) a b c (stands_byte 95 a b (omega arith) e) (stands_byte 58 b c (omega arith) f) in
      record {
        subject = Blank (Label x);
        is = h.is_name;
        labels = tt;
        within = tt;
        stands = spaced (95 ∷ 58 ∷ x) a d r (stands_then (95 ∷ 58 ∷ []) x a c d mark (name_text IsLabel x c d h)) g;
      }

  -- an IRI and a space, as a predicate
  pub predicate_stands : (i a b c d : List ℕ) → a ≡ 60 ∷ b → IriStands limit i b c → c ≡ 32 ∷ d → PredicateStands limit a d
  predicate_stands i a b c d e h f = record { predicate = i; is = h.is; within = h.within; stands = spaced (iri_text Plain i) a c d (bracketed i a b c e h) f }

  -- an object
  pub named_object : (a b : List ℕ) → SubjectStands limit a b → ObjectStands limit 1 a b
  named_object a b h = record { object = Resource h.subject; is = h.is; labels = h.labels; within = h.within; count = refl; stands = h.stands }

  -- a string and what comes after it are an object, with the tokens of both
  pub literal_object : (n : ℕ) (a b c d : List ℕ) → a ≡ 34 ∷ b → StringStands b c → TailStands limit n c d → ObjectStands limit (n + 1) a d
  literal_object n a b c d e s t =
      let inner : Stands (flat_map (escaped Plain) s.characters ++ 34 ∷ []) b c = stands_then (flat_map (escaped Plain) s.characters)
      (34 ∷ []) b (34 ∷ c) c s.stands (stands_byte 34 (34 ∷ c) c (omega arith) refl) in
      let w : Stands (string_text Plain s.characters) a c =
      stands_then (34 ∷ []) (flat_map (escaped Plain) s.characters ++ 34 ∷ []) a b c (stands_byte 34 a b (omega arith) e) inner in
      record {
        object = Literal s.characters t.tail;
        is = (s.are, t.is);
        labels = tt;
        within = t.within;
        count = let k = t.count in omega (arith, k);
        stands = subst (λ x. Stands x a d) (sym (append_assoc (string_text Plain s.characters) (tail_text Plain t.tail) space))
            (stands_then (string_text Plain s.characters) (tail_text Plain t.tail ++ space) a c d w t.stands);
      }

  -- the datatype that is not written is an IRI all the same
  pub xsd_iri : IsIri xsd_string
  unfolding has
  xsd_iri = record { characters = refl; scheme = refl }

  -- a string and a space: its datatype is xsd:string, whose length counts though it is not written
  pub plain_tail : (a b : List ℕ) → 39 ≤ limit → a ≡ 32 ∷ b → TailStands limit 0 a b
  plain_tail a b l e = record {
    tail = Typed xsd_string;
    is = xsd_iri;
    within = subst (λ x. length x ≤ limit) (sym xsd) l;
    count = refl;
    stands = stands_byte 32 a b (omega arith) e;
  }

  -- a language tag and a space
  pub tagged_tail : (t a b c d : List ℕ) → a ≡ 64 ∷ b → NameStands IsTag t b c → c ≡ 32 ∷ d → TailStands limit 1 a d
  tagged_tail t a b c d e h f = record {
    tail = Lang t;
    is = h.is_name;
    within = tt;
    count = refl;
    stands = spaced (64 ∷ t) a c d (stands_then (64 ∷ []) t a b c (stands_byte 64 a b (omega arith) e) (name_text IsTag t b c h)) f;
  }

  -- two carets, an IRI that is not that of xsd:string, and a space
  pub typed_tail : (i a b c d f g : List ℕ) → IsUtf8 i → bytes_eq i xsd_string ≡ false → a ≡ 94 ∷ b → b ≡ 94 ∷ c → c ≡ 60 ∷ d →
      IriStands limit (chars i) d f → f ≡ 32 ∷ g → TailStands limit 2 a g
  typed_tail i a b c d f g u n e k l h m =
      let other : bytes_eq (chars i) xsd_string ≡ false = same_type i u ∙ n in
      let carets : Stands (94 ∷ 94 ∷ []) a c =
      stands_then (94 ∷ []) (94 ∷ []) a b c (stands_byte 94 a b (omega arith) e) (stands_byte 94 b c (omega arith) k) in
      let all : Stands (type_text Plain false (chars i) ++ space) a g = spaced (94 ∷ 94 ∷ iri_text Plain (chars i)) a f g
      (stands_then (94 ∷ 94 ∷ []) (iri_text Plain (chars i)) a c f carets (bracketed (chars i) c d f l h)) m in
      record {
        tail = Typed (chars i);
        is = h.is;
        within = h.within;
        count = sym (ap type_count other);
        stands = subst (λ t. Stands (type_text Plain t (chars i) ++ space) a g) (sym other) all;
      }

  -- a graph label
  pub no_graph : (form : LineForm) (a : List ℕ) → GraphStands form limit 0 a a
  no_graph form a = record { graph = None; is = tt; labels = tt; within = tt; fits = none form; count = refl; stands = refl }
    where
      none : (f : LineForm) → LabelFits f None
      none NTriples = refl
      none NQuads = tt

  -- a graph label is written as a subject is
  pub one_graph : (a b : List ℕ) → SubjectStands limit a b → GraphStands NQuads limit 1 a b
  one_graph a b h = record { graph = Some h.subject; is = h.is; labels = h.labels; within = h.within; fits = tt; count = refl; stands = h.stands }

-- no token of a line is longer than the line, but for a datatype that is not written
module _ (n : ℕ) (roomy : 64 ≤ n) where
  -- a datatype that is not written has 41 characters, fewer than the 64 that are asked
  typed_short : (b : Bool) (i : List ℕ) → (b ≡ true → i ≡ xsd_string) → length (type_text Plain b i) ≤ n → length (iri_text Plain i) ≤ n
  typed_short true i e l = let k : length (iri_text Plain xsd_string) ≡ 41 = refl in let same : length (iri_text Plain i) ≡ length
      (iri_text Plain xsd_string) = ap (λ x. length (iri_text Plain x)) (e refl) in omega (arith, k, same)
  typed_short false i e l = omega arith

  -- so what comes after a string keeps a limit that its text keeps
  tail_short : (t : Tail) → length (tail_text Plain t) ≤ n → TailShort Plain n t
  tail_short (Lang t) l = l
  tail_short (Typed i) l = typed_short (bytes_eq i xsd_string) i (bytes_eq-Decides i xsd_string).0 l

  -- so does an object, its string and what comes after it
  term_short : (t : Term) → length (term_text Plain t) ≤ n → TermShort Plain n t
  term_short (Resource s) l = l
  term_short (Literal w t) l =
      let k = length-append (string_text Plain w) (tail_text Plain t) in (omega (arith, k), tail_short t (omega (arith, k)))

  -- so does a graph label
  graph_short : (g : Option Subject) → length (graph_text Plain g) ≤ n → GraphShort Plain n g
  graph_short None l = tt
  graph_short (Some g) l = let k = length-append (subject_text Plain g) space in omega (arith, k)

  -- so all tokens of a statement keep a limit that the line keeps
  tokens_within : (q : Quad) → length (statement_text q) ≤ n → TokensWithin Plain n q
  tokens_within q l =
      let a = subject_text Plain q.subject in
      let b = iri_text Plain q.predicate in
      let c = term_text Plain q.object in
      let g = graph_text Plain q.graph in
      let f = length-append ((((a ++ space) ++ (b ++ space)) ++ (c ++ space)) ++ g) (46 ∷ []) in
      let h = length-append (((a ++ space) ++ (b ++ space)) ++ (c ++ space)) g in
      let i = length-append ((a ++ space) ++ (b ++ space)) (c ++ space) in
      let j = length-append (a ++ space) (b ++ space) in
      let k = length-append a space in
      let m = length-append b space in
      let o = length-append c space in
      record {
        subject = omega (arith, f, h, i, j, k, m, o);
        predicate = omega (arith, f, h, i, j, k, m, o);
        object = term_short q.object (omega (arith, f, h, i, j, k, m, o));
        graph = graph_short q.graph (omega (arith, f, h, i, j, k, m, o));
      }

-- the end of a line
pub end_stands : (ending : LineEnding) (a b : List ℕ) → a ≡ end_text ending ++ b → Stands (end_text ending) a b
end_stands Lf a b e = stands_byte 10 a b (omega arith) e
end_stands CrLf a b e = stands_then (13 ∷ []) (10 ∷ []) a (10 ∷ b) b (stands_byte 13 a (10 ∷ b) (omega arith) e) (stands_byte 10 (10 ∷ b) b (omega arith) refl)

module _ (ending : LineEnding) where
  -- the parts in a row, a dot and the end are a line that may be passed
  pub line_stands : (form : LineForm) (token limit m n : ℕ) (a b c d f g h : List ℕ) → SubjectStands limit a b → PredicateStands limit b c →
      ObjectStands limit m c d → GraphStands form limit n d f →
      f ≡ 46 ∷ g → g ≡ end_text ending ++ h → 64 ≤ token → length a ≤ token → LineStands ending form token limit (m + n + 3 + end_count ending) a h
  line_stands form token limit m n a b c d f g h s p o r e t roomy l = record {
    quad = q;
    is = record {
      quad = record { subject = s.is; predicate = p.is; object = o.is; graph = r.is };
      labels = record { subject = s.labels; object = o.labels; graph = r.labels };
      tokens = tokens_within token roomy q short;
      iris = record { subject = s.within; predicate = p.within; object = o.within; graph = r.within };
      graph = r.fits;
    };
    count = let x = o.count in let y = r.count in omega (arith, x, y);
    stands = all;
  }
    where
      q : Quad
      q = record { subject = s.subject; predicate = p.predicate; object = o.object; graph = r.graph }

      all : Stands (ended_line ending q) a h
      all =
          stands_then (statement_text q) (end_text ending) a g h
          (stands_then _ (46 ∷ []) a f g
          (stands_then _ (graph_text Plain r.graph) a d f
          (stands_then _ (term_text Plain o.object ++ space) a c d
          (stands_then (subject_text Plain s.subject ++ space) (iri_text Plain p.predicate ++ space) a b c s.stands p.stands)
          o.stands)
          r.stands)
          (stands_byte 46 f g (omega arith) e))
          (end_stands ending g h t)

      short : length (statement_text q) ≤ token
      short =
          let few = length-le-encodes (ended_line ending q) in
          omega (arith, few, l, ap length all, length-append (encode_utf8_all (ended_line ending q)) h, length-append (statement_text q) (end_text ending))

  -- the tokens of two lists of lines are counted together
  count-append : (qs rs : List Quad) → count ending (qs ++ rs) ≡ count ending qs + count ending rs
  count-append [] rs = omega arith
  count-append (q ∷ qs) rs = let h = count-append qs rs in omega (arith, h)

  module _ (form : LineForm) (token iri : ℕ) where
    -- what holds of the quads of two lists holds of both in a row
    each-append : (qs rs : List Quad) → AllByRecursion (IsTaken form token iri) qs → AllByRecursion (IsTaken form token iri) rs →
        AllByRecursion (IsTaken form token iri) (qs ++ rs)
    each-append [] rs h k = k
    each-append (q ∷ qs) rs h k = (h.0, each-append qs rs h.1 k)

    -- the lines so far and one line more
    pub lines_more : (n m k : ℕ) (a b c : List ℕ) → LinesStand ending form token iri n m a b → LineStands ending form token iri k b c →
        LinesStand ending form token iri (n + 1) (m + k) a c
    lines_more n m k a b c h l =
        let one = l.quad ∷ [] in
        let line : Stands (ended_lines ending one) b c = subst (λ w. Stands w b c) (sym (append-nil (ended_line ending l.quad))) l.stands in
        record {
          given = h.given ++ one;
          each = each-append h.given one h.each (l.is, tt);
          quad_count = let x = h.quad_count in omega (arith, x, length-append h.given one);
          token_count = let x = h.token_count in let y = l.count in omega (arith, x, y, count-append h.given one);
          stands = subst (λ w. Stands w a c) (sym (flat_map-append (ended_line ending) h.given one))
              (stands_then (ended_lines ending h.given) (ended_lines ending one) a b c h.stands line);
        }

-- there are no more tokens than bytes, nor quads
few_tokens : (t : Term) → term_count t ≤ 3
few_tokens (Resource s) = omega arith
few_tokens (Literal w (Lang t)) = omega arith
few_tokens (Literal w (Typed i)) = by (bytes_eq i xsd_string)
  where
    by : (b : Bool) → 1 + type_count b ≤ 3
    by true = omega arith
    by false = omega arith

-- a graph label has a character for its token
label_long : (g : Option Subject) → graph_count g ≤ length (graph_text Plain g)
label_long None = omega arith
label_long (Some g) = let k = length-append (subject_text Plain g) space in omega (arith, k)

-- and so has the end of a line
end_long : (e : LineEnding) → end_count e ≤ length (end_text e)
end_long Lf = omega arith
end_long CrLf = omega arith

module _ (ending : LineEnding) where
  -- a line has a character for each of its tokens
  quad_long : (q : Quad) → quad_count ending q ≤ length (ended_line ending q)
  quad_long q =
      let a = subject_text Plain q.subject in
      let b = iri_text Plain q.predicate in
      let c = term_text Plain q.object in
      let g = graph_text Plain q.graph in
      let e = length-append (statement_text q) (end_text ending) in
      let f = length-append ((((a ++ space) ++ (b ++ space)) ++ (c ++ space)) ++ g) (46 ∷ []) in
      let h = length-append (((a ++ space) ++ (b ++ space)) ++ (c ++ space)) g in
      let i = length-append ((a ++ space) ++ (b ++ space)) (c ++ space) in
      let j = length-append (a ++ space) (b ++ space) in
      let k = length-append a space in
      let m = length-append b space in
      let o = length-append c space in
      let p = length-append (flat_map (written Plain) q.predicate) (62 ∷ []) in
      omega (arith, e, f, h, i, j, k, m, o, p, few_tokens q.object, label_long q.graph, end_long ending)

  -- and so have all lines, which have a token for each quad
  text_long : (qs : List Quad) → (count ending qs ≤ length (ended_lines ending qs)) × (length qs ≤ count ending qs)
  text_long [] = (omega arith, omega arith)
  text_long (q ∷ qs) =
      let r = text_long qs in
      let k = length-append (ended_line ending q) (ended_lines ending qs) in
      (omega (arith, r.0, k, quad_long q), omega (arith, r.1))

  -- so the counts of what is passed are within the bytes, and cannot pass 64 bits
  pub lines_few : (form : LineForm) (token iri n m : ℕ) (a b : List ℕ) → LinesStand ending form token iri n m a b → (m + length b ≤ length a) × (n ≤ m)
  lines_few form token iri n m a b h =
      let l = text_long h.given in
      let k = length-le-encodes (ended_lines ending h.given) in
      let s = ap length h.stands ∙ length-append (encode_utf8_all (ended_lines ending h.given)) b in
      let x = h.token_count in
      let y = h.quad_count in
      (omega (arith, l.0, k, s, x), omega (arith, l.1, x, y))

  -- and the loop over the lines comes nearer to the end with each
  pub line_goes_on : (form : LineForm) (token iri n : ℕ) (a b : List ℕ) → LineStands ending form token iri n a b → (n + length b ≤ length a) × (0 < n)
  line_goes_on form token iri n a b h =
      let k = length-le-encodes (ended_line ending h.quad) in
      let s = ap length h.stands ∙ length-append (encode_utf8_all (ended_line ending h.quad)) b in
      let x = h.count in
      (omega (arith, quad_long h.quad, k, s, x), omega (arith, x))
