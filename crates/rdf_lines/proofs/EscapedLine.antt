-- Lines whose strings and IRIs may have any escapes are read.
use Rattle.rdf_lines.proofs.Prelude.{◌≡◌, ℕ, ◌+◌, ◌≤◌, all_have, and_from, true, false, List, [], ◌∷◌, ◌++◌, refl, sym, ap, ◌∙◌, subst, Option, Some, None, length, is_some, arith, length-append, option_map, unwrap_or, encode_utf8_all, chars, chars-encodes, length-le-encodes, scalars-chars, encodes, scalars, Lines, Kind, IriRef, LabelNode, ShortString, LangTag, Carets, Dot, Matches, any_shape, kinds, is_live, is_fit, iri_value, string_value, IsSubject, IsTail, IsTerm, IsGraph, Label, Anon, Cell, Lang, Typed, Subject, Blank, Term, Resource, Literal, Quad, xsd_string, has_scheme, IsIri, IsLabel, IsTag, IsQuad, live-matches, cases_Bool, ⊎_elim, inl, inr, drop, Place, Token, past, tokens, with_tokens, Leaf, iri_of, Driven, LeadsBack, LineForm, NTriples, NQuads, LineEnding, Lf, CrLf, Kept, Rules, LineAt, line_words, end_text, end_count, is_clear, IriSpelled, StringSpelled, NamedIri, NameStands, LabelSpelled, SubjectSpelled, Spaced, GapStands, TagSpelled, TypeSpelled, TailSpelled, LiteralSpelled, TermSpelled, GraphSpelled, LineSpelled, Stands, IrisWithin, SubjectWithin, TailWithin, TermWithin, GraphWithin, Name, Ref, Lab, Object, Named, WithType, WithTag, Statement, name_tokens, object_tokens, graph_tokens, statement_tokens, string_of, subject_of, term_of, graph_fits, name_bound, object_bound, graph_bound, GoodStatement, Begin, ran, with_quad, run, is_taken, CanWrite, CanWriteSubject, CanWriteTerm, CanWriteGraph}
use Rattle.rdf_terms.specs.Terms.{Tail, Iri}
use Rattle.rdf_tokens.specs.Leaves.{token}
use Rattle.rdf_tokens.specs.Tokens.{is_space}
use Rattle.rdf_lines.specs.declared.form.Escapes.TheVariants.{Plain}
use Rattle.rdf_lines.specs.Lines as L
use Rattle.rdf_lines.specs.Lines.{Plain as PlainString, quad_of}
use Rattle.rdf_lines.proofs.AcceptedLemmas.{statement_taken}
use Rattle.rdf_lines.proofs.CanonicalLines.{end_tokens, end_counted, end_ran, end_short, spells_end}
use Rattle.rdf_lines.proofs.Complete.{run_statement}
use Rattle.rdf_lines.proofs.EncodedLine.{xsd}
use Rattle.rdf_lines.proofs.EscapedParts.{blanks_scalars, blanks_stand}
use Rattle.rdf_lines.proofs.EscapedTokens.{clear_chars, clear_ends, iri_shaped, string_shaped}
use Rattle.rdf_lines.proofs.FrontsLemmas.{stands_then, stands_byte, stands_text, end_stands, xsd_iri}
use Rattle.rdf_lines.proofs.NextToken.{cut_by_other, cut_by_shape, kind_at, shape_at}
use Rattle.rdf_lines.proofs.Runs.{with_quads, then, run_append}
use Rattle.rdf_lines.proofs.SpelledLine.{AllShort, Spells, same_quad, leaf, iri_blank, label_fit, label_shape, label_blank, tag_fit, tag_shape, tag_blank, total, total_short, short_both, spells_alone, spells_before_blanks, spells_blanks, spells_carets, spells_dot, spells_nothing, spells_then}
use Rattle.rdf_lines.proofs.WritingLemmas.{begins_iri, begins_label, begins_string, begins_tag, inside_one}
use Rattle.rdf_lines.proofs.WrittenText.{scalars_append}

-- Some characters stand before the rest, and are read as the tokens of a tree, wherever they begin.
record Reads {T : Type 0} (tokens_of : T → List Token) (Means : T → Type 0) (n : ℕ) (bytes rest : List ℕ) : Type 0 where
  w : List ℕ
  good : scalars w ≡ true
  stands : Stands w bytes rest
  tree : Place → T
  spells : (limit : ℕ) → Spells limit w (λ p. tokens_of (tree p))
  means : (p : Place) → Means (tree p)
  counted : (p : Place) → length (tokens_of (tree p)) ≡ n

-- one part after another
reads_both : {T U V : Type 0} (f : T → List Token) (g : U → List Token) (h : V → List Token) (M : T → Type 0) (N : U → Type 0)
    (O : V → Type 0) (make : T → U → V) →
    ((x : T) (y : U) → h (make x y) ≡ f x ++ g y) → ((x : T) (y : U) → M x → N y → O (make x y)) → (m n : ℕ) (a b c : List ℕ) →
    Reads f M m a b → Reads g N n b c → Reads h O (m + n) a c
reads_both f g h M N O make same meant m n a b c r s = record {
  w = r.w ++ s.w;
  good = scalars_append r.w s.w r.good s.good;
  stands = stands_then r.w s.w a b c r.stands s.stands;
  tree = λ p. make (r.tree p) (s.tree (past p r.w));
  spells = λ limit.
      let z = spells_then limit r.w s.w (λ p. f (r.tree p)) (λ p. g (s.tree p)) (r.spells limit) (s.spells limit) in
      record {
        size = λ p. subst (λ ts. total ts ≤ length (r.w ++ s.w)) (sym (same (r.tree p) (s.tree (past p r.w)))) (z.size p);
        reads = λ tail p v k.
            let e = same (r.tree p) (s.tree (past p r.w)) in
            subst (λ ts. tokens Lines limit tail false p ((r.w ++ s.w) ++ v) ≡ with_tokens ts (tokens Lines limit tail false (past p (r.w ++ s.w)) v)) (sym e)
            (z.reads tail p v (subst (AllShort limit) e k));
      };
  means = λ p. meant (r.tree p) (s.tree (past p r.w)) (r.means p) (s.means (past p r.w));
  counted = λ p.
      let x = r.tree p in
      let y = s.tree (past p r.w) in
      let e = ap length (same x y) ∙ length-append (f x) (g y) in
      let i = r.counted p in
      let j = s.counted (past p r.w) in
      omega (arith, e, i, j);
}

-- the same part as another tree
reads_as : {T V : Type 0} (f : T → List Token) (h : V → List Token) (M : T → Type 0) (O : V → Type 0) (make : T → V) →
    ((x : T) → h (make x) ≡ f x) → ((x : T) → M x → O (make x)) → (n : ℕ) (a b : List ℕ) → Reads f M n a b → Reads h O n a b
reads_as f h M O make same meant n a b r = record {
  w = r.w;
  good = r.good;
  stands = r.stands;
  tree = λ p. make (r.tree p);
  spells = λ limit.
      let z = r.spells limit in
      record {
        size = λ p. subst (λ ts. total ts ≤ length r.w) (sym (same (r.tree p))) (z.size p);
        reads = λ tail p v k.
            let e = same (r.tree p) in
            subst (λ ts. tokens Lines limit tail false p (r.w ++ v) ≡ with_tokens ts (tokens Lines limit tail false (past p r.w) v)) (sym e)
            (z.reads tail p v (subst (AllShort limit) e k));
      };
  means = λ p. meant (r.tree p) (r.means p);
  counted = λ p. ap length (same (r.tree p)) ∙ r.counted p;
}

-- one token of a kind
abbrev token_of : Kind → Leaf → List Token
token_of k l = token k l ∷ []

-- the token of an IRI with a value is fit
iri_fits : (w i : List ℕ) → iri_value w ≡ Some i → is_fit IriRef (60 ∷ w ++ 62 ∷ []) ≡ true
unfolding is_fit
iri_fits w i e = ap (λ x. is_some (iri_value x)) (inside_one 60 62 w) ∙ ap is_some e

-- so is that of a string
string_fits : (w v : List ℕ) → string_value w ≡ Some v → is_fit ShortString (34 ∷ w ++ 34 ∷ []) ≡ true
unfolding is_fit
string_fits w v e = ap (λ x. is_some (string_value x)) (inside_one 34 34 w) ∙ ap is_some e

-- what parts two tokens
abbrev gap_text : (a b : List ℕ) → GapStands a b → List ℕ
gap_text a b g = g.first.blank ∷ g.more.blanks

gap_blank : (a b : List ℕ) (g : GapStands a b) → all_have (is_space Lines) (gap_text a b g) ≡ true
gap_blank a b g = and_from (is_space Lines g.first.blank) (all_have (is_space Lines) g.more.blanks) g.first.is g.more.are

gap_stands : (a b : List ℕ) (g : GapStands a b) → Stands (gap_text a b g) a b
gap_stands a b g = blanks_stand (gap_text a b g) a b (gap_blank a b g) (g.first.stands ∙ ap (λ x. g.first.blank ∷ x) g.more.stands)

-- an IRI, and spaces or tabs after it
reads_iri : (iri : ℕ) (i a b : List ℕ) → Spaced (NamedIri iri i) a b → Reads (token_of IriRef) (λ l. iri_of l ≡ i) 1 a b
reads_iri iri i a b h = record {
  w = text ++ gap;
  good = scalars_append text gap (scalars_append (60 ∷ raw) (62 ∷ []) (scalars-chars s.part s.utf8) refl) (blanks_scalars gap blank);
  stands =
      stands_then text gap a h.mid b
      (stands_then (60 ∷ raw) (62 ∷ []) a (62 ∷ h.mid) h.mid
      (stands_then (60 ∷ []) raw a n.inner (62 ∷ h.mid) (stands_byte 60 a n.inner (omega arith) n.opens)
      (stands_text s.part n.inner (62 ∷ h.mid) s.utf8 s.stands))
      (stands_byte 62 (62 ∷ h.mid) h.mid (omega arith) refl))
      (gap_stands h.mid b h.gap);
  tree = λ p. leaf text p;
  spells = λ limit.
      spells_before_blanks limit 60 (raw ++ 62 ∷ []) IriRef h.gap.first.blank h.gap.more.blanks blank (λ v. refl) (kind_at 60 IriRef begins_iri (raw ++ 62 ∷ []) (iri_shaped raw i s.value)) fit
      (λ v. cut_by_other 60 IriRef begins_iri (raw ++ 62 ∷ []) h.gap.first.blank v (iri_blank h.gap.first.blank h.gap.first.is));
  means = λ p. ap (λ x. unwrap_or (iri_value x) []) (inside_one 60 62 raw) ∙ ap (λ x. unwrap_or x []) s.value;
  counted = λ p. refl;
}
  where
    n : NamedIri iri i a h.mid
    n = h.spelled

    s : IriSpelled iri i n.inner h.mid
    s = n.spelled

    raw : List ℕ
    raw = chars s.part

    text : List ℕ
    text = 60 ∷ raw ++ 62 ∷ []

    fit : is_fit IriRef text ≡ true
    fit = iri_fits raw i s.value

    gap : List ℕ
    gap = gap_text h.mid b h.gap

    blank : all_have (is_space Lines) gap ≡ true
    blank = gap_blank h.mid b h.gap

-- a label, and what parts it from the next token
reads_label : (x a b : List ℕ) → Spaced (LabelSpelled x) a b → Reads (token_of LabelNode) (λ l. L.subject_of (Lab l) ≡ Blank (Label x)) 1 a b
reads_label x a b h = record {
  w = text ++ gap;
  good = scalars_append text gap (subst (λ y. scalars (95 ∷ 58 ∷ y) ≡ true) s.named (scalars-chars s.part s.utf8)) (blanks_scalars gap blank);
  stands =
      stands_then text gap a h.mid b
      (stands_then (95 ∷ 58 ∷ []) x a n.inner h.mid
      (stands_then (95 ∷ []) (58 ∷ []) a (58 ∷ n.inner) n.inner (stands_byte 95 a (58 ∷ n.inner) (omega arith) n.opens)
      (stands_byte 58 (58 ∷ n.inner) n.inner (omega arith) refl))
      (subst (λ y. Stands y n.inner h.mid) s.named (stands_text s.part n.inner h.mid s.utf8 s.stands)))
      (gap_stands h.mid b h.gap);
  tree = λ p. leaf text p;
  spells = λ limit.
      spells_before_blanks limit 95 (58 ∷ x) LabelNode h.gap.first.blank h.gap.more.blanks blank (λ v. refl)
      (kind_at 95 LabelNode begins_label (58 ∷ x) (label_shape Plain x s.is_name)) (label_fit Plain text)
      (λ v. cut_by_other 95 LabelNode begins_label (58 ∷ x) h.gap.first.blank v (label_blank h.gap.first.blank h.gap.first.is));
  means = λ p. refl;
  counted = λ p. refl;
}
  where
    n : LabelSpelled x a h.mid
    n = h.spelled

    s : NameStands IsLabel x n.inner h.mid
    s = n.spelled

    text : List ℕ
    text = 95 ∷ 58 ∷ x

    gap : List ℕ
    gap = gap_text h.mid b h.gap

    blank : all_have (is_space Lines) gap ≡ true
    blank = gap_blank h.mid b h.gap

-- a language tag, and the same
reads_tag : (t a b : List ℕ) → Spaced (TagSpelled t) a b → Reads (token_of LangTag) (λ l. Lang (drop 1 l.text) ≡ Lang t) 1 a b
reads_tag t a b h = record {
  w = text ++ gap;
  good = scalars_append text gap (subst (λ y. scalars (64 ∷ y) ≡ true) s.named (scalars-chars s.part s.utf8)) (blanks_scalars gap blank);
  stands =
      stands_then text gap a h.mid b
      (stands_then (64 ∷ []) t a n.inner h.mid (stands_byte 64 a n.inner (omega arith) n.opens)
      (subst (λ y. Stands y n.inner h.mid) s.named (stands_text s.part n.inner h.mid s.utf8 s.stands)))
      (gap_stands h.mid b h.gap);
  tree = λ p. leaf text p;
  spells = λ limit.
      spells_before_blanks limit 64 t LangTag h.gap.first.blank h.gap.more.blanks blank (λ v. refl) (kind_at 64 LangTag begins_tag t (tag_shape Plain t s.is_name)) (tag_fit Plain text)
      (λ v. cut_by_other 64 LangTag begins_tag t h.gap.first.blank v (tag_blank h.gap.first.blank h.gap.first.is));
  means = λ p. refl;
  counted = λ p. refl;
}
  where
    n : TagSpelled t a h.mid
    n = h.spelled

    s : NameStands IsTag t n.inner h.mid
    s = n.spelled

    text : List ℕ
    text = 64 ∷ t

    gap : List ℕ
    gap = gap_text h.mid b h.gap

    blank : all_have (is_space Lines) gap ≡ true
    blank = gap_blank h.mid b h.gap

-- a string
reads_string : (v a b c : List ℕ) → a ≡ 34 ∷ b → StringSpelled v b c → Reads (token_of ShortString) (λ l. string_of l ≡ v) 1 a c
reads_string v a b c e s = record {
  w = text;
  good = scalars_append (34 ∷ raw) (34 ∷ []) good refl;
  stands =
      stands_then (34 ∷ raw) (34 ∷ []) a (34 ∷ c) c
      (stands_then (34 ∷ []) raw a b (34 ∷ c) (stands_byte 34 a b (omega arith) e) (stands_text s.part b (34 ∷ c) s.utf8 s.stands))
      (stands_byte 34 (34 ∷ c) c (omega arith) refl);
  tree = λ p. leaf text p;
  spells = λ limit.
      spells_alone limit 34 (raw ++ 34 ∷ []) ShortString (λ v. refl)
      (kind_at 34 ShortString begins_string (raw ++ 34 ∷ []) (string_shaped raw v s.value good clear)) fit
      (λ u. cut_by_shape 34 ShortString begins_string (raw ++ 34 ∷ []) u (clear_ends raw clear)) dead;
  means = λ p. ap (λ x. unwrap_or (string_value x) []) (inside_one 34 34 raw) ∙ ap (λ x. unwrap_or x []) s.value;
  counted = λ p. refl;
}
  where
    raw : List ℕ
    raw = chars s.part

    text : List ℕ
    text = 34 ∷ raw ++ 34 ∷ []

    good : scalars raw ≡ true
    good = scalars-chars s.part s.utf8

    clear : is_clear false raw ≡ true
    clear = clear_chars s.part s.utf8 s.clear

    fit : is_fit ShortString text ≡ true
    fit = string_fits raw v s.value

    dead : is_live Lines text ≡ false
    dead = ⊎_elim (λ e. absurd (longer (live-matches Lines text e))) (λ e. e) (cases_Bool (is_live Lines text))
      where
        longer : (x : ℕ) × (u : List ℕ) × Matches (any_shape Lines kinds) (text ++ x ∷ u) → ⊥
        longer m = clear_ends raw clear m.0 m.1 (shape_at 34 ShortString begins_string _ m.2)

-- what parts two tokens is none
reads_gap : (a b : List ℕ) → GapStands a b → Reads {T = Unit {0}} (λ u. []) (λ u. Unit) 0 a b
reads_gap a b g = record {
  w = gap_text a b g;
  good = blanks_scalars (gap_text a b g) (gap_blank a b g);
  stands = gap_stands a b g;
  tree = λ p. tt;
  spells = λ limit. spells_blanks limit (gap_text a b g) (gap_blank a b g);
  means = λ p. tt;
  counted = λ p. refl;
}

-- two carets
reads_carets : (a b : List ℕ) → a ≡ 94 ∷ 94 ∷ b → Reads (token_of Carets) (λ l. Unit) 1 a b
reads_carets a b e = record {
  w = 94 ∷ 94 ∷ [];
  good = refl;
  stands = stands_then (94 ∷ []) (94 ∷ []) a (94 ∷ b) b (stands_byte 94 a (94 ∷ b) (omega arith) e) (stands_byte 94 (94 ∷ b) b (omega arith) refl);
  tree = λ p. leaf (94 ∷ 94 ∷ []) p;
  spells = spells_carets Plain;
  means = λ p. tt;
  counted = λ p. refl;
}

-- a dot
reads_dot : (a b : List ℕ) → a ≡ 46 ∷ b → Reads (token_of Dot) (λ l. Unit) 1 a b
reads_dot a b e = record {
  w = 46 ∷ [];
  good = refl;
  stands = stands_byte 46 a b (omega arith) e;
  tree = λ p. leaf (46 ∷ []) p;
  spells = spells_dot Plain;
  means = λ p. tt;
  counted = λ p. refl;
}

module _ (iri : ℕ) where
  -- what a name means that is read
  abbrev NameMeans : Subject → Name → Type 0
  NameMeans s n = (subject_of n ≡ s) × name_bound has_scheme n

  -- an IRI or a label
  reads_subject : (s : Subject) (a b : List ℕ) → Spaced (SubjectSpelled iri s) a b → Reads name_tokens (NameMeans s) 1 a b
  reads_subject (Iri i) a b h =
      let k : NamedIri iri i a h.mid = h.spelled in
      reads_as (token_of IriRef) name_tokens (λ l. iri_of l ≡ i) (NameMeans (Iri i)) Ref (λ l. refl)
      (λ l e. (ap Iri e, ap has_scheme e ∙ k.spelled.is.scheme)) 1 a b
      (reads_iri iri i a b (record { mid = h.mid; spelled = k; gap = h.gap }))
  reads_subject (Blank (Label x)) a b h =
      let k : LabelSpelled x a h.mid = h.spelled in
      reads_as (token_of LabelNode) name_tokens (λ l. subject_of (Lab l) ≡ Blank (Label x)) (NameMeans (Blank (Label x))) Lab (λ l. refl) (λ l e. (e, tt)) 1 a b
      (reads_label x a b (record { mid = h.mid; spelled = k; gap = h.gap }))
  reads_subject (Blank (Anon n)) a b h = absurd h.spelled
  reads_subject (Blank (Cell n)) a b h = absurd h.spelled

  -- what an object means that is read
  abbrev ObjectMeans : Term → Object → Type 0
  ObjectMeans t o = (term_of o ≡ t) × object_bound has_scheme o

  -- a datatype with its carets, and what parts it from the next token
  abbrev type_tokens : Leaf × Leaf → List Token
  type_tokens x = token Carets x.0 ∷ token IriRef x.1 ∷ []

  reads_type : (i a b : List ℕ) → Spaced (TypeSpelled iri i) a b → Reads type_tokens (λ x. iri_of x.1 ≡ i) 2 a b
  reads_type i a b h =
      let k : TypeSpelled iri i a h.mid = h.spelled in
      reads_both (token_of Carets) (token_of IriRef) type_tokens (λ l. Unit) (λ l. iri_of l ≡ i) (λ x. iri_of x.1 ≡ i) (λ c l. (c, l))
      (λ c l. refl) (λ c l u e. e) 1 1 a k.inner b
      (reads_carets a k.inner k.opens) (reads_iri iri i k.inner b (record { mid = h.mid; spelled = k.spelled; gap = h.gap }))

  -- a string and what follows it, and the same
  reads_literal : (n : ℕ) (w : List ℕ) (t : Tail) (a b : List ℕ) → Spaced (LiteralSpelled iri n w t) a b → Reads object_tokens (ObjectMeans (Literal w t)) n a b
  reads_literal n w t a b h = subst (λ m. Reads object_tokens (ObjectMeans (Literal w t)) m a b) (let e = k.count in omega (arith, e)) (by t k.tail)
    where
      k : LiteralSpelled iri n w t a h.mid
      k = h.spelled

      string : Reads (token_of ShortString) (λ l. string_of l ≡ w) 1 a k.after
      string = reads_string w a k.inner k.after k.opens k.string

      by : (u : Tail) → TailSpelled iri k.tokens u k.after h.mid → Reads object_tokens (ObjectMeans (Literal w u)) (1 + k.tokens) a b
      by (Lang tag) s =
          subst (λ m. Reads object_tokens (ObjectMeans (Literal w (Lang tag))) (1 + m) a b) (sym s.0)
          (reads_both (token_of ShortString) (token_of LangTag) object_tokens (λ l. string_of l ≡ w) (λ l. Lang (drop 1 l.text) ≡ Lang tag)
          (ObjectMeans (Literal w (Lang tag))) WithTag (λ x y. refl)
          (λ x y e f. (ap (λ v. Literal v (Lang (drop 1 y.text))) e ∙ ap (Literal w) f, tt)) 1 1 a k.after b string
          (reads_tag tag k.after b (record { mid = h.mid; spelled = s.1; gap = h.gap })))
      by (Typed i) (inl s) =
          let plain = reads_both (token_of ShortString) (λ (u : Unit {0}). []) object_tokens (λ l. string_of l ≡ w) (λ u. Unit)
          (ObjectMeans (Literal w (Typed xsd_string))) (λ x y. PlainString x) (λ x y. refl)
          (λ x y e f. (ap (λ v. Literal v (Typed xsd_string)) e, tt)) 1 0 a k.after b string
          (reads_gap k.after b (subst (λ x. GapStands x b) (sym s.3) h.gap)) in
          subst (λ m. Reads object_tokens (ObjectMeans (Literal w (Typed i))) (1 + m) a b) (sym s.0)
          (subst (λ j. Reads object_tokens (ObjectMeans (Literal w (Typed j))) 1 a b) (sym s.1) plain)
      by (Typed i) (inr s) =
          let d : TypeSpelled iri i k.after h.mid = s.1 in
          subst (λ m. Reads object_tokens (ObjectMeans (Literal w (Typed i))) (1 + m) a b) (sym s.0)
          (reads_both (token_of ShortString) type_tokens object_tokens (λ l. string_of l ≡ w) (λ x. iri_of x.1 ≡ i)
          (ObjectMeans (Literal w (Typed i))) (λ x y. WithType x y.0 y.1) (λ x y. refl)
          (λ x y e f. (
            ap (λ v. Literal v (Typed (iri_of y.1))) e ∙ ap (λ v. Literal w (Typed v)) f,
            ap has_scheme f
                ∙ d.spelled.spelled.is.scheme,
          )) 1 2 a k.after b string
          (reads_type i k.after b (record { mid = h.mid; spelled = d; gap = h.gap })))

  -- an object
  reads_object : (n : ℕ) (t : Term) (a b : List ℕ) → Spaced (TermSpelled iri n t) a b → Reads object_tokens (ObjectMeans t) n a b
  reads_object n (Resource s) a b h =
      let k : (n ≡ 1) × SubjectSpelled iri s a h.mid = h.spelled in
      subst (λ m. Reads object_tokens (ObjectMeans (Resource s)) m a b) (sym k.0)
      (reads_as name_tokens object_tokens (NameMeans s) (ObjectMeans (Resource s)) Named (λ x. refl) (λ x m. (ap Resource m.0, m.1)) 1 a b
      (reads_subject s a b (record { mid = h.mid; spelled = k.1; gap = h.gap })))
  reads_object n (Literal w t) a b h = reads_literal n w t a b (record { mid = h.mid; spelled = h.spelled; gap = h.gap })

  -- what a graph label means that is read
  abbrev GraphMeans : LineForm → Option Subject → Option Name → Type 0
  GraphMeans form g x = (option_map subject_of x ≡ g) × graph_bound has_scheme x × graph_fits form x

  -- a graph label, or none
  reads_graph : (form : LineForm) (n : ℕ) (g : Option Subject) (a b : List ℕ) → GraphSpelled form iri n g a b → Reads graph_tokens (GraphMeans form g) n a b
  reads_graph form n None a b h =
      record { w = []; good = refl; stands = h.1; tree = λ p. None; spells = spells_nothing; means = λ p. (refl, tt, none form); counted = λ p. sym h.0 }
    where
      none : (f : LineForm) → graph_fits {T = Name} f None
      none NTriples = refl
      none NQuads = tt
  reads_graph form n (Some g) a b h =
      subst (λ m. Reads graph_tokens (GraphMeans form (Some g)) m a b) (sym h.0)
      (reads_as name_tokens graph_tokens (NameMeans g) (GraphMeans form (Some g)) (λ x. Some x) (λ x. refl)
      (λ x m. (ap (λ y. Some y) m.0, m.1, subst (λ f. graph_fits f (Some x)) (sym h.1) tt)) 1 a b
      (reads_subject g a b h.2))

  -- a subject and a predicate, and so on up to the dot
  abbrev Two : Type 0
  Two = Name × Leaf

  abbrev Three : Type 0
  Three = Two × Object

  abbrev Four : Type 0
  Four = Three × Option Name

  abbrev two_tokens : Two → List Token
  two_tokens x = name_tokens x.0 ++ token_of IriRef x.1

  abbrev three_tokens : Three → List Token
  three_tokens x = two_tokens x.0 ++ object_tokens x.1

  abbrev four_tokens : Four → List Token
  four_tokens x = three_tokens x.0 ++ graph_tokens x.1

  abbrev whole : Four → Leaf → Statement
  whole x l = record { subject = x.0.0.0; predicate = x.0.0.1; object = x.0.1; graph = x.1; dot = l }

  -- what a statement means that is read
  abbrev StatementMeans : LineForm → Quad → Statement → Type 0
  StatementMeans form q s = (quad_of s ≡ q) × GoodStatement has_scheme form s

  -- a line up to its end
  reads_line : (ending : LineEnding) (form : LineForm) (n : ℕ) (q : Quad) (bytes rest : List ℕ)
      (h : LineSpelled ending form iri n q bytes rest) → Reads statement_tokens (StatementMeans form q) n bytes h.e
  reads_line ending form n q bytes rest h =
      let one = reads_subject q.subject bytes h.a h.subject in
      let two = reads_both name_tokens (token_of IriRef) two_tokens (NameMeans q.subject) (λ l. iri_of l ≡ q.predicate)
      (λ (x : Two). NameMeans q.subject x.0 × (iri_of x.1 ≡ q.predicate)) (λ x y. (x, y)) (λ x y. refl) (λ x y e f. (e, f)) 1 1 bytes h.a h.b
      one (reads_iri iri q.predicate h.a h.b h.predicate) in
      let three = reads_both two_tokens object_tokens three_tokens (λ (x : Two). NameMeans q.subject x.0 × (iri_of x.1 ≡ q.predicate)) (ObjectMeans q.object)
      (λ (x : Three). (NameMeans q.subject x.0.0 × (iri_of x.0.1 ≡ q.predicate)) × ObjectMeans q.object x.1) (λ x y. (x, y)) (λ x y. refl)
      (λ x y e f. (e, f)) 2 h.objects bytes h.b h.c
      two (reads_object h.objects q.object h.b h.c h.object) in
      let four = reads_both three_tokens graph_tokens four_tokens
      (λ (x : Three). (NameMeans q.subject x.0.0 × (iri_of x.0.1 ≡ q.predicate)) × ObjectMeans q.object x.1) (GraphMeans form q.graph)
      (λ (x : Four). ((NameMeans q.subject x.0.0.0 × (iri_of x.0.0.1 ≡ q.predicate)) × ObjectMeans q.object x.0.1)
      × GraphMeans form q.graph x.1) (λ x y. (x, y)) (λ x y. refl) (λ x y e f. (e, f)) (2 + h.objects) h.graphs bytes h.c h.d
      three (reads_graph form h.graphs q.graph h.c h.d h.graph) in
      subst (λ m. Reads statement_tokens (StatementMeans form q) m bytes h.e) (let e = h.count in omega (arith, e))
      (reads_both four_tokens (token_of Dot) statement_tokens
      (λ (x : Four). ((NameMeans q.subject x.0.0.0 × (iri_of x.0.0.1 ≡ q.predicate)) × ObjectMeans q.object x.0.1)
      × GraphMeans form q.graph x.1) (λ l. Unit) (StatementMeans form q) whole (λ x y. refl)
      (λ x y e f. (
        same_quad Plain q _ _ _ _ e.0.0.0.0 e.0.0.1 e.0.1.0 e.1.0,
        record {
          subject = e.0.0.0.1;
          predicate = ap has_scheme e.0.0.1 ∙ h.predicate.spelled.spelled.is.scheme;
          object = e.0.1.1;
          graph = e.1.1;
          labels = e.1.2;
        },
      )) (2 + h.objects + h.graphs) 1 bytes h.d h.e
      four (reads_dot h.d h.e h.dot))

  -- the terms are well formed, can be written, and are within the limit
  subject_formed : (s : Subject) (a b : List ℕ) → SubjectSpelled iri s a b → IsSubject s × CanWriteSubject Kept s × SubjectWithin iri s
  subject_formed (Iri i) a b h = let k : NamedIri iri i a b = h in (k.spelled.is, tt, k.spelled.within)
  subject_formed (Blank (Label x)) a b h = let k : LabelSpelled x a b = h in (k.spelled.is_name, tt, tt)
  subject_formed (Blank (Anon n)) a b h = absurd h
  subject_formed (Blank (Cell n)) a b h = absurd h

  tail_formed : (n : ℕ) (t : Tail) (a b : List ℕ) → TailSpelled iri n t a b → IsTail t × TailWithin iri t
  tail_formed n (Lang t) a b h = (h.1.spelled.is_name, tt)
  tail_formed n (Typed i) a b (inl h) =
      (subst IsIri (sym h.1) (xsd_iri iri), subst (λ x. length (encodes x) ≤ iri) (sym h.1) (subst (λ x. length x ≤ iri) (sym xsd) h.2))
  tail_formed n (Typed i) a b (inr h) = (h.1.spelled.spelled.is, h.1.spelled.spelled.within)

  term_formed : (n : ℕ) (t : Term) (a b : List ℕ) → TermSpelled iri n t a b → IsTerm t × CanWriteTerm Kept t × TermWithin iri t
  term_formed n (Resource s) a b h = subject_formed s a b h.1
  term_formed n (Literal w t) a b h =
      let k : LiteralSpelled iri n w t a b = h in
      let f = tail_formed k.tokens t k.after b k.tail in
      ((k.string.are, f.0), tt, f.1)

  graph_formed : (form : LineForm) (n : ℕ) (g : Option Subject) (a b : List ℕ) → GraphSpelled form iri n g a b →
      IsGraph g × CanWriteGraph Kept g × GraphWithin iri g
  graph_formed form n None a b h = (tt, tt, tt)
  graph_formed form n (Some g) a b h = subject_formed g a h.2.mid h.2.spelled

  pub line_formed : (ending : LineEnding) (form : LineForm) (n : ℕ) (q : Quad) (bytes rest : List ℕ) →
      LineSpelled ending form iri n q bytes rest → IsQuad q × CanWrite Kept q × IrisWithin iri q
  line_formed ending form n q bytes rest h =
      let s = subject_formed q.subject bytes h.subject.mid h.subject.spelled in
      let p = h.predicate.spelled.spelled in
      let o = term_formed h.objects q.object h.b h.object.mid h.object.spelled in
      let g = graph_formed form h.graphs q.graph h.c h.d h.graph in (
        record { subject = s.0; predicate = p.is; object = o.0; graph = g.0 },
        record { subject = s.1; object = o.1; graph = g.1 },
        record { subject = s.2; predicate = p.within; object = o.2; graph = g.2 },
      )

-- the end of a line consists of characters
end_scalars : (e : LineEnding) → scalars (end_text e) ≡ true
end_scalars Lf = refl
end_scalars CrLf = refl

-- what comes after a line is no longer
pub line_shorter : (ending : LineEnding) (form : LineForm) (iri n : ℕ) (q : Quad) (bytes rest : List ℕ) →
    LineSpelled ending form iri n q bytes rest → length rest ≤ length bytes
line_shorter ending form iri n q bytes rest h =
    let s = reads_line iri ending form n q bytes rest h in
    let a = ap length s.stands ∙ length-append (encode_utf8_all s.w) h.e in
    let b = ap length h.ends ∙ length-append (end_text ending) rest in
    omega (arith, a, b)

-- Between two lines such a line is read as its quad, and leads back between two lines.
pub line_read : (r : Driven LineAt) (ending : LineEnding) (n : ℕ) (q : Quad) (bytes rest : List ℕ) → r.grammar.mode ≡ Begin →
    2 ≤ r.scanner.limit → length bytes ≤ r.scanner.limit →
    LineSpelled ending r.grammar.rules.form r.grammar.rules.iri n q bytes rest →
    (front : List ℕ) × (bytes ≡ front ++ rest) × LeadsBack line_words r front (q ∷ []) (n + end_count ending)
line_read r ending n q bytes rest begin e short h = (
  encode_utf8_all w,
  stands,
  record {
    utf8 = (w, (good, refl));
    spelled = ts;
    count = let a = s.counted p in let b = end_counted ending (past p s.w) in let c =
        length-append (statement_tokens (s.tree p)) (end_tokens ending (past p s.w)) in omega (arith, a, b, c);
    spells = λ tail more.
        subst (λ x. tokens Lines limit tail false p (x ++ more) ≡ with_tokens ts (tokens Lines limit tail false (past p x) more)) (sym (chars-encodes w good))
        ((spells_then limit s.w (end_text ending) (λ p. statement_tokens (s.tree p)) (end_tokens ending) (s.spells limit)
        (spells_end ending rules.form limit rules.iri ending)).reads tail p more
        (short_both limit (statement_tokens (s.tree p)) (end_tokens ending (past p s.w)) small
        (end_short ending rules.form limit rules.iri e ending (past p s.w))));
    reached = λ x us given a. (
      a.0,
      subst (λ y. run (is_taken y.iri) y.form Begin (us ++ ts) ≡ ran r.grammar.mode (given ++ q ∷ [])) a.0
          (run_append (is_taken rules.iri) rules.form us ts Begin
          ∙ (ap (λ z. then z (λ m. run (is_taken rules.iri) rules.form m ts))
          (subst (λ (y : Rules). run (is_taken y.iri) y.form Begin us ≡ ran r.grammar.mode given) (sym a.0) a.1)
          ∙ (ap (λ m. with_quads given (run (is_taken rules.iri) rules.form m ts)) begin
          ∙ (ap (with_quads given) line_ran
          ∙ ap (λ m. ran m (given ++ q ∷ [])) (sym begin))))),
    );
  },
)
  where
    rules : Rules
    rules = r.grammar.rules

    limit : ℕ
    limit = r.scanner.limit

    p : Place
    p = r.scanner.place

    s : Reads statement_tokens (StatementMeans rules.iri rules.form q) n bytes h.e
    s = reads_line rules.iri ending rules.form n q bytes rest h

    w : List ℕ
    w = s.w ++ end_text ending

    ts : List Token
    ts = statement_tokens (s.tree p) ++ end_tokens ending (past p s.w)

    good : scalars w ≡ true
    good = scalars_append s.w (end_text ending) s.good (end_scalars ending)

    stands : bytes ≡ encode_utf8_all w ++ rest
    stands = stands_then s.w (end_text ending) bytes h.e rest s.stands (end_stands ending h.e rest h.ends)

    small : AllShort limit (statement_tokens (s.tree p))
    small =
        let a = (s.spells limit).size p in
        let b = length-le-encodes s.w in
        let c = ap length s.stands ∙ length-append (encode_utf8_all s.w) h.e in
        total_short limit (statement_tokens (s.tree p)) (omega (arith, a, b, c, short))

    line_ran : run (is_taken rules.iri) rules.form Begin ts ≡ ran Begin (q ∷ [])
    line_ran =
        let m = s.means p in
        let end = past p s.w in
        run_statement (is_taken rules.iri) rules.form (s.tree p) (end_tokens ending end)
        (statement_taken rules.iri rules.form (s.tree p) m.1
        (subst (IrisWithin rules.iri) (sym m.0) (line_formed rules.iri ending rules.form n q bytes rest h).2))
        ∙ (ap (with_quad (quad_of (s.tree p))) (end_ran ending rules.form limit rules.iri ending end)
        ∙ ap (λ x. with_quad x (ran Begin [])) m.0)
