-- The texts of bindings, as bytes and as characters: what is cut at ASCII is cut alike in both.
use Rattle.rdf_iri.proofs.Prelude.{◌≡◌, ℕ, zero, suc, ◌+◌, ◌<◌, ◌≤◌, Bool, true, false, List, [], ◌∷◌, ◌++◌, ◌==◌, ◌↔◌, length, take, drop, get_or, Option, Some, None, option_map, inl, inr, refl, sym, ap, ◌∙◌, subst, ⊎_elim, append_assoc, arith, not, nat_lt, MatchOption, chars, IsUtf8, IsCharBoundary, encode_utf8_all, drop_of_length-le, drop-cons, take-append_seam, cases_Bool, cond-true, cond-false, and_parts, and_from, cases_lt, false≢true, lt-ltb, ltb-true, encodes-append, chars-append, encodes-chars, chars-encodes, scalars-chars, chars_from_encodes, IsCharBoundary-from_drop, IsCharBoundary-at_seam, length-append, length-take-le, take-append-drop, take_all, scalars, Turtle, PnameNs, Prefix, IsIri, all_have, before_last, past, Lacks, before, after, from, suffix, CrDropped, is_blank, AreBlanks, BeginsBlank, IsPlain, IsComment, NameThen, IriThen, IsIn}
use lib.Utf8.{scalar}
use Rattle.rdf_terms.specs.Terminals.{Shape}
use Rattle.rdf_terms.proofs.NamesLemmas.{utf8_colon, chars_colon}
use Rattle.rdf_iri.proofs.TextsLemmas.{cut_suffix, cut_whole}
use Rattle.rdf_iri.proofs.CutPlaces.{Lacks-from_places}
use Rattle.rdf_iri.proofs.Encoded.{before-bytes, after-bytes, bytes-lacks, bytes-cons, are_ascii, ahead, after_front}
use Rattle.rdf_iri.proofs.BindingLineLemmas.{past-front, past-stays, past-same, past-first, past-blanks, begins_there, blank_ascii, not_blank, Lacks-from_splits, Lacks-there, name_there, prefix_lacks, iri_there, iri_lacks, plain_cuts, keyword_length, keyword_ascii}

-- texts are cut at an ASCII character as their bytes are
scalars-before : (c : ℕ) (w : List ℕ) → scalars w ≡ true → scalars (before c w) ≡ true
scalars-before c [] h = refl
scalars-before c (x ∷ w) h =
    let p = and_parts (scalar x) (scalars w) h in
    ⊎_elim
    (λ t. ap scalars (cond-true (x == c) [] (x ∷ before c w) t))
    (λ f. ap scalars (cond-false (x == c) [] (x ∷ before c w) f) ∙ and_from (scalar x) (scalars (before c w)) p.0 (scalars-before c w p.1))
    (cases_Bool (x == c))

-- what follows a character in a text of characters consists of characters
scalars-after : (c : ℕ) (w v : List ℕ) → scalars w ≡ true → after c w ≡ Some v → scalars v ≡ true
scalars-after c [] v h e = absurd (cc)
scalars-after c (x ∷ w) v h e =
    let p = and_parts (scalar x) (scalars w) h in
    ⊎_elim
    (λ t. let f : Some w ≡ Some v = sym (cond-true (x == c) (Some w) (after c w) t) ∙ e in let g : w ≡ v = cc in subst (λ z. scalars z ≡ true) g p.1)
    (λ f. scalars-after c w v p.1 (sym (cond-false (x == c) (Some w) (after c w) f) ∙ e))
    (cases_Bool (x == c))

-- what follows a front of characters consists of characters
scalars-front : (u v : List ℕ) → scalars (u ++ v) ≡ true → scalars v ≡ true
scalars-front [] v h = h
scalars-front (c ∷ u) v h = scalars-front u v (and_parts (scalar c) (scalars (u ++ v)) h).1

-- what follows ASCII in a text
pub record AfterAscii (text front rest : List ℕ) : Type 0 where
  pub chars : chars text ≡ front ++ chars rest
  pub utf8 : IsUtf8 rest

-- by its bytes
pub after_ascii : (text front rest : List ℕ) → are_ascii front ≡ true → IsUtf8 text → text ≡ front ++ rest → AfterAscii text front rest
after_ascii text front rest a u e =
    let r = after_front front (chars text) rest a (encodes-chars text u ∙ e) in
    let s : scalars r.0 ≡ true = scalars-front front r.0 (ap scalars (sym r.1) ∙ scalars-chars text u) in
    let utf8 : IsUtf8 rest = (r.0, (s, r.2)) in
    record { chars = r.1 ∙ ap (λ x. front ++ x) (chars_from_encodes r.0 rest utf8 r.2); utf8 = utf8 }

-- by its characters
pub bytes_ascii : (text front v : List ℕ) → are_ascii front ≡ true → IsUtf8 text → chars text ≡ front ++ v → text ≡ front ++ encode_utf8_all v
bytes_ascii text front v a u e = sym (encodes-chars text u) ∙ (ap encode_utf8_all e ∙ ahead front v a)

-- a text cut at its first ASCII mark
pub record AtMark (mark : ℕ) (bytes front rest : List ℕ) : Type 0 where
  pub ahead : chars front ≡ before mark (chars bytes)
  pub back : Some (chars rest) ≡ after mark (chars bytes)
  pub utf8 : IsUtf8 front × IsUtf8 rest

-- it is cut alike in bytes and in characters
pub at_mark : (mark : ℕ) (bytes front rest : List ℕ) → mark < 128 → IsUtf8 bytes → front ≡ before mark bytes →
    Some rest ≡ after mark bytes → AtMark mark bytes front rest
at_mark mark bytes front rest l u e f =
    let s = scalars-chars bytes u in
    let cut : front ≡ encode_utf8_all (before mark (chars bytes)) =
    e ∙ (ap (before mark) (sym (encodes-chars bytes u)) ∙ (before-bytes mark (chars bytes) l).0) in
    let good = scalars-before mark (chars bytes) s in
    let back : Some rest ≡ option_map encode_utf8_all (after mark (chars bytes)) =
    f ∙ (ap (after mark) (sym (encodes-chars bytes u)) ∙ after-bytes mark (chars bytes) l) in
    record {
      ahead = ap chars cut ∙ chars-encodes (before mark (chars bytes)) good;
      back = (by s (after mark (chars bytes)) refl back).0;
      utf8 = ((before mark (chars bytes), (good, sym cut)), (by s (after mark (chars bytes)) refl back).1);
    }
  where
    by : scalars (chars bytes) ≡ true → (o : Option (List ℕ)) → after mark (chars bytes) ≡ o → Some rest ≡ option_map encode_utf8_all o →
        (Some (chars rest) ≡ o) × IsUtf8 rest
    by s None a b = absurd (cc)
    by s (Some w) a b =
        let same : rest ≡ encode_utf8_all w = cc in
        let good = scalars-after mark (chars bytes) w s a in
        (ap Some (ap chars same ∙ chars-encodes w good), (w, (good, sym same)))

-- a text without the mark among its bytes has none among its characters
pub no_mark : (mark : ℕ) (bytes : List ℕ) → mark < 128 → IsUtf8 bytes → None ≡ after mark bytes → after mark (chars bytes) ≡ None
no_mark mark bytes l u e = by (after mark (chars bytes)) (e ∙ (ap (after mark) (sym (encodes-chars bytes u)) ∙ after-bytes mark (chars bytes) l))
  where
    by : (o : Option (List ℕ)) → None ≡ option_map encode_utf8_all o → o ≡ None
    by None e = refl
    by (Some w) e = absurd (cc)

-- a text that is cut at its space into a name and an IRI is in the form of these files
pub line_is_plain : (bytes name prefix iri : List ℕ) → IsUtf8 bytes → name ≡ before 32 bytes → Some iri ≡ after 32 bytes → name ≡ prefix ++ 58 ∷ [] →
    Shape Turtle PnameNs (chars name) → IsIri (chars iri) → IsIn IsPlain (chars bytes) (chars prefix) (chars iri)
line_is_plain bytes name prefix iri u e f g m i =
    let a = at_mark 32 bytes name iri (omega arith) u e f in
    let b = before_last name prefix 58 utf8_colon chars_colon a.utf8.0 g in
    record {
      form = sym (cut_whole 32 (chars bytes)) ∙ (ap (λ x. x ++ suffix 32 (after 32 (chars bytes))) (sym a.ahead ∙ b.chars)
          ∙ ap (λ o. (chars prefix ++ 58 ∷ []) ++ suffix 32 o) (sym a.back));
      shape = subst (Shape Turtle PnameNs) b.chars m;
      absolute = i;
    }

-- and one without a space is not
pub no_plain_without_space : (bytes prefix iri : List ℕ) → IsUtf8 bytes → None ≡ after 32 bytes → IsIn IsPlain (chars bytes) prefix iri → ⊥
no_plain_without_space bytes prefix iri u e b =
    absurd (let k = no_mark 32 bytes (omega arith) u e in let l = (plain_cuts (chars bytes) prefix iri b).back in cc)

-- the name of such a text is a PNAME_NS
pub plain_name : (bytes name i prefix iri : List ℕ) → IsUtf8 bytes → name ≡ before 32 bytes → Some i ≡ after 32 bytes →
    IsIn IsPlain (chars bytes) prefix iri → Shape Turtle PnameNs (chars name)
plain_name bytes name i prefix iri u e f b =
    let a = at_mark 32 bytes name i (omega arith) u e f in subst (Shape Turtle PnameNs) (sym (a.ahead ∙ (plain_cuts (chars bytes) prefix iri b).front)) b.shape

-- what follows the space is an absolute IRI
pub plain_iri : (bytes name i prefix iri : List ℕ) → IsUtf8 bytes → name ≡ before 32 bytes → Some i ≡ after 32 bytes →
    IsIn IsPlain (chars bytes) prefix iri → IsIri (chars i)
plain_iri bytes name i prefix iri u e f b =
    let a = at_mark 32 bytes name i (omega arith) u e f in
    let s : Some (chars i) ≡ Some iri = a.back ∙ (plain_cuts (chars bytes) prefix iri b).back in
    let t : chars i ≡ iri = cc in
    subst IsIri (sym t) b.absolute

-- blanks are ASCII
blanks_ascii : (w : List ℕ) → AreBlanks w → are_ascii w ≡ true
blanks_ascii [] a = refl
blanks_ascii (c ∷ w) a =
    let p = and_parts (is_blank c) (all_have is_blank w) a in
    and_from (nat_lt c 128) (are_ascii w) (lt-ltb c 128 (blank_ascii c p.0)) (blanks_ascii w p.1)

-- blanks up to a byte that is none
pub blanks_end : (w : List ℕ) (i : ℕ) → AreBlanks (take i w) → i < length w → (get_or w i 0 ≡ 32 → ⊥) → (get_or w i 0 ≡ 9 → ⊥) → drop i w ≡ past is_blank w
blanks_end w i a l m n =
    let d : drop i w ≡ get_or w i 0 ∷ drop (suc i) w = drop-cons w i 0 l in
    sym (ap (past is_blank) (sym (take-append-drop i w)) ∙ (past-front (take i w) (drop i w) a
    ∙ (ap (past is_blank) d ∙ (past-stays (get_or w i 0) (drop (suc i) w) (not_blank (get_or w i 0) m n) ∙ sym d))))

-- blanks up to the end
pub blanks_all : (w : List ℕ) (i : ℕ) → AreBlanks (take i w) → length w ≤ i → drop (length w) w ≡ past is_blank w
blanks_all w i a l = drop_of_length-le w (omega arith) ∙ sym (past-blanks w (subst AreBlanks (take_all i w l) a))

-- the text behind its blanks
pub record BehindBlanks (text : List ℕ) (n : ℕ) : Type 0 where
  pub boundary : IsCharBoundary text n
  pub chars : chars (drop n text) ≡ past is_blank (chars text)

-- as the blanks are counted
pub record Blanks (w : List ℕ) (n : ℕ) : Type 0 where
  pub within : n ≤ length w
  pub front : AreBlanks (take n w)
  pub rest : drop n w ≡ past is_blank w

-- it is passed over alike in bytes and in characters
pub behind_blanks : (text : List ℕ) (n : ℕ) → IsUtf8 text → Blanks text n → BehindBlanks text n
behind_blanks text n u b =
    let r = after_ascii text (take n text) (drop n text) (blanks_ascii (take n text) b.front) u (sym (take-append-drop n text)) in
    record {
      boundary = IsCharBoundary-from_drop text n b.within r.utf8;
      chars = sym (ap (past is_blank) r.chars ∙ (past-front (take n text) (chars (drop n text)) b.front ∙ past-same (chars (drop n text)) (no_blank r.utf8)));
    }
  where
    -- the first character is none, since its byte is none
    no_blank : IsUtf8 (drop n text) → (c : ℕ) (v : List ℕ) → chars (drop n text) ≡ c ∷ v → is_blank c ≡ false
    no_blank w c v f =
        ⊎_elim
        (λ t. past-first text c (encode_utf8_all v)
        (sym b.rest ∙ bytes_ascii (drop n text) (c ∷ []) v (and_from (nat_lt c 128) true (lt-ltb c 128 (blank_ascii c t)) refl) w f))
        (λ g. g)
        (cases_Bool (is_blank c))

-- some blanks at the beginning
blanks_first : (text : List ℕ) (n : ℕ) → IsUtf8 text → Blanks text n → 0 < n → BeginsBlank (chars text)
blanks_first text n u b h =
    by (take n text) b.front (λ e. let k = ap length e in let m = length-take-le n text b.within in omega (arith, k, m, h))
    (after_ascii text (take n text) (drop n text) (blanks_ascii (take n text) b.front) u (sym (take-append-drop n text))).chars
  where
    by : (front : List ℕ) → AreBlanks front → (front ≡ [] → ⊥) → chars text ≡ front ++ chars (drop n text) → BeginsBlank (chars text)
    by [] a f e = absurd (f refl)
    by (c ∷ front) a f e = (c, front ++ chars (drop n text), e, (and_parts (is_blank c) (all_have is_blank front) a).0)

-- and none
no_blanks_first : (text : List ℕ) → IsUtf8 text → text ≡ past is_blank text → BeginsBlank (chars text) → ⊥
no_blanks_first text u e b =
    false≢true (sym (past-first text b.0 (encode_utf8_all b.1)
    (sym e ∙ bytes_ascii text (b.0 ∷ []) b.1 (and_from (nat_lt b.0 128) true (lt-ltb b.0 128 (blank_ascii b.0 b.3)) refl) u b.2)) ∙ b.3)

-- told by their number
pub begins_by_number : (text : List ℕ) (n : ℕ) → IsUtf8 text → Blanks text n → (nat_lt 0 n ≡ true) ↔ BeginsBlank (chars text)
begins_by_number text n u b = (
  λ t. blanks_first text n u b (ltb-true 0 n t),
  λ f. ⊎_elim
      (λ (h : 0 < n). lt-ltb 0 n h)
      (λ (h : n ≤ 0). let z : n ≡ 0 = omega (arith, h) in absurd (no_blanks_first text u (sym (ap (λ i. drop i text) z) ∙ b.rest) f))
      (cases_lt 0 n),
)

-- a text without an ASCII character, as bytes and as characters
pub lacks_chars : (k : ℕ) (text : List ℕ) → k < 128 → IsUtf8 text → Lacks k text → Lacks k (chars text)
lacks_chars k text l u a =
    Lacks-from_splits k (chars text) (λ x y e.
    let f : text ≡ encode_utf8_all x ++ (k ∷ encode_utf8_all y) =
    sym (encodes-chars text u) ∙ (ap encode_utf8_all e ∙ (encodes-append x (k ∷ y) ∙ ap (λ z. encode_utf8_all x ++ z) (bytes-cons k y l))) in
    Lacks-there k (encode_utf8_all x) (encode_utf8_all y) (subst (Lacks k) f a))

-- and the other way
pub lacks_bytes : (k : ℕ) (text : List ℕ) → k < 128 → IsUtf8 text → Lacks k (chars text) → Lacks k text
lacks_bytes k text l u a = subst (Lacks k) (encodes-chars text u) (bytes-lacks k (chars text) l a)

-- a byte at a place is not lacking
Lacks-place : (c : ℕ) (w : List ℕ) (i : ℕ) → Lacks c w → i < length w → get_or w i 0 ≡ c → ⊥
Lacks-place c [] i l h e = absurd (omega (arith, h))
Lacks-place c (d ∷ w) zero l h e = l.0 e
Lacks-place c (d ∷ w) (suc i) l h e = Lacks-place c w i l.1 (omega (arith, h)) e

-- a text that begins with "#" is a comment where no CR is found behind it
pub comment_by_search : (text rest : List ℕ) (r : Bool) → IsUtf8 text → text ≡ 35 ∷ rest → (r ≡ true → (k : ℕ) × (k < length rest) × (get_or rest k 0 ≡ 13)) →
    ((k : ℕ) → k < length rest → get_or rest k 0 ≡ 13 → r ≡ true) → (not r ≡ true) ↔ IsComment (chars text)
comment_by_search text rest r u e f g =
    let a = after_ascii text (35 ∷ []) rest refl u e in (
      λ t. (chars rest, a.chars, lacks_chars 13 rest (omega arith) a.utf8 (Lacks-from_places 13 rest (λ i l h. both r t (g i l h)))),
      λ c. let s : chars rest ≡ c.0 = ap (drop 1) (sym a.chars ∙ c.1) in
          let l = lacks_bytes 13 rest (omega arith) a.utf8 (subst (Lacks 13) (sym s) c.2) in
          none r (λ t. let k = f t in Lacks-place 13 rest k.0 l k.1 k.2),
    )
  where
    both : (r : Bool) → not r ≡ true → r ≡ true → ⊥
    both true t h = false≢true t
    both false t h = false≢true h

    none : (r : Bool) → (r ≡ true → ⊥) → not r ≡ true
    none true n = absurd (n refl)
    none false n = refl

-- and one that does not is none
pub no_comment : (text : List ℕ) → IsUtf8 text → ((rest : List ℕ) → text ≡ 35 ∷ rest → ⊥) → IsComment (chars text) → ⊥
no_comment text u n c = n (encode_utf8_all c.0) (bytes_ascii text (35 ∷ []) c.0 refl u c.1)

-- a text that is not empty has characters
pub some_chars : (text : List ℕ) → IsUtf8 text → (length text ≡ 0 → ⊥) → chars text ≡ [] → ⊥
some_chars text u n e = n (ap length (sym (encodes-chars text u) ∙ ap encode_utf8_all e))

-- a keyword ends where a text may be cut
pub keyword_cut : (text k v : List ℕ) → IsUtf8 text → Shape Turtle Prefix k → chars text ≡ k ++ v → IsCharBoundary text 6 × (take 6 text ≡ k)
keyword_cut text k v u m e =
    let w : text ≡ k ++ encode_utf8_all v = bytes_ascii text k v (keyword_ascii k m) u e in
    let a = after_ascii text k (encode_utf8_all v) (keyword_ascii k m) u w in
    let n = keyword_length k m in (
      subst (IsCharBoundary text) n (IsCharBoundary-at_seam text k (encode_utf8_all v) w a.utf8),
      ap (take 6) w ∙ (ap (λ i. take i (k ++ encode_utf8_all v)) (sym n) ∙ take-append_seam k (encode_utf8_all v)),
    )

-- what is none by way of a `?`
pub passed_none : {T : Type 0} (o : Option T) (N : Type 0) (S : T → Type 0) → o ≡ None → N → MatchOption o N S
passed_none o N S e n = subst (λ x. MatchOption x N S) (sym e) n

-- what a call says, in other words
pub in_other_words : {T : Type 0} (o : Option T) (N M : Type 0) (S R : T → Type 0) → (N → M) → ((x : T) → S x → R x) → MatchOption o N S → MatchOption o M R
in_other_words None N M S R f g a = f a
in_other_words (Some x) N M S R f g a = g x a

-- a text, cut at its first mark, as characters
pub mark_there : (mark : ℕ) (bytes front rest : List ℕ) → AtMark mark bytes front rest → chars bytes ≡ chars front ++ mark ∷ chars rest
mark_there mark bytes front rest a =
    sym (cut_whole mark (chars bytes))
    ∙ (ap (λ x. x ++ suffix mark (after mark (chars bytes))) (sym a.ahead) ∙ ap (λ o. chars front ++ suffix mark o) (sym a.back))

-- a text, cut behind its first colon
pub record AtColon (bytes front : List ℕ) : Type 0 where
  pub boundary : IsCharBoundary bytes (length front + 1)
  pub name : chars (take (length front + 1) bytes) ≡ chars front ++ 58 ∷ []

-- it may be cut there
pub at_colon : (bytes front rest : List ℕ) → IsUtf8 bytes → front ≡ before 58 bytes → Some rest ≡ after 58 bytes → AtColon bytes front
at_colon bytes front rest u e f =
    let a = at_mark 58 bytes front rest (omega arith) u e f in
    let n : length (front ++ 58 ∷ []) ≡ length front + 1 = length-append front (58 ∷ []) in
    let w : bytes ≡ (front ++ 58 ∷ []) ++ rest =
    sym (cut_whole 58 bytes) ∙ (ap (λ x. x ++ suffix 58 (after 58 bytes)) (sym e)
    ∙ (ap (λ o. front ++ suffix 58 o) (sym f) ∙ sym (append_assoc front (58 ∷ []) rest))) in
    record {
      boundary = subst (IsCharBoundary bytes) n (IsCharBoundary-at_seam bytes (front ++ 58 ∷ []) rest w a.utf8.1);
      name = ap chars (ap (λ k. take k bytes) (sym n) ∙ (ap (take (length (front ++ 58 ∷ []))) w ∙ take-append_seam (front ++ 58 ∷ []) rest))
          ∙ (chars-append front (58 ∷ []) a.utf8.0 ∙ ap (λ x. chars front ++ x) chars_colon);
    }

-- a text that is cut behind its blanks and its colon has a name
pub is_name : (w named prefix rest : List ℕ) → BeginsBlank w → chars named ≡ past is_blank w → AtMark 58 named prefix rest →
    Shape Turtle PnameNs (chars prefix ++ 58 ∷ []) → NameThen w (chars prefix) (chars rest)
is_name w named prefix rest b e a m = record {
  apart = b;
  name = begins_there w (chars prefix ++ 58 ∷ []) (chars rest)
      (sym e ∙ (mark_there 58 named prefix rest a ∙ sym (append_assoc (chars prefix) (58 ∷ []) (chars rest))));
  shape = m;
}

-- and a name is cut there
pub name_cut : (w named q n : List ℕ) → chars named ≡ past is_blank w → NameThen w q n → (before 58 (chars named) ≡ q) × (after 58 (chars named) ≡ Some n)
name_cut w named q n e b =
    let r = cut_suffix 58 q (Some n) (prefix_lacks q b.shape) in
    let p : chars named ≡ q ++ 58 ∷ n = e ∙ name_there w q n b.shape b.name in
    (ap (before 58) p ∙ r.0, ap (after 58) p ∙ r.1)

-- a text that is cut at its brackets has an IRI
pub is_iri : (w inside iri rest : List ℕ) → past is_blank w ≡ 60 ∷ chars inside → AtMark 62 inside iri rest → IsIri (chars iri) →
    IriThen w (chars iri) (chars rest)
is_iri w inside iri rest e a i = record {
  reference = begins_there w (60 ∷ (chars iri ++ 62 ∷ [])) (chars rest)
      (e ∙ ap (λ x. 60 ∷ x) (mark_there 62 inside iri rest a ∙ sym (append_assoc (chars iri) (62 ∷ []) (chars rest))));
  absolute = i;
}

-- and an IRI is cut there
pub iri_cut : (w inside j n : List ℕ) → past is_blank w ≡ 60 ∷ chars inside → IriThen w j n →
    (before 62 (chars inside) ≡ j) × (after 62 (chars inside) ≡ Some n)
iri_cut w inside j n e b =
    let r = cut_suffix 62 j (Some n) (iri_lacks j b.absolute.characters) in
    let p : chars inside ≡ j ++ 62 ∷ n = ap (drop 1) (sym e ∙ iri_there w j n b.reference) in
    (ap (before 62) p ∙ r.0, ap (after 62) p ∙ r.1)

-- what stands after a character, by what begins with it
pub after-from : (c : ℕ) (w : List ℕ) (d : ℕ) (v : List ℕ) → from c w ≡ d ∷ v → after c w ≡ Some v
after-from c [] d v e = absurd (cc)
after-from c (x ∷ w) d v e =
    ⊎_elim
    (λ t. let s : x ∷ w ≡ d ∷ v = sym (cond-true (x == c) (x ∷ w) (from c w) t) ∙ e in let r : w ≡ v = cc in
    cond-true (x == c) (Some w) (after c w) t ∙ ap Some r)
    (λ f. cond-false (x == c) (Some w) (after c w) f ∙ after-from c w d v (sym (cond-false (x == c) (x ∷ w) (from c w) f) ∙ e))
    (cases_Bool (x == c))

-- a text in which nothing is found has nothing after it
pub after-end : (c : ℕ) (w v : List ℕ) → v ≡ from c w → length v ≡ 0 → after c w ≡ None
after-end c [] v e n = refl
after-end c (x ∷ w) v e n =
    ⊎_elim
    (λ t. absurd (let s = ap length (e ∙ cond-true (x == c) (x ∷ w) (from c w) t) in omega (arith, s, n)))
    (λ f. cond-false (x == c) (Some w) (after c w) f ∙ after-end c w v (e ∙ cond-false (x == c) (x ∷ w) (from c w) f) n)
    (cases_Bool (x == c))

-- a line without the CR at its end
pub cr_dropped : (line front : List ℕ) (c : ℕ) → line ≡ front ++ c ∷ [] → c ≡ 13 → CrDropped line front
cr_dropped line front c e f = inl (e ∙ ap (λ x. front ++ x ∷ []) f)

-- a line whose last character is no CR keeps all of its text
pub cr_kept : (line front : List ℕ) (c : ℕ) → line ≡ front ++ c ∷ [] → (c ≡ 13 → ⊥) → CrDropped line line
cr_kept line front c e n = inr ((λ h. n (last_same front h.0 c 13 (sym e ∙ h.1))), refl)
  where
    last_same : (v w : List ℕ) (a b : ℕ) → v ++ a ∷ [] ≡ w ++ b ∷ [] → a ≡ b
    last_same [] [] a b e = cc
    last_same [] (y ∷ w) a b e = absurd (let k = ap length e in omega (arith, k, length-append w (b ∷ [])))
    last_same (x ∷ v) [] a b e = absurd (let k = ap length e in omega (arith, k, length-append v (a ∷ [])))
    last_same (x ∷ v) (y ∷ w) a b e = last_same v w a b (ap (drop 1) e)

-- an empty line has no CR to drop
pub cr_empty : (line : List ℕ) → length line ≡ 0 → CrDropped line line
cr_empty line n = inr ((λ h. let k = ap length h.1 in omega (arith, k, n, length-append h.0 (13 ∷ []))), refl)
