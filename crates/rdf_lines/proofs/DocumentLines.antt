-- A document of a line format is its lines: the tokens of each are those that are found there in the whole, and the machine begins anew after each.
use Rattle.rdf_lines.proofs.Prelude.{◌≡◌, ℕ, zero, suc, ◌+◌, ◌<◌, ◌≤◌, Bool, true, false, cond, List, [], ◌∷◌, ◌++◌, ◌==◌, ◌⊎◌, inl, inr, refl, sym, ap, ◌∙◌, subst, ⊎_elim, append_assoc, length, take, drop, get_or, not, arith, length-append, chars, IsUtf8, utf8_valid_len, get_or-append_seam, encode, cases_Bool, cases_lt, cond-true, cond-false, eqb-true, eq-eqb, and_from, le-ltb, append-nil, take_all, take_at, drop_at, IsUtf8-take, IsUtf8-drop, IsUtf8-append, IsUtf8-nil, IsCharBoundary-before_ascii, IsCharBoundary-after_ascii, chars-append, chars-encodes, chars-nil, utf8_valid_len-IsUtf8, Lines, Kind, IriRef, LabelNode, ShortString, LangTag, Carets, Dot, LineEnd, End, Subject, Term, Literal, Typed, Quad, xsd_string, has_scheme, Place, past, Outcome, Token, Reading, Step, step, rest_of, place_of, tokens, with_tokens, end_tokens, ended, broken, stop, complete, token_too_long, first_place, good, tail_of, mark, has_byte_order_mark, tokens_of, most_bytes, Leaf, leaf_of, iri_of, PassesNone, shorter, at_stop, at_token, good_front, byte_len, LineForm, NTriples, NQuads, Mode, Begin, AfterSubject, AfterPredicate, AfterString, AfterCarets, AfterObject, AfterGraph, AfterDot, Finished, Answer, goes, gives, refuses, is_taken, object_then, accept, Run, ran, refused, with_quad, go_on, run, in_lines, Passes, IsDocumentWithin}
use Rattle.rdf_tokens.specs.Tokens.{Tail}
use Rattle.rdf_tokens.specs.Tokens.Step.{token}
use Rattle.rdf_tokens.proofs.LawLemmas.{by_steps, tokens_of-tokens}
use Rattle.rdf_lines.proofs.EndLemmas.{LeadsInto, leads_into}
use Rattle.rdf_lines.proofs.LineEnds.{IsEnd, at_end, step_complete, Through, line_read, end_read, mark_stops}
use Rattle.rdf_lines.proofs.Runs.{with_quads, then, run_append, then_ran, run_document}
use Rattle.rdf_lines.proofs.Sound.{sound, quad_first}
use Rattle.rdf_lines.proofs.LinesLemmas.{document_marked, without_marks}
use Rattle.rdf_lines.proofs.Refusals.{Tested, tested, absolute_goes, absolute_refuses, in_documents, ran_none}

-- The same tokens, at places that may differ.
abbrev Alike : List Token → List Token → Type 0
Alike [] [] = Unit
Alike (t ∷ ts) (u ∷ us) = (t.kind ≡ u.kind) × (t.text ≡ u.text) × Alike ts us
Alike ts us = ⊥

-- a text has the same tokens and outcome at any place
record AlikeReadings (r s : Reading) : Type 0 where
  outcome : r.outcome ≡ s.outcome
  tokens : Alike r.tokens s.tokens

-- the end is alike at any place
end_alike : (o : Outcome) (p q : Place) → Alike (end_tokens o p) (end_tokens o q)
end_alike complete p q = (refl, refl, tt)
end_alike o p q = tt

-- where a text stands changes nothing but places
alike : (f : ℕ) (limit : ℕ) (t : Tail) (b : Bool) (p q : Place) (w : List ℕ) → length w < f →
    AlikeReadings (tokens Lines limit t b p w) (tokens Lines limit t b q w)
alike zero limit t b p q w l = absurd (omega arith)
alike (suc f) limit t b p q w l = at (λ x y v h. alike f limit t false x y v h) (step Lines limit t (rest_of Lines b w)) refl
  where
    at : ((x y : Place) (v : List ℕ) → length v < f → AlikeReadings (tokens Lines limit t false x v) (tokens Lines limit t false y v)) →
        (s : Step) → step Lines limit t (rest_of Lines b w) ≡ s → AlikeReadings (tokens Lines limit t b p w) (tokens Lines limit t b q w)
    at h (stop o) e =
        let x = at_stop Lines limit t b p w o e in
        let y = at_stop Lines limit t b q w o e in
        record {
          outcome = ap (λ r. r.outcome) x ∙ sym (ap (λ r. r.outcome) y);
          tokens = subst (λ r. Alike (tokens Lines limit t b p w).tokens r.tokens) (sym y)
              (subst (λ r. Alike r.tokens (end_tokens o (place_of Lines b q w))) (sym x) (end_alike o (place_of Lines b p w) (place_of Lines b q w)));
        }
    at h (token n k) e =
        let r = rest_of Lines b w in
        let x = at_token Lines limit t b p w n k e in
        let y = at_token Lines limit t b q w n k e in
        let m = h (past (place_of Lines b p w) (take n r)) (past (place_of Lines b q w) (take n r)) (drop n r)
        (let s = shorter Lines limit t b w n k e in omega arith) in
        record {
          outcome = ap (λ r. r.outcome) x ∙ (m.outcome ∙ sym (ap (λ r. r.outcome) y));
          tokens = subst (λ o. Alike (tokens Lines limit t b p w).tokens o.tokens) (sym y)
              (subst (λ o. Alike o.tokens (record { kind = k; text = take n r; at = place_of Lines b q w } ∷ (tokens Lines limit t false
              (past (place_of Lines b q w) (take n r)) (drop n r)).tokens)) (sym x)
              (refl, refl, m.tokens));
        }

-- after an object the machine does not look at places
placed_object : (test : List ℕ → Bool) (f : LineForm) (s : Subject) (p : List ℕ) (o : Term) (k : Kind) (w : List ℕ) (a b : Place) →
    object_then test f s p o k (record { text = w; at = a }) ≡ object_then test f s p o k (record { text = w; at = b })
placed_object test f s p o Dot w a b = refl
placed_object test NQuads s p o IriRef w a b = refl
placed_object test NQuads s p o LabelNode w a b = refl
placed_object test f s p o k w a b = refl

-- nor elsewhere
placed : (test : List ℕ → Bool) (f : LineForm) (m : Mode) (k : Kind) (w : List ℕ) (a b : Place) →
    accept test f m k (record { text = w; at = a }) ≡ accept test f m k (record { text = w; at = b })
placed test f Begin IriRef w a b = refl
placed test f Begin LabelNode w a b = refl
placed test f Begin LineEnd w a b = refl
placed test f Begin End w a b = refl
placed test f (AfterSubject s) IriRef w a b = refl
placed test f (AfterPredicate s p) IriRef w a b = refl
placed test f (AfterPredicate s p) LabelNode w a b = refl
placed test f (AfterPredicate s p) ShortString w a b = refl
placed test f (AfterString s p v) LangTag w a b = refl
placed test f (AfterString s p v) Carets w a b = refl
placed test f (AfterString s p v) k w a b = placed_object test f s p (Literal v (Typed xsd_string)) k w a b
placed test f (AfterCarets s p v) IriRef w a b = refl
placed test f (AfterObject s p o) k w a b = placed_object test f s p o k w a b
placed test f (AfterGraph s p o g) Dot w a b = refl
placed test f AfterDot LineEnd w a b = refl
placed test f AfterDot End w a b = refl
placed test f m k w a b = refl

-- so the same tokens give the same run
run_alike : (test : List ℕ → Bool) (f : LineForm) (m : Mode) (ts us : List Token) → Alike ts us → run test f m ts ≡ run test f m us
run_alike test f m [] [] a = refl
run_alike test f m [] (u ∷ us) a = absurd a
run_alike test f m (t ∷ ts) [] a = absurd a
run_alike test f m (t ∷ ts) (u ∷ us) a =
    let one : accept test f m t.kind (leaf_of t) ≡ accept test f m u.kind (leaf_of u) =
    ap (λ k. accept test f m k (leaf_of t)) a.0
    ∙ (ap (λ w. accept test f m u.kind (record { text = w; at = t.at })) a.1 ∙ placed test f m u.kind u.text t.at u.at) in
    ap (λ x. go_on x (λ n. run test f n ts)) one ∙ more (λ n. run_alike test f n ts us a.2) (accept test f m u.kind (leaf_of u))
  where
    more : ((n : Mode) → run test f n ts ≡ run test f n us) → (x : Answer) → go_on x (λ n. run test f n ts) ≡ go_on x (λ n. run test f n us)
    more h (goes n) = h n
    more h (gives q n) = ap (with_quad q) (h n)
    more h (refuses r) = refl

-- A line end leads back between two lines, or is refused.
accept_line_end : LeadsInto LineEnd Begin
accept_line_end test f Begin l = inl refl
accept_line_end test f AfterDot l = inl refl
accept_line_end test NTriples (AfterString s p w) l = inr refl
accept_line_end test NQuads (AfterString s p w) l = inr refl
accept_line_end test NTriples (AfterObject s p o) l = inr refl
accept_line_end test NQuads (AfterObject s p o) l = inr refl
accept_line_end test f m l = inr refl

-- A run in two parts: over tokens of which the last is a line end, and from the beginning of a line on.
record TwoRuns (test : List ℕ → Bool) (f : LineForm) (ts us : List Token) (qs : List Quad) : Type 0 where
  first : List Quad
  second : List Quad
  one : run test f Begin ts ≡ ran Begin first
  two : run test f Begin us ≡ ran Finished second
  all : qs ≡ first ++ second

-- the rest of a run whose first quads are known
rest_ran : (qs : List Quad) (r : Run) (m : Mode) (all : List Quad) → with_quads qs r ≡ ran m all → (rest : List Quad) × (r ≡ ran m rest) × (all ≡ qs ++ rest)
rest_ran qs (ran n rs) m all e = (rs, cc, cc)
rest_ran qs (refused r) m all e = absurd (let z : refused r ≡ ran m all = e in cc)

-- a run to the end is in two parts
in_two : (test : List ℕ → Bool) (f : LineForm) (ts us : List Token) (t : Token) (qs : List Quad) → t.kind ≡ LineEnd →
    run test f Begin ((ts ++ t ∷ []) ++ us) ≡ ran Finished qs →
    TwoRuns test f (ts ++ t ∷ []) us qs
in_two test f ts us t qs k e =
    let whole : then (run test f Begin (ts ++ t ∷ [])) (λ n. run test f n us) ≡ ran Finished qs = sym (run_append test f (ts ++ t ∷ []) us Begin) ∙ e in
    let (n, ps, one) = then_ran (run test f Begin (ts ++ t ∷ [])) (λ n. run test f n us) Finished qs whole in
    let b : n ≡ Begin = leads_into LineEnd Begin accept_line_end test f ts t Begin n ps one k in
    let r = rest_ran ps (run test f n us) Finished qs (sym (ap (λ r. then r (λ n. run test f n us)) one) ∙ whole) in
    let named : run test f Begin us ≡ run test f n us = ap (λ m. run test f m us) (sym b) in
    let two : run test f Begin us ≡ ran Finished r.0 = named ∙ r.1 in
    record { first = ps; second = r.0; one = one ∙ ap (λ m. ran m ps) b; two = two; all = r.2 }

-- and two parts are a run to the end
in_one : (test : List ℕ → Bool) (f : LineForm) (ts us : List Token) (ps rs : List Quad) → run test f Begin ts ≡ ran Begin ps →
    run test f Begin us ≡ ran Finished rs →
    run test f Begin (ts ++ us) ≡ ran Finished (ps ++ rs)
in_one test f ts us ps rs a b = run_append test f ts us Begin ∙ (ap (λ r. then r (λ n. run test f n us)) a ∙ ap (with_quads ps) b)

-- UTF-8 that is cut after a line end
record IsCut (x : List ℕ) (c : ℕ) (b : List ℕ) : Type 0 where
  line : IsUtf8 x
  rest : IsUtf8 b

cut : (x : List ℕ) (c : ℕ) (b : List ℕ) → IsEnd c → IsUtf8 ((x ++ c ∷ []) ++ b) → IsCut x c b
cut x c b e u =
    let bs = (x ++ c ∷ []) ++ b in
    let whole : bs ≡ x ++ c ∷ b = append_assoc x (c ∷ []) b in
    let size : length bs ≡ length x + suc (length b) = ap length whole ∙ length-append x (c ∷ b) in
    let here : get_or bs (length x) 0 ≡ c = ap (λ w. get_or w (length x) 0) whole ∙ get_or-append_seam x c b 0 in
    let low : c < 128 = at_end (λ c. c < 128) (omega arith) (omega arith) c e in
    let ascii : get_or bs (length x) 0 < 128 = subst (λ d. d < 128) (sym here) low in
    let long : length (x ++ c ∷ []) ≡ length x + 1 = length-append x (c ∷ []) in
    record {
      line = subst IsUtf8 (ap (take (length x)) whole ∙ take_at x (c ∷ b) (length x) refl)
          (IsUtf8-take bs (length x) u (IsCharBoundary-before_ascii bs (length x) (omega arith) ascii));
      rest = subst IsUtf8 (drop_at (x ++ c ∷ []) b (length x + 1) long)
          (IsUtf8-drop bs (length x + 1) u (IsCharBoundary-after_ascii bs (length x) u (omega arith) ascii));
    }

-- a line end is one character
end_chars : (c : ℕ) → IsEnd c → chars (c ∷ []) ≡ c ∷ []
unfolding encode
end_chars c e = at_end (λ c. chars (c ∷ []) ≡ c ∷ []) (chars-encodes (10 ∷ []) refl) (chars-encodes (13 ∷ []) refl) c e

-- and UTF-8
end_utf8 : (c : ℕ) → IsEnd c → IsUtf8 (c ∷ [])
unfolding encode
end_utf8 c e = at_end (λ c. IsUtf8 (c ∷ [])) (10 ∷ [], (refl, refl)) (13 ∷ [], (refl, refl)) c e

-- the characters of a line and what follows it
line_chars : (x : List ℕ) (c : ℕ) (b : List ℕ) → IsEnd c → IsUtf8 x → chars ((x ++ c ∷ []) ++ b) ≡ chars x ++ c ∷ chars b
line_chars x c b e u =
    chars-append (x ++ c ∷ []) b (IsUtf8-append x (c ∷ []) u (end_utf8 c e))
    ∙ (ap (λ w. w ++ chars b) (chars-append x (c ∷ []) u ∙ ap (λ w. chars x ++ w) (end_chars c e)) ∙ append_assoc (chars x) (c ∷ []) (chars b))

-- all characters of UTF-8 are good
all_good : (bytes : List ℕ) → IsUtf8 bytes → good bytes ≡ chars bytes
all_good bytes u = ap chars (ap (λ x. take x bytes) (utf8_valid_len-IsUtf8 bytes u) ∙ take_all (length bytes) bytes (omega arith))

-- the tokens of a text's characters, after the byte order mark
abbrev after_mark : ℕ → List ℕ → Reading
after_mark limit w = tokens Lines limit ended false (past first_place (take (mark w) w)) (drop (mark w) w)

-- those of UTF-8
utf8_tokens : (limit : ℕ) (bytes : List ℕ) → IsUtf8 bytes → tokens_of Lines limit bytes true ≡ after_mark limit (chars bytes)
utf8_tokens limit bytes u =
    let t : tail_of bytes true ≡ ended = cond-true _ _ _ (eq-eqb (utf8_valid_len bytes) (length bytes) (utf8_valid_len-IsUtf8 bytes u)) in
    tokens_of-tokens Lines limit bytes true
    ∙ (ap (λ x. tokens Lines limit x false (past first_place (take (mark (good bytes)) (good bytes))) (drop (mark (good bytes)) (good bytes))) t
    ∙ ap (after_mark limit) (all_good bytes u))

-- bytes that are read to their end are UTF-8
complete_utf8 : (limit : ℕ) (bytes : List ℕ) → (tokens_of Lines limit bytes true).outcome ≡ complete → IsUtf8 bytes
complete_utf8 limit bytes e = by (cases_Bool (utf8_valid_len bytes == length bytes))
  where
    whole : tail_of bytes true ≡ ended
    whole =
        by_steps Lines limit (tail_of bytes true) (λ p w r. r.outcome ≡ complete → tail_of bytes true ≡ ended)
        (λ b p w o h x. (step_complete limit (tail_of bytes true) (rest_of Lines b w) (h ∙ ap stop x)).0)
        (λ b p w n k r h f. f) false _ _ (ap (λ r. r.outcome) (sym (tokens_of-tokens Lines limit bytes true)) ∙ e)

    by : ((utf8_valid_len bytes == length bytes) ≡ true) ⊎ ((utf8_valid_len bytes == length bytes) ≡ false) → IsUtf8 bytes
    by (inl t) =
        let l : utf8_valid_len bytes ≡ length bytes = eqb-true (utf8_valid_len bytes) (length bytes) t in
        subst IsUtf8 (ap (λ n. take n bytes) l ∙ take_all (length bytes) bytes (omega arith)) (good_front bytes)
    by (inr f) = absurd (let z : broken ≡ ended = sym (cond-false (utf8_valid_len bytes == length bytes) _ _ f) ∙ whole in cc)

-- what is left of a line after a byte order mark, and its place, whatever follows the line
record AfterMark (y : List ℕ) (c : ℕ) : Type 0 where
  text : List ℕ
  place : Place
  left : (v : List ℕ) → drop (mark (y ++ c ∷ v)) (y ++ c ∷ v) ≡ text ++ c ∷ v
  at : (v : List ℕ) → past first_place (take (mark (y ++ c ∷ v)) (y ++ c ∷ v)) ≡ place

marked : (y : List ℕ) (c : ℕ) → IsEnd c → AfterMark y c
marked [] c e =
    at_end (AfterMark []) (record { text = []; place = first_place; left = λ v. refl; at = λ v. refl })
    (record { text = []; place = first_place; left = λ v. refl; at = λ v. refl }) c e
marked (d ∷ y) c e = by (d == 0xFEFF) refl
  where
    by : (b : Bool) → (d == 0xFEFF) ≡ b → AfterMark (d ∷ y) c
    by true t = record {
      text = y;
      place = past first_place (d ∷ []);
      left = λ v. ap (λ b. drop (cond b 1 0) (d ∷ y ++ c ∷ v)) t;
      at = λ v. ap (λ b. past first_place (take (cond b 1 0) (d ∷ y ++ c ∷ v))) t;
    }
    by false f = record {
      text = d ∷ y;
      place = first_place;
      left = λ v. ap (λ b. drop (cond b 1 0) (d ∷ y ++ c ∷ v)) f;
      at = λ v. ap (λ b. past first_place (take (cond b 1 0) (d ∷ y ++ c ∷ v))) f;
    }

module _ (limit : ℕ) (x : List ℕ) (c : ℕ) (e : IsEnd c) where
  abbrev m : AfterMark (chars x) c
  m = marked (chars x) c e

  abbrev line : List ℕ
  line = m.text ++ c ∷ []

  -- the tokens of a line and what follows it, from the place after a byte order mark on
  front_tokens : (b : List ℕ) → IsUtf8 x → IsUtf8 b → tokens_of Lines limit ((x ++ c ∷ []) ++ b) true ≡ tokens Lines limit ended false m.place (line ++ chars b)
  front_tokens b u v =
      utf8_tokens limit ((x ++ c ∷ []) ++ b) (IsUtf8-append (x ++ c ∷ []) b (IsUtf8-append x (c ∷ []) u (end_utf8 c e)) v)
      ∙ (ap (after_mark limit) (line_chars x c b e u)
      ∙ (ap (λ p. tokens Lines limit ended false p (drop (mark (chars x ++ c ∷ chars b)) (chars x ++ c ∷ chars b))) (m.at (chars b))
      ∙ ap (tokens Lines limit ended false m.place) (m.left (chars b) ∙ sym (append_assoc m.text (c ∷ []) (chars b)))))

  -- those of the line alone
  line_tokens : IsUtf8 x → tokens_of Lines limit (x ++ c ∷ []) true ≡ tokens Lines limit ended false m.place (line ++ [])
  line_tokens u =
      ap (λ w. tokens_of Lines limit w true) (sym (append-nil (x ++ c ∷ [])))
      ∙ (front_tokens [] u IsUtf8-nil ∙ ap (λ w. tokens Lines limit ended false m.place (line ++ w)) chars-nil)

-- without a byte order mark
unmarked_tokens : (limit : ℕ) (b : List ℕ) → IsUtf8 b → has_byte_order_mark (good b) ≡ false →
    tokens_of Lines limit b true ≡ tokens Lines limit ended false first_place (chars b)
unmarked_tokens limit b u n =
    let z : mark (chars b) ≡ 0 = cond-false (has_byte_order_mark (chars b)) 1 0 (ap has_byte_order_mark (sym (all_good b u)) ∙ n) in
    utf8_tokens limit b u ∙ ap (λ m. tokens Lines limit ended false (past first_place (take m (chars b))) (drop m (chars b))) z

-- Bytes that the machine takes to their end, with these quads.
pub record IsRun (form : LineForm) (limit iri : ℕ) (bytes : List ℕ) (qs : List Quad) : Type 0 where
  pub whole : (tokens_of Lines limit bytes true).outcome ≡ complete
  pub ran : run (is_taken iri) form Begin (tokens_of Lines limit bytes true).tokens ≡ ran Finished qs

-- the quads of two parts, of which the second has none
no_more : (qs ps rs : List Quad) → rs ≡ [] → qs ≡ ps ++ rs → qs ≡ ps
no_more qs ps rs n e = e ∙ (ap (λ x. ps ++ x) n ∙ append-nil ps)

-- a text that begins with a mark goes on after it
mark_first : (w : List ℕ) → has_byte_order_mark w ≡ true → (v : List ℕ) × (w ≡ 0xFEFF ∷ v)
mark_first [] h = absurd (let z : false ≡ true = h in cc)
mark_first (c ∷ w) h = (w, ap (λ d. d ∷ w) (eqb-true c 0xFEFF h))

module _ (form : LineForm) (limit iri : ℕ) (x : List ℕ) (c : ℕ) (b : List ℕ) (e : IsEnd c) where
  abbrev a : List ℕ
  a = x ++ c ∷ []

  abbrev start : Place
  start = (marked (chars x) c e).place

  abbrev text : List ℕ
  text = (marked (chars x) c e).text ++ c ∷ []

  abbrev test : List ℕ → Bool
  test = is_taken iri

  -- what is read of the rest, at its place in the whole
  abbrev behind : Reading
  behind = tokens Lines limit ended false (past start text) (chars b)

  -- the runs over the whole and its parts, where the line is read whole
  record Parts : Type 0 where
    front : List Token
    last : Token
    kind : last.kind ≡ LineEnd
    alone : (tokens_of Lines limit a true ≡ with_tokens (front ++ last ∷ [])
        (record { tokens = record { kind = End; text = []; at = past start text } ∷ []; outcome = complete; at = past start text }))
    both : tokens_of Lines limit (a ++ b) true ≡ with_tokens (front ++ last ∷ []) behind

  parts : IsUtf8 x → IsUtf8 b → Through limit false start text → Parts
  parts u v t = record {
    front = t.front;
    last = t.last;
    kind = t.kind;
    alone = line_tokens limit x c e u ∙ (t.on ended [] ∙ ap (with_tokens (t.front ++ t.last ∷ [])) (end_read limit (past start text)));
    both = front_tokens limit x c e b u v ∙ t.on ended (chars b);
  }

  -- a line and then others: both runs, and their quads
  pub record IsSplit (qs : List Quad) : Type 0 where
    pub first : List Quad
    pub second : List Quad
    pub line : IsRun form limit iri a first
    pub rest : IsRun form limit iri b second
    pub unmarked : has_byte_order_mark (good b) ≡ false
    pub all : qs ≡ first ++ second

  -- What is taken to its end is taken line by line.
  pub split : (qs : List Quad) → IsRun form limit iri (a ++ b) qs → IsSplit qs
  split qs r =
      let k = cut x c b e (complete_utf8 limit (a ++ b) r.whole) in
      ⊎_elim (λ t. by k (parts k.line k.rest t))
      (λ s. absurd (s.short (sym (s.on ended (chars b)) ∙ (ap (λ y. y.outcome) (sym (front_tokens limit x c e b k.line k.rest))
      ∙ r.whole)))) (line_read limit start (marked (chars x) c e).text c e)
    where
      by : IsCut x c b → Parts → IsSplit qs
      by k p =
          let ends : behind.outcome ≡ complete = ap (λ y. y.outcome) (sym p.both) ∙ r.whole in
          let n : has_byte_order_mark (good b) ≡ false =
          ⊎_elim
          (λ h. let m = mark_first (chars b) (ap has_byte_order_mark (sym (all_good b k.rest)) ∙ h) in
          absurd (mark_stops limit ended (past start text) m.0 (ap (λ w. (tokens Lines limit ended false (past start text) w).outcome) (sym m.1) ∙ ends)))
          (λ h. h)
          (cases_Bool (has_byte_order_mark (good b))) in
          let same = alike (suc (length (chars b))) limit ended false (past start text) first_place (chars b) (omega arith) in
          let rest = unmarked_tokens limit b k.rest n in
          let two = in_two test form p.front behind.tokens p.last qs p.kind (ap (λ y. run test form Begin y.tokens) (sym p.both) ∙ r.ran) in
          let one = in_one test form (p.front ++ p.last ∷ []) (record { kind = End; text = []; at = past start text } ∷ []) two.first [] two.one refl in
          record {
            first = two.first;
            second = two.second;
            line = record {
              whole = ap (λ y. y.outcome) p.alone;
              ran = ap (λ y. run test form Begin y.tokens) p.alone ∙ (one ∙ ap (ran Finished) (append-nil two.first));
            };
            rest = record {
              whole = ap (λ y. y.outcome) rest ∙ (sym same.outcome ∙ ends);
              ran = ap (λ y. run test form Begin y.tokens) rest
                  ∙ (sym (run_alike test form Begin behind.tokens (tokens Lines limit ended false first_place (chars b)).tokens same.tokens) ∙ two.two);
            };
            unmarked = n;
            all = two.all;
          }

  -- And what is taken line by line is taken to its end.
  pub joined : (ps rs : List Quad) → IsRun form limit iri a ps → IsRun form limit iri b rs → has_byte_order_mark (good b) ≡ false →
      IsRun form limit iri (a ++ b) (ps ++ rs)
  joined ps rs r s n =
      let ua : IsUtf8 (a ++ []) = subst IsUtf8 (sym (append-nil a)) (complete_utf8 limit a r.whole) in
      let k = cut x c [] e ua in
      let v = complete_utf8 limit b s.whole in
      ⊎_elim (λ t. by k.line v (parts k.line v t))
      (λ o. absurd (o.short (sym (o.on ended []) ∙ (ap (λ y. y.outcome) (sym (line_tokens limit x c e k.line)) ∙ r.whole))))
      (line_read limit start (marked (chars x) c e).text c e)
    where
      by : IsUtf8 x → IsUtf8 b → Parts → IsRun form limit iri (a ++ b) (ps ++ rs)
      by u v p =
          let end : List Token = record { kind = End; text = []; at = past start text } ∷ [] in
          let same = alike (suc (length (chars b))) limit ended false (past start text) first_place (chars b) (omega arith) in
          let rest = unmarked_tokens limit b v n in
          let two = in_two test form p.front end p.last ps p.kind (ap (λ y. run test form Begin y.tokens) (sym p.alone) ∙ r.ran) in
          let none : two.second ≡ [] = let z : ran Finished [] ≡ ran Finished two.second = two.two in cc in
          let first : run test form Begin (p.front ++ p.last ∷ []) ≡ ran Begin ps =
          two.one ∙ ap (ran Begin) (sym (no_more ps two.first two.second none two.all)) in
          let second : run test form Begin behind.tokens ≡ ran Finished rs =
          run_alike test form Begin behind.tokens (tokens Lines limit ended false first_place (chars b)).tokens same.tokens
          ∙ (ap (λ y. run test form Begin y.tokens) (sym rest) ∙ s.ran) in
          record {
            whole = ap (λ y. y.outcome) p.both ∙ (same.outcome ∙ (ap (λ y. y.outcome) (sym rest) ∙ s.whole));
            ran = ap (λ y. run test form Begin y.tokens) p.both ∙ in_one test form (p.front ++ p.last ∷ []) behind.tokens ps rs first second;
          }

  -- a mark stands in front of the whole where it does in front of the line
  pub mark_same : IsUtf8 (a ++ b) → has_byte_order_mark (good (a ++ b)) ≡ has_byte_order_mark (good a)
  mark_same u =
      let k = cut x c b e u in
      ap has_byte_order_mark (all_good (a ++ b) u ∙ line_chars x c b e k.line)
      ∙ (at (chars x)
      ∙ sym (ap has_byte_order_mark (all_good a (IsUtf8-append x (c ∷ []) k.line (end_utf8 c e))
      ∙ (ap chars (sym (append-nil a)) ∙ line_chars x c [] e k.line))))
    where
      at : (y : List ℕ) → has_byte_order_mark (y ++ c ∷ chars b) ≡ has_byte_order_mark (y ++ c ∷ chars [])
      at [] = refl
      at (d ∷ y) = refl

-- an IRI with a scheme that passes no limit is taken
within_taken : (n : ℕ) (i : List ℕ) → has_scheme i ≡ true → (n < byte_len i → ⊥) → is_taken n i ≡ true
within_taken n i s l = and_from (has_scheme i) _ s (ap not (le-ltb n (byte_len i) (⊎_elim (λ h. absurd (l h)) (λ h. h) (cases_lt n (byte_len i)))))

-- one token goes on under another test that passes its IRI
other_one : (test other : List ℕ → Bool) (k : Kind) (l : Leaf) (a : (List ℕ → Bool) → Answer) (more : Mode → Run) (n : Mode) (qs : List Quad) → Tested k l a →
    (k ≡ IriRef → test (iri_of l) ≡ true → other (iri_of l) ≡ true) → go_on (a test) more ≡ ran n qs → go_on (a other) more ≡ ran n qs
other_one test other k l a more n qs (inl (x, h, same)) w e = ap (λ y. go_on y more) (same other ∙ sym (same test)) ∙ e
other_one test other k l a more n qs (inr (h, m, same)) w e =
    ⊎_elim
    (λ t. ap (λ y. go_on y more) (same other ∙ (absolute_goes other (iri_of l) m (w h t) ∙ sym (same test ∙ absolute_goes test (iri_of l) m t))) ∙ e)
    (λ t. absurd (let z : refused _ ≡ ran n qs = sym (ap (λ y. go_on y more) (same test ∙ absolute_refuses test (iri_of l) m t)) ∙ e in cc))
    (cases_Bool (test (iri_of l)))

-- a document of which no token passes the limit is taken
taken_run : (iri : ℕ) (f : LineForm) (ts : List Token) (m n : Mode) (qs : List Quad) → PassesNone (Passes iri) ts →
    run has_scheme f m ts ≡ ran n qs → run (is_taken iri) f m ts ≡ ran n qs
taken_run iri f [] m n qs w e = e
taken_run iri f (t ∷ ts) m n qs w e =
    at (λ k rs x. taken_run iri f ts k n rs (λ ahead after u s p. w (t ∷ ahead) after u (ap (λ us. t ∷ us) s) p) x)
    (accept (is_taken iri) f m t.kind (leaf_of t)) qs
    (other_one has_scheme (is_taken iri) t.kind (leaf_of t) (λ test. accept test f m t.kind (leaf_of t)) (λ k. run has_scheme f k ts) n qs
    (tested f m t.kind (leaf_of t))
    (λ i s. within_taken iri (iri_of (leaf_of t)) s (λ l. w [] ts t refl (i, l))) e)
  where
    at : ((k : Mode) (rs : List Quad) → run has_scheme f k ts ≡ ran n rs → run (is_taken iri) f k ts ≡ ran n rs) → (a : Answer) (qs : List Quad) →
        go_on a (λ k. run has_scheme f k ts) ≡ ran n qs → go_on a (λ k. run (is_taken iri) f k ts) ≡ ran n qs
    at h (goes k) qs z = h k qs z
    at h (gives q k) qs z = let r = quad_first q (run has_scheme f k ts) n qs z in ap (with_quad q) (h k r.0 r.1) ∙ ap (ran n) (sym r.2)
    at h (refuses r) qs z = absurd (let w : refused r ≡ ran n qs = z in cc)

-- a document within the limits is taken to its end
pub accepted_run : (form : LineForm) (limit iri : ℕ) (bytes : List ℕ) (qs : List Quad) →
    IsDocumentWithin (in_lines form limit iri) bytes qs → IsRun form limit iri bytes qs
accepted_run form limit iri bytes qs d =
    let ts = (tokens_of Lines limit bytes true).tokens in
    record {
      whole = d.document.0;
      ran = taken_run iri form ts Begin Finished qs d.within.limits
          (run_document has_scheme form ts qs (without_marks form ts qs (d.document.1, d.document.2, d.document.3)));
    }

-- and what is taken to its end is a document within the limits
pub run_accepted : (form : LineForm) (limit iri : ℕ) (bytes : List ℕ) (qs : List Quad) → length bytes ≤ most_bytes →
    IsRun form limit iri bytes qs → IsDocumentWithin (in_lines form limit iri) bytes qs
run_accepted form limit iri bytes qs l r =
    let ts = (tokens_of Lines limit bytes true).tokens in
    let m = document_marked has_scheme form ts qs (sound has_scheme form ts qs (in_documents iri form ts Finished qs r.ran)) in
    record {
      document = (r.whole, m.0, m.1, m.2);
      within = record {
        tokens = λ v x. let z : complete ≡ token_too_long = sym r.whole ∙ x in cc;
        limits = ran_none iri form ts Begin Finished qs r.ran;
        size = l;
      };
    }

-- no bytes are a document without quads
pub nothing_run : (form : LineForm) (limit iri : ℕ) → IsRun form limit iri [] []
nothing_run form limit iri =
    let r : tokens_of Lines limit [] true ≡ tokens Lines limit ended false first_place [] = utf8_tokens limit [] IsUtf8-nil ∙ ap (after_mark limit) chars-nil in
    let whole = r ∙ end_read limit first_place in
    record { whole = ap (λ y. y.outcome) whole; ran = ap (λ y. run (is_taken iri) form Begin y.tokens) whole }

-- and no byte order mark
pub nothing_unmarked : has_byte_order_mark (good []) ≡ false
nothing_unmarked = ap has_byte_order_mark (all_good [] IsUtf8-nil ∙ chars-nil)

-- bytes of a run are UTF-8
pub run_utf8 : (form : LineForm) (limit iri : ℕ) (bytes : List ℕ) (qs : List Quad) → IsRun form limit iri bytes qs → IsUtf8 bytes
run_utf8 form limit iri bytes qs r = complete_utf8 limit bytes r.whole
