-- No token but a line end contains one, so what ends in a line end is read whole, whatever comes after it.
use Rattle.rdf_lines.proofs.Prelude.{◌≡◌, ◌≢◌, ℕ, zero, suc, ◌+◌, ◌<◌, ◌≤◌, Bool, true, false, cond, List, [], ◌∷◌, ◌++◌, ◌||◌, ◌==◌, ◌⊎◌, inl, inr, refl, sym, ap, ◌∙◌, subst, ⊎_elim, append_assoc, Option, Some, None, length, take, drop, nat_lt, arith, length-append, length-drop, cases_Bool, cases_lt, cond-true, cond-false, false≢true, or_cases, eqb-true, le-ltb, and_left, take_all, drop_all, take-append-drop, drop-append-le, Lines, Kind, LineEnd, LangTag, End, Matches, after, possible, Shape, kinds, shape, any_shape, is_live, is_fit, matches-after, matches-possible, first_kind-matches, matches-first_kind, live-matches, uses, not_used, Place, past, Outcome, Token, is_line_end, is_space, longest, over, is_empty, chosen, decided, by_tail, Step, step, rest_of, place_of, tokens, with_token, with_tokens, goes_on, ended, broken, stop, undecided, complete, token_too_long, bad_utf8, no_token, bad_escape, step-more, step_token, rest_more, at_stop, more_token}
use Rattle.rdf_terms.specs.Classes.{has}
use Rattle.rdf_tokens.specs.Tokens.{Tail, blank}
use Rattle.rdf_tokens.specs.Tokens.Step.{token}
use Rattle.rdf_tokens.proofs.StepLemmas.{step-token}
use Rattle.rdf_tokens.proofs.NextLemmas.{left_open}

-- a line feed or a CR
abbrev pub IsEnd : ℕ → Type 0
IsEnd c = (c ≡ 10) ⊎ (c ≡ 13)

-- as the test says
pub tested_end : (c : ℕ) → is_line_end c ≡ true → IsEnd c
tested_end c e = ⊎_elim (λ x. inl (eqb-true c 10 x)) (λ x. inr (eqb-true c 13 x)) (or_cases (c == 10) (c == 13) e)

-- what holds of both holds of each
pub at_end : (P : ℕ → Type 0) → P 10 → P 13 → (c : ℕ) → IsEnd c → P c
at_end P a b c (inl e) = subst P (sym e) a
at_end P a b c (inr e) = subst P (sym e) b

-- a kind is that of line ends, or its tokens have none
free : (k : Kind) → (k ≡ LineEnd) ⊎ ((uses (shape Lines k) 10 ≡ false) × (uses (shape Lines k) 13 ≡ false))
unfolding shape has
free LineEnd = inl refl
free k = inr (refl, refl)

-- a line end is one character
one_long : (w : List ℕ) → Matches (shape Lines LineEnd) w → length w ≡ 1
unfolding shape
one_long w (inl m) = ap length m.4
    ∙ (length-append m.0 m.1 ∙ (let a : length m.0 ≡ 1 = ap length m.2.2 in let b : length m.1 ≡ 0 = ap length m.3 in omega arith))
one_long w (inr m) = ap length m.4
    ∙ (length-append m.0 m.1 ∙ (let a : length m.0 ≡ 1 = ap length m.2.2 in let b : length m.1 ≡ 0 = ap length m.3 in omega arith))

-- a text with a shape that has a line end in it is that line end
alone : (k : Kind) (y v : List ℕ) (c : ℕ) → IsEnd c → Matches (shape Lines k) (y ++ c ∷ v) → (k ≡ LineEnd) × (length y ≡ 0) × (length v ≡ 0)
alone k y v c e m =
    ⊎_elim
    (λ (s : k ≡ LineEnd).
    let n : length (y ++ c ∷ v) ≡ 1 = one_long (y ++ c ∷ v) (subst (λ k. Matches (shape Lines k) (y ++ c ∷ v)) s m) in
    let l = length-append y (c ∷ v) in
    (s, omega arith, omega arith))
    (λ f. absurd (not_used (shape Lines k) y v c (at_end (λ c. uses (shape Lines k) c ≡ false) f.0 f.1 c e) m))
    (free k)

-- so no token goes on after it
pub dead : (z : List ℕ) (c : ℕ) → IsEnd c → is_live Lines (z ++ c ∷ []) ≡ false
dead z c e = ⊎_elim (λ h. absurd (longer (live-matches Lines (z ++ c ∷ []) h))) (λ h. h) (cases_Bool (is_live Lines (z ++ c ∷ [])))
  where
    longer : (x : ℕ) × (u : List ℕ) × Matches (any_shape Lines kinds) ((z ++ c ∷ []) ++ x ∷ u) → ⊥
    longer (x, u, m) =
        let w = z ++ c ∷ x ∷ u in
        let whole : Matches (any_shape Lines kinds) w = subst (Matches (any_shape Lines kinds)) (append_assoc z (c ∷ []) (x ∷ u)) m in
        let f = matches-first_kind Lines kinds w whole in
        let a = alone f.0 z (x ∷ u) c e (first_kind-matches Lines kinds w f.0 f.1).0 in
        let l : length (x ∷ u) ≡ 0 = a.2 in
        omega arith

-- white space and comments end before it
blank_within : (s t : Bool) (m n l : ℕ) → m ≤ l → n ≤ l → cond s (suc m) (cond t (suc n) 0) ≤ suc l
blank_within true t m n l a b = omega arith
blank_within false true m n l a b = omega arith
blank_within false false m n l a b = omega arith

-- within a comment the same
comment_within : (s t : Bool) (m n l : ℕ) → m ≤ l → n ≤ l → cond s (cond t (suc m) 0) (suc n) ≤ suc l
comment_within true true m n l a b = omega arith
comment_within true false m n l a b = omega arith
comment_within false t m n l a b = omega arith

blank_stops : (b : Bool) (y : List ℕ) (c : ℕ) → IsEnd c → blank Lines b (y ++ c ∷ []) ≤ length y
blank_stops false [] c e = at_end (λ c. blank Lines false (c ∷ []) ≤ 0) (omega arith) (omega arith) c e
blank_stops true [] c e = at_end (λ c. blank Lines true (c ∷ []) ≤ 0) (omega arith) (omega arith) c e
blank_stops false (x ∷ y) c e =
    blank_within (is_space Lines x) (x == 35) (blank Lines false (y ++ c ∷ [])) (blank Lines true (y ++ c ∷ [])) (length y)
    (blank_stops false y c e) (blank_stops true y c e)
blank_stops true (x ∷ y) c e =
    comment_within (is_line_end x) (is_space Lines x) (blank Lines false (y ++ c ∷ [])) (blank Lines true (y ++ c ∷ [])) (length y)
    (blank_stops false y c e) (blank_stops true y c e)

-- a step stops as complete where nothing is left at the end of the input
pub step_complete : (limit : ℕ) (t : Tail) (w : List ℕ) → step Lines limit t w ≡ stop complete → (t ≡ ended) × (w ≡ [])
unfolding step
step_complete limit t w e =
    ⊎_elim
    (λ o. let h : stop token_too_long ≡ stop complete = sym (cond-true _ _ _ o) ∙ e in cc)
    (λ o. tail t w (is_empty w || is_live Lines w) refl (sym (cond-false _ _ _ o) ∙ e))
    (cases_Bool (over Lines limit w))
  where
    taken : (w : List ℕ) (o : Option (ℕ × Kind)) → chosen w o ≢ stop complete
    taken w None e = let h : stop no_token ≡ stop complete = e in cc
    taken w (Some x) e =
        ⊎_elim
        (λ f. let h : token x.0 x.1 ≡ stop complete = sym (cond-true _ _ _ f) ∙ e in cc)
        (λ f. let h : stop bad_escape ≡ stop complete = sym (cond-false _ _ _ f) ∙ e in cc)
        (cases_Bool (is_fit x.1 (take x.0 w)))

    made : (w : List ℕ) → decided Lines w ≡ stop complete → w ≡ []
    made [] e = refl
    made (c ∷ w) e = absurd (taken (c ∷ w) (longest Lines (c ∷ w) (length (c ∷ w))) e)

    some : (w : List ℕ) → (is_empty w || is_live Lines w) ≡ false → w ≢ []
    some [] h e = let z : true ≡ false = h in cc
    some (c ∷ w) h e = let z : c ∷ w ≡ [] = e in cc

    tail : (t : Tail) (w : List ℕ) (b : Bool) → (is_empty w || is_live Lines w) ≡ b → by_tail Lines t w b ≡ stop complete → (t ≡ ended) × (w ≡ [])
    tail ended w b h e = (refl, made w e)
    tail goes_on w true h e = let z : stop undecided ≡ stop complete = e in cc
    tail broken w true h e = let z : stop bad_utf8 ≡ stop complete = e in cc
    tail goes_on w false h e = absurd (some w h (made w e))
    tail broken w false h e = absurd (some w h (made w e))

-- the place after two texts is that after the second, counted from after the first
pub past-append : (u w : List ℕ) (p : Place) → past p (u ++ w) ≡ past (past p u) w
past-append [] w p = refl
past-append (c ∷ u) w p = past-append u w _

-- the text is read to some tokens of which a line end is the last, whatever comes after it
pub record Through (limit : ℕ) (b : Bool) (p : Place) (w : List ℕ) : Type 0 where
  pub front : List Token
  pub last : Token
  pub kind : last.kind ≡ LineEnd
  pub on : (t : Tail) (v : List ℕ) → tokens Lines limit t b p (w ++ v) ≡ with_tokens (front ++ last ∷ []) (tokens Lines limit t false (past p w) v)

-- the tokens end within the text, whatever comes after it
pub record Stuck (limit : ℕ) (b : Bool) (p : Place) (w : List ℕ) : Type 0 where
  pub outcome : Outcome
  pub short : outcome ≢ complete
  pub on : (t : Tail) (v : List ℕ) → (tokens Lines limit t b p (w ++ v)).outcome ≡ outcome

-- the matching text of a kind
shape_matches : (k : Kind) (w : List ℕ) → Shape Lines k w → Matches (shape Lines k) w
shape_matches LangTag w h = h.0
shape_matches k w h = h

-- what follows a token that was taken off is in front of the same place
past_token : (p : Place) (w : List ℕ) (m n : ℕ) → past (past (past p (take m w)) (take n (drop m w))) (drop n (drop m w)) ≡ past p w
past_token p w m n =
    sym (past-append (take n (drop m w)) (drop n (drop m w)) (past p (take m w)))
    ∙ (ap (past (past p (take m w))) (take-append-drop n (drop m w))
    ∙ (sym (past-append (take m w) (drop m w) p) ∙ ap (past p) (take-append-drop m w)))

-- what ends in a line end is read whole, or the tokens end in it
reads : (f : ℕ) (limit : ℕ) (b : Bool) (p : Place) (y : List ℕ) (c : ℕ) → IsEnd c → length y < f →
    Through limit b p (y ++ c ∷ []) ⊎ Stuck limit b p (y ++ c ∷ [])
reads zero limit b p y c e l = absurd (omega arith)
reads (suc f) limit b p y c e l = at (λ q u h. reads f limit false q u c e h) (step Lines limit goes_on r) refl
  where
    w : List ℕ
    w = y ++ c ∷ []

    m : ℕ
    m = blank Lines b w

    r : List ℕ
    r = rest_of Lines b w

    z : List ℕ
    z = drop m y

    left : r ≡ z ++ c ∷ []
    left = drop-append-le m y (c ∷ []) (blank_stops b y c e)

    some : is_empty r ≡ false
    some = ap is_empty left ∙ full z
      where
        full : (z : List ℕ) → is_empty (z ++ c ∷ []) ≡ false
        full [] = refl
        full (d ∷ z) = refl

    still : (is_empty r || is_live Lines r) ≡ false
    still = ap (λ x. x || is_live Lines r) some ∙ (ap (is_live Lines) left ∙ dead z c e)

    q : Place
    q = place_of Lines b p w

    stuck : (o : Outcome) → step Lines limit goes_on r ≡ stop o → o ≢ undecided → Stuck limit b p w
    stuck o s n = record {
      outcome = o;
      short = λ x. let d = step_complete limit goes_on r (s ∙ ap stop x) in let h : goes_on ≡ ended = d.0 in cc;
      on = λ t v.
          let a = step-more Lines limit t r v (λ x. n (same (sym s ∙ x))) in
          let g = rest_more Lines b p w v a.1 in
          ap (λ x. x.outcome) (at_stop Lines limit t b p (w ++ v) o (ap (step Lines limit t) g.0 ∙ (a.0 ∙ s)));
    }
      where
        same : {a b : Outcome} → stop a ≡ stop b → a ≡ b
        same e = cc

    head : ℕ → Kind → Token
    head n k = record { kind = k; text = take n r; at = q }

    through : (n : ℕ) (k : Kind) → step Lines limit goes_on r ≡ token n k → (0 < n) × (n ≤ length r) →
        (h : (x : Place) (u : List ℕ) → length u < f → Through limit false x (u ++ c ∷ []) ⊎ Stuck limit false x (u ++ c ∷ [])) →
        Through limit b p w ⊎ Stuck limit b p w
    through n k s i h = ⊎_elim within whole (cases_lt n (suc (length z)))
      where
        size : length r ≡ length z + 1
        size = ap length left ∙ length-append z (c ∷ [])

        on : (t : Tail) (v : List ℕ) → tokens Lines limit t b p (w ++ v) ≡ with_token (head n k)
            (tokens Lines limit t false (past q (take n r)) (drop n r ++ v))
        on t v = more_token Lines limit b p w n k s t v

        whole : suc (length z) ≤ n → Through limit b p w ⊎ Stuck limit b p w
        whole g =
            let long : length r ≤ n = omega (arith, size, g) in
            let d : drop n r ≡ [] = drop_all n r long in
            let all : take n r ≡ z ++ c ∷ [] = take_all n r long ∙ left in
            let shaped : Matches (shape Lines k) (z ++ c ∷ []) =
            shape_matches k (z ++ c ∷ []) (subst (Shape Lines k) all (step-token Lines limit goes_on r n k s).0) in
            let end : past q (take n r) ≡ past p w = sym (ap (past (past q (take n r))) d) ∙ past_token p w m n in
            inl
            (record {
              front = [];
              last = head n k;
              kind = (alone k z [] c e shaped).0;
              on = λ t v.
                  on t v
                  ∙ (ap (λ x. with_token (head n k) (tokens Lines limit t false (past q (take n r)) (x ++ v))) d
                  ∙ ap (λ x. with_token (head n k) (tokens Lines limit t false x v)) end);
            })

        within : n < suc (length z) → Through limit b p w ⊎ Stuck limit b p w
        within g =
            let u = drop n z in
            let d : drop n r ≡ u ++ c ∷ [] = ap (drop n) left ∙ drop-append-le n z (c ∷ []) (omega arith) in
            let x = past q (take n r) in
            let end : past x (u ++ c ∷ []) ≡ past p w = sym (ap (past x) d) ∙ past_token p w m n in
            let less : length u < f = let a = length-drop n z in let b = length-drop m y in omega (arith, a, b, l, i) in
            ⊎_elim
            (λ (k' : Through limit false x (u ++ c ∷ [])).
            inl
            (record {
              front = head n k ∷ k'.front;
              last = k'.last;
              kind = k'.kind;
              on = λ t v.
                  on t v
                  ∙ (ap (λ o. with_token (head n k) (tokens Lines limit t false x (o ++ v))) d
                  ∙ (ap (with_token (head n k)) (k'.on t v)
                  ∙ ap (λ o. with_tokens (head n k ∷ k'.front ++ k'.last ∷ []) (tokens Lines limit t false o v)) end));
            }))
            (λ (k' : Stuck limit false x (u ++ c ∷ [])).
            inr
            (record {
              outcome = k'.outcome;
              short = k'.short;
              on = λ t v. ap (λ o. o.outcome) (on t v ∙ ap (λ o. with_token (head n k) (tokens Lines limit t false x (o ++ v))) d) ∙ k'.on t v;
            }))
            (h x u less)

    at : ((x : Place) (u : List ℕ) → length u < f → Through limit false x (u ++ c ∷ []) ⊎ Stuck limit false x (u ++ c ∷ [])) →
        (o : Step) → step Lines limit goes_on r ≡ o → Through limit b p w ⊎ Stuck limit b p w
    at h (stop undecided) s = absurd (false≢true (sym still ∙ (left_open Lines limit goes_on r s).begins))
    at h (stop o) s = inr (stuck o s (λ x. false≢true (sym still ∙ (left_open Lines limit goes_on r (s ∙ ap stop x)).begins)))
    at h (token n k) s = through n k s (step_token Lines limit goes_on r n k s) h

-- What ends in a line end is read whole, whatever comes after it, or its tokens end before that.
pub line_read : (limit : ℕ) (p : Place) (y : List ℕ) (c : ℕ) → IsEnd c → Through limit false p (y ++ c ∷ []) ⊎ Stuck limit false p (y ++ c ∷ [])
line_read limit p y c e = reads (suc (length y)) limit false p y c e (omega arith)

-- nothing more is the end
pub end_read : (limit : ℕ) (p : Place) → tokens Lines limit ended false p []
    ≡ record { tokens = record { kind = End; text = []; at = p } ∷ []; outcome = complete; at = p }
unfolding step
end_read limit p = at_stop Lines limit ended false p [] complete
    (cond-false (over Lines limit []) _ _ (and_left (nat_lt limit 0) _ (le-ltb limit 0 (omega arith))))

-- no token begins with a byte order mark
no_kind : (k : Kind) → possible (after (shape Lines k) 0xFEFF) ≡ false
unfolding shape has
no_kind LineEnd = refl
no_kind k = refl

-- so a text that begins with one is not read to its end
pub mark_stops : (limit : ℕ) (t : Tail) (p : Place) (w : List ℕ) → (tokens Lines limit t false p (0xFEFF ∷ w)).outcome ≢ complete
mark_stops limit t p w = by (step Lines limit t (0xFEFF ∷ w)) refl
  where
    shaped : (n : ℕ) (k : Kind) → 0 < n → Matches (shape Lines k) (take n (0xFEFF ∷ w)) → ⊥
    shaped zero k l m = omega arith
    shaped (suc n) k l m = false≢true (sym (no_kind k) ∙ matches-possible _ (take n w) (matches-after (shape Lines k) 0xFEFF (take n w) m))

    by : (s : Step) → step Lines limit t (0xFEFF ∷ w) ≡ s → (tokens Lines limit t false p (0xFEFF ∷ w)).outcome ≢ complete
    by (stop o) s e =
        let o' : o ≡ complete = sym (ap (λ x. x.outcome) (at_stop Lines limit t false p (0xFEFF ∷ w) o s)) ∙ e in
        let d = step_complete limit t (0xFEFF ∷ w) (s ∙ ap stop o') in
        let h : 0xFEFF ∷ w ≡ [] = d.1 in
        cc
    by (token n k) s e = shaped n k (step_token Lines limit t (0xFEFF ∷ w) n k s).0
        (shape_matches k (take n (0xFEFF ∷ w)) (step-token Lines limit t (0xFEFF ∷ w) n k s).0)
