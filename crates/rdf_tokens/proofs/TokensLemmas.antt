-- What comes later changes nothing that is decided.
use Rattle.rdf_tokens.proofs.Prelude.{◌≡◌, ◌≢◌, ℕ, zero, suc, ◌+◌, ◌<◌, ◌≤◌, Bool, true, false, cond, List, [], ◌∷◌, ◌++◌, ◌&&◌, ◌||◌, ◌==◌, ◌⊎◌, inl, inr, refl, sym, ap, ◌∙◌, subst, ⊎_elim, Option, Some, None, length, take, drop, nat_lt, length-drop, arith, length-append, cases_Bool, cond-true, cond-false, false≢true, and_parts, or_parts, or_from, ltb-true, lt-ltb, le-ltb, cases_lt, eqb-true, false_from_ne_true, append-nil, take-append-le, drop-append-le, Dialect, has, Lines, Turtle, Kind, kind_of, is_live, shape, Place, past, Tail, Outcome, Token, is_line_end, is_space, blank, three_quotes, only_long, with_length, longest, over, is_empty, Step, chosen, decided, by_tail, Reading, with_token, go_on, end_tokens, stop_place, rest_of, read, tokens, with_tokens, is_fit, ended, broken, undecided, complete, token_too_long, bad_utf8, no_token, bad_escape, live-front, kind-front}
use Rattle.rdf_tokens.specs.Tokens.{step, place_of}
use Rattle.rdf_tokens.specs.Tokens.Tail.{goes_on}
use Rattle.rdf_tokens.specs.Tokens.Step.{token, stop}

-- at the end of a front that is not live, no more than the front has a kind
no_kind : (d : Dialect) (u : List ℕ) (c : ℕ) (v : List ℕ) → is_live d u ≡ false → kind_of d (u ++ c ∷ v) ≡ None
no_kind d u c v f =
    let at : (o : Option Kind) → kind_of d (u ++ c ∷ v) ≡ o → o ≡ None = λ o. elim o as (λ o. kind_of d (u ++ c ∷ v) ≡ o → o ≡ None) [
      | None ↦ λ e. refl
      | Some k ↦ λ e. absurd (false≢true (sym f ∙ kind-front d u c v k e))
    ] in
    at (kind_of d (u ++ c ∷ v)) refl

-- a text that begins no token begins none with more text either
pub not_live : (d : Dialect) (u v : List ℕ) → is_live d u ≡ false → is_live d (u ++ v) ≡ false
not_live d u v f = false_from_ne_true _ (λ t. false≢true (sym f ∙ live-front d u v t))

-- a longer front is the whole and a further character
pub longer_take : (u v : List ℕ) (n : ℕ) → length u < n → length u < length (u ++ v) → (c : ℕ) × (w : List ℕ) × (take n (u ++ v) ≡ u ++ c ∷ w)
longer_take [] [] n a b = absurd (omega arith)
longer_take [] (c ∷ v) zero a b = absurd (omega arith)
longer_take [] (c ∷ v) (suc n) a b = (c, take n v, refl)
longer_take (x ∷ u) v zero a b = absurd (omega arith)
longer_take (x ∷ u) v (suc n) a b =
    let r = longer_take u v n (omega arith) (omega arith) in
    (r.0, r.1, ap (λ y. x ∷ y) r.2)

-- whether a token is too long does not change with more text, once it is decided
over-more : (d : Dialect) (limit : ℕ) (u v : List ℕ) → is_live d u ≡ false ⊎ (over d limit u ≡ true) → over d limit (u ++ v) ≡ over d limit u
over-more d limit u v h =
    let near : limit < length u → over d limit (u ++ v) ≡ over d limit u = λ l.
    let e : take (limit + 1) (u ++ v) ≡ take (limit + 1) u = take-append-le (limit + 1) u v (omega arith) in
    let a : nat_lt limit (length (u ++ v)) ≡ true = lt-ltb _ _ (omega (arith, length-append u v)) in
    let b : nat_lt limit (length u) ≡ true = lt-ltb _ _ l in
    rw (e, a, b) refl in
    let far : length u ≤ limit → is_live d u ≡ false → over d limit (u ++ v) ≡ over d limit u = λ l f.
    let b : nat_lt limit (length u) ≡ false = le-ltb _ _ l in
    ⊎_elim
    (λ m.
    let t = longer_take u v (limit + 1) (omega arith) (omega arith) in
    let x : is_live d (take (limit + 1) (u ++ v)) ≡ false = ap (is_live d) t.2 ∙ not_live d u (t.0 ∷ t.1) f in
    let y : kind_of d (take (limit + 1) (u ++ v)) ≡ None = ap (kind_of d) t.2 ∙ no_kind d u t.0 t.1 f in
    rw (x, y, b) (and_false _))
    (λ m. let a : nat_lt limit (length (u ++ v)) ≡ false = le-ltb _ _ m in rw (a, b) refl)
    (cases_lt limit (length (u ++ v))) in
    ⊎_elim
    near
    (λ l. ⊎_elim (far l) (λ t. absurd (false≢true (sym (le-ltb _ _ l) ∙ (and_parts _ _ t).0))) h)
    (cases_lt limit (length u))
  where
    and_false : (b : Bool) → (b && false) ≡ false
    and_false true = refl
    and_false false = refl

-- the longest front of a text that is not live stays so
abbrev all_quote : ℕ → ℕ → ℕ → ℕ → Bool
all_quote q a b c = a == q && b == q && c == q

-- a character that cannot go on is no quote, so three quotes do not come first
quote_live : (q a : ℕ) → is_live Turtle (q ∷ []) ≡ true → is_live Turtle (a ∷ []) ≡ false → (b c : ℕ) → all_quote q a b c ≡ false
quote_live q a l f b c = false_from_ne_true _ (λ t.
    let e : a ≡ q = eqb-true a q (and_parts (a == q) (b == q) (and_parts (a == q && b == q) (c == q) t).0).0 in
    false≢true (sym f ∙ subst (λ x. is_live Turtle (x ∷ []) ≡ true) (sym e) l))

-- two characters that cannot go on are no two quotes
quotes_live : (q a b : ℕ) → is_live Turtle (q ∷ q ∷ []) ≡ true → is_live Turtle (a ∷ b ∷ []) ≡ false → (c : ℕ) → all_quote q a b c ≡ false
quotes_live q a b l f c = false_from_ne_true _ (λ t.
    let p = and_parts (a == q) (b == q) (and_parts (a == q && b == q) (c == q) t).0 in
    let e : a ≡ q = eqb-true a q p.0 in
    let g : b ≡ q = eqb-true b q p.1 in
    false≢true (sym f ∙ subst (λ x. is_live Turtle (x ∷ b ∷ []) ≡ true) (sym e) (subst (λ y. is_live Turtle (q ∷ y ∷ []) ≡ true) (sym g) l)))

-- a quotation mark begins a string
double_live : is_live Turtle (34 ∷ []) ≡ true
unfolding is_live shape has
double_live = refl

-- an apostrophe begins a string
single_live : is_live Turtle (39 ∷ []) ≡ true
unfolding is_live shape has
single_live = refl

-- two quotation marks begin a string in three
doubles_live : is_live Turtle (34 ∷ 34 ∷ []) ≡ true
unfolding is_live shape has
doubles_live = refl

-- two apostrophes begin a string in three
singles_live : is_live Turtle (39 ∷ 39 ∷ []) ≡ true
unfolding is_live shape has
singles_live = refl

-- of two tests that fail none holds
neither : (x y : Bool) → x ≡ false → y ≡ false → (x || y) ≡ false
neither x y e f = or_from x y e f

-- whether three quotes come first does not change with more text
pub quotes-more : (d : Dialect) (u v : List ℕ) → is_empty u ≡ false → is_live d u ≡ false → three_quotes d (u ++ v) ≡ three_quotes d u
quotes-more Lines u v n f = refl
quotes-more Turtle [] v n f = absurd (false≢true (sym n))
quotes-more Turtle (a ∷ []) [] n f = refl
quotes-more Turtle (a ∷ []) (b ∷ []) n f = refl
quotes-more Turtle (a ∷ []) (b ∷ c ∷ v) n f = neither _ _ (quote_live 34 a double_live f b c) (quote_live 39 a single_live f b c)
quotes-more Turtle (a ∷ b ∷ []) [] n f = refl
quotes-more Turtle (a ∷ b ∷ []) (c ∷ v) n f = neither _ _ (quotes_live 34 a b doubles_live f c) (quotes_live 39 a b singles_live f c)
quotes-more Turtle (a ∷ b ∷ c ∷ u) v n f = refl

-- fronts within the first text are the same with more text
pub longest_low : (d : Dialect) (u v : List ℕ) → three_quotes d (u ++ v) ≡ three_quotes d u → (n : ℕ) → n ≤ length u → longest d (u ++ v) n ≡ longest d u n
longest_low d u v q zero l = refl
longest_low d u v q (suc n) l =
    let e : take (suc n) (u ++ v) ≡ take (suc n) u = take-append-le (suc n) u v l in
    let h : longest d (u ++ v) n ≡ longest d u n = longest_low d u v q n (omega arith) in
    ap (λ x. with_length (suc n) (only_long (three_quotes d (u ++ v)) (kind_of d x)) (longest d (u ++ v) n)) e
    ∙ (ap (λ x. with_length (suc n) (only_long x (kind_of d (take (suc n) u))) (longest d (u ++ v) n)) q
    ∙ ap (λ x. with_length (suc n) (only_long (three_quotes d u) (kind_of d (take (suc n) u))) x) h)

-- a front without a kind does not change the longest
pub none_longer : (n : ℕ) (b : Bool) (k : Option Kind) (o : Option (ℕ × Kind)) → k ≡ None → with_length n (only_long b k) o ≡ o
none_longer n true k o e = ap (λ k. with_length n (only_long true k) o) e
none_longer n false k o e = ap (λ k. with_length n (only_long false k) o) e

-- fronts that reach past a text that cannot go on have no kind
longest_high : (d : Dialect) (u v : List ℕ) → is_live d u ≡ false → three_quotes d (u ++ v) ≡ three_quotes d u →
    (n : ℕ) → length u ≤ n → n ≤ length (u ++ v) → longest d (u ++ v) n ≡ longest d u (length u)
longest_high d u v f q zero l m =
    let e : zero ≡ length u = omega arith in
    longest_low d u v q zero (omega arith) ∙ ap (longest d u) e
longest_high d u v f q (suc n) l m =
    ⊎_elim
    (λ h.
    let t = longer_take u v (suc n) h (omega arith) in
    none_longer (suc n) (three_quotes d (u ++ v)) (kind_of d (take (suc n) (u ++ v))) (longest d (u ++ v) n) (ap (kind_of d) t.2 ∙ no_kind d u t.0 t.1 f)
    ∙ longest_high d u v f q n (omega arith) (omega arith))
    (λ h.
    let e : suc n ≡ length u = omega arith in
    longest_low d u v q (suc n) (omega arith) ∙ ap (longest d u) e)
    (cases_lt (length u) (suc n))

-- the longest front does not change with more text, once the text cannot go on
pub longest-more : (d : Dialect) (u v : List ℕ) → is_empty u ≡ false → is_live d u ≡ false → longest d (u ++ v) (length (u ++ v)) ≡ longest d u (length u)
longest-more d u v n f = longest_high d u v f (quotes-more d u v n f) (length (u ++ v)) (omega (arith, length-append u v)) (omega arith)

-- equal fronts have equal parts
same_pair : (x y : ℕ × Kind) → Some x ≡ Some y → x ≡ y
same_pair x y e = cc

-- a front that has a token is no longer than the text
pub longest_fits : (d : Dialect) (w : List ℕ) (n : ℕ) (m : ℕ) (k : Kind) → longest d w n ≡ Some (m, k) → (0 < m) × (m ≤ n)
longest_fits d w zero m k e = absurd (let h : None ≡ Some (m, k) = e in cc)
longest_fits d w (suc n) m k e =
    fits d w n m k (only_long (three_quotes d w) (kind_of d (take (suc n) w))) (λ h. longest_fits d w n m k h) e
  where
    fits : (d : Dialect) (w : List ℕ) (n m : ℕ) (k : Kind) (o : Option Kind) → (longest d w n ≡ Some (m, k) → (0 < m) × (m ≤ n)) →
        with_length (suc n) o (longest d w n) ≡ Some (m, k) → (0 < m) × (m ≤ suc n)
    fits d w n m k None r h = let q = r h in (q.0, omega arith)
    fits d w n m k (Some l) r h = let q : suc n ≡ m = ap (λ x. x.0) (same_pair (suc n, l) (m, k) h) in (omega arith, omega arith)

-- white space and comments before something else stay as they are
not_empty_drop : (n : ℕ) (w : List ℕ) → is_empty (drop n w) ≡ false → n < length w
not_empty_drop n [] e = absurd (nothing_left n e)
  where
    nothing_left : (n : ℕ) → is_empty (drop n (let x : List ℕ = [] in x)) ≡ false → ⊥
    nothing_left zero e = false≢true (sym e)
    nothing_left (suc n) e = false≢true (sym e)
not_empty_drop zero (c ∷ w) e = omega arith
not_empty_drop (suc n) (c ∷ w) e = let h = not_empty_drop n w e in omega arith

-- white space that is taken off before more text, at one character
blank_step : (c : ℕ) (w : List ℕ) (s t : Bool) (a b x y : ℕ) → (is_empty (drop a w) ≡ false → x ≡ a) → (is_empty (drop b w) ≡ false → y ≡ b) →
    is_empty (drop (cond s (suc a) (cond t (suc b) 0)) (c ∷ w)) ≡ false → cond s (suc x) (cond t (suc y) 0) ≡ cond s (suc a) (cond t (suc b) 0)
blank_step c w true t a b x y f g e = ap suc (f e)
blank_step c w false true a b x y f g e = ap suc (g e)
blank_step c w false false a b x y f g e = refl

-- what is taken off within a comment before more text, at one character
comment_step : (c : ℕ) (w : List ℕ) (l s : Bool) (a b x y : ℕ) → (is_empty (drop a w) ≡ false → x ≡ a) → (is_empty (drop b w) ≡ false → y ≡ b) →
    is_empty (drop (cond l (cond s (suc a) 0) (suc b)) (c ∷ w)) ≡ false → cond l (cond s (suc x) 0) (suc y) ≡ cond l (cond s (suc a) 0) (suc b)
comment_step c w false s a b x y f g e = ap suc (g e)
comment_step c w true true a b x y f g e = ap suc (f e)
comment_step c w true false a b x y f g e = refl

-- what is taken off does not change with more text, if something is left after it
blank-more : (d : Dialect) (b : Bool) (w v : List ℕ) → is_empty (drop (blank d b w) w) ≡ false → blank d b (w ++ v) ≡ blank d b w
blank-more d b [] v e = absurd (false≢true (sym e))
blank-more d false (c ∷ w) v e =
    blank_step c w (is_space d c) (c == 35) (blank d false w) (blank d true w) (blank d false (w ++ v)) (blank d true (w ++ v))
    (blank-more d false w v) (blank-more d true w v) e
blank-more d true (c ∷ w) v e =
    comment_step c w (is_line_end c) (is_space d c) (blank d false w) (blank d true w) (blank d false (w ++ v)) (blank d true (w ++ v))
    (blank-more d false w v) (blank-more d true w v) e

-- a step that more characters do not change
step_decided : (d : Dialect) (limit : ℕ) (t : Tail) (w : List ℕ) → over d limit w ≡ false → is_empty w ≡ false → is_live d w ≡ false →
    step d limit t w ≡ decided d w
unfolding step
step_decided d limit t w o e l =
    cond-false _ _ _ o ∙ ap (by_tail d t w) (or_from _ _ e l) ∙ tail t
  where
    tail : (t : Tail) → by_tail d t w false ≡ decided d w
    tail goes_on = refl
    tail ended = refl
    tail broken = refl

-- what a front decides does not change with more text
chosen-more : (d : Dialect) (u v : List ℕ) (o : Option (ℕ × Kind)) → longest d u (length u) ≡ o → chosen (u ++ v) o ≡ chosen u o
chosen-more d u v None e = refl
chosen-more d u v (Some x) e =
    let r = longest_fits d u (length u) x.0 x.1 e in
    ap (λ t. cond (is_fit x.1 t) (token x.0 x.1) (stop bad_escape)) (take-append-le x.0 u v r.1)

-- so the decision does not change
decided-more : (d : Dialect) (u v : List ℕ) → is_empty u ≡ false → is_live d u ≡ false → decided d (u ++ v) ≡ decided d u
decided-more d [] v e l = absurd (false≢true (sym e))
decided-more d (c ∷ u) v e l =
    ap (chosen (c ∷ u ++ v)) (longest-more d (c ∷ u) v e l) ∙ chosen-more d (c ∷ u) v _ refl

-- a step that is decided before more comes is the same after it
pub step-more : (d : Dialect) (limit : ℕ) (t : Tail) (u v : List ℕ) → step d limit goes_on u ≢ stop undecided →
    (step d limit t (u ++ v) ≡ step d limit goes_on u) × (is_empty u ≡ false)
unfolding step
step-more d limit t u v n =
    ⊎_elim
    (λ o. (
      over_step d limit t (u ++ v) (over-more d limit u v (inr o) ∙ o) ∙ sym (over_step d limit goes_on u o),
      over_not_empty d limit u o,
    ))
    (λ o.
    let w : (is_empty u || is_live d u) ≡ false = false_from_ne_true _ (λ x. n (waits d limit u o x)) in
    let p = or_parts _ _ w in (
      step_decided d limit t (u ++ v) (over-more d limit u v (inl p.1) ∙ o) (still u v p.0) (not_live d u v p.1)
          ∙ (decided-more d u v p.0 p.1 ∙ sym (step_decided d limit goes_on u o p.0 p.1)),
      p.0,
    ))
    (cases_Bool (over d limit u))
  where
    over_step : (d : Dialect) (limit : ℕ) (t : Tail) (w : List ℕ) → over d limit w ≡ true → step d limit t w ≡ stop token_too_long
    over_step d limit t w o = cond-true _ _ _ o

    over_not_empty : (d : Dialect) (limit : ℕ) (w : List ℕ) → over d limit w ≡ true → is_empty w ≡ false
    over_not_empty d limit [] o = let h : limit < 0 = ltb-true limit 0 (and_parts _ _ o).0 in absurd (omega arith)
    over_not_empty d limit (c ∷ w) o = refl

    waits : (d : Dialect) (limit : ℕ) (w : List ℕ) → over d limit w ≡ false → (is_empty w || is_live d w) ≡ true → step d limit goes_on w ≡ stop undecided
    waits d limit w o x = cond-false _ _ _ o ∙ ap (by_tail d goes_on w) x

    still : (u v : List ℕ) → is_empty u ≡ false → is_empty (u ++ v) ≡ false
    still [] v e = absurd (false≢true (sym e))
    still (c ∷ u) v e = refl

-- a token has a character, and lies within the text
pub step_token : (d : Dialect) (limit : ℕ) (t : Tail) (w : List ℕ) (n : ℕ) (k : Kind) → step d limit t w ≡ token n k → (0 < n) × (n ≤ length w)
unfolding step
step_token d limit t w n k e =
    ⊎_elim
    (λ o. not_stop token_too_long (sym (cond-true _ _ _ o) ∙ e))
    (λ o. tail t (is_empty w || is_live d w) (sym (cond-false _ _ _ o) ∙ e))
    (cases_Bool (over d limit w))
  where
    not_stop : {P : Type 0} (o : Outcome) → stop o ≡ token n k → P
    not_stop o e = let h : stop o ≡ token n k = e in cc

    taken : (w : List ℕ) (o : Option (ℕ × Kind)) → longest d w (length w) ≡ o → chosen w o ≡ token n k → (0 < n) × (n ≤ length w)
    taken w None l e = not_stop no_token e
    taken w (Some x) l e =
        let r = longest_fits d w (length w) x.0 x.1 l in
        ⊎_elim
        (λ f. let h : token x.0 x.1 ≡ token n k = sym (cond-true _ _ _ f) ∙ e in let g : x.0 ≡ n = cc in (omega arith, omega arith))
        (λ f. not_stop bad_escape (sym (cond-false _ _ _ f) ∙ e))
        (cases_Bool (is_fit x.1 (take x.0 w)))

    made : (w : List ℕ) → decided d w ≡ token n k → (0 < n) × (n ≤ length w)
    made [] e = not_stop complete e
    made (c ∷ w) e = taken (c ∷ w) (longest d (c ∷ w) (length (c ∷ w))) refl e

    tail : (t : Tail) (b : Bool) → by_tail d t w b ≡ token n k → (0 < n) × (n ≤ length w)
    tail goes_on true e = not_stop undecided e
    tail broken true e = not_stop bad_utf8 e
    tail ended true e = made w e
    tail goes_on false e = made w e
    tail broken false e = made w e
    tail ended false e = made w e

-- enough fuel is enough
go_on-same : (s : Step) (p : Place) (w : List ℕ) (f g : Place → List ℕ → Reading) →
    ((n : ℕ) (k : Kind) → s ≡ token n k → (q : Place) → f q (drop n w) ≡ g q (drop n w)) → go_on s p w f ≡ go_on s p w g
go_on-same (stop o) p w f g h = refl
go_on-same (token n k) p w f g h =
    ap (with_token (record { kind = k; text = take n w; at = p })) (h n k refl (past p (take n w)))

-- each token shortens the text, so reading ends
pub shorter : (d : Dialect) (limit : ℕ) (t : Tail) (b : Bool) (w : List ℕ) (n : ℕ) (k : Kind) → step d limit t (rest_of d b w) ≡ token n k →
    length (drop n (rest_of d b w)) < length w
shorter d limit t b w n k e =
    let r = step_token d limit t (rest_of d b w) n k e in
    omega (arith, length-drop n (rest_of d b w), length-drop (blank d b w) w)

-- the number of steps that are allowed makes no difference, if there are enough
fuel_same : (f g : ℕ) (d : Dialect) (limit : ℕ) (t : Tail) (b : Bool) (p : Place) (w : List ℕ) → length w < f → length w < g →
    read f d limit t b p w ≡ read g d limit t b p w
unfolding read
fuel_same zero g d limit t b p w l m = absurd (omega arith)
fuel_same (suc f) zero d limit t b p w l m = absurd (omega arith)
fuel_same (suc f) (suc g) d limit t b p w l m =
    go_on-same (step d limit t (rest_of d b w)) (place_of d b p w) (rest_of d b w) (λ q v. read f d limit t false q v) (λ q v. read g d limit t false q v)
    (λ n k e q.
    let s = shorter d limit t b w n k e in
    fuel_same f g d limit t false q (drop n (rest_of d b w)) (omega arith) (omega arith))

-- the reading of a text, step by step
pub tokens-step : (d : Dialect) (limit : ℕ) (t : Tail) (b : Bool) (p : Place) (w : List ℕ) →
    tokens d limit t b p w ≡ go_on (step d limit t (rest_of d b w)) (place_of d b p w) (rest_of d b w) (λ q v. tokens d limit t false q v)
unfolding tokens read
tokens-step d limit t b p w =
    go_on-same (step d limit t (rest_of d b w)) (place_of d b p w) (rest_of d b w) (λ q v. read (length w) d limit t false q v)
    (λ q v. tokens d limit t false q v)
    (λ n k e q.
    let s = shorter d limit t b w n k e in
    fuel_same (length w) (suc (length (drop n (rest_of d b w)))) d limit t false q (drop n (rest_of d b w)) s (omega arith))

-- Where a text is read until it is undecided, some end of it is left, which is read on with what comes.
pub record LeftOver (d : Dialect) (limit : ℕ) (b : Bool) (p : Place) (w : List ℕ) : Type 0 where
  pub at : Place
  pub comment : Bool
  pub text : List ℕ
  pub on : (t : Tail) (v : List ℕ) → tokens d limit t b p (w ++ v) ≡ with_tokens (tokens d limit goes_on b p w).tokens (tokens d limit t comment at (text ++ v))

-- however the text goes on, its tokens begin with those that it has decided
abbrev Extends : Dialect → ℕ → Bool → Place → List ℕ → Type 0
Extends d limit b p w =
    ((tokens d limit goes_on b p w).outcome ≡ undecided → LeftOver d limit b p w)
    × ((tokens d limit goes_on b p w).outcome ≢ undecided → (t : Tail) (v : List ℕ) → tokens d limit t b p (w ++ v) ≡ tokens d limit goes_on b p w)

-- what is left after white space, and its place, with more text
pub rest_more : (d : Dialect) (b : Bool) (p : Place) (w v : List ℕ) → is_empty (rest_of d b w) ≡ false →
    (rest_of d b (w ++ v) ≡ rest_of d b w ++ v) × (place_of d b p (w ++ v) ≡ place_of d b p w)
rest_more d b p w v e =
    let l = not_empty_drop (blank d b w) w e in
    let n : blank d b w ≤ length w = omega arith in
    let m = blank-more d b w v e in (
      ap (λ x. drop x (w ++ v)) m ∙ drop-append-le (blank d b w) w v n,
      ap (λ x. past p (take x (w ++ v))) m ∙ ap (past p) (take-append-le (blank d b w) w v n),
    )

-- before more bytes come, no step is refused for what is no character
pub no_bad_utf8 : (d : Dialect) (limit : ℕ) (w : List ℕ) → step d limit goes_on w ≢ stop bad_utf8
unfolding step
no_bad_utf8 d limit w e =
    ⊎_elim
    (λ o. let h : stop token_too_long ≡ stop bad_utf8 = sym (cond-true _ _ _ o) ∙ e in cc)
    (λ o. tail (is_empty w || is_live d w) (sym (cond-false _ _ _ o) ∙ e))
    (cases_Bool (over d limit w))
  where
    taken : (w : List ℕ) (o : Option (ℕ × Kind)) → chosen w o ≢ stop bad_utf8
    taken w None e = let h : stop no_token ≡ stop bad_utf8 = e in cc
    taken w (Some x) e =
        ⊎_elim
        (λ f. let h : token x.0 x.1 ≡ stop bad_utf8 = sym (cond-true _ _ _ f) ∙ e in cc)
        (λ f. let h : stop bad_escape ≡ stop bad_utf8 = sym (cond-false _ _ _ f) ∙ e in cc)
        (cases_Bool (is_fit x.1 (take x.0 w)))

    made : (w : List ℕ) → decided d w ≢ stop bad_utf8
    made [] e = let h : stop complete ≡ stop bad_utf8 = e in cc
    made (c ∷ w) e = taken (c ∷ w) (longest d (c ∷ w) (length (c ∷ w))) e

    tail : (b : Bool) → by_tail d goes_on w b ≢ stop bad_utf8
    tail true e = let h : stop undecided ≡ stop bad_utf8 = e in cc
    tail false e = made w e

-- what is read at a stop, or at a token
pub at_stop : (d : Dialect) (limit : ℕ) (t : Tail) (b : Bool) (p : Place) (w : List ℕ) (o : Outcome) → step d limit t (rest_of d b w) ≡ stop o →
    tokens d limit t b p w ≡ record { tokens = end_tokens o (place_of d b p w); outcome = o; at = stop_place o (place_of d b p w) (rest_of d b w) }
at_stop d limit t b p w o e =
    tokens-step d limit t b p w ∙ ap (λ s. go_on s (place_of d b p w) (rest_of d b w) (λ q v. tokens d limit t false q v)) e

-- a text whose first step gives a token: the token, and then what is read after it
pub at_token : (d : Dialect) (limit : ℕ) (t : Tail) (b : Bool) (p : Place) (w : List ℕ) (n : ℕ) (k : Kind) → step d limit t (rest_of d b w) ≡ token n k →
    tokens d limit t b p w ≡ with_token (record { kind = k; text = take n (rest_of d b w); at = place_of d b p w })
    (tokens d limit t false (past (place_of d b p w) (take n (rest_of d b w))) (drop n (rest_of d b w)))
at_token d limit t b p w n k e =
    tokens-step d limit t b p w ∙ ap (λ s. go_on s (place_of d b p w) (rest_of d b w) (λ q v. tokens d limit t false q v)) e

-- the same with more characters after
more_stop : (d : Dialect) (limit : ℕ) (b : Bool) (p : Place) (w : List ℕ) (o : Outcome) → step d limit goes_on (rest_of d b w) ≡ stop o →
    o ≢ undecided → (t : Tail) (v : List ℕ) → tokens d limit t b p (w ++ v) ≡ tokens d limit goes_on b p w
more_stop d limit b p w o e n t v =
    let s = step-more d limit t (rest_of d b w) v (λ x. n (same (sym e ∙ x))) in
    let r = rest_more d b p w v s.1 in
    let f : step d limit t (rest_of d b (w ++ v)) ≡ stop o = ap (step d limit t) r.0 ∙ (s.0 ∙ e) in
    at_stop d limit t b p (w ++ v) o f
    ∙ (ap (λ q. record { tokens = end_tokens o q; outcome = o; at = stop_place o q (rest_of d b (w ++ v)) }) r.1
    ∙ (ap (λ q. record { tokens = end_tokens o (place_of d b p w); outcome = o; at = q })
    (place o (λ x. no_bad_utf8 d limit (rest_of d b w) (e ∙ ap stop x)) (place_of d b p w) (rest_of d b (w ++ v)) (rest_of d b w))
    ∙ sym (at_stop d limit goes_on b p w o e)))
  where
    same : {a b : Outcome} → stop a ≡ stop b → a ≡ b
    same e = cc

    place : (o : Outcome) → o ≢ bad_utf8 → (q : Place) (u w : List ℕ) → stop_place o q u ≡ stop_place o q w
    place bad_utf8 n q u w = absurd (n refl)
    place undecided n q u w = refl
    place complete n q u w = refl
    place token_too_long n q u w = refl
    place no_token n q u w = refl
    place bad_escape n q u w = refl

-- a token that is decided before more text comes is the first with more text too
pub more_token : (d : Dialect) (limit : ℕ) (b : Bool) (p : Place) (w : List ℕ) (n : ℕ) (k : Kind) → step d limit goes_on (rest_of d b w) ≡ token n k →
    (t : Tail) (v : List ℕ) → tokens d limit t b p (w ++ v) ≡ with_token (record { kind = k; text = take n (rest_of d b w); at = place_of d b p w })
    (tokens d limit t false (past (place_of d b p w) (take n (rest_of d b w))) (drop n (rest_of d b w) ++ v))
more_token d limit b p w n k e t v =
    let s = step-more d limit t (rest_of d b w) v (λ x. let h : token n k ≡ stop undecided = sym e ∙ x in cc) in
    let r = rest_more d b p w v s.1 in
    let f : step d limit t (rest_of d b (w ++ v)) ≡ token n k = ap (step d limit t) r.0 ∙ (s.0 ∙ e) in
    let l = step_token d limit goes_on (rest_of d b w) n k e in
    let a : take n (rest_of d b (w ++ v)) ≡ take n (rest_of d b w) = ap (take n) r.0 ∙ take-append-le n (rest_of d b w) v l.1 in
    let c : drop n (rest_of d b (w ++ v)) ≡ drop n (rest_of d b w) ++ v = ap (drop n) r.0 ∙ drop-append-le n (rest_of d b w) v l.1 in
    at_token d limit t b p (w ++ v) n k f
    ∙ (ap (λ q. with_token (record { kind = k; text = take n (rest_of d b (w ++ v)); at = q })
    (tokens d limit t false (past q (take n (rest_of d b (w ++ v)))) (drop n (rest_of d b (w ++ v))))) r.1
    ∙ (ap (λ x. with_token (record { kind = k; text = x; at = place_of d b p w })
    (tokens d limit t false (past (place_of d b p w) x) (drop n (rest_of d b (w ++ v))))) a
    ∙ ap (λ x. with_token (record { kind = k; text = take n (rest_of d b w); at = place_of d b p w })
    (tokens d limit t false (past (place_of d b p w) (take n (rest_of d b w))) x)) c))

-- with more text each list of tokens only gets longer
extends : (f : ℕ) (d : Dialect) (limit : ℕ) (b : Bool) (p : Place) (w : List ℕ) → length w < f → Extends d limit b p w
extends zero d limit b p w l = absurd (omega arith)
extends (suc f) d limit b p w l = at (λ q v m. extends f d limit false q v m) (step d limit goes_on (rest_of d b w)) refl
  where
    token_case : (n : ℕ) (k : Kind) → step d limit goes_on (rest_of d b w) ≡ token n k →
        Extends d limit false (past (place_of d b p w) (take n (rest_of d b w))) (drop n (rest_of d b w)) → Extends d limit b p w
    token_case n k e h =
        let one = at_token d limit goes_on b p w n k e in
        let head : Token = record { kind = k; text = take n (rest_of d b w); at = place_of d b p w } in (
          λ o.
              let left = h.0 (sym (ap (λ x. x.outcome) one) ∙ o) in
              record {
                at = left.at;
                comment = left.comment;
                text = left.text;
                on = λ t v. more_token d limit b p w n k e t v
                    ∙ (ap (with_token head) (left.on t v)
                    ∙ ap (λ x. with_tokens x (tokens d limit t left.comment left.at (left.text ++ v))) (sym (ap (λ x. x.tokens) one)));
              },
          λ o t v.
              more_token d limit b p w n k e t v
              ∙ (ap (with_token head) (h.1 (λ x. o (ap (λ x. x.outcome) one ∙ x)) t v)
              ∙ sym one),
        )

    stop_case : (o : Outcome) → step d limit goes_on (rest_of d b w) ≡ stop o → o ≢ undecided → Extends d limit b p w
    stop_case o e n = (
      λ x. absurd (n (sym (ap (λ y. y.outcome) (at_stop d limit goes_on b p w o e)) ∙ x)),
      λ x t v. more_stop d limit b p w o e n t v,
    )

    at : ((q : Place) (v : List ℕ) → length v < f → Extends d limit false q v) → (s : Step) → step d limit goes_on (rest_of d b w) ≡ s → Extends d limit b p w
    at h (token n k) e =
        let s = shorter d limit goes_on b w n k e in
        token_case n k e (h (past (place_of d b p w) (take n (rest_of d b w))) (drop n (rest_of d b w)) (omega arith))
    at h (stop undecided) e =
        let one = at_stop d limit goes_on b p w undecided e in (
          λ o. record {
            at = p;
            comment = b;
            text = w;
            on = λ t v. ap (λ x. with_tokens x (tokens d limit t b p (w ++ v))) (sym (ap (λ x. x.tokens) one));
          },
          λ o t v. absurd (o (ap (λ x. x.outcome) one)),
        )
    at h (stop complete) e = stop_case complete e (λ x. let h : complete ≡ undecided = x in cc)
    at h (stop token_too_long) e = stop_case token_too_long e (λ x. let h : token_too_long ≡ undecided = x in cc)
    at h (stop bad_utf8) e = stop_case bad_utf8 e (λ x. let h : bad_utf8 ≡ undecided = x in cc)
    at h (stop no_token) e = stop_case no_token e (λ x. let h : no_token ≡ undecided = x in cc)
    at h (stop bad_escape) e = stop_case bad_escape e (λ x. let h : bad_escape ≡ undecided = x in cc)

-- where a text is undecided, its tokens and the text that is left are known
pub left_over : (d : Dialect) (limit : ℕ) (b : Bool) (p : Place) (w : List ℕ) → (tokens d limit goes_on b p w).outcome ≡ undecided → LeftOver d limit b p w
left_over d limit b p w = (extends (suc (length w)) d limit b p w (omega arith)).0

-- an outcome other than undecided never changes
pub same_outcome : (d : Dialect) (limit : ℕ) (b : Bool) (p : Place) (w : List ℕ) → (tokens d limit goes_on b p w).outcome ≢ undecided →
    (t : Tail) (v : List ℕ) → tokens d limit t b p (w ++ v) ≡ tokens d limit goes_on b p w
same_outcome d limit b p w = (extends (suc (length w)) d limit b p w (omega arith)).1

-- more characters only lengthen the list
pub more_tokens : (d : Dialect) (limit : ℕ) (b : Bool) (p : Place) (w : List ℕ) (t : Tail) (v : List ℕ) →
    (more : List Token) × ((tokens d limit t b p (w ++ v)).tokens ≡ (tokens d limit goes_on b p w).tokens ++ more)
more_tokens d limit b p w t v = by_outcome (tokens d limit goes_on b p w).outcome refl
  where
    other : (tokens d limit goes_on b p w).outcome ≢ undecided →
        (more : List Token) × ((tokens d limit t b p (w ++ v)).tokens ≡ (tokens d limit goes_on b p w).tokens ++ more)
    other n = ([], ap (λ x. x.tokens) (same_outcome d limit b p w n t v) ∙ sym (append-nil (tokens d limit goes_on b p w).tokens))

    by_outcome : (o : Outcome) → (tokens d limit goes_on b p w).outcome ≡ o →
        (more : List Token) × ((tokens d limit t b p (w ++ v)).tokens ≡ (tokens d limit goes_on b p w).tokens ++ more)
    by_outcome undecided e = let l = left_over d limit b p w e in ((tokens d limit t l.comment l.at (l.text ++ v)).tokens, ap (λ x. x.tokens) (l.on t v))
    by_outcome complete e = other (λ x. let h : complete ≡ undecided = sym e ∙ x in cc)
    by_outcome token_too_long e = other (λ x. let h : token_too_long ≡ undecided = sym e ∙ x in cc)
    by_outcome bad_utf8 e = other (λ x. let h : bad_utf8 ≡ undecided = sym e ∙ x in cc)
    by_outcome no_token e = other (λ x. let h : no_token ≡ undecided = sym e ∙ x in cc)
    by_outcome bad_escape e = other (λ x. let h : bad_escape ≡ undecided = sym e ∙ x in cc)
