-- When a text is the next token, whatever comes after it.
use Rattle.rdf_lines.proofs.Prelude.{◌≡◌, ℕ, zero, suc, ◌+◌, ◌-◌, ◌<◌, ◌≤◌, true, false, ◌||◌, ⊎_elim, is_some, List, [], ◌∷◌, ◌++◌, refl, sym, ap, ◌∙◌, subst, Option, Some, None, length, take, drop, arith, length-append, append_assoc, cond-true, cond-false, false≢true, le-ltb, and_left, and_right, and_parts, or_cases, eqb-true, all_have, ◌==◌, cases_lt, cases_Bool, append-nil, take_all, take_at, drop_at, Lines, Matches, after, possible, Kind, kinds, shape, any_shape, first_kind, kind_of, is_live, is_fit, Place, past, over, chosen, decided, by_tail, longest, with_length, step, tokens, rest_of, place_of, with_token, goes_on, ended, broken, matches-after, matches-possible, first_kind-matches, matches-first_kind, live-matches, matches-live, none_longer, at_token, tokens-step, uses, not_used}
use Rattle.rdf_tokens.specs.Tokens.{Tail, blank, is_space}
use Rattle.rdf_tokens.specs.Tokens.Step.{token}

-- In the Lines dialect a text's first character tells its kind.
pub record Begins (c : ℕ) (k : Kind) : Type 0 where
  pub only : (l : Kind) → possible (after (shape Lines l) c) ≡ true → l ≡ k
  pub any : (w : List ℕ) → Matches (shape Lines k) w → Matches (any_shape Lines kinds) w

-- a text that begins so has no shape but that of the kind
pub shape_at : (c : ℕ) (k : Kind) → Begins c k → (w : List ℕ) → Matches (any_shape Lines kinds) (c ∷ w) → Matches (shape Lines k) (c ∷ w)
shape_at c k b w m =
    let f = matches-first_kind Lines kinds (c ∷ w) m in
    let n = (first_kind-matches Lines kinds (c ∷ w) f.0 f.1).0 in
    let e = b.only f.0 (matches-possible _ w (matches-after (shape Lines f.0) c w n)) in
    subst (λ l. Matches (shape Lines l) (c ∷ w)) e n

-- a text that begins as the kind does and has its shape is found as one
pub kind_at : (c : ℕ) (k : Kind) → Begins c k → (w : List ℕ) → Matches (shape Lines k) (c ∷ w) → kind_of Lines (c ∷ w) ≡ Some k
unfolding kind_of
kind_at c k b w m =
    let f = matches-first_kind Lines kinds (c ∷ w) (b.any (c ∷ w) m) in
    let n = (first_kind-matches Lines kinds (c ∷ w) f.0 f.1).0 in
    let e = b.only f.0 (matches-possible _ w (matches-after (shape Lines f.0) c w n)) in
    f.1 ∙ ap (λ l. Some l) e

-- A text ends where it stands, if no text with a shape begins with a longer front of the whole.
abbrev pub Cut : List ℕ → List ℕ → Type 0
Cut w v = (m : ℕ) → m < length v → (u : List ℕ) → Matches (any_shape Lines kinds) ((w ++ take (suc m) v) ++ u) → ⊥

-- a text without a shape has no kind
no_kind : (w : List ℕ) → (Matches (any_shape Lines kinds) w → ⊥) → kind_of Lines w ≡ None
unfolding kind_of
no_kind w n = at (first_kind Lines kinds w) refl
  where
    at : (o : Option Kind) → first_kind Lines kinds w ≡ o → o ≡ None
    at None e = refl
    at (Some k) e = absurd (n (first_kind-matches Lines kinds w k e).1)

-- a longer front has no kind, and begins nothing longer
cut_kind : (w v : List ℕ) → Cut w v → (m : ℕ) → m < length v → kind_of Lines (w ++ take (suc m) v) ≡ None
cut_kind w v t m l = no_kind (w ++ take (suc m) v) (λ n. t m l [] (subst (Matches (any_shape Lines kinds)) (sym (append-nil (w ++ take (suc m) v))) n))

-- a text that is cut does not go on
cut_live : (w v : List ℕ) → Cut w v → (m : ℕ) → m < length v → is_live Lines (w ++ take (suc m) v) ≡ false
cut_live w v t m l =
    ⊎_elim (λ e. absurd (let x = live-matches Lines (w ++ take (suc m) v) e in t m l (x.0 ∷ x.1) x.2)) (λ e. e)
    (cases_Bool (is_live Lines (w ++ take (suc m) v)))

-- the whole text begins nothing longer, where that holds of the token alone, or something comes after it
pub cut_dead : (w v : List ℕ) → Cut w v → (v ≡ [] → is_live Lines w ≡ false) → is_live Lines (w ++ v) ≡ false
cut_dead w [] t e = ap (is_live Lines) (append-nil w) ∙ e refl
cut_dead w (x ∷ v) t e = ap (λ u. is_live Lines (w ++ u)) (sym (take_all (suc (length v)) (x ∷ v) (omega arith)))
    ∙ cut_live w (x ∷ v) t (length v) (omega arith)

-- The first character after it cannot stand in the shape.
pub cut_by_other : (c : ℕ) (k : Kind) → Begins c k → (w : List ℕ) (x : ℕ) (v : List ℕ) → uses (shape Lines k) x ≡ false → Cut (c ∷ w) (x ∷ v)
cut_by_other c k b w x v e m l u n =
    let s : (c ∷ w ++ x ∷ take m v) ++ u ≡ c ∷ w ++ x ∷ (take m v ++ u) = append_assoc (c ∷ w) (x ∷ take m v) u in
    not_used (shape Lines k) (c ∷ w) (take m v ++ u) x e (shape_at c k b (w ++ x ∷ (take m v ++ u)) (subst (Matches (any_shape Lines kinds)) s n))

-- No longer text of the shape begins so.
pub cut_by_shape : (c : ℕ) (k : Kind) → Begins c k → (w v : List ℕ) → ((x : ℕ) (u : List ℕ) → Matches (shape Lines k) (c ∷ w ++ x ∷ u) → ⊥) → Cut (c ∷ w) v
cut_by_shape c k b w [] e m l u n = absurd (omega arith)
cut_by_shape c k b w (x ∷ v) e m l u n =
    let s : (c ∷ w ++ x ∷ take m v) ++ u ≡ c ∷ w ++ x ∷ (take m v ++ u) = append_assoc (c ∷ w) (x ∷ take m v) u in
    e x (take m v ++ u) (shape_at c k b (w ++ x ∷ (take m v ++ u)) (subst (Matches (any_shape Lines kinds)) s n))

-- a front that is longer than the first text is that text and a front of the second
take-append : (w v : List ℕ) (n : ℕ) → take (length w + n) (w ++ v) ≡ w ++ take n v
take-append [] v n = ap (λ x. take x v) (let e : length (let x : List ℕ = [] in x) + n ≡ n = omega arith in e)
take-append (c ∷ w) v n =
    let e : length (c ∷ w) + n ≡ suc (length w + n) = omega arith in
    ap (λ x. take x (c ∷ w ++ v)) e ∙ ap (λ x. c ∷ x) (take-append w v n)

-- from the whole text down to the token
longest_high : (c : ℕ) (w v : List ℕ) (k : Kind) → kind_of Lines (c ∷ w) ≡ Some k → Cut (c ∷ w) v → (n : ℕ) → n ≤ length v →
    longest Lines (c ∷ w ++ v) (length (c ∷ w) + n) ≡ Some (length (c ∷ w), k)
longest_high c w v k e t zero l =
    let z : length (c ∷ w) + 0 ≡ suc (length w) = omega arith in
    let f : take (suc (length w)) (c ∷ w ++ v) ≡ c ∷ w = take_at (c ∷ w) v (suc (length w)) refl in
    ap (longest Lines (c ∷ w ++ v)) z ∙ ap (λ x. with_length (suc (length w)) x (longest Lines (c ∷ w ++ v) (length w))) (ap (kind_of Lines) f ∙ e)
longest_high c w v k e t (suc n) l =
    let z : length (c ∷ w) + suc n ≡ suc (length (c ∷ w) + n) = omega arith in
    let f : take (suc (length (c ∷ w) + n)) (c ∷ w ++ v) ≡ c ∷ w ++ take (suc n) v = ap (λ x. take x (c ∷ w ++ v)) (sym z) ∙ take-append (c ∷ w) v (suc n) in
    ap (longest Lines (c ∷ w ++ v)) z
    ∙ (none_longer (suc (length (c ∷ w) + n)) false (kind_of Lines (take (suc (length (c ∷ w) + n)) (c ∷ w ++ v)))
    (longest Lines (c ∷ w ++ v) (length (c ∷ w) + n))
    (ap (kind_of Lines) f ∙ cut_kind (c ∷ w) v t n (omega arith))
    ∙ longest_high c w v k e t n (omega arith))

-- where the token has at most limit characters, no more of them begin anything
not_over : (limit c : ℕ) (w v : List ℕ) → Cut (c ∷ w) v → length (c ∷ w) ≤ limit → over Lines limit (c ∷ w ++ v) ≡ false
not_over limit c w v t l = ⊎_elim long (λ h. and_left _ _ (le-ltb _ _ h)) (cases_lt limit (length (c ∷ w ++ v)))
  where
    long : limit < length (c ∷ w ++ v) → over Lines limit (c ∷ w ++ v) ≡ false
    long h =
        let m = limit - length (c ∷ w) in
        let size : length (c ∷ w ++ v) ≡ length (c ∷ w) + length v = length-append (c ∷ w) v in
        let n : limit + 1 ≡ length (c ∷ w) + suc m = omega arith in
        let within : m < length v = omega arith in
        let front : take (limit + 1) (c ∷ w ++ v) ≡ c ∷ w ++ take (suc m) v = ap (λ k. take k (c ∷ w ++ v)) n ∙ take-append (c ∷ w) v (suc m) in
        let kind : is_some (kind_of Lines (take (limit + 1) (c ∷ w ++ v))) ≡ false =
        ap (λ x. is_some (kind_of Lines x)) front ∙ ap is_some (cut_kind (c ∷ w) v t m within) in
        let live : is_live Lines (take (limit + 1) (c ∷ w ++ v)) ≡ false = ap (is_live Lines) front ∙ cut_live (c ∷ w) v t m within in
        and_right _ _ (ap (λ b. b || is_live Lines (take (limit + 1) (c ∷ w ++ v))) kind ∙ live)

-- what begins nothing longer is decided, whatever comes after it
dead_decided : (t : Tail) (w : List ℕ) → by_tail Lines t w false ≡ decided Lines w
dead_decided goes_on w = refl
dead_decided ended w = refl
dead_decided broken w = refl

-- a text that is cut by what follows is the next token
next_step : (tail : Tail) (limit : ℕ) (c : ℕ) (w v : List ℕ) (k : Kind) → kind_of Lines (c ∷ w) ≡ Some k → is_fit k (c ∷ w) ≡ true → Cut (c ∷ w) v →
    is_live Lines (c ∷ w ++ v) ≡ false → length (c ∷ w) ≤ limit → step Lines limit tail (c ∷ w ++ v) ≡ token (length (c ∷ w)) k
unfolding step
next_step tail limit c w v k e f t dead l =
    let W = c ∷ w ++ v in
    let o : over Lines limit W ≡ false = not_over limit c w v t l in
    let s : length W ≡ length (c ∷ w) + length v = length-append (c ∷ w) v in
    let g : longest Lines W (length W) ≡ Some (length (c ∷ w), k) = ap (longest Lines W) s ∙ longest_high c w v k e t (length v) (omega arith) in
    let h : is_fit k (take (length (c ∷ w)) W) ≡ true = ap (is_fit k) (take_at (c ∷ w) v (length (c ∷ w)) refl) ∙ f in
    cond-false _ _ _ o ∙ (ap (by_tail Lines tail W) dead ∙ (dead_decided tail W ∙ (ap (chosen W) g ∙ cond-true _ _ _ h)))

-- For all kinds: a text with a kind, fit, cut off by what follows and beginning nothing longer with it, is the next token, whatever comes after all.
pub next_token : (tail : Tail) (limit : ℕ) (p : Place) (c : ℕ) (w v : List ℕ) (k : Kind) → blank Lines false (c ∷ w ++ v) ≡ 0 →
    kind_of Lines (c ∷ w) ≡ Some k → is_fit k (c ∷ w) ≡ true → Cut (c ∷ w) v → is_live Lines (c ∷ w ++ v) ≡ false → length (c ∷ w) ≤ limit →
    tokens Lines limit tail false p (c ∷ w ++ v) ≡ with_token (record { kind = k; text = c ∷ w; at = p }) (tokens Lines limit tail false (past p (c ∷ w)) v)
next_token tail limit p c w v k z e f t dead l =
    let W = c ∷ w ++ v in
    let n = length (c ∷ w) in
    let r : rest_of Lines false W ≡ W = ap (λ x. drop x W) z in
    let q : place_of Lines false p W ≡ p = ap (λ x. past p (take x W)) z in
    let s : step Lines limit tail (rest_of Lines false W) ≡ token n k = ap (step Lines limit tail) r ∙ next_step tail limit c w v k e f t dead l in
    let a : take n (rest_of Lines false W) ≡ c ∷ w = ap (take n) r ∙ take_at (c ∷ w) v n refl in
    let d : drop n (rest_of Lines false W) ≡ v = ap (drop n) r ∙ drop_at (c ∷ w) v n refl in
    at_token Lines limit tail false p W n k s
    ∙ (ap (λ x. with_token (record { kind = k; text = take n (rest_of Lines false W); at = x })
    (tokens Lines limit tail false (past x (take n (rest_of Lines false W))) (drop n (rest_of Lines false W)))) q
    ∙ (ap (λ x. with_token (record { kind = k; text = x; at = p }) (tokens Lines limit tail false (past p x) (drop n (rest_of Lines false W)))) a
    ∙ ap (λ x. with_token (record { kind = k; text = c ∷ w; at = p }) (tokens Lines limit tail false (past p (c ∷ w)) x)) d))

-- what holds of a space and a tab holds of each
pub of_blank : (P : ℕ → Type 0) → P 32 → P 9 → (c : ℕ) → is_space Lines c ≡ true → P c
of_blank P a b c h =
    ⊎_elim (λ e. subst P (sym (eqb-true c 32 e)) a) (λ e. subst P (sym (eqb-true c 9 e)) b) (or_cases (c == 32) (c == 9) h)

-- spaces and tabs are taken off
pub skip_blanks : (tail : Tail) (limit : ℕ) (p : Place) (bs v : List ℕ) → all_have (is_space Lines) bs ≡ true →
    tokens Lines limit tail false p (bs ++ v) ≡ tokens Lines limit tail false (past p bs) v
skip_blanks tail limit p [] v h = refl
skip_blanks tail limit p (c ∷ bs) v h =
    let q = and_parts (is_space Lines c) (all_have (is_space Lines) bs) h in
    of_blank (λ x. tokens Lines limit tail false p (x ∷ bs ++ v) ≡ tokens Lines limit tail false (past p (x ∷ [])) (bs ++ v)) space tab c q.0
    ∙ skip_blanks tail limit (past p (c ∷ [])) bs v q.1
  where
    space : tokens Lines limit tail false p (32 ∷ bs ++ v) ≡ tokens Lines limit tail false (past p (32 ∷ [])) (bs ++ v)
    space = tokens-step Lines limit tail false p (32 ∷ bs ++ v) ∙ sym (tokens-step Lines limit tail false (past p (32 ∷ [])) (bs ++ v))

    tab : tokens Lines limit tail false p (9 ∷ bs ++ v) ≡ tokens Lines limit tail false (past p (9 ∷ [])) (bs ++ v)
    tab = tokens-step Lines limit tail false p (9 ∷ bs ++ v) ∙ sym (tokens-step Lines limit tail false (past p (9 ∷ [])) (bs ++ v))

-- No longer shape begins so at all.
pub cut_by_dead : (w v : List ℕ) → is_live Lines w ≡ false → Cut w v
cut_by_dead w [] f m l u n = absurd (omega arith)
cut_by_dead w (x ∷ v) f m l u n =
    false≢true (sym f ∙ matches-live Lines w x (take m v ++ u) (subst (Matches (any_shape Lines kinds)) (append_assoc w (x ∷ take m v) u) n))
