-- No token has more characters than the limit.
use Rattle.rdf_tokens.proofs.Prelude.{◌≡◌, ℕ, ◌+◌, ◌<◌, ◌≤◌, Bool, true, false, cond, ◌||◌, List, [], ◌∷◌, ◌++◌, refl, sym, ap, ◌∙◌, subst, ⊎_elim, append_assoc, Some, is_some, length, take, drop, arith, All, length-take-le, take-append-drop, All-nil, All-cons, All-head, All-tail, cases_lt, cases_eq, lt-ltb, false≢true, and_from, Dialect, Kind, End, kind_of, is_live, kind-front, Place, Tail, Outcome, Token, Reading, rest_of, over, is_empty, by_tail, end_tokens, complete, token_too_long, tail_of, tokens_of, Unread, HasScanned, GivesToken}
use Rattle.rdf_tokens.specs.Tokens.{place_of, step}
use Rattle.rdf_tokens.specs.Tokens.Step.{token, stop}
use Rattle.rdf_tokens.proofs.TokensLemmas.{longer_take, step_token}
use Rattle.rdf_tokens.proofs.StepLemmas.{step-kind}
use Rattle.rdf_tokens.proofs.LawLemmas.{by_steps, tokens_of-tokens, given_beginning}

-- a token is given only where no token passes the limit
step-over : (d : Dialect) (limit : ℕ) (t : Tail) (w : List ℕ) (n : ℕ) (k : Kind) → step d limit t w ≡ token n k → over d limit w ≡ false
unfolding step
step-over d limit t w n k e = go (over d limit w) refl e
  where
    go : (o : Bool) → over d limit w ≡ o → cond o (stop token_too_long) (by_tail d t w (is_empty w || is_live d w)) ≡ token n k → over d limit w ≡ false
    go true h e = absurd (let z : stop token_too_long ≡ token n k = e in cc)
    go false h e = h

-- a test is passed where its second half is
or_right : (a b : Bool) → b ≡ true → (a || b) ≡ true
or_right true b e = refl
or_right false b e = e

-- a token that a step gives has at most as many characters as the limit allows
pub step_within : (d : Dialect) (limit : ℕ) (t : Tail) (w : List ℕ) (n : ℕ) (k : Kind) → step d limit t w ≡ token n k → n ≤ limit
step_within d limit t w n k e = ⊎_elim (λ h. absurd (too_long h)) (λ h. h) (cases_lt limit n)
  where
    fits : n ≤ length w
    fits = (step_token d limit t w n k e).1

    -- the first limit + 1 characters are the token, or the token begins with them
    begun : limit < n → (is_some (kind_of d (take (limit + 1) w)) || is_live d (take (limit + 1) w)) ≡ true
    begun h =
        let kind = step-kind d limit t w n k e in
        ⊎_elim
        (λ s. ap (λ b. b || is_live d (take (limit + 1) w)) (ap (λ i. is_some (kind_of d (take i w))) (sym s) ∙ ap is_some kind))
        (λ s. or_right (is_some (kind_of d (take (limit + 1) w))) (is_live d (take (limit + 1) w)) (longer s kind))
        (cases_eq n (limit + 1))
      where
        longer : (n ≡ limit + 1 → ⊥) → kind_of d (take n w) ≡ Some k → is_live d (take (limit + 1) w) ≡ true
        longer s kind =
            let u = take (limit + 1) w in
            let size : length u ≡ limit + 1 = length-take-le (limit + 1) w (let f = fits in omega arith) in
            let whole : u ++ drop (limit + 1) w ≡ w = take-append-drop (limit + 1) w in
            let more : limit + 1 < n = ⊎_elim (λ l. l) (λ l. absurd (s (let g = h in omega arith))) (cases_lt (limit + 1) n) in
            let l = longer_take u (drop (limit + 1) w) n (omega arith) (let f = fits in let z = ap length whole in omega arith) in
            kind-front d u l.0 l.1 k (ap (kind_of d) (sym l.2 ∙ ap (take n) whole) ∙ kind)

    too_long : limit < n → ⊥
    too_long h =
        let o : over d limit w ≡ true = and_from _ _ (lt-ltb limit (length w) (let f = fits in omega arith)) (begun h) in
        false≢true (sym (step-over d limit t w n k e) ∙ o)

-- the law for all tokens of some bytes
pub no_longer : (d : Dialect) (limit : ℕ) (bytes : List ℕ) (e : Bool) → All (λ t. length t.text ≤ limit) (tokens_of d limit bytes e).tokens
no_longer d limit bytes e =
    subst (λ r. All Short r.tokens) (sym (tokens_of-tokens d limit bytes e))
    (by_steps d limit (tail_of bytes e) (λ p w r. All Short r.tokens) stops takes false _ _)
  where
    Short : Token → Type 0
    Short t = length t.text ≤ limit

    stops : (b : Bool) (p : Place) (w : List ℕ) (o : Outcome) → step d limit (tail_of bytes e) (rest_of d b w) ≡ stop o →
        All Short (end_tokens o (place_of d b p w))
    stops b p w complete h = All-cons Short (record { kind = End; text = []; at = place_of d b p w }) [] (omega arith) (All-nil Short)
    stops b p w o h = All-nil Short

    takes : (b : Bool) (p : Place) (w : List ℕ) (n : ℕ) (k : Kind) (r : Reading) →
        step d limit (tail_of bytes e) (rest_of d b w) ≡ token n k → All Short r.tokens →
        All Short (record { kind = k; text = take n (rest_of d b w); at = place_of d b p w } ∷ r.tokens)
    takes b p w n k r h a =
        let s = step_token d limit (tail_of bytes e) (rest_of d b w) n k h in
        let size : length (take n (rest_of d b w)) ≡ n = length-take-le n (rest_of d b w) s.1 in
        let l = step_within d limit (tail_of bytes e) (rest_of d b w) n k h in
        All-cons Short (record { kind = k; text = take n (rest_of d b w); at = place_of d b p w }) r.tokens (omega arith) a

-- the last of some tokens
last_at : (P : Token → Type 0) (ahead after : List Token) (t : Token) → All P (ahead ++ t ∷ after) → P t
last_at P [] after t h = All-head P t after h
last_at P (x ∷ ahead) after t h = last_at P ahead after t (All-tail P x (ahead ++ t ∷ after) h)

-- a token that a scanner gives
pub given_short : (v w : Unread) (bytes : List ℕ) (ts : List Token) (t : Token) → HasScanned v bytes ts → GivesToken v t w → length t.text ≤ v.limit
given_short v w bytes ts t h g =
    let b = given_beginning w bytes (ts ++ t ∷ []) (g.read bytes ts h) in
    let all : (tokens_of w.dialect w.limit bytes w.ended).tokens ≡ ts ++ t ∷ b.0 = b.1 ∙ append_assoc ts (t ∷ []) b.0 in
    let short = last_at (λ x. length x.text ≤ w.limit) ts b.0 t (subst (All (λ x. length x.text ≤ w.limit)) all (no_longer w.dialect w.limit bytes w.ended)) in
    subst (λ n. length t.text ≤ n) g.same.limit short
