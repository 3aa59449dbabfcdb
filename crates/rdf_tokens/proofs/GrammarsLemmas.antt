-- How many tokens there are: no more than characters, the end apart.
use Rattle.rdf_tokens.proofs.Prelude.{◌≡◌, ◌≢◌, ℕ, ◌+◌, ◌≤◌, Bool, true, false, cond, List, [], ◌∷◌, ◌++◌, ◌||◌, ◌==◌, Option, Some, None, is_some, ⊎_elim, refl, sym, ap, ◌∙◌, subst, length, take, drop, arith, length-drop, length-append, cases_Bool, cond-true, cond-false, cond_both, append-nil, length-take-le, chars-nil, length-le-encodes, encodes-chars, utf8_valid_len_le, utf8_valid_len, utf8_error_len, All, All-head, All-tail, NoEnd, Dialect, Kind, End, is_live, is_fit, Tail, Place, Outcome, Token, Reading, blank, longest, over, is_empty, chosen, decided, by_tail, with_token, with_tokens, rest_of, past, tokens, end_tokens, ended, broken, undecided, complete, token_too_long, bad_utf8, no_token, bad_escape, good, mark, first_place, tokens_at, tokens_of, tail_of, Unread, is_end, HasScanned, Reads, MarkedItem, Rises}
use Rattle.rdf_tokens.specs.Tokens.{token, stop, step, place_of}
use Rattle.rdf_tokens.specs.Tokens.Tail.{goes_on}
use Rattle.rdf_tokens.specs.Scans.{reading_of}
use Rattle.rdf_tokens.specs.Grammars.{counted}
use Rattle.rdf_tokens.proofs.GoodLemmas.{good_front}
use Rattle.rdf_tokens.proofs.TokensLemmas.{step_token}
use Rattle.rdf_tokens.proofs.LawLemmas.{by_steps, tokens_of-tokens, end_last, nothing_yet}

-- tokens of two lists are counted in each
pub counted-append : (ts us : List Token) → counted (ts ++ us) ≡ counted ts + counted us
counted-append [] us = omega arith
counted-append (t ∷ ts) us = let h = counted-append ts us in omega arith

-- a text has at most as many tokens as characters, since none but the end is empty
tokens_count : (d : Dialect) (limit : ℕ) (t : Tail) (b : Bool) (p : Place) (w : List ℕ) → counted (tokens d limit t b p w).tokens ≤ length w
tokens_count d limit t b p w = by_steps d limit t (λ p w r. counted r.tokens ≤ length w) (λ b p w o e. at_end o (place_of d b p w) (length w)) takes b p w
  where
    at_end : (o : Outcome) (q : Place) (n : ℕ) → counted (end_tokens o q) ≤ n
    at_end complete q n = omega arith
    at_end o q n = omega arith

    takes : (b : Bool) (p : Place) (w : List ℕ) (n : ℕ) (k : Kind) (r : Reading) → step d limit t (rest_of d b w) ≡ token n k →
        counted r.tokens ≤ length (drop n (rest_of d b w)) →
        counted (with_token (record { kind = k; text = take n (rest_of d b w); at = place_of d b p w }) r).tokens ≤ length w
    takes b p w n k r e h =
        let u = rest_of d b w in
        let s = step_token d limit t u n k e in
        let a = length-drop n u in
        let c = length-drop (blank d b w) w in
        let one : cond (is_end k) 0 1 ≤ 1 = cond_both (is_end k) 0 1 (λ n. n ≤ 1) (λ e. omega arith) (λ e. omega arith) in
        omega (arith, one)

-- there are at most as many characters as bytes
length-good : (bytes : List ℕ) → length (good bytes) ≤ length bytes
length-good bytes =
    let n = utf8_valid_len bytes in
    let a = length-le-encodes (good bytes) in
    let b = ap length (encodes-chars (take n bytes) (good_front bytes)) in
    let c = length-take-le n bytes (utf8_valid_len_le bytes) in
    let d = utf8_valid_len_le bytes in
    omega arith

-- so there are at most as many tokens as bytes, and their count does not overflow
tokens_of_count : (d : Dialect) (limit : ℕ) (bytes : List ℕ) (e : Bool) → counted (tokens_of d limit bytes e).tokens ≤ length bytes
unfolding tokens_of
tokens_of_count d limit bytes e =
    let w = good bytes in
    let c = tokens_count d limit (tail_of bytes e) false (past first_place (take (mark w) w)) (drop (mark w) w) in
    let l = length-drop (mark w) w in
    let g = length-good bytes in
    omega arith

-- A scanner has given no more tokens than it has taken bytes, its end apart.
pub given_few : (v : Unread) (bytes : List ℕ) (ts : List Token) → HasScanned v bytes ts → counted ts ≤ length bytes
given_few v bytes ts r = by v.stopped v.ended r.reads
  where
    front : (e : Bool) (r : Reading) → tokens_of v.dialect v.limit bytes e ≡ with_tokens ts r → counted ts ≤ length bytes
    front e r h =
        let c = tokens_of_count v.dialect v.limit bytes e in
        let a = ap (λ x. counted x.tokens) h in
        let b = counted-append ts r.tokens in
        omega arith

    by : (s e : Bool) → Reads s e v bytes ts → counted ts ≤ length bytes
    by true e h =
        let c = tokens_of_count v.dialect v.limit bytes e in
        let a = ap counted h.0 in
        omega arith
    by false true h = front true (reading_of v [] true) h
    by false false h = front false (reading_of v [] false) (ap (λ x. tokens_of v.dialect v.limit x false) (sym (append-nil bytes)) ∙ h [] false)

-- Where the end is among the tokens, the reading is complete.
pub end_complete : (d : Dialect) (limit : ℕ) (bytes : List ℕ) (e : Bool) (ts us : List Token) (t : Token) →
    (tokens_of d limit bytes e).tokens ≡ ts ++ t ∷ us → t.kind ≡ End → (tokens_of d limit bytes e).outcome ≡ complete
end_complete d limit bytes e ts us t h k = by (tokens_of d limit bytes e).outcome refl
  where
    no_end : (ts : List Token) → All NoEnd (ts ++ t ∷ us) → ⊥
    no_end [] a = All-head NoEnd t us a k
    no_end (x ∷ xs) a = no_end xs (All-tail NoEnd x (xs ++ t ∷ us) a)

    other : (tokens_of d limit bytes e).outcome ≢ complete → ⊥
    other n = no_end ts (subst (All NoEnd) h ((end_last d limit bytes e).part n))

    by : (o : Outcome) → (tokens_of d limit bytes e).outcome ≡ o → (tokens_of d limit bytes e).outcome ≡ complete
    by complete x = x
    by undecided x = absurd (other (λ y. let z : undecided ≡ complete = sym x ∙ y in cc))
    by token_too_long x = absurd (other (λ y. let z : token_too_long ≡ complete = sym x ∙ y in cc))
    by bad_utf8 x = absurd (other (λ y. let z : bad_utf8 ≡ complete = sym x ∙ y in cc))
    by no_token x = absurd (other (λ y. let z : no_token ≡ complete = sym x ∙ y in cc))
    by bad_escape x = absurd (other (λ y. let z : bad_escape ≡ complete = sym x ∙ y in cc))

-- Before the input's end no reading is complete.
step_complete : (d : Dialect) (limit : ℕ) (t : Tail) (w : List ℕ) → step d limit t w ≡ stop complete → t ≡ ended
unfolding step
step_complete d limit t w e =
    ⊎_elim
    (λ o. let h : stop token_too_long ≡ stop complete = sym (cond-true _ _ _ o) ∙ e in cc)
    (λ o. tail t w (is_empty w || is_live d w) refl (sym (cond-false _ _ _ o) ∙ e))
    (cases_Bool (over d limit w))
  where
    taken : (w : List ℕ) (o : Option (ℕ × Kind)) → chosen w o ≢ stop complete
    taken w None e = let h : stop no_token ≡ stop complete = e in cc
    taken w (Some x) e =
        ⊎_elim
        (λ f. let h : token x.0 x.1 ≡ stop complete = sym (cond-true _ _ _ f) ∙ e in cc)
        (λ f. let h : stop bad_escape ≡ stop complete = sym (cond-false _ _ _ f) ∙ e in cc)
        (cases_Bool (is_fit x.1 (take x.0 w)))

    made : (w : List ℕ) → (is_empty w || is_live d w) ≡ false → decided d w ≢ stop complete
    made [] h e = let z : true ≡ false = h in cc
    made (c ∷ w) h e = taken (c ∷ w) (longest d (c ∷ w) (length (c ∷ w))) e

    tail : (t : Tail) (w : List ℕ) (b : Bool) → (is_empty w || is_live d w) ≡ b → by_tail d t w b ≡ stop complete → t ≡ ended
    tail ended w b h e = refl
    tail goes_on w true h e = let z : stop undecided ≡ stop complete = e in cc
    tail broken w true h e = let z : stop bad_utf8 ≡ stop complete = e in cc
    tail goes_on w false h e = absurd (made w h e)
    tail broken w false h e = absurd (made w h e)

-- before the end of the input is told, it has not ended
tail_of-open : (bytes : List ℕ) → tail_of bytes false ≢ ended
tail_of-open bytes =
    cond_both (utf8_valid_len bytes == length bytes) goes_on
    (cond (is_some (utf8_error_len (drop (utf8_valid_len bytes) bytes))) broken goes_on) (λ t. t ≢ ended) (λ h e. cc)
    (λ h. cond_both (is_some (utf8_error_len (drop (utf8_valid_len bytes) bytes))) broken goes_on (λ t. t ≢ ended) (λ h e. cc) (λ h e. cc))

-- no reading is complete before the end is told
pub only_ended : (d : Dialect) (limit : ℕ) (bytes : List ℕ) → (tokens_of d limit bytes false).outcome ≢ complete
only_ended d limit bytes e =
    tail_of-open bytes
    (by_steps d limit (tail_of bytes false) (λ p w r. r.outcome ≡ complete → tail_of bytes false ≡ ended)
    (λ b p w o h x. step_complete d limit (tail_of bytes false) (rest_of d b w) (h ∙ ap stop x))
    (λ b p w n k r h f. f) false _ _ (ap (λ r. r.outcome) (sym (tokens_of-tokens d limit bytes false)) ∙ e))

-- tokens without an end are all counted
pub counted_all : (ts : List Token) → All NoEnd ts → counted ts ≡ length ts
counted_all [] a = refl
counted_all (t ∷ ts) a =
    let h = counted_all ts (All-tail NoEnd t ts a) in
    let one : ◌≡◌ {A = ℕ} (cond (is_end t.kind) 0 1) 1 = ap (λ b. cond b 0 1) (no_end t.kind (All-head NoEnd t ts a)) in
    omega (arith, one, h)
  where
    no_end : (k : Kind) → k ≢ End → is_end k ≡ false
    no_end End n = absurd (n refl)
    no_end k n = refl

-- where more is to come, no token is the end and all are counted
pub counted_undecided : (d : Dialect) (limit : ℕ) (bytes : List ℕ) (e : Bool) → (tokens_of d limit bytes e).outcome ≡ undecided →
    counted (tokens_of d limit bytes e).tokens ≡ length (tokens_of d limit bytes e).tokens
counted_undecided d limit bytes e u = counted_all _ ((end_last d limit bytes e).part (λ x. let z : undecided ≡ complete = sym u ∙ x in cc))

-- where all was read, the end is the one token that is not counted
pub counted_complete : (d : Dialect) (limit : ℕ) (bytes : List ℕ) (e : Bool) → (tokens_of d limit bytes e).outcome ≡ complete →
    counted (tokens_of d limit bytes e).tokens + 1 ≡ length (tokens_of d limit bytes e).tokens
counted_complete d limit bytes e x =
    let w = (end_last d limit bytes e).whole x in
    let last : Token = record { kind = End; text = []; at = (tokens_of d limit bytes e).at } in
    let a = ap counted w.1 ∙ counted-append w.0 (last ∷ []) in
    let b = ap length w.1 ∙ length-append w.0 (last ∷ []) in
    let c = counted_all w.0 w.2 in
    omega arith

-- before any bytes nothing is decided
pub tokens_of-nil : (d : Dialect) (limit : ℕ) → tokens_of d limit [] false ≡ record { tokens = []; outcome = undecided; at = first_place }
unfolding tokens_of utf8_valid_len
tokens_of-nil d limit = ap (tokens_at d limit goes_on false false first_place) chars-nil ∙ nothing_yet d limit false first_place

-- marks that rise from a higher number rise from a lower one
pub rises_from : {I : Type 0} (is : List (MarkedItem I)) (m n : ℕ) → m ≤ n → Rises n is → Rises m is
rises_from [] m n l r = tt
rises_from (i ∷ is) m n l r = (omega (arith, l, r.0), r.1)
