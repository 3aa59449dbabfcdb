-- Places of bytes, by their number.
use Rattle.rdf_iri.proofs.Prelude.{◌≡◌, ◌≢◌, ℕ, suc, true, false, List, [], ◌∷◌, ◌++◌, ◌&&◌, ◌+◌, ◌≤◌, ◌<◌, take, drop, length, get_or, inl, inr, ⊎_elim, refl, sym, ap, ◌∙◌, subst, arith, add-one, eqb, append-nil, take-append-drop, take_more, drop-cons, drop_of_length-le, starts_with, Lacks, begins, before, from, parent, has_slash, Some, None, IsCharBoundary, IsUtf8, unwrap_or, IsCharBoundary-before_ascii, IsCharBoundary-after_ascii, cases_lt, cond-true, cond-false, parts_of, fragment_parts, has_scheme, after, directory}
use Rattle.rdf_iri.proofs.TextsLemmas.{cut_at, StartsAt, Lacks-append}
use Rattle.rdf_iri.proofs.TextsLemmas.{cut_suffix, from-starts, begins-true}
use Rattle.rdf_iri.proofs.DotsLemmas.{parent-at, no_slash, has_slash-at}

-- a place with no c before it and c at it, or the end, is where the text is cut
pub cut_there : (c : ℕ) (w : List ℕ) (i : ℕ) → Lacks c (take i w) → StartsAt c (drop i w) → (take i w ≡ before c w) × (drop i w ≡ from c w)
cut_there c w i l s =
    let e = take-append-drop i w in
    let p = cut_at c (take i w) (drop i w) l s in
    (sym p.0 ∙ ap (before c) e, sym p.1 ∙ ap (from c) e)

-- the byte stands there, or the text ends there
pub starts_there : (c : ℕ) (w : List ℕ) (i : ℕ) → i < length w → get_or w i 0 ≡ c → StartsAt c (drop i w)
starts_there c w i l e = inr (drop (suc i) w, drop-cons w i 0 l ∙ ap (λ x. x ∷ drop (suc i) w) e)

-- the end of a text may stand for a c that is not found
pub ends_there : (c : ℕ) (w : List ℕ) (i : ℕ) → length w ≤ i → StartsAt c (drop i w)
ends_there c w i l = inl (drop_of_length-le w l)

-- no c up to the next place, if this one is none
pub Lacks-more : (c : ℕ) (w : List ℕ) (i : ℕ) → Lacks c (take i w) → i < length w → (get_or w i 0 ≡ c → ⊥) → Lacks c (take (i + 1) w)
Lacks-more c w i l h n = subst (Lacks c) (sym (take_more w i 0 h)) (Lacks-append c (take i w) (get_or w i 0 ∷ []) l (n, tt))

-- the place of the last "/" is where the parent ends
pub parent_there : (w : List ℕ) (i : ℕ) → i < length w → get_or w i 0 ≡ 47 → Lacks 47 (drop (i + 1) w) → take i w ≡ parent w
parent_there w i l e n =
    let n' : Lacks 47 (drop (suc i) w) = subst (λ k. Lacks 47 (drop k w)) (add-one i) n in
    let d : w ≡ take i w ++ 47 ∷ drop (suc i) w = sym (take-append-drop i w) ∙ ap (λ x. take i w ++ x) (drop-cons w i 0 l ∙ ap (λ x. x ∷ drop (suc i) w) e) in
    sym (ap parent d ∙ parent-at (take i w) (drop (suc i) w) n')

-- no "/" from one place further back, if this one is none
pub Lacks-less : (w : List ℕ) (i : ℕ) → i < length w → (get_or w i 0 ≡ 47 → ⊥) → Lacks 47 (drop (i + 1) w) → Lacks 47 (drop i w)
Lacks-less w i l n m = subst (Lacks 47) (sym (drop-cons w i 0 l)) (n, subst (λ k. Lacks 47 (drop k w)) (add-one i) m)

-- std's words for a front and for equal texts
pub begins-starts : (front w : List ℕ) → starts_with eqb w front ≡ begins front w
begins-starts [] w = refl
begins-starts (c ∷ front) [] = refl
begins-starts (c ∷ front) (d ∷ w) = ap (λ x. eqb c d && x) (begins-starts front w)

-- a text with no byte like that at any place
pub Lacks-from_places : (c : ℕ) (w : List ℕ) → ((i : ℕ) → i < length w → get_or w i 0 ≢ c) → Lacks c w
Lacks-from_places c [] h = tt
Lacks-from_places c (d ∷ w) h = (h 0 (omega arith), Lacks-from_places c w (λ i l. h (suc i) (omega arith)))

-- where there is no c, all of the text stands before it
pub cut_none : (c : ℕ) (w : List ℕ) → Lacks c w → (before c w ≡ w) × (after c w ≡ None)
cut_none c w l =
    let r = cut_suffix c w None l in
    (ap (before c) (sym (append-nil w)) ∙ r.0, ap (after c) (sym (append-nil w)) ∙ r.1)

-- a text may be cut before a slash or at its end, and after two slashes
pub boundary_there : (w : List ℕ) (n : ℕ) → n ≤ length w → drop n w ≡ from 47 w → IsCharBoundary w n
boundary_there w n l e =
    ⊎_elim
    (λ (h : n < length w).
    let d = drop-cons w n 0 h in
    let b : get_or w n 0 < 128 = ⊎_elim
    (λ (q : from 47 w ≡ []). let k : get_or w n 0 ∷ drop (suc n) w ≡ [] = sym d ∙ (e ∙ q) in absurd (cc))
    (λ q. let k : get_or w n 0 ∷ drop (suc n) w ≡ 47 ∷ q.0 = sym d ∙ (e ∙ q.1) in let z : get_or w n 0 ≡ 47 = cc in omega arith)
    (from-starts 47 w) in
    IsCharBoundary-before_ascii w n h b)
    (λ (h : length w ≤ n). (l, λ (k : n < length w). absurd (omega arith)))
    (cases_lt n (length w))

-- a reference may be cut after "//", since both are ASCII
pub boundary_after_slashes : (w : List ℕ) → IsUtf8 w → begins (47 ∷ 47 ∷ []) w ≡ true → IsCharBoundary w 2
boundary_after_slashes w u h =
    let e = begins-true (47 ∷ 47 ∷ []) w h in
    let l = ap length e in
    let b : get_or w 1 0 ≡ 47 = ap (λ x. get_or x 1 0) e in
    IsCharBoundary-after_ascii w 1 u (omega arith) (omega arith)

-- the scheme, cut off where there is one
pub scheme_there : (w front rest : List ℕ) → front ≡ before 58 w → Some rest ≡ after 58 w → has_scheme w ≡ true →
    fragment_parts (Some front) rest ≡ parts_of w
unfolding parts_of
scheme_there w front rest f r h =
    ap (λ x. fragment_parts (Some x) rest) f ∙ (ap (λ x. fragment_parts (Some (before 58 w)) (unwrap_or x [])) r
    ∙ sym (cond-true (has_scheme w) (fragment_parts (Some (before 58 w)) (unwrap_or (after 58 w) [])) (fragment_parts None w) h))

-- without a scheme the parts are those of all of the text
pub no_scheme_there : (w : List ℕ) → has_scheme w ≡ false → fragment_parts None w ≡ parts_of w
unfolding parts_of
no_scheme_there w h = sym (cond-false (has_scheme w) (fragment_parts (Some (before 58 w)) (unwrap_or (after 58 w) [])) (fragment_parts None w) h)

-- the text up to and with its last slash
pub directory_there : (w : List ℕ) (i : ℕ) → i < length w → get_or w i 0 ≡ 47 → Lacks 47 (drop (i + 1) w) → take (i + 1) w ≡ directory w
directory_there w i l e n =
    let n' : Lacks 47 (drop (suc i) w) = subst (λ k. Lacks 47 (drop k w)) (add-one i) n in
    let d : w ≡ take i w ++ 47 ∷ drop (suc i) w = sym (take-append-drop i w) ∙ ap (λ x. take i w ++ x) (drop-cons w i 0 l ∙ ap (λ x. x ∷ drop (suc i) w) e) in
    let h : has_slash w ≡ true = ap has_slash d ∙ has_slash-at (take i w) (drop (suc i) w) in
    let p : parent w ≡ take i w = ap parent d ∙ parent-at (take i w) (drop (suc i) w) n' in
    take_more w i 0 l ∙ (ap (λ x. take i w ++ x ∷ []) e ∙ (ap (λ x. x ++ 47 ∷ []) (sym p) ∙ sym (cond-true (has_slash w) (parent w ++ 47 ∷ []) [] h)))

-- a text without "/" has no directory
pub directory_none : (w : List ℕ) → Lacks 47 w → directory w ≡ []
directory_none w l = cond-false (has_slash w) (parent w ++ 47 ∷ []) [] (no_slash w l)
