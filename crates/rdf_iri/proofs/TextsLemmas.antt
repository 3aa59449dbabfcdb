-- Where a text is cut.
use Rattle.rdf_iri.proofs.Prelude.{◌≡◌, ℕ, true, false, cond, List, [], ◌∷◌, ◌++◌, ◌==◌, ◌&&◌, ◌||◌, ◌⊎◌, Bool, drop, length, Option, Some, None, inl, inr, refl, sym, ap, ◌∙◌, subst, ⊎_elim, and_parts, and_from, or_left, or_right, or_cases, cases_Bool, cond-true, cond-false, false≢true, eqb-true, eqb-false, eq-eqb, ne_eqb, Lacks, BeginsWith, begins, equal, before, after, from, has_scheme, scheme_goes_on, is_letter, is_digit, is_some, suffix}

-- a suffix after a text that lacks its byte is cut off again
pub cut_suffix : (c : ℕ) (w : List ℕ) (o : Option (List ℕ)) → Lacks c w → (before c (w ++ suffix c o) ≡ w) × (after c (w ++ suffix c o) ≡ o)
cut_suffix c [] None l = (refl, refl)
cut_suffix c [] (Some v) l =
    let e : (c == c) ≡ true = eq-eqb c c refl in
    (cond-true (c == c) [] (c ∷ before c v) e, cond-true (c == c) (Some v) (after c v) e)
cut_suffix c (d ∷ w) o l =
    let e : (d == c) ≡ false = ne_eqb d c l.0 in
    let r = cut_suffix c w o l.1 in (
      cond-false (d == c) [] (d ∷ before c (w ++ suffix c o)) e ∙ ap (λ x. d ∷ x) r.0,
      cond-false (d == c) (Some (w ++ suffix c o)) (after c (w ++ suffix c o)) e ∙ r.1,
    )

-- what stands before c, with c and what follows it, is all of the text
pub cut_whole : (c : ℕ) (w : List ℕ) → before c w ++ suffix c (after c w) ≡ w
cut_whole c [] = refl
cut_whole c (d ∷ w) =
    ⊎_elim
    (λ h. let e : d ≡ c = eqb-true d c h in
    ap (λ x. x ++ suffix c (cond (d == c) (Some w) (after c w))) (cond-true (d == c) [] (d ∷ before c w) h)
    ∙ (ap (λ x. suffix c x) (cond-true (d == c) (Some w) (after c w) h) ∙ ap (λ x. x ∷ w) (sym e)))
    (λ h.
    ap (λ x. x ++ suffix c (cond (d == c) (Some w) (after c w))) (cond-false (d == c) [] (d ∷ before c w) h)
    ∙ (ap (λ x. (d ∷ before c w) ++ suffix c x) (cond-false (d == c) (Some w) (after c w) h) ∙ ap (λ x. d ∷ x) (cut_whole c w)))
    (cases_Bool (d == c))

-- before the first c there is none
pub before-lacks : (c : ℕ) (w : List ℕ) → Lacks c (before c w)
before-lacks c [] = tt
before-lacks c (d ∷ w) =
    ⊎_elim
    (λ h. subst (Lacks c) (sym (cond-true (d == c) [] (d ∷ before c w) h)) tt)
    (λ h. subst (Lacks c) (sym (cond-false (d == c) [] (d ∷ before c w) h)) (eqb-false d c h, before-lacks c w))
    (cases_Bool (d == c))

-- what a text lacks is lacking before a cut
pub before-keeps : (k c : ℕ) (w : List ℕ) → Lacks k w → Lacks k (before c w)
before-keeps k c [] l = tt
before-keeps k c (d ∷ w) l =
    ⊎_elim
    (λ h. subst (Lacks k) (sym (cond-true (d == c) [] (d ∷ before c w) h)) tt)
    (λ h. subst (Lacks k) (sym (cond-false (d == c) [] (d ∷ before c w) h)) (l.0, before-keeps k c w l.1))
    (cases_Bool (d == c))

-- what a text lacks is lacking from a cut on
pub from-keeps : (k c : ℕ) (w : List ℕ) → Lacks k w → Lacks k (from c w)
from-keeps k c [] l = tt
from-keeps k c (d ∷ w) l =
    ⊎_elim
    (λ h. subst (Lacks k) (sym (cond-true (d == c) (d ∷ w) (from c w) h)) l)
    (λ h. subst (Lacks k) (sym (cond-false (d == c) (d ∷ w) (from c w) h)) (from-keeps k c w l.1))
    (cases_Bool (d == c))

-- nothing, or the byte and more
abbrev pub StartsAt : ℕ → List ℕ → Type 0
StartsAt c w = (w ≡ []) ⊎ BeginsWith (c ∷ []) w

-- what is cut at c begins with it, or is empty
pub from-starts : (c : ℕ) (w : List ℕ) → StartsAt c (from c w)
from-starts c [] = inl refl
from-starts c (d ∷ w) =
    ⊎_elim
    (λ h. inr (w, cond-true (d == c) (d ∷ w) (from c w) h ∙ ap (λ x. x ∷ w) (eqb-true d c h)))
    (λ h. subst (StartsAt c) (sym (cond-false (d == c) (d ∷ w) (from c w) h)) (from-starts c w))
    (cases_Bool (d == c))

-- both parts of a cut are all of the text
pub before-from : (c : ℕ) (w : List ℕ) → before c w ++ from c w ≡ w
before-from c [] = refl
before-from c (d ∷ w) =
    ⊎_elim
    (λ h. ap (λ x. x ++ cond (d == c) (d ∷ w) (from c w)) (cond-true (d == c) [] (d ∷ before c w) h) ∙ cond-true (d == c) (d ∷ w) (from c w) h)
    (λ h. ap (λ x. x ++ cond (d == c) (d ∷ w) (from c w)) (cond-false (d == c) [] (d ∷ before c w) h)
    ∙ (ap (λ x. (d ∷ before c w) ++ x) (cond-false (d == c) (d ∷ w) (from c w) h) ∙ ap (λ x. d ∷ x) (before-from c w)))
    (cases_Bool (d == c))

-- a text that lacks the byte, before nothing or the byte, is found again
pub cut_at : (c : ℕ) (w v : List ℕ) → Lacks c w → StartsAt c v → (before c (w ++ v) ≡ w) × (from c (w ++ v) ≡ v)
cut_at c [] v l s =
    ⊎_elim
    (λ (h : v ≡ []). (ap (before c) h, ap (from c) h ∙ sym h))
    (λ h.
    let e : (c == c) ≡ true = eq-eqb c c refl in (
      ap (before c) h.1 ∙ cond-true (c == c) [] (c ∷ before c h.0) e,
      ap (from c) h.1 ∙ (cond-true (c == c) (c ∷ h.0) (from c h.0) e ∙ sym h.1),
    ))
    s
cut_at c (d ∷ w) v l s =
    let e : (d == c) ≡ false = ne_eqb d c l.0 in
    let r = cut_at c w v l.1 s in (
      cond-false (d == c) [] (d ∷ before c (w ++ v)) e ∙ ap (λ x. d ∷ x) r.0,
      cond-false (d == c) (d ∷ (w ++ v)) (from c (w ++ v)) e ∙ r.1,
    )

-- two texts without c have none together
pub Lacks-append : (c : ℕ) (u v : List ℕ) → Lacks c u → Lacks c v → Lacks c (u ++ v)
Lacks-append c [] v l m = m
Lacks-append c (d ∷ u) v l m = (l.0, Lacks-append c u v l.1 m)

-- the test for a front
pub begins-true : (front w : List ℕ) → begins front w ≡ true → w ≡ front ++ drop (length front) w
begins-true [] w h = refl
begins-true (c ∷ front) [] h = absurd (false≢true h)
begins-true (c ∷ front) (d ∷ w) h =
    let p = and_parts (c == d) (begins front w) h in
    ap (λ x. x ∷ w) (sym (eqb-true c d p.0)) ∙ ap (λ x. c ∷ x) (begins-true front w p.1)

-- a text with a front begins with it, by the test
pub begins-from : (front w rest : List ℕ) → w ≡ front ++ rest → begins front w ≡ true
begins-from [] w rest h = refl
begins-from (c ∷ front) [] rest h = let k : [] ≡ c ∷ (front ++ rest) = h in cc
begins-from (c ∷ front) (d ∷ w) rest h =
    let e : c ≡ d = cc in
    let t : w ≡ front ++ rest = cc in
    and_from (c == d) (begins front w) (eq-eqb c d e) (begins-from front w rest t)

-- tests for a whole text
pub equal-true : (v w : List ℕ) → equal v w ≡ true → v ≡ w
equal-true [] [] h = refl
equal-true [] (d ∷ w) h = absurd (false≢true h)
equal-true (c ∷ v) [] h = absurd (false≢true h)
equal-true (c ∷ v) (d ∷ w) h =
    let p = and_parts (c == d) (equal v w) h in
    let e : c ≡ d = eqb-true c d p.0 in
    let t : v ≡ w = equal-true v w p.1 in
    cc

-- a text equals itself
pub equal-self : (v : List ℕ) → equal v v ≡ true
equal-self [] = refl
equal-self (c ∷ v) = and_from (c == c) (equal v v) (eq-eqb c c refl) (equal-self v)

-- equal texts test as equal
pub equal-from : (v w : List ℕ) → v ≡ w → equal v w ≡ true
equal-from v w e = subst (λ x. equal v x ≡ true) e (equal-self v)

-- A scheme is decided by what stands before its colon.
pub scheme_goes_on-colon : (s u v : List ℕ) → scheme_goes_on (s ++ 58 ∷ u) ≡ scheme_goes_on (s ++ 58 ∷ v)
scheme_goes_on-colon [] u v = refl
scheme_goes_on-colon (c ∷ s) u v = ap (λ b. c == 58 || ((is_letter c || is_digit c || c == 43 || c == 45 || c == 46) && b)) (scheme_goes_on-colon s u v)

-- whether a text has a scheme is settled before its ":"
pub has_scheme-colon : (s u v : List ℕ) → has_scheme (s ++ 58 ∷ u) ≡ has_scheme (s ++ 58 ∷ v)
has_scheme-colon [] u v = refl
has_scheme-colon (c ∷ s) u v = ap (λ b. is_letter c && b) (scheme_goes_on-colon s u v)

-- a test that holds of less holds of more
later_true : (p q b d : Bool) → (b ≡ true → d ≡ true) → (p || (q && b)) ≡ true → (p || (q && d)) ≡ true
later_true p q b d f h =
    ⊎_elim
    (λ t. or_left p (q && d) t)
    (λ t. let r = and_parts q b t in or_right p (q && d) (and_from q d r.0 (f r.1)))
    (or_cases p (q && b) h)

-- the rest of a scheme is there, whatever follows the text
scheme_goes_on-append : (w v : List ℕ) → scheme_goes_on w ≡ true → scheme_goes_on (w ++ v) ≡ true
scheme_goes_on-append [] v h = absurd (false≢true h)
scheme_goes_on-append (c ∷ w) v h = later_true (c == 58) _ _ _ (scheme_goes_on-append w v) h

-- a text with a scheme has it, whatever follows the text
pub has_scheme-append : (w v : List ℕ) → has_scheme w ≡ true → has_scheme (w ++ v) ≡ true
has_scheme-append [] v h = absurd (false≢true h)
has_scheme-append (c ∷ w) v h = let p = and_parts (is_letter c) (scheme_goes_on w) h in and_from (is_letter c) _ p.0 (scheme_goes_on-append w v p.1)

-- and it has that colon
scheme_goes_on-after : (w : List ℕ) → scheme_goes_on w ≡ true → is_some (after 58 w) ≡ true
scheme_goes_on-after [] h = absurd (false≢true h)
scheme_goes_on-after (c ∷ w) h =
    ⊎_elim
    (λ t. ap is_some (cond-true (c == 58) (Some w) (after 58 w) t))
    (λ f. ap is_some (cond-false (c == 58) (Some w) (after 58 w) f)
    ∙ scheme_goes_on-after w (⊎_elim (λ t. absurd (false≢true (sym f ∙ t))) (λ t. (and_parts _ (scheme_goes_on w) t).1) (or_cases (c == 58) _ h)))
    (cases_Bool (c == 58))

-- a scheme has its ":"
pub has_scheme-after : (w : List ℕ) → has_scheme w ≡ true → is_some (after 58 w) ≡ true
has_scheme-after [] h = absurd (false≢true h)
has_scheme-after (c ∷ w) h =
    ⊎_elim
    (λ t. ap is_some (cond-true (c == 58) (Some w) (after 58 w) t))
    (λ f. ap is_some (cond-false (c == 58) (Some w) (after 58 w) f) ∙ scheme_goes_on-after w (and_parts (is_letter c) (scheme_goes_on w) h).1)
    (cases_Bool (c == 58))
