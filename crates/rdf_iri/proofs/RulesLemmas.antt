-- Each branch of the code is the first rule that fits.
use Rattle.rdf_iri.proofs.Prelude.{◌≡◌, ℕ, suc, true, false, List, [], ◌∷◌, ◌++◌, ◌<◌, take, drop, length, sym, ap, ◌∙◌, arith, codes, or_left, or_right, cond-true, cond-false, drop-length, begins, equal, before, from, Walk, walk, step, skip, slash, up, keep, parent, fits_A, by_A, fits_B, by_B, fits_C, by_C, fits_D, by_D, by_E}
use Rattle.rdf_iri.proofs.TextsLemmas.{equal-true}
use Rattle.rdf_iri.proofs.DotsLemmas.{step_B, step_C, step_D}

-- where rule A fits, it is the step
at_A : (s : Walk) → fits_A s.input ≡ true → step s ≡ by_A s
unfolding step
at_A s h = cond-true (fits_A s.input) (by_A s) (step_B s) h

-- where it does not, the others are tried
not_A : (s : Walk) → fits_A s.input ≡ false → step s ≡ step_B s
unfolding step
not_A s h = cond-false (fits_A s.input) (by_A s) (step_B s) h

-- where B does not fit either, those after it
not_B : (s : Walk) → fits_A s.input ≡ false → fits_B s.input ≡ false → step s ≡ step_C s
not_B s a h = not_A s a ∙ cond-false (fits_B s.input) (by_B s) (step_C s) h

-- where C does not fit either, those after it
pub not_C : (s : Walk) → fits_A s.input ≡ false → fits_B s.input ≡ false → fits_C s.input ≡ false → step s ≡ step_D s
not_C s a b h = not_B s a b ∙ cond-false (fits_C s.input) (by_C s) (step_D s) h

-- at "../" three bytes are dropped
pub skip_three : (w o : List ℕ) → begins (codes "../") w ≡ true → step (walk w o) ≡ skip 3 (walk w o)
skip_three w o h = at_A (walk w o) (or_left _ (begins (codes "./") w) h) ∙ ap (λ x. walk x o) (cond-true (begins (codes "../") w) (drop 3 w) (drop 2 w) h)

-- at "./" two bytes are dropped
pub skip_two : (w o : List ℕ) → begins (codes "../") w ≡ false → begins (codes "./") w ≡ true → step (walk w o) ≡ skip 2 (walk w o)
skip_two w o f h = at_A (walk w o) (or_right (begins (codes "../") w) _ h) ∙ ap (λ x. walk x o) (cond-false (begins (codes "../") w) (drop 3 w) (drop 2 w) f)

-- "/./" becomes "/"
pub slash_two : (w o : List ℕ) → fits_A w ≡ false → begins (codes "/./") w ≡ true → step (walk w o) ≡ slash 2 (walk w o)
slash_two w o a h = not_A (walk w o) a ∙ cond-true (fits_B w) (by_B (walk w o)) (step_C (walk w o)) (or_left _ (equal w (codes "/.")) h)

-- a last "/." becomes "/"
pub slash_one : (w o : List ℕ) → fits_A w ≡ false → equal w (codes "/.") ≡ true → step (walk w o) ≡ slash 1 (walk w o)
slash_one w o a h =
    let e = equal-true w (codes "/.") h in
    not_A (walk w o) a ∙ (cond-true (fits_B w) (by_B (walk w o)) (step_C (walk w o)) (or_right (begins (codes "/./") w) _ h)
    ∙ ap (λ x. walk (47 ∷ x) o) (ap (drop 3) e ∙ sym (ap (drop 2) e)))

-- "/../" becomes "/", and a segment is removed
pub up_three : (w o : List ℕ) → fits_A w ≡ false → fits_B w ≡ false → begins (codes "/../") w ≡ true → step (walk w o) ≡ up 3 (walk w o)
up_three w o a b h = not_B (walk w o) a b ∙ cond-true (fits_C w) (by_C (walk w o)) (step_D (walk w o)) (or_left _ (equal w (codes "/..")) h)

-- a last "/.." becomes "/", and a segment is removed
pub up_two : (w o : List ℕ) → fits_A w ≡ false → fits_B w ≡ false → equal w (codes "/..") ≡ true → step (walk w o) ≡ up 2 (walk w o)
up_two w o a b h =
    let e = equal-true w (codes "/..") h in
    not_B (walk w o) a b ∙ (cond-true (fits_C w) (by_C (walk w o)) (step_D (walk w o)) (or_right (begins (codes "/../") w) _ h)
    ∙ ap (λ x. walk (47 ∷ x) (parent o)) (ap (drop 4) e ∙ sym (ap (drop 3) e)))

-- a last "." or ".." is dropped
pub skip_all : (w o : List ℕ) → fits_A w ≡ false → fits_B w ≡ false → fits_C w ≡ false → fits_D w ≡ true → step (walk w o) ≡ skip (length w) (walk w o)
skip_all w o a b c h = not_C (walk w o) a b c ∙ (cond-true (fits_D w) (by_D (walk w o)) (by_E (walk w o)) h ∙ ap (λ x. walk x o) (sym (drop-length w)))

-- the first segment, by the number of its bytes
keep_from : (w o : List ℕ) (n : ℕ) → 0 < length w → take n (drop 1 w) ≡ before 47 (drop 1 w) → drop n (drop 1 w) ≡ from 47 (drop 1 w) →
    by_E (walk w o) ≡ keep (suc n) (walk w o)
keep_from [] o n l f r = absurd (omega arith)
keep_from (c ∷ w) o n l f r = ap (λ x. walk x (o ++ c ∷ before 47 w)) (sym r) ∙ ap (λ x. walk (drop n w) (o ++ c ∷ x)) (sym f)

-- otherwise the first segment moves to the output
pub keep_some : (w o : List ℕ) (n : ℕ) → fits_A w ≡ false → fits_B w ≡ false → fits_C w ≡ false → fits_D w ≡ false →
    0 < length w → take n (drop 1 w) ≡ before 47 (drop 1 w) → drop n (drop 1 w) ≡ from 47 (drop 1 w) → step (walk w o) ≡ keep (suc n) (walk w o)
keep_some w o n a b c d l f r = not_C (walk w o) a b c ∙ (cond-false (fits_D w) (by_D (walk w o)) (by_E (walk w o)) d ∙ keep_from w o n l f r)
