-- The relation of dot removal has one result, and `remove_dots` computes it.
use Rattle.rdf_iri.proofs.Prelude.{◌≡◌, ℕ, zero, suc, Bool, true, false, cond, List, [], ◌∷◌, ◌++◌, ◌==◌, ◌||◌, ◌≤◌, drop, length, inl, inr, refl, sym, ap, ◌∙◌, subst, ⊎_elim, arith, codes, or_cases, or_left, or_right, or_from, or_parts, cases_Bool, cond-true, cond-false, false≢true, false_from_ne_true, eqb-true, eqb-false, ne_eqb, append-nil, length-append, length-drop, Lacks, begins, equal, before, from, Walk, Step, FirstOf, RuleA, RuleB, RuleC, RuleD, RuleE, ReplacedBySlash, LastSegmentRemoved, Ends, DotsRemoved, has_slash, parent, first_segment, after_segment, walk, fits_A, by_A, fits_B, by_B, fits_C, by_C, fits_D, by_D, by_E, step, steps, finish, remove_dots}
use Rattle.rdf_iri.proofs.TextsLemmas.{cut_at, before-lacks, from-starts, before-from, StartsAt, begins-true, begins-from, equal-true, equal-from}

-- the last slash
pub no_slash : (w : List ℕ) → Lacks 47 w → has_slash w ≡ false
no_slash [] l = refl
no_slash (c ∷ w) l = or_from (c == 47) (has_slash w) (ne_eqb c 47 l.0) (no_slash w l.1)

-- where the test finds no "/", there is none
pub no_slash-lacks : (w : List ℕ) → has_slash w ≡ false → Lacks 47 w
no_slash-lacks [] h = tt
no_slash-lacks (c ∷ w) h = let p = or_parts (c == 47) (has_slash w) h in (eqb-false c 47 p.0, no_slash-lacks w p.1)

-- a text with a "/" in it tests as such
pub has_slash-at : (v w : List ℕ) → has_slash (v ++ 47 ∷ w) ≡ true
has_slash-at [] w = refl
has_slash-at (c ∷ v) w = or_right (c == 47) (has_slash (v ++ 47 ∷ w)) (has_slash-at v w)

-- the parent of a text ends before its last "/"
pub parent-at : (v w : List ℕ) → Lacks 47 w → parent (v ++ 47 ∷ w) ≡ v
parent-at [] w l = cond-false (has_slash w) (47 ∷ parent w) [] (no_slash w l)
parent-at (c ∷ v) w l = cond-true (has_slash (v ++ 47 ∷ w)) (c ∷ parent (v ++ 47 ∷ w)) [] (has_slash-at v w) ∙ ap (λ x. c ∷ x) (parent-at v w l)

-- without "/" the parent is empty
pub parent-none : (w : List ℕ) → Lacks 47 w → parent w ≡ []
parent-none [] l = refl
parent-none (c ∷ w) l = cond-false (has_slash w) (c ∷ parent w) [] (no_slash w l.1)

-- a text with a slash ends in one and a segment
pub last_slash : (w : List ℕ) → has_slash w ≡ true → (segment : List ℕ) × Lacks 47 segment × (w ≡ parent w ++ 47 ∷ segment)
last_slash [] h = absurd (false≢true h)
last_slash (c ∷ w) h =
    ⊎_elim
    (λ t. let r = last_slash w t in
    (r.0, r.1, ap (λ x. c ∷ x) r.2 ∙ ap (λ x. x ++ 47 ∷ r.0) (sym (cond-true (has_slash w) (c ∷ parent w) [] t))))
    (λ f.
    let e : c ≡ 47 = ⊎_elim (λ x. eqb-true c 47 x) (λ x. absurd (false≢true (sym f ∙ x))) (or_cases (c == 47) (has_slash w) h) in
    (w, no_slash-lacks w f, ap (λ x. x ∷ w) e ∙ ap (λ x. x ++ 47 ∷ w) (sym (cond-false (has_slash w) (c ∷ parent w) [] f))))
    (cases_Bool (has_slash w))

-- to take the parent is to remove the last segment
pub parent_removes : (out : List ℕ) → LastSegmentRemoved out (parent out)
parent_removes out =
    ⊎_elim
    (λ t. inl (last_slash out t))
    (λ f. let l = no_slash-lacks out f in inr (l, parent-none out l))
    (cases_Bool (has_slash out))

-- what is left when the last segment is removed is the parent, and nothing else
pub removed_is_parent : (out shorter : List ℕ) → LastSegmentRemoved out shorter → shorter ≡ parent out
removed_is_parent out shorter m =
    ⊎_elim
    (λ (h : (segment : List ℕ) × Lacks 47 segment × (out ≡ shorter ++ 47 ∷ segment)). sym (ap parent h.2 ∙ parent-at shorter h.0 h.1))
    (λ (h : Lacks 47 out × (shorter ≡ [])). h.1 ∙ sym (parent-none out h.0))
    m

-- states are equal where input and output are
same_walk : (s : Walk) (input output : List ℕ) → s.input ≡ input → s.output ≡ output → s ≡ walk input output
same_walk s input output e f = ap (λ x. walk x s.output) e ∙ ap (λ x. walk input x) f

-- Each rule has one result, where its test says that it fits.
A-only : (s t : Walk) → RuleA s t → (fits_A s.input ≡ true) × (t ≡ by_A s)
A-only s t r =
    ⊎_elim
    (λ (h : s.input ≡ codes "../" ++ t.input).
    let b : begins (codes "../") s.input ≡ true = begins-from (codes "../") s.input t.input h in
    let i : t.input ≡ drop 3 s.input = sym (ap (drop 3) h) in (
      or_left _ (begins (codes "./") s.input) b,
      same_walk t _ s.output (i ∙ sym (cond-true (begins (codes "../") s.input) (drop 3 s.input) (drop 2 s.input) b)) r.1,
    ))
    (λ (h : s.input ≡ codes "./" ++ t.input).
    let b : begins (codes "./") s.input ≡ true = begins-from (codes "./") s.input t.input h in
    let f : begins (codes "../") s.input ≡ false = ap (begins (codes "../")) h in
    let i : t.input ≡ drop 2 s.input = sym (ap (drop 2) h) in (
      or_right (begins (codes "../") s.input) _ b,
      same_walk t _ s.output (i ∙ sym (cond-false (begins (codes "../") s.input) (drop 3 s.input) (drop 2 s.input) f)) r.1,
    ))
    r.0

-- where rule A computes as fitting, its state is one by the rule
A-fits : (s : Walk) → fits_A s.input ≡ true → RuleA s (by_A s)
A-fits s h =
    ⊎_elim
    (λ t.
    let e = cond-true (begins (codes "../") s.input) (drop 3 s.input) (drop 2 s.input) t in
    (inl (begins-true (codes "../") s.input t ∙ ap (λ x. codes "../" ++ x) (sym e)), refl))
    (λ f.
    let e = cond-false (begins (codes "../") s.input) (drop 3 s.input) (drop 2 s.input) f in
    let b : begins (codes "./") s.input ≡ true =
    ⊎_elim (λ x. absurd (false≢true (sym f ∙ x))) (λ x. x) (or_cases (begins (codes "../") s.input) (begins (codes "./") s.input) h) in
    (inr (begins-true (codes "./") s.input b ∙ ap (λ x. codes "./" ++ x) (sym e)), refl))
    (cases_Bool (begins (codes "../") s.input))

-- B and C: the front, or the last text, which is the front without its slash
replaced-only : (front last : List ℕ) (s t : Walk) → drop (length front) last ≡ [] → ((rest : List ℕ) → drop (length front) (front ++ rest) ≡ rest) →
    ReplacedBySlash front last s t → ((begins front s.input || equal s.input last) ≡ true) × (t.input ≡ 47 ∷ drop (length front) s.input)
replaced-only front last s t n d r =
    ⊎_elim
    (λ (h : (rest : List ℕ) × (s.input ≡ front ++ rest) × (t.input ≡ 47 ∷ rest)). (
      or_left _ _ (begins-from front s.input h.0 h.1),
      h.2 ∙ ap (λ x. 47 ∷ x) (sym (ap (drop (length front)) h.1 ∙ d h.0)),
    ))
    (λ (h : (s.input ≡ last) × (t.input ≡ 47 ∷ [])). (
      or_right (begins front s.input) _ (equal-from s.input last h.0),
      h.1 ∙ ap (λ x. 47 ∷ x) (sym (ap (drop (length front)) h.0 ∙ n)),
    ))
    r

-- the front that rules B and C replace, where it computes as there
replaced-fits : (front last : List ℕ) (s t : Walk) → drop (length front) last ≡ [] →
    (begins front s.input || equal s.input last) ≡ true → t.input ≡ 47 ∷ drop (length front) s.input → ReplacedBySlash front last s t
replaced-fits front last s t n h e =
    ⊎_elim
    (λ b. inl (drop (length front) s.input, begins-true front s.input b, e))
    (λ q.
    let i : s.input ≡ last = equal-true s.input last q in
    inr (i, e ∙ ap (λ x. 47 ∷ x) (ap (drop (length front)) i ∙ n)))
    (or_cases (begins front s.input) (equal s.input last) h)

-- rule B gives only what is computed
B-only : (s t : Walk) → RuleB s t → (fits_B s.input ≡ true) × (t ≡ by_B s)
B-only s t r =
    let p = replaced-only (codes "/./") (codes "/.") s t refl (λ _. refl) r.0 in
    (p.0, same_walk t _ s.output p.1 r.1)

-- rule B gives what is computed where it computes as fitting
B-fits : (s : Walk) → fits_B s.input ≡ true → RuleB s (by_B s)
B-fits s h = (replaced-fits (codes "/./") (codes "/.") s (by_B s) refl h refl, refl)

-- rule C gives only what is computed
C-only : (s t : Walk) → RuleC s t → (fits_C s.input ≡ true) × (t ≡ by_C s)
C-only s t r =
    let p = replaced-only (codes "/../") (codes "/..") s t refl (λ _. refl) r.0 in
    (p.0, same_walk t _ (parent s.output) p.1 (removed_is_parent s.output t.output r.1))

-- rule C gives what is computed where it computes as fitting
C-fits : (s : Walk) → fits_C s.input ≡ true → RuleC s (by_C s)
C-fits s h = (replaced-fits (codes "/../") (codes "/..") s (by_C s) refl h refl, parent_removes s.output)

-- rule D gives only what is computed
D-only : (s t : Walk) → RuleD s t → (fits_D s.input ≡ true) × (t ≡ by_D s)
D-only s t r = (
  ⊎_elim
      (λ h. or_left _ _ (equal-from s.input (codes ".") h))
      (λ h. or_right (equal s.input (codes ".")) _ (equal-from s.input (codes "..") h))
      r.0,
  same_walk t [] s.output r.1 r.2,
)

-- rule D gives what is computed where it computes as fitting
D-fits : (s : Walk) → fits_D s.input ≡ true → RuleD s (by_D s)
D-fits s h = (
  ⊎_elim
      (λ b. inl (equal-true s.input (codes ".") b))
      (λ b. inr (equal-true s.input (codes "..") b))
      (or_cases (equal s.input (codes ".")) (equal s.input (codes "..")) h),
  refl,
  refl,
)

-- rule E gives only what is computed
E-only : (s t : Walk) → RuleE s t → t ≡ by_E s
E-only s t r =
    let p = cut_at 47 r.1 t.input r.3 r.4 in
    let i : t.input ≡ after_segment s.input = sym (ap after_segment r.2 ∙ p.1) in
    let o : first_segment s.input ≡ r.0 ∷ r.1 = ap first_segment r.2 ∙ ap (λ x. r.0 ∷ x) p.0 in
    same_walk t _ _ i (r.5 ∙ ap (λ x. s.output ++ x) (sym o))

-- rule E gives what is computed, where some input is left
E-fits : (s : Walk) (c : ℕ) (w : List ℕ) → s.input ≡ c ∷ w → RuleE s (by_E s)
E-fits s c w e =
    let i : after_segment s.input ≡ from 47 w = ap after_segment e in
    let o : first_segment s.input ≡ c ∷ before 47 w = ap first_segment e in (
      c,
      before 47 w,
      e ∙ ap (λ x. c ∷ x) (sym (before-from 47 w) ∙ ap (λ x. before 47 w ++ x) (sym i)),
      before-lacks 47 w,
      subst (StartsAt 47) (sym i) (from-starts 47 w),
      ap (λ x. s.output ++ x) o,
    )

-- one rule in front of others
first-only : (R : Walk → Walk → Type 0) (Rs : List (Walk → Walk → Type 0)) (s t x y : Walk) (b : Bool) →
    (R s t → (b ≡ true) × (t ≡ x)) → (b ≡ true → R s x) → (FirstOf Rs s t → t ≡ y) → FirstOf (R ∷ Rs) s t → t ≡ cond b x y
first-only R Rs s t x y b only fits rest r =
    ⊎_elim
    (λ (h : R s t). let p = only h in p.1 ∙ sym (cond-true b x y p.0))
    (λ (h : ((t : Walk) × R s t → ⊥) × FirstOf Rs s t).
    rest h.1 ∙ sym (cond-false b x y (false_from_ne_true b (λ e. h.0 (x, fits e)))))
    r

-- the first rule that fits, or one of those after it
first-fits : (R : Walk → Walk → Type 0) (Rs : List (Walk → Walk → Type 0)) (s x y : Walk) (b : Bool) →
    ((t : Walk) → R s t → b ≡ true) → (b ≡ true → R s x) → FirstOf Rs s y → FirstOf (R ∷ Rs) s (cond b x y)
first-fits R Rs s x y b only fits rest =
    ⊎_elim
    (λ e. subst (FirstOf (R ∷ Rs) s) (sym (cond-true b x y e)) (inl (fits e)))
    (λ e. subst (FirstOf (R ∷ Rs) s) (sym (cond-false b x y e)) (inr ((λ (h : (t : Walk) × R s t). false≢true (sym e ∙ only h.0 h.1)), rest)))
    (cases_Bool b)

-- rules in the order in which they are tried
abbrev pub Rules : Type 1
Rules = List (Walk → Walk → Type 0)

-- rules D and E
abbrev pub from_D : Rules
from_D = RuleD ∷ RuleE ∷ []

-- rules C to E
abbrev pub from_C : Rules
from_C = RuleC ∷ from_D

-- rules B to E
abbrev pub from_B : Rules
from_B = RuleB ∷ from_C

-- a step by rules D and E
abbrev pub step_D : Walk → Walk
step_D s = cond (fits_D s.input) (by_D s) (by_E s)

-- a step by rules C to E
abbrev pub step_C : Walk → Walk
step_C s = cond (fits_C s.input) (by_C s) (step_D s)

-- a step by rules B to E
abbrev pub step_B : Walk → Walk
step_B s = cond (fits_B s.input) (by_B s) (step_C s)

-- a step by the rules is the step that is computed
pub step-only : (s t : Walk) → Step s t → t ≡ step s
unfolding step
step-only s t r =
    first-only RuleA from_B s t (by_A s) (step_B s) (fits_A s.input) (A-only s t) (A-fits s)
    (first-only RuleB from_C s t (by_B s) (step_C s) (fits_B s.input) (B-only s t) (B-fits s)
    (first-only RuleC from_D s t (by_C s) (step_D s) (fits_C s.input) (C-only s t) (C-fits s)
    (first-only RuleD (RuleE ∷ []) s t (by_D s) (by_E s) (fits_D s.input) (D-only s t) (D-fits s)
    (⊎_elim (λ (h : RuleE s t). E-only s t h) (λ (h : ((t : Walk) × RuleE s t → ⊥) × ⊥). absurd h.1)))))
    r

-- the step that is computed is one by the rules, where input is left
pub step-fits : (s : Walk) (c : ℕ) (w : List ℕ) → s.input ≡ c ∷ w → Step s (step s)
unfolding step
step-fits s c w e =
    let l : FirstOf (RuleE ∷ []) s (by_E s) = inl (E-fits s c w e) in
    first-fits RuleA from_B s (by_A s) (step_B s) (fits_A s.input) (λ t r. (A-only s t r).0) (A-fits s)
    (first-fits RuleB from_C s (by_B s) (step_C s) (fits_B s.input) (λ t r. (B-only s t r).0) (B-fits s)
    (first-fits RuleC from_D s (by_C s) (step_D s) (fits_C s.input) (λ t r. (C-only s t r).0) (C-fits s)
    (first-fits RuleD (RuleE ∷ []) s (by_D s) (by_E s) (fits_D s.input) (λ t r. (D-only s t r).0) (D-fits s) l)))

-- a step shortens the input
pub length-from : (c : ℕ) (w : List ℕ) → length (from c w) ≤ length w
length-from c [] = omega arith
length-from c (d ∷ w) =
    ⊎_elim
    (λ h. let e = ap length (cond-true (d == c) (d ∷ w) (from c w) h) in omega arith)
    (λ h. let e = ap length (cond-false (d == c) (d ∷ w) (from c w) h) in let r = length-from c w in omega arith)
    (cases_Bool (d == c))

-- the length of what a cond gives
either_length : (b : Bool) (x y : Walk) (n : ℕ) → (b ≡ true → length x.input ≤ n) → length y.input ≤ n → length (cond b x y).input ≤ n
either_length b x y n h k =
    ⊎_elim
    (λ e. subst (λ (z : Walk). length z.input ≤ n) (sym (cond-true b x y e)) (h e))
    (λ e. subst (λ (z : Walk). length z.input ≤ n) (sym (cond-false b x y e)) k)
    (cases_Bool b)

-- B and C fit a text of two bytes or more
two_bytes : (front last w : List ℕ) (c : ℕ) (v : List ℕ) → 2 ≤ length front → 2 ≤ length last → w ≡ c ∷ v →
    (begins front w || equal w last) ≡ true → 1 ≤ length v
two_bytes front last w c v f l e h =
    ⊎_elim
    (λ b. let i = ap length (begins-true front w b) in let j = ap length e in omega (arith, length-append front (drop (length front) w)))
    (λ q. let i = ap length (equal-true w last q) in let j = ap length e in omega arith)
    (or_cases (begins front w) (equal w last) h)

-- each step shortens the input, so the removal ends
pub step-shorter : (s : Walk) (c : ℕ) (w : List ℕ) → s.input ≡ c ∷ w → length (step s).input ≤ length w
unfolding step
step-shorter s c w e =
    let i = ap length e in
    let a : length (cond (begins (codes "../") s.input) (drop 3 s.input) (drop 2 s.input)) ≤ length w =
    ⊎_elim
    (λ h. let j = ap length (cond-true (begins (codes "../") s.input) (drop 3 s.input) (drop 2 s.input) h) in omega (arith, length-drop 3 s.input))
    (λ h. let j = ap length (cond-false (begins (codes "../") s.input) (drop 3 s.input) (drop 2 s.input) h) in omega (arith, length-drop 2 s.input))
    (cases_Bool (begins (codes "../") s.input)) in
    let z : length (after_segment s.input) ≤ length w = let j = ap (λ x. length (after_segment x)) e in let k = length-from 47 w in omega arith in
    either_length (fits_A s.input) (by_A s) (step_B s) (length w) (λ h. a)
    (either_length (fits_B s.input) (by_B s) (step_C s) (length w)
    (λ h. let k = two_bytes (codes "/./") (codes "/.") s.input c w (omega arith) (omega arith) e h in omega (arith, length-drop 3 s.input))
    (either_length (fits_C s.input) (by_C s) (step_D s) (length w)
    (λ h. let k = two_bytes (codes "/../") (codes "/..") s.input c w (omega arith) (omega arith) e h in omega (arith, length-drop 4 s.input))
    (either_length (fits_D s.input) (by_D s) (by_E s) (length w) (λ h. omega arith) z)))

-- with no input nothing more happens
step-empty : (s : Walk) → s.input ≡ [] → (step s).input ≡ [] × ((step s).output ≡ s.output)
unfolding step
step-empty s e =
    let k : step s ≡ step (walk [] s.output) = ap (λ x. step (walk x s.output)) e in
    (ap (λ (x : Walk). x.input) k, ap (λ (x : Walk). x.output) k ∙ append-nil s.output)

-- once the input is empty, steps change nothing
steps-empty : (n : ℕ) (s : Walk) → s.input ≡ [] → (steps n s).output ≡ s.output
steps-empty zero s e = refl
steps-empty (suc n) s e = let k = step-empty s e in steps-empty n (step s) k.0 ∙ k.1

-- more steps than the input needs change nothing
enough_at : (n m : ℕ) (s : Walk) (w : List ℕ) → s.input ≡ w → length s.input ≤ n → length s.input ≤ m → (steps n s).output ≡ (steps m s).output
enough_at n m s [] e a b = steps-empty n s e ∙ sym (steps-empty m s e)
enough_at zero m s (c ∷ w) e a b = absurd (let j = ap length e in omega arith)
enough_at (suc n) zero s (c ∷ w) e a b = absurd (let j = ap length e in omega arith)
enough_at (suc n) (suc m) s (c ∷ w) e a b =
    let l = step-shorter s c w e in
    let j = ap length e in
    enough_at n m (step s) (step s).input refl (omega arith) (omega arith)

-- more steps than input make no difference
enough : (n m : ℕ) (s : Walk) → length s.input ≤ n → length s.input ≤ m → (steps n s).output ≡ (steps m s).output
enough n m s a b = enough_at n m s s.input refl a b

-- with no input left the output is the end
pub finish-empty : (s : Walk) → s.input ≡ [] → finish s ≡ s.output
unfolding finish
finish-empty s e = steps-empty (length s.input) s e

-- the result after a step is the result before it
pub finish-step : (s : Walk) (c : ℕ) (w : List ℕ) → s.input ≡ c ∷ w → finish (step s) ≡ finish s
unfolding finish
finish-step s c w e =
    let l = step-shorter s c w e in
    enough (length (step s).input) (length w) (step s) (omega arith) l ∙ sym (ap (λ n. (steps n s).output) (ap length e))

-- the result after a step is the result before it, also where nothing is left
pub finish-after : (s : Walk) (w : List ℕ) → s.input ≡ w → finish (step s) ≡ finish s
finish-after s [] e = let k = step-empty s e in finish-empty (step s) k.0 ∙ (k.1 ∙ sym (finish-empty s e))
finish-after s (c ∷ w) e = finish-step s c w e

-- the relation has the one result that is computed
ends-only : (n : ℕ) (s : Walk) (result : List ℕ) → Ends n s result → result ≡ finish s
ends-only zero s result h = sym h.1 ∙ sym (finish-empty s h.0)
ends-only (suc n) s result h = ends-only n h.0 result h.2 ∙ (ap finish (step-only s h.0 h.1) ∙ finish-after s s.input refl)

-- the rules come to the result that is computed
ends-computed : (n : ℕ) (s : Walk) (w : List ℕ) → s.input ≡ w → length w ≤ n → (k : ℕ) × Ends k s (finish s)
ends-computed n s [] e l = (0, (e, sym (finish-empty s e)))
ends-computed zero s (c ∷ w) e l = absurd (omega arith)
ends-computed (suc n) s (c ∷ w) e l =
    let k = step-shorter s c w e in
    let r = ends-computed n (step s) (step s).input refl (omega arith) in
    (suc r.0, (step s, step-fits s c w e, subst (Ends r.0 (step s)) (finish-step s c w e) r.1))

-- a path without its dots can only be what `remove_dots` gives, so the relation has one result
pub only_removed : (path result : List ℕ) → DotsRemoved path result → result ≡ remove_dots path
unfolding remove_dots
only_removed path result h = ends-only h.0 (walk path []) result h.1

-- `remove_dots` gives a path without its dots, as the relation says
pub dots_removed : (path : List ℕ) → DotsRemoved path (remove_dots path)
unfolding remove_dots
dots_removed path = ends-computed (length path) (walk path []) path refl (omega arith)
