-- Laws of expressions, for all of them.
use Rattle.rdf_terms.proofs.Prelude.{◌≡◌, ℕ, true, List, [], ◌∷◌, ◌++◌, ◌&&◌, ◌||◌, ◌==◌, ◌⊎◌, inl, inr, refl, sym, ap, ◌∙◌, subst, ⊎_elim, concat, AllByRecursion, and_parts, and_from, or_cases, or_left, or_right, cases_Bool, cond-true, cond-false, false≢true, eqb-true, eq-eqb, append-nil, Class, has, the, digit, hex_digit, letter, letter_or_digit, iri_char, local_escape, escape_letter, plain_double, plain_single, long_double, long_single, pn_base, pn_u, pn_char, Lines, Turtle, sample, Regex, Matches, nullable, after, after_all, possible, longer, nothing, empty, one, ◌·◌, ◌∣◌, many}
use Rattle.rdf_terms.specs.Classes.{scalar}

-- an empty concatenation has empty parts
no_cons : (c : ℕ) (w : List ℕ) → [] ≡ c ∷ w → ⊥
no_cons c w e = cc

-- two texts without characters together have none each
empty_parts : (u v : List ℕ) → [] ≡ u ++ v → (u ≡ []) × (v ≡ [])
empty_parts [] v e = (refl, sym e)
empty_parts (c ∷ u) v e = absurd (no_cons c (u ++ v) e)

-- what tests as nullable matches the empty text
pub nullable-matches : (r : Regex) → nullable r ≡ true → Matches r []
nullable-matches nothing e = absurd (false≢true e)
nullable-matches empty e = refl
nullable-matches (one k) e = absurd (false≢true e)
nullable-matches (r · s) e =
    let p = and_parts (nullable r) (nullable s) e in
    ([], [], nullable-matches r p.0, nullable-matches s p.1, refl)
nullable-matches (r ∣ s) e =
    ⊎_elim (λ x. inl (nullable-matches r x)) (λ x. inr (nullable-matches s x)) (or_cases (nullable r) (nullable s) e)
nullable-matches (many r) e = ([], tt, refl)

-- what matches the empty text tests as nullable
pub matches-nullable : (r : Regex) → Matches r [] → nullable r ≡ true
matches-nullable nothing m = absurd m
matches-nullable empty m = refl
matches-nullable (one k) m = absurd (no_cons m.0 [] m.2)
matches-nullable (r · s) m =
    let e = empty_parts m.0 m.1 m.4 in
    and_from _ _ (matches-nullable r (subst (Matches r) e.0 m.2)) (matches-nullable s (subst (Matches s) e.1 m.3))
matches-nullable (r ∣ s) m =
    ⊎_elim (λ x. or_left _ _ (matches-nullable r x)) (λ x. or_right _ _ (matches-nullable s x)) m
matches-nullable (many r) m = refl

-- a text whose first character is c splits after c, or after an empty part
pub split_first : (c : ℕ) (w u v : List ℕ) → c ∷ w ≡ u ++ v →
    ((u ≡ []) × (v ≡ c ∷ w)) ⊎ ((t : List ℕ) × (u ≡ c ∷ t) × (w ≡ t ++ v))
split_first c w [] v e = inl (refl, sym e)
split_first c w (d ∷ u) v e =
    let h : d ≡ c = cc in
    let t : w ≡ u ++ v = cc in
    inr (u, ap (λ x. x ∷ u) h, t)

-- what matches what is left after a character matches with it
pub after-matches : (r : Regex) (c : ℕ) (w : List ℕ) → Matches (after r c) w → Matches r (c ∷ w)
after-matches nothing c w m = absurd m
after-matches empty c w m = absurd m
after-matches (one k) c w m =
    ⊎_elim
    (λ h. let m' = subst (λ r. Matches r w) (cond-true (has k c) empty nothing h) m in (c, h, ap (λ x. c ∷ x) m'))
    (λ h. absurd (subst (λ r. Matches r w) (cond-false (has k c) empty nothing h) m))
    (cases_Bool (has k c))
after-matches (r · s) c w m =
    let long : Matches (after r c · s) w → Matches (r · s) (c ∷ w) = λ p. (c ∷ p.0, p.1, after-matches r c p.0 p.2, p.3, ap (λ x. c ∷ x) p.4) in
    ⊎_elim
    (λ h. ⊎_elim long
    (λ p. ([], c ∷ w, nullable-matches r h, after-matches s c w p, refl))
    (subst (λ x. Matches x w) (cond-true (nullable r) (after r c · s ∣ after s c) (after r c · s) h) m))
    (λ h. long (subst (λ x. Matches x w) (cond-false (nullable r) (after r c · s ∣ after s c) (after r c · s) h) m))
    (cases_Bool (nullable r))
after-matches (r ∣ s) c w m = ⊎_elim (λ x. inl (after-matches r c w x)) (λ x. inr (after-matches s c w x)) m
after-matches (many r) c w m =
    let p = m.3.0 in
    ((c ∷ m.0) ∷ p, (after-matches r c m.0 m.2, m.3.1), ap (λ x. c ∷ x) (m.4 ∙ ap (λ x. m.0 ++ x) m.3.2))

-- the first part that is not empty begins with the first character
pub first_part : (P : List ℕ → Type 0) (c : ℕ) (w : List ℕ) (parts : List (List ℕ)) → AllByRecursion P parts → c ∷ w ≡ concat parts →
    (t : List ℕ) × (rest : List (List ℕ)) × P (c ∷ t) × AllByRecursion P rest × (w ≡ t ++ concat rest)
first_part P c w [] a e = absurd (no_cons c w (sym e))
first_part P c w (u ∷ parts) a e =
    ⊎_elim
    (λ h. first_part P c w parts a.1 (sym h.1))
    (λ h. (h.0, parts, subst P h.1 a.0, a.1, h.2))
    (split_first c w u (concat parts) e)

-- after its first character a text matches what is left of the expression, so the derivative is right
pub matches-after : (r : Regex) (c : ℕ) (w : List ℕ) → Matches r (c ∷ w) → Matches (after r c) w
matches-after nothing c w m = absurd m
matches-after empty c w m = absurd (no_cons c w (sym m))
matches-after (one k) c w m =
    let h : c ≡ m.0 = cc (m.2) in
    let t : w ≡ [] = cc (m.2) in
    subst (λ r. Matches r w) (sym (cond-true (has k c) empty nothing (subst (λ x. has k x ≡ true) (sym h) m.1))) t
matches-after (r · s) c w m =
    let both : Matches (after r c · s) w → Matches (after (r · s) c) w = λ p.
    ⊎_elim
    (λ h. subst (λ x. Matches x w) (sym (cond-true (nullable r) (after r c · s ∣ after s c) (after r c · s) h)) (inl p))
    (λ h. subst (λ x. Matches x w) (sym (cond-false (nullable r) (after r c · s ∣ after s c) (after r c · s) h)) p)
    (cases_Bool (nullable r)) in
    ⊎_elim
    (λ h. subst (λ x. Matches x w)
    (sym (cond-true (nullable r) (after r c · s ∣ after s c) (after r c · s) (matches-nullable r (subst (Matches r) h.0 m.2))))
    (inr (matches-after s c w (subst (Matches s) h.1 m.3))))
    (λ h. both (h.0, m.1, matches-after r c h.0 (subst (Matches r) h.1 m.2), m.3, h.2))
    (split_first c w m.0 m.1 m.4)
matches-after (r ∣ s) c w m = ⊎_elim (λ x. inl (matches-after r c w x)) (λ x. inr (matches-after s c w x)) m
matches-after (many r) c w m =
    let p = first_part (Matches r) c w m.0 m.1 m.2 in
    (p.0, concat p.1, matches-after r c p.0 p.2, (p.1, p.3, refl), p.4)

-- the derivative by a whole text
pub after_all-matches : (w v : List ℕ) (r : Regex) → Matches (after_all r w) v → Matches r (w ++ v)
after_all-matches [] v r m = m
after_all-matches (c ∷ w) v r m = after-matches r c (w ++ v) (after_all-matches w v (after r c) m)

-- after a first part of any length a text matches what is left of the expression
pub matches-after_all : (w v : List ℕ) (r : Regex) → Matches r (w ++ v) → Matches (after_all r w) v
matches-after_all [] v r m = m
matches-after_all (c ∷ w) v r m = matches-after_all w v (after r c) (matches-after r c (w ++ v) m)

-- a class that has a member has its sample
pub has-sample : (k : Class) (c : ℕ) → has k c ≡ true → has k (sample k) ≡ true
unfolding has
has-sample (the x) c h =
    let p = and_parts (scalar c) (c == x) h in
    let e : c ≡ x = eqb-true c x p.1 in
    and_from _ _ (subst (λ y. scalar y ≡ true) e p.0) (eq-eqb x x refl)
has-sample digit c h = refl
has-sample hex_digit c h = refl
has-sample letter c h = refl
has-sample letter_or_digit c h = refl
has-sample iri_char c h = refl
has-sample local_escape c h = refl
has-sample escape_letter c h = refl
has-sample plain_double c h = refl
has-sample plain_single c h = refl
has-sample long_double c h = refl
has-sample long_single c h = refl
has-sample pn_base c h = refl
has-sample (pn_u Lines) c h = refl
has-sample (pn_u Turtle) c h = refl
has-sample (pn_char Lines) c h = refl
has-sample (pn_char Turtle) c h = refl

-- what tests as possible matches some text
pub possible-matches : (r : Regex) → possible r ≡ true → (w : List ℕ) × Matches r w
possible-matches nothing e = absurd (false≢true e)
possible-matches empty e = ([], refl)
possible-matches (one k) e = (sample k ∷ [], (sample k, e, refl))
possible-matches (r · s) e =
    let p = and_parts (possible r) (possible s) e in
    let u = possible-matches r p.0 in
    let v = possible-matches s p.1 in
    (u.0 ++ v.0, (u.0, v.0, u.1, v.1, refl))
possible-matches (r ∣ s) e =
    ⊎_elim
    (λ x. let u = possible-matches r x in (u.0, inl u.1))
    (λ x. let u = possible-matches s x in (u.0, inr u.1))
    (or_cases (possible r) (possible s) e)
possible-matches (many r) e = ([], ([], tt, refl))

-- what matches some text tests as possible
pub matches-possible : (r : Regex) (w : List ℕ) → Matches r w → possible r ≡ true
matches-possible nothing w m = absurd m
matches-possible empty w m = refl
matches-possible (one k) w m = has-sample k m.0 m.1
matches-possible (r · s) w m = and_from _ _ (matches-possible r m.0 m.2) (matches-possible s m.1 m.3)
matches-possible (r ∣ s) w m = ⊎_elim (λ x. or_left _ _ (matches-possible r w x)) (λ x. or_right _ _ (matches-possible s w x)) m
matches-possible (many r) w m = refl

-- some text that is not empty matches
abbrev pub Longer : Regex → Type 0
Longer r = (c : ℕ) × (w : List ℕ) × Matches r (c ∷ w)

-- a sequence has longer texts where its second part has
longer_right : (r s : Regex) (u : List ℕ) → Matches r u → Longer s → Longer (r · s)
longer_right r s [] m l = (l.0, l.1, ([], l.0 ∷ l.1, m, l.2, refl))
longer_right r s (d ∷ u) m l = (d, u ++ (l.0 ∷ l.1), (d ∷ u, l.0 ∷ l.1, m, l.2, refl))

-- what tests as longer matches a text with a character
pub longer-matches : (r : Regex) → longer r ≡ true → Longer r
longer-matches nothing e = absurd (false≢true e)
longer-matches empty e = absurd (false≢true e)
longer-matches (one k) e = (sample k, [], (sample k, e, refl))
longer-matches (r · s) e =
    let p = and_parts (possible r && possible s) (longer r || longer s) e in
    let q = and_parts (possible r) (possible s) p.0 in
    let u = possible-matches r q.0 in
    let v = possible-matches s q.1 in
    ⊎_elim
    (λ x. let l = longer-matches r x in (l.0, l.1 ++ v.0, (l.0 ∷ l.1, v.0, l.2, v.1, refl)))
    (λ x. longer_right r s u.0 u.1 (longer-matches s x))
    (or_cases (longer r) (longer s) p.1)
longer-matches (r ∣ s) e =
    ⊎_elim
    (λ x. let u = longer-matches r x in (u.0, u.1, inl u.2))
    (λ x. let u = longer-matches s x in (u.0, u.1, inr u.2))
    (or_cases (longer r) (longer s) e)
longer-matches (many r) e =
    let u = longer-matches r e in
    (u.0, u.1, ((u.0 ∷ u.1) ∷ [], (u.2, tt), sym (append-nil (u.0 ∷ u.1))))

-- what matches a text with a character tests as longer, so the test of beginnings is right
pub matches-longer : (r : Regex) (c : ℕ) (w : List ℕ) → Matches r (c ∷ w) → longer r ≡ true
matches-longer nothing c w m = absurd m
matches-longer empty c w m = absurd (no_cons c w (sym m))
matches-longer (one k) c w m = has-sample k m.0 m.1
matches-longer (r · s) c w m =
    and_from _ _ (and_from _ _ (matches-possible r m.0 m.2) (matches-possible s m.1 m.3))
    (⊎_elim
    (λ h. or_right _ _ (matches-longer s c w (subst (Matches s) h.1 m.3)))
    (λ h. or_left _ _ (matches-longer r c h.0 (subst (Matches r) h.1 m.2)))
    (split_first c w m.0 m.1 m.4))
matches-longer (r ∣ s) c w m = ⊎_elim (λ x. or_left _ _ (matches-longer r c w x)) (λ x. or_right _ _ (matches-longer s c w x)) m
matches-longer (many r) c w m =
    let p = first_part (Matches r) c w m.0 m.1 m.2 in
    matches-longer r c p.0 p.2
