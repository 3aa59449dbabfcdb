-- Tests that show that two expressions have no text in common: by the characters that their texts begin with, or that they have.
use Rattle.rdf_terms.proofs.Prelude.{◌≡◌, ℕ, Bool, true, false, List, [], ◌∷◌, ◌++◌, ◌&&◌, ◌||◌, ◌==◌, ◌+◌, ◌-◌, ◌≤◌, refl, sym, ap, ◌∙◌, subst, ⊎_elim, arith, not, nat_le, concat, AllByRecursion, and_parts, or_cases, or_left, or_right, false≢true, not-true, eqb-true, leb-true, agree_below, agree_below_at, Class, has, one_of, is_digit, the, digit, Regex, Matches, nullable, nothing, empty, one, ◌·◌, ◌∣◌, many}
use Rattle.rdf_terms.specs.Classes.{scalar}
use Rattle.rdf_terms.proofs.RegexLemmas.{matches-nullable, split_first, first_part}

-- the classes of the first characters pass a test
abbrev pub starts : (Class → Bool) → Regex → Bool
starts ok nothing = true
starts ok empty = true
starts ok (one k) = ok k
starts ok (r · s) = starts ok r && (not (nullable r) || starts ok s)
starts ok (r ∣ s) = starts ok r && starts ok s
starts ok (many r) = starts ok r

-- a text with a character is not empty
no_first : (c : ℕ) (w : List ℕ) → c ∷ w ≡ [] → ⊥
no_first c w e = cc

-- an implication between truth values, from its test
not_or : (a b : Bool) → a ≡ true → (not a || b) ≡ true → b ≡ true
not_or true b e h = h
not_or false b e h = absurd (false≢true e)

-- what holds of the members of such classes holds of the first character of each text
pub starts-first : (P : ℕ → Type 0) (ok : Class → Bool) → ((k : Class) (c : ℕ) → ok k ≡ true → has k c ≡ true → P c) →
    (r : Regex) (c : ℕ) (w : List ℕ) → starts ok r ≡ true → Matches r (c ∷ w) → P c
starts-first P ok sound nothing c w e m = absurd m
starts-first P ok sound empty c w e m = absurd (no_first c w m)
starts-first P ok sound (one k) c w e m =
    let h : c ≡ m.0 = cc (m.2) in
    subst P (sym h) (sound k m.0 e m.1)
starts-first P ok sound (r · s) c w e m =
    let p = and_parts (starts ok r) (not (nullable r) || starts ok s) e in
    ⊎_elim
    (λ h. starts-first P ok sound s c w (not_or (nullable r) (starts ok s) (matches-nullable r (subst (Matches r) h.0 m.2)) p.1) (subst (Matches s) h.1 m.3))
    (λ h. starts-first P ok sound r c h.0 p.0 (subst (Matches r) h.1 m.2))
    (split_first c w m.0 m.1 m.4)
starts-first P ok sound (r ∣ s) c w e m =
    let p = and_parts (starts ok r) (starts ok s) e in
    ⊎_elim (λ x. starts-first P ok sound r c w p.0 x) (λ x. starts-first P ok sound s c w p.1 x) m
starts-first P ok sound (many r) c w e m =
    let p = first_part (Matches r) c w m.0 m.1 m.2 in
    starts-first P ok sound r c p.0 e p.2

-- the classes of all characters pass a test
abbrev pub within : (Class → Bool) → Regex → Bool
within ok nothing = true
within ok empty = true
within ok (one k) = ok k
within ok (r · s) = within ok r && within ok s
within ok (r ∣ s) = within ok r && within ok s
within ok (many r) = within ok r

-- some character of a list is in the text
abbrev pub meets : List ℕ → List ℕ → Bool
meets xs [] = false
meets xs (c ∷ w) = one_of xs c || meets xs w

-- two texts meet a set of characters where one of them does
meets-append : (xs u v : List ℕ) → meets xs (u ++ v) ≡ (meets xs u || meets xs v)
meets-append xs [] v = refl
meets-append xs (c ∷ u) v = ap (λ b. one_of xs c || b) (meets-append xs u v) ∙ assoc (one_of xs c) (meets xs u) (meets xs v)
  where
    assoc : (a b c : Bool) → (a || (b || c)) ≡ ((a || b) || c)
    assoc true b c = refl
    assoc false b c = refl

-- no member of the class is in the list
abbrev pub class_out : List ℕ → Class → Bool
class_out [] k = true
class_out (x ∷ xs) k = not (has k x) && class_out xs k

-- a class that tests as outside of a set has none of its characters
pub out-sound : (xs : List ℕ) (k : Class) (c : ℕ) → class_out xs k ≡ true → has k c ≡ true → one_of xs c ≡ false
out-sound [] k c e h = refl
out-sound (x ∷ xs) k c e h =
    let p = and_parts (not (has k x)) (class_out xs k) e in
    by (c == x) refl (out-sound xs k c p.1 h) (not-true (has k x) p.0)
  where
    by : (t : Bool) → (c == x) ≡ t → one_of xs c ≡ false → has k x ≡ false → (t || one_of xs c) ≡ false
    by true q e n = absurd (false≢true (sym n ∙ (ap (has k) (sym (eqb-true c x q)) ∙ h)))
    by false q e n = e

-- each member of the class is in the list
abbrev pub class_in : List ℕ → Class → Bool
class_in xs (the x) = one_of xs x
class_in xs digit = agree_below (λ n. one_of xs (48 + n)) (λ n. true) 10
class_in xs k = false

-- a class that tests as inside of a set has its characters alone
pub in-sound : (xs : List ℕ) (k : Class) (c : ℕ) → class_in xs k ≡ true → has k c ≡ true → one_of xs c ≡ true
unfolding has
in-sound xs (the x) c e h = ap (one_of xs) (eqb-true c x (and_parts (scalar c) (c == x) h).1) ∙ e
in-sound xs digit c e h =
    let p = and_parts (nat_le 48 c) (nat_le c 57) (and_parts (scalar c) (is_digit c) h).1 in
    let lo : 48 ≤ c = leb-true 48 c p.0 in
    let hi : c ≤ 57 = leb-true c 57 p.1 in
    let same : c ≡ 48 + (c - 48) = omega arith in
    ap (one_of xs) same ∙ agree_below_at (λ n. one_of xs (48 + n)) (λ n. true) 10 (c - 48) e (omega arith)
in-sound xs k c e h = absurd (false≢true e)

-- a repetition meets a set of characters only where a part does
none-met-parts : (xs : List ℕ) (P : List ℕ → Type 0) → ((u : List ℕ) → P u → meets xs u ≡ false) → (ps : List (List ℕ)) →
    AllByRecursion P ps → meets xs (concat ps) ≡ false
none-met-parts xs P h [] a = refl
none-met-parts xs P h (p ∷ ps) a = meets-append xs p (concat ps) ∙ (ap (λ b. b || meets xs (concat ps)) (h p a.0) ∙ none-met-parts xs P h ps a.1)

-- a text of such an expression has none of the characters
pub none-met : (xs : List ℕ) (r : Regex) (w : List ℕ) → within (class_out xs) r ≡ true → Matches r w → meets xs w ≡ false
none-met xs nothing w e m = absurd m
none-met xs empty w e m = ap (meets xs) m
none-met xs (one k) w e m = ap (meets xs) m.2 ∙ ap (λ b. b || false) (out-sound xs k m.0 e m.1)
none-met xs (r · s) w e m =
    let p = and_parts (within (class_out xs) r) (within (class_out xs) s) e in
    ap (meets xs) m.4 ∙ (meets-append xs m.0 m.1 ∙ (ap (λ b. b || meets xs m.1) (none-met xs r m.0 p.0 m.2) ∙ none-met xs s m.1 p.1 m.3))
none-met xs (r ∣ s) w e m =
    let p = and_parts (within (class_out xs) r) (within (class_out xs) s) e in
    ⊎_elim (λ x. none-met xs r w p.0 x) (λ x. none-met xs s w p.1 x) m
none-met xs (many r) w e m = ap (meets xs) m.2 ∙ none-met-parts xs (Matches r) (λ u n. none-met xs r u e n) m.0 m.1

-- each text has a character of the list
abbrev pub needs : List ℕ → Regex → Bool
needs xs nothing = true
needs xs empty = false
needs xs (one k) = class_in xs k
needs xs (r · s) = needs xs r || needs xs s
needs xs (r ∣ s) = needs xs r && needs xs s
needs xs (many r) = false

-- an expression that needs a character of a set has it in each text
pub some-met : (xs : List ℕ) (r : Regex) (w : List ℕ) → needs xs r ≡ true → Matches r w → meets xs w ≡ true
some-met xs nothing w e m = absurd m
some-met xs empty w e m = absurd (false≢true e)
some-met xs (one k) w e m = ap (meets xs) m.2 ∙ or_left _ _ (in-sound xs k m.0 e m.1)
some-met xs (r · s) w e m =
    ap (meets xs) m.4 ∙ (meets-append xs m.0 m.1
    ∙ ⊎_elim (λ h. or_left _ _ (some-met xs r m.0 h m.2)) (λ h. or_right _ _ (some-met xs s m.1 h m.3)) (or_cases (needs xs r) (needs xs s) e))
some-met xs (r ∣ s) w e m =
    let p = and_parts (needs xs r) (needs xs s) e in
    ⊎_elim (λ x. some-met xs r w p.0 x) (λ x. some-met xs s w p.1 x) m
some-met xs (many r) w e m = absurd (false≢true e)

-- the texts of one have a character of the list, and those of the other have none
abbrev pub parted : List ℕ → Regex → Regex → Bool
parted xs r s = (needs xs r && within (class_out xs) s) || (within (class_out xs) r && needs xs s)

-- expressions have no text in common, if one needs a character that the other cannot have
pub parted-apart : (xs : List ℕ) (r s : Regex) (w : List ℕ) → parted xs r s ≡ true → Matches r w → Matches s w → ⊥
parted-apart xs r s w e m n =
    ⊎_elim
    (λ h. let p = and_parts _ _ h in false≢true (sym (none-met xs s w p.1 n) ∙ some-met xs r w p.0 m))
    (λ h. let p = and_parts _ _ h in false≢true (sym (none-met xs r w p.0 m) ∙ some-met xs s w p.1 n))
    (or_cases (needs xs r && within (class_out xs) s) (within (class_out xs) r && needs xs s) e)

-- for one of the lists
abbrev pub parted_by : List (List ℕ) → Regex → Regex → Bool
parted_by [] r s = false
parted_by (xs ∷ more) r s = parted xs r s || parted_by more r s

-- expressions that one of several sets of characters sets apart have no text in common
pub parted_by-apart : (marks : List (List ℕ)) (r s : Regex) (w : List ℕ) → parted_by marks r s ≡ true → Matches r w → Matches s w → ⊥
parted_by-apart [] r s w e m n = false≢true e
parted_by-apart (xs ∷ more) r s w e m n =
    ⊎_elim (λ h. parted-apart xs r s w h m n) (λ h. parted_by-apart more r s w h m n) (or_cases (parted xs r s) (parted_by more r s) e)

-- the texts of one begin with a character of the list, and those of the other with none
pub begins-apart : (xs : List ℕ) (r s : Regex) (w : List ℕ) → nullable r ≡ false → starts (class_in xs) r ≡ true → starts (class_out xs) s ≡ true →
    Matches r w → Matches s w → ⊥
begins-apart xs r s [] z i o m n = false≢true (sym z ∙ matches-nullable r m)
begins-apart xs r s (c ∷ w) z i o m n =
    false≢true
    (sym (starts-first (λ c. one_of xs c ≡ false) (class_out xs) (out-sound xs) s c w o n)
    ∙ starts-first (λ c. one_of xs c ≡ true) (class_in xs) (in-sound xs) r c w i m)
