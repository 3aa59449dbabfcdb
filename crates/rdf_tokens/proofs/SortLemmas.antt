-- A class tells characters apart by their sort alone: below 128 by a test of each, and from 128 on by their width.
use Rattle.rdf_tokens.proofs.Prelude.{◌≡◌, ℕ, ◌<◌, ◌≤◌, Bool, true, false, cond, List, [], ◌∷◌, ◌||◌, ◌&&◌, ◌==◌, nat_lt, refl, sym, ap, ◌∙◌, arith, ⊎_elim, AllByRecursion, agree_below, agree_below_at, and_parts, cond-false, cases_lt, le-ltb, ltb-true, false≢true, nat_tests, Class, has, is_base, within, the, digit, hex_digit, letter, letter_or_digit, iri_char, local_escape, escape_letter, plain_double, plain_single, long_double, long_single, pn_base, pn_u, pn_char, Lines, Turtle, Wide, Letter, Mark, Other, wide_of, sort_by, is_mark}
use Rattle.std.specs.Bool.{beq}
use Rattle.rdf_terms.specs.Classes.{scalar}

-- what a class says of a width
abbrev pub holds : Class → Wide → Bool
holds iri_char v = true
holds plain_double v = true
holds plain_single v = true
holds long_double v = true
holds long_single v = true
holds pn_base Letter = true
holds (pn_u d) Letter = true
holds (pn_char d) Letter = true
holds (pn_char d) Mark = true
holds k v = false

-- the class differs from character to character only below 128
abbrev pub is_low : Class → Bool
is_low (the x) = nat_lt x 128
is_low k = true

-- a character from U+0080 on is none of ASCII
false_at : (x c : ℕ) → x < 128 → 128 ≤ c → (c == x) ≡ false
false_at x c h l = grind (arith, nat_tests)

-- a character from U+0080 on is no digit
no_digit : (c : ℕ) → 128 ≤ c → within 48 57 c ≡ false
no_digit c l = grind (arith, nat_tests)

-- what is in PN_CHARS_BASE alone is known by the width of a character
letter_only : (k : Class) (b m : Bool) → holds k Letter ≡ true → holds k Mark ≡ false → holds k Other ≡ false → b ≡ holds k (cond b Letter (cond m Mark Other))
letter_only k true m x y z = sym x
letter_only k false true x y z = sym y
letter_only k false false x y z = sym z

-- or false changes nothing
or_false : (b : Bool) → (b || false) ≡ b
or_false true = refl
or_false false = refl

-- or, in another grouping
or_assoc : (a b c d : Bool) → (((a || b) || c) || d) ≡ (a || ((b || c) || d))
or_assoc true b c d = refl
or_assoc false b c d = refl

-- what is in PN_CHARS is known by the width of a character
letter_or_mark : (k : Class) (b m : Bool) → holds k Letter ≡ true → holds k Mark ≡ true → holds k Other ≡ false →
    (b || m) ≡ holds k (cond b Letter (cond m Mark Other))
letter_or_mark k true m x y z = sym x
letter_or_mark k false true x y z = sym y
letter_or_mark k false false x y z = sym z

-- a test of a character need not ask whether it is one
scalar_and : (c : ℕ) (b : Bool) → scalar c ≡ true → (scalar c && b) ≡ b
scalar_and c b s = ap (λ x. x && b) s

-- a name's character from 128 on is a letter or a mark
chars_at : (c : ℕ) (u : Bool) → 128 ≤ c → u ≡ is_base c →
    (((((u || c == 45) || within 48 57 c) || c == 0xB7) || within 0x300 0x36F c) || within 0x203F 0x2040 c) ≡ (is_base c || is_mark c)
chars_at c u l e =
    ap (λ x. ((((u || x) || within 48 57 c) || c == 0xB7) || within 0x300 0x36F c) || within 0x203F 0x2040 c) (false_at 45 c (omega arith) l)
    ∙ (ap (λ x. ((((u || false) || x) || c == 0xB7) || within 0x300 0x36F c) || within 0x203F 0x2040 c) (no_digit c l)
    ∙ (ap (λ x. ((x || c == 0xB7) || within 0x300 0x36F c) || within 0x203F 0x2040 c) (or_false (u || false) ∙ (or_false u ∙ e))
    ∙ or_assoc (is_base c) (c == 0xB7) (within 0x300 0x36F c) (within 0x203F 0x2040 c)))

-- from U+0080 on PN_CHARS_U is PN_CHARS_BASE
u_turtle : (c : ℕ) → 128 ≤ c → (is_base c || c == 95) ≡ is_base c
u_turtle c l = ap (λ x. is_base c || x) (false_at 95 c (omega arith) l) ∙ or_false (is_base c)

-- in the line formats too, since ":" is ASCII
u_lines : (c : ℕ) → 128 ≤ c → ((is_base c || c == 95) || c == 58) ≡ is_base c
u_lines c l = ap (λ x. (is_base c || c == 95) || x) (false_at 58 c (omega arith) l) ∙ (or_false (is_base c || c == 95) ∙ u_turtle c l)

-- from U+0080 on a class is a matter of the width alone
pub has-wide : (k : Class) (c : ℕ) → is_low k ≡ true → 128 ≤ c → scalar c ≡ true → has k c ≡ holds k (wide_of c)
unfolding has wide_of
has-wide (the x) c l h s = scalar_and c (c == x) s ∙ false_at x c (ltb-true x 128 l) h
has-wide digit c l h s = grind (arith, nat_tests)
has-wide hex_digit c l h s = grind (arith, nat_tests)
has-wide letter c l h s = grind (arith, nat_tests)
has-wide letter_or_digit c l h s = grind (arith, nat_tests)
has-wide local_escape c l h s = grind (arith, nat_tests)
has-wide escape_letter c l h s = grind (arith, nat_tests)
has-wide iri_char c l h s = grind (arith, nat_tests)
has-wide plain_double c l h s = grind (arith, nat_tests)
has-wide plain_single c l h s = grind (arith, nat_tests)
has-wide long_double c l h s = grind (arith, nat_tests)
has-wide long_single c l h s = grind (arith, nat_tests)
has-wide pn_base c l h s = scalar_and c _ s ∙ letter_only pn_base (is_base c) (is_mark c) refl refl refl
has-wide (pn_u Turtle) c l h s = scalar_and c _ s ∙ (u_turtle c h ∙ letter_only (pn_u Turtle) (is_base c) (is_mark c) refl refl refl)
has-wide (pn_u Lines) c l h s = scalar_and c _ s ∙ (u_lines c h ∙ letter_only (pn_u Lines) (is_base c) (is_mark c) refl refl refl)
has-wide (pn_char Turtle) c l h s =
    scalar_and c _ s ∙ (chars_at c (is_base c || c == 95) h (u_turtle c h) ∙ letter_or_mark (pn_char Turtle) (is_base c) (is_mark c) refl refl refl)
has-wide (pn_char Lines) c l h s =
    scalar_and c _ s ∙ (chars_at c ((is_base c || c == 95) || c == 58) h (u_lines c h) ∙ letter_or_mark (pn_char Lines) (is_base c) (is_mark c) refl refl refl)

-- A family's sorts serve its classes: each class agrees with a sample of the sort, at each character below 128 and at each width.
abbrev pub low_agrees : (ℕ → ℕ) → List Class → Bool
low_agrees canon [] = true
low_agrees canon (k ∷ ks) = agree_below (has k) (λ c. has k (canon c)) 128 && low_agrees canon ks

-- a representative of a width is in the classes that the width is in
abbrev pub high_agrees : (Wide → ℕ) → Wide → List Class → Bool
high_agrees rep v [] = true
high_agrees rep v (k ∷ ks) = is_low k && beq (holds k v) (has k (rep v)) && high_agrees rep v ks

-- characters of one sort are alike for the classes
abbrev pub Alike : (ℕ → ℕ) → Class → Type 0
Alike canon k = (c : ℕ) → scalar c ≡ true → has k c ≡ has k (canon c)

-- the test: each ASCII character, and each width, is in the same classes as what represents its sort
abbrev pub sorts_agree : {X : Type 0} → (ℕ → X) → (Wide → X) → (X → ℕ) → List Class → Bool
sorts_agree ascii high rep ks =
    low_agrees (λ c. rep (sort_by ascii high c)) ks
    && high_agrees (λ v. rep (high v)) Letter ks && high_agrees (λ v. rep (high v)) Mark ks && high_agrees (λ v. rep (high v)) Other ks

-- truth values that test as equal are
beq-eq : (a b : Bool) → beq a b ≡ true → a ≡ b
beq-eq true true e = refl
beq-eq false false e = refl
beq-eq true false e = absurd (false≢true e)
beq-eq false true e = absurd (false≢true e)

-- a character from U+0080 on is in a class where the representative of its sort is
at_width : {X : Type 0} → (ascii : ℕ → X) (high : Wide → X) (rep : X → ℕ) (k : Class) →
    ((v : Wide) → (is_low k && beq (holds k v) (has k (rep (high v)))) ≡ true) →
    (c : ℕ) → 128 ≤ c → scalar c ≡ true → has k c ≡ has k (rep (sort_by ascii high c))
at_width ascii high rep k h c l s =
    let p = and_parts _ _ (h (wide_of c)) in
    has-wide k c p.0 l s ∙ (beq-eq _ _ p.1 ∙ ap (λ x. has k (rep x)) (sym (cond-false (nat_lt c 128) (ascii c) (high (wide_of c)) (le-ltb c 128 l))))

-- no class of the list tells a character from the representative of its sort
pub all_alike : {X : Type 0} → (ascii : ℕ → X) (high : Wide → X) (rep : X → ℕ) (ks : List Class) → sorts_agree ascii high rep ks ≡ true →
    AllByRecursion (Alike (λ c. rep (sort_by ascii high c))) ks
all_alike ascii high rep ks e =
    let p = and_parts _ _ e in
    let q = and_parts _ _ p.0 in
    let r = and_parts _ _ q.0 in
    go ks r.0 r.1 q.1 p.1
  where
    widths : (k : Class) → (is_low k && beq (holds k Letter) (has k (rep (high Letter)))) ≡ true →
        (is_low k && beq (holds k Mark) (has k (rep (high Mark)))) ≡ true →
        (is_low k && beq (holds k Other) (has k (rep (high Other)))) ≡ true → (v : Wide) → (is_low k && beq (holds k v) (has k (rep (high v)))) ≡ true
    widths k a b c Letter = a
    widths k a b c Mark = b
    widths k a b c Other = c

    go : (ks : List Class) → low_agrees (λ c. rep (sort_by ascii high c)) ks ≡ true → high_agrees (λ v. rep (high v)) Letter ks ≡ true →
        high_agrees (λ v. rep (high v)) Mark ks ≡ true → high_agrees (λ v. rep (high v)) Other ks ≡ true →
        AllByRecursion (Alike (λ c. rep (sort_by ascii high c))) ks
    go [] a x y z = tt
    go (k ∷ ks) a x y z =
        let a' = and_parts _ _ a in
        let x' = and_parts _ _ x in
        let y' = and_parts _ _ y in
        let z' = and_parts _ _ z in (
          (λ c s. ⊎_elim
              (λ l. agree_below_at (has k) (λ c. has k (rep (sort_by ascii high c))) 128 c a'.0 l)
              (λ l. at_width ascii high rep k (widths k x'.0 y'.0 z'.0) c l s)
              (cases_lt c 128)),
          go ks a'.1 x'.1 y'.1 z'.1,
        )
