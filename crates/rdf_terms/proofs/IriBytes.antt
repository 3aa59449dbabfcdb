-- The characters of IRIREF by the bytes of a text: what it excludes is ASCII.
use Rattle.rdf_terms.proofs.Prelude.{◌≡◌, ℕ, suc, ◌<◌, ◌≤◌, Bool, true, false, List, [], ◌∷◌, ◌++◌, ◌&&◌, ◌||◌, refl, sym, ap, ◌∙◌, ⊎_elim, length, get_or, arith, encode_utf8, IsUtf8, encode_utf8_all, nat_le, chars, and_parts, and_from, cases_lt, nat_tests, append-nil, encode_ascii, inside_one, scalars-chars, encodes-chars, scalars, has, member, iri_byte, iri_char, all_have}
use Rattle.rdf_terms.specs.Classes.{scalar}

-- IRIREF excludes no character from U+0080 on
pub high_char : (c : ℕ) → 128 ≤ c → member iri_char c ≡ true
high_char c l = grind (arith, nat_tests)

-- so no byte of such a character is excluded
high_byte : (b : ℕ) → 128 ≤ b → iri_byte b ≡ true
high_byte b l = grind (arith, nat_tests)

-- bytes from 128 on pass a test, if each such number does
pub all_high : (test : ℕ → Bool) → ((b : ℕ) → 128 ≤ b → test b ≡ true) → (xs : List ℕ) → ((k : ℕ) → k < length xs → 128 ≤ get_or xs k 0) →
    all_have test xs ≡ true
all_high test f [] h = refl
all_high test f (b ∷ xs) h = and_from (test b) (all_have test xs) (f b (h 0 (omega arith))) (all_high test f xs (λ k l. h (suc k) (omega arith)))

-- no byte of a character from 128 on is ASCII
pub high_bytes : (c : ℕ) → 128 ≤ c → (k : ℕ) → k < length (encode_utf8 c) → 128 ≤ get_or (encode_utf8 c) k 0
high_bytes c l k m =
    ⊎_elim
    (λ (h : get_or (encode_utf8 c) k 0 < 128). let e = inside_one c [] (encode_utf8 c) k (sym (append-nil (encode_utf8 c))) m h in absurd (omega (arith, e)))
    (λ h. h)
    (cases_lt (get_or (encode_utf8 c) k 0) 128)

-- a character may stand in an IRI where all of its bytes may
one_char : (c : ℕ) → scalar c ≡ true → all_have iri_byte (encode_utf8 c) ≡ has iri_char c
unfolding has
one_char c s = ⊎_elim low high (cases_lt c 128)
  where
    same : (m : Bool) → ((false || m) && true) ≡ (true && m)
    same true = refl
    same false = refl

    low : c < 128 → all_have iri_byte (encode_utf8 c) ≡ (scalar c && member iri_char c)
    low l =
        let e : nat_le 128 c ≡ false = grind (arith, nat_tests) in
        ap (all_have iri_byte) (encode_ascii c l)
        ∙ (ap (λ t. (t || member iri_char c) && true) e ∙ (same (member iri_char c) ∙ ap (λ t. t && member iri_char c) (sym s)))

    high : 128 ≤ c → all_have iri_byte (encode_utf8 c) ≡ (scalar c && member iri_char c)
    high l = all_high iri_byte high_byte (encode_utf8 c) (high_bytes c l) ∙ sym (and_from (scalar c) (member iri_char c) s (high_char c l))

-- a test of two texts is one of each
pub have-append : (test : ℕ → Bool) (u v : List ℕ) → all_have test (u ++ v) ≡ (all_have test u && all_have test v)
have-append test [] v = refl
have-append test (c ∷ u) v = ap (λ t. test c && t) (have-append test u v) ∙ assoc (test c) (all_have test u) (all_have test v)
  where
    assoc : (a b c : Bool) → (a && (b && c)) ≡ ((a && b) && c)
    assoc true b c = refl
    assoc false b c = refl

-- what std calls a character is one here
pub scalar_same : (c : ℕ) → scalars (c ∷ []) ≡ true → scalar c ≡ true
scalar_same c e = grind (arith, nat_tests)

-- so a text may be tested by its bytes
all_chars : (w : List ℕ) → scalars w ≡ true → all_have iri_byte (encode_utf8_all w) ≡ all_have (has iri_char) w
all_chars [] s = refl
all_chars (c ∷ w) s =
    let p = and_parts _ _ s in
    have-append iri_byte (encode_utf8 c) (encode_utf8_all w)
    ∙ (ap (λ t. t && all_have iri_byte (encode_utf8_all w)) (one_char c (scalar_same c (ap (λ b. b && true) p.0)))
    ∙ ap (λ t. has iri_char c && t) (all_chars w p.1))

-- whether a str has IRI characters alone may be tested byte by byte
pub iri_bytes : (bs : List ℕ) → IsUtf8 bs → all_have iri_byte bs ≡ all_have (has iri_char) (chars bs)
iri_bytes bs u = ap (all_have iri_byte) (sym (encodes-chars bs u)) ∙ all_chars (chars bs) (scalars-chars bs u)
