-- Places after bytes, and after the characters that they spell.
use Rattle.rdf_tokens.proofs.Prelude.{◌≡◌, ℕ, ◌+◌, ◌/◌, ◌%◌, ◌≤◌, cond, List, [], ◌∷◌, ◌++◌, ◌==◌, refl, sym, ap, ◌∙◌, ⊎_elim, arith, length-append, cases_lt, nat_tests, sum_by-append, chars-encodes, length-encode, encode, encodes, len_utf8, count_by, chars, IsUtf8, Place, past, end_of, beyond}
use Rattle.rdf_tokens.proofs.GoodLemmas.{encode_one, encode_two, encode_three, encode_four}

-- how many line feeds there are
abbrev feeds : List ℕ → ℕ
feeds bytes = count_by (λ b. b == 10) bytes

-- places are equal where offset and line are
place_same : {m n k l : ℕ} → m ≡ n → k ≡ l → (let p : Place = record { offset = m; line = k } in p) ≡ record { offset = n; line = l }
place_same a b = cc

-- line feeds of two texts are counted in each
pub feeds-append : (u v : List ℕ) → count_by (λ b. b == 10) (u ++ v) ≡ count_by (λ b. b == 10) u + count_by (λ b. b == 10) v
feeds-append u v = sum_by-append (λ b. cond (b == 10) 1 0) u v

-- a place moves over two texts as over both together
pub beyond-append : (p : Place) (u v : List ℕ) → beyond (beyond p u) v ≡ beyond p (u ++ v)
beyond-append p u v = place_same (omega (arith, length-append u v)) (omega (arith, feeds-append u v))

-- the place after all bytes moves on by the bytes that are added
pub end_of-append : (u v : List ℕ) → beyond (end_of u) v ≡ end_of (u ++ v)
end_of-append u v = place_same (omega (arith, length-append u v)) (omega (arith, feeds-append u v))

-- a line feed is its own byte
feeds-encode : (c : ℕ) → count_by (λ b. b == 10) (encode c) ≡ cond (c == 10) 1 0
feeds-encode c =
    ⊎_elim
    (λ a. let e : feeds (c ∷ []) ≡ cond (c == 10) 1 0 = one (cond (c == 10) 1 0) in ap feeds (encode_one c a) ∙ e)
    (λ a. ⊎_elim
    (λ b. ap feeds (encode_two c a b) ∙ many c a (two (192 + c / 64) (128 + c % 64) (omega arith) (omega arith)))
    (λ b. ⊎_elim
    (λ d. ap feeds (encode_three c b d) ∙ many c a (three (224 + c / 4096) (128 + (c / 64) % 64) (128 + c % 64) (omega arith) (omega arith) (omega arith)))
    (λ d. ap feeds (encode_four c d) ∙ many c a (four (240 + c / 262144) (128 + (c / 4096) % 64) (128 + (c / 64) % 64) (128 + c % 64)
    (omega arith) (omega arith) (omega arith) (omega arith)))
    (cases_lt c 65536))
    (cases_lt c 2048))
    (cases_lt c 128)
  where
    one : (n : ℕ) → 0 + n ≡ n
    one n = omega arith

    many : (c : ℕ) → 128 ≤ c → {n : ℕ} → n ≡ 0 → n ≡ cond (c == 10) 1 0
    many c a e = grind (arith, nat_tests)

    two : (a b : ℕ) → 128 ≤ a → 128 ≤ b → feeds (a ∷ b ∷ []) ≡ 0
    two a b p q = grind (arith, nat_tests)

    three : (a b c : ℕ) → 128 ≤ a → 128 ≤ b → 128 ≤ c → feeds (a ∷ b ∷ c ∷ []) ≡ 0
    three a b c p q r = grind (arith, nat_tests)

    four : (a b c d : ℕ) → 128 ≤ a → 128 ≤ b → 128 ≤ c → 128 ≤ d → feeds (a ∷ b ∷ c ∷ d ∷ []) ≡ 0
    four a b c d p q r s = grind (arith, nat_tests)

-- a line feed is one byte, so lines may be counted in bytes
feeds-encodes : (cs : List ℕ) → count_by (λ b. b == 10) (encodes cs) ≡ count_by (λ c. c == 10) cs
feeds-encodes [] = refl
feeds-encodes (c ∷ cs) =
    let one : feeds (c ∷ []) ≡ cond (c == 10) 1 0 = plus (cond (c == 10) 1 0) in
    feeds-append (encode c) (encodes cs)
    ∙ (ap (λ n. n + feeds (encodes cs)) (feeds-encode c ∙ sym one)
    ∙ (ap (λ n. feeds (c ∷ []) + n) (feeds-encodes cs) ∙ sym (feeds-append (c ∷ []) cs)))
  where
    plus : (n : ℕ) → 0 + n ≡ n
    plus n = omega arith

-- a text has as many line feeds as its bytes
pub feeds-chars : (bytes : List ℕ) → IsUtf8 bytes → count_by (λ b. b == 10) bytes ≡ count_by (λ c. c == 10) (chars bytes)
feeds-chars bytes u = ap feeds (sym u.1.1) ∙ (feeds-encodes u.0 ∙ ap feeds (sym (ap chars (sym u.1.1) ∙ chars-encodes u.0 u.1.0)))

-- a place moves over characters as over their bytes
pub past-encodes : (p : Place) (cs : List ℕ) → past p cs ≡ beyond p (encodes cs)
past-encodes p [] = place_same (omega arith) (omega arith)
past-encodes p (c ∷ cs) =
    past-encodes (record { offset = p.offset + len_utf8 c; line = p.line + cond (c == 10) 1 0 }) cs
    ∙ (ap (λ q. beyond q (encodes cs)) (place_same (ap (λ n. p.offset + n) (sym (length-encode c))) (ap (λ n. p.line + n) (sym (feeds-encode c))))
    ∙ beyond-append p (encode c) (encodes cs))

-- the place after a text is that after its bytes
pub past-chars : (p : Place) (bytes : List ℕ) → IsUtf8 bytes → past p (chars bytes) ≡ beyond p bytes
past-chars p bytes u =
    ap (past p) (ap chars (sym u.1.1) ∙ chars-encodes u.0 u.1.0) ∙ (past-encodes p u.0 ∙ ap (beyond p) u.1.1)
