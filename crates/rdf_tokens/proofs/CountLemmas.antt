-- A text has as many characters as bytes that begin one.
use Rattle.rdf_tokens.proofs.Prelude.{◌≡◌, ℕ, ◌+◌, List, [], ◌∷◌, length, take, encode_utf8, refl, sym, ap, ◌∙◌, arith, take-add, count_by, cond, encode_utf8_all, nat_lt, chars, IsUtf8, nat_tests, sum_by-append, sum_by-cons, encodes-chars, encode, is_start}
use Rattle.std.specs.Simd.Lanes.{chunk}

-- a character has one of them
one_start : (c : ℕ) → count_by is_start (encode_utf8 c) ≡ 1
unfolding encode
one_start c = grind (arith, nat_tests)

-- of bytes, those that begin one are those below 128 and those that are not below 192
both_ends : (b : ℕ) → cond (is_start b) 1 0 + cond (nat_lt b 192) 1 0 ≡ cond (nat_lt b 128) 1 0 + 1
both_ends b = grind (arith, nat_tests)

pub starts-ends : (bs : List ℕ) → count_by is_start bs + count_by (λ b. nat_lt b 192) bs ≡ count_by (λ b. nat_lt b 128) bs + length bs
starts-ends [] = refl
starts-ends (b ∷ bs) =
    omega (
      arith,
      sum_by-cons (λ x. cond (is_start x) 1 0) b bs,
      sum_by-cons (λ x. cond (nat_lt x 192) 1 0) b bs,
      sum_by-cons (λ x. cond (nat_lt x 128) 1 0) b bs,
      both_ends b,
      starts-ends bs,
    )

-- the bytes before a place and those of one load after it, or one
pub starts-more : (bs : List ℕ) (at n : ℕ) → count_by is_start (take (at + n) bs) ≡ count_by is_start (take at bs) + count_by is_start (chunk at n bs)
starts-more bs at n = ap (count_by is_start) (take-add at n bs) ∙ sum_by-append (λ b. cond (is_start b) 1 0) (take at bs) (chunk at n bs)

-- so characters have as many as they are
many_starts : (w : List ℕ) → count_by is_start (encode_utf8_all w) ≡ length w
many_starts [] = refl
many_starts (c ∷ w) =
    let both = sum_by-append (λ b. cond (is_start b) 1 0) (encode_utf8 c) (encode_utf8_all w) in
    omega (arith, both, one_start c, many_starts w)

pub starts-chars : (bs : List ℕ) → IsUtf8 bs → count_by is_start bs ≡ length (chars bs)
starts-chars bs u = ap (count_by is_start) (sym (encodes-chars bs u)) ∙ many_starts (chars bs)
