-- The characters of a text, one by one.
use Rattle.rdf_terms.proofs.Prelude.{◌≡◌, ◌≤◌, ◌*◌, ℕ, List, [], ◌∷◌, ◌++◌, length, take, encode_utf8, refl, sym, ap, ◌∙◌, subst, arith, length-append, chars, IsUtf8, encode_utf8_all, take-append_seam, IsUtf8-past_char, IsUtf8-take, IsCharBoundary-at_seam, chars_past_char, chars-append, chars-nil, encodes-append, encodes-chars, len_utf8_bounds, length-encode}

-- a text that begins with a character
pub record Next (bytes rest : List ℕ) (c : ℕ) : Type 0 where
  pub chars : chars bytes ≡ c ∷ chars rest
  pub utf8 : IsUtf8 rest

-- a text that begins with the bytes of a character has that character first, which the loops over characters need
pub next_char : (bytes rest : List ℕ) (c : ℕ) → IsUtf8 bytes → bytes ≡ encode_utf8 c ++ rest → Next bytes rest c
next_char bytes rest c u e = record { chars = chars_past_char bytes rest c u e; utf8 = IsUtf8-past_char bytes rest c u e }

-- a list without length has nothing in it
empty_list : (w : List ℕ) → length w ≡ 0 → w ≡ []
empty_list [] e = refl
empty_list (c ∷ w) e = absurd (omega arith)

-- no bytes are no characters
pub no_chars : (bytes : List ℕ) → length bytes ≡ 0 → chars bytes ≡ []
no_chars bytes e = ap chars (empty_list bytes e) ∙ chars-nil

-- a text and one ASCII character after it
pub record Before (bytes front : List ℕ) (c : ℕ) : Type 0 where
  pub chars : chars bytes ≡ chars front ++ c ∷ []
  pub utf8 : IsUtf8 front

-- a text that ends in an ASCII byte has that character last
pub before_last : (bytes front : List ℕ) (c : ℕ) → IsUtf8 (c ∷ []) → chars (c ∷ []) ≡ c ∷ [] → IsUtf8 bytes → bytes ≡ front ++ c ∷ [] → Before bytes front c
before_last bytes front c k d u e =
    let cut : IsUtf8 (take (length front) bytes) = IsUtf8-take bytes (length front) u (IsCharBoundary-at_seam bytes front (c ∷ []) e k) in
    let utf8 : IsUtf8 front = subst IsUtf8 (ap (take (length front)) e ∙ take-append_seam front (c ∷ [])) cut in
    record { chars = ap chars e ∙ (chars-append front (c ∷ []) utf8 ∙ ap (λ x. chars front ++ x) d); utf8 = utf8 }

-- a text whose last character is ASCII ends in its byte
pub last_char : (bytes v : List ℕ) (c : ℕ) → encode_utf8_all (c ∷ []) ≡ c ∷ [] → IsUtf8 bytes → chars bytes ≡ v ++ c ∷ [] → bytes ≡ encode_utf8_all v ++ c ∷ []
last_char bytes v c k u e = sym (encodes-chars bytes u) ∙ (ap encode_utf8_all e ∙ (encodes-append v (c ∷ []) ∙ ap (λ x. encode_utf8_all v ++ x) k))

-- a character has at most four bytes
pub few_bytes : (w : List ℕ) → length (encode_utf8_all w) ≤ 4 * length w
few_bytes [] = omega arith
few_bytes (c ∷ w) = let a = len_utf8_bounds c in let r = few_bytes w in
    omega (arith, length-append (encode_utf8 c) (encode_utf8_all w), length-encode c, a.1, r)
