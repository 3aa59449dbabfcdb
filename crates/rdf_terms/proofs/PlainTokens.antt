-- Tokens whose bytes tell that they are fit: those between the delimiters have a value.
use Rattle.rdf_terms.proofs.Prelude.{◌≡◌, ℕ, zero, suc, ◌+◌, ◌-◌, ◌<◌, true, List, [], ◌∷◌, ◌++◌, is_some, sym, ap, ◌∙◌, length, get_or, take, slice_range, length-append, arith, chars, IsUtf8, IsAscii, take-suc, take-append_seam, chars-append, chars-IsAscii, encode_ascii, IsCharBoundary-before_ascii, IsUtf8-from_ascii, IsUtf8-take, IriRef, ShortString, Inside, of_iri, of_string, outside, inside, is_fit, iri_value, string_value, value}
use Rattle.rdf_terms.proofs.CharsLemmas.{next_char}
use Rattle.rdf_terms.proofs.ValueBytes.{value-bytes}

-- one byte of ASCII is a text
ascii_one : (x : ℕ) → x < 128 → IsAscii (x ∷ [])
ascii_one x l zero = l
ascii_one x l (suc i) = omega arith

-- what stands between two delimiters of ASCII: as bytes it is UTF-8, and as characters it is the inside of the token
record Between (x : ℕ) (t : List ℕ) (n : ℕ) : Type 0 where
  utf8 : IsUtf8 (take n t)
  inside : inside 1 (chars (take (n + 2) (x ∷ t))) ≡ chars (take n t)

-- it is so of a text that is UTF-8
between : (x : ℕ) (t : List ℕ) (n : ℕ) → IsUtf8 (x ∷ t) → x < 128 → n < length t → get_or t n 0 < 128 → Between x t n
between x t n u l m h =
    let y = get_or t n 0 in
    let r = take n t in
    let rest = (next_char (x ∷ t) t x u (ap (λ w. w ++ t) (sym (encode_ascii x l)))).utf8 in
    let front : IsUtf8 r = IsUtf8-take t n rest (IsCharBoundary-before_ascii t n m h) in
    let k : n + 2 ≡ suc (suc n) = omega arith in
    let bytes : take (n + 2) (x ∷ t) ≡ (x ∷ []) ++ (r ++ y ∷ []) = ap (λ k. take k (x ∷ t)) k ∙ ap (λ w. x ∷ w) (take-suc t n 0 m) in
    let first = ascii_one x l in
    let last = ascii_one y h in
    let text : chars (take (n + 2) (x ∷ t)) ≡ x ∷ (chars r ++ y ∷ []) = ap chars bytes
    ∙ (chars-append (x ∷ []) (r ++ y ∷ []) (IsUtf8-from_ascii (x ∷ []) first)
    ∙ (ap (λ w. w ++ chars (r ++ y ∷ [])) (chars-IsAscii (x ∷ []) first)
    ∙ ap (λ w. x ∷ w) (chars-append r (y ∷ []) front ∙ ap (λ w. chars r ++ w) (chars-IsAscii (y ∷ []) last)))) in
    let long : suc (length (chars r ++ y ∷ [])) - 2 ≡ length (chars r) = omega (arith, length-append (chars r) (y ∷ [])) in
    record {
      utf8 = front;
      inside = ap (inside 1) text ∙ (ap (λ k. take k (chars r ++ y ∷ [])) long ∙ take-append_seam (chars r) (y ∷ []));
    }

-- A text within two delimiters of ASCII has a value if its bytes have one.
valued : (i : Inside) (bs : List ℕ) (end : ℕ) → IsUtf8 bs → 0 < end → end < length bs → get_or bs 0 0 < 128 → get_or bs end 0 < 128 →
    is_some (value i outside (slice_range bs 1 end)) ≡ true → is_some (value i outside (inside 1 (chars (take (end + 1) bs)))) ≡ true
valued i [] end u p l m h v = absurd (omega arith)
valued i (x ∷ t) zero u p l m h v = absurd (omega arith)
valued i (x ∷ t) (suc n) u p l m h v =
    let b = between x t n u m (omega arith) h in
    let whole : suc n + 1 ≡ n + 2 = omega arith in
    let long : n ≡ suc n - 1 = omega arith in
    ap (λ k. is_some (value i outside (inside 1 (chars (take k (x ∷ t)))))) whole
    ∙ (ap (λ w. is_some (value i outside w)) b.inside ∙ (sym (value-bytes i (take n t) b.utf8) ∙ (ap (λ k. is_some (value i outside (take k t))) long ∙ v)))

-- an IRIREF is fit if its bytes between the brackets have a value
pub valued_iri_fit : (bs : List ℕ) (end : ℕ) → IsUtf8 bs → 0 < end → end < length bs → get_or bs 0 0 < 128 → get_or bs end 0 < 128 →
    is_some (iri_value (slice_range bs 1 end)) ≡ true → is_fit IriRef (chars (take (end + 1) bs)) ≡ true
unfolding is_fit
valued_iri_fit bs end u p l m h v = valued of_iri bs end u p l m h v

-- a string is fit if its bytes between the quotes have a value
pub valued_string_fit : (bs : List ℕ) (end : ℕ) → IsUtf8 bs → 0 < end → end < length bs → get_or bs 0 0 < 128 → get_or bs end 0 < 128 →
    is_some (string_value (slice_range bs 1 end)) ≡ true → is_fit ShortString (chars (take (end + 1) bs)) ≡ true
unfolding is_fit
valued_string_fit bs end u p l m h v = valued of_string bs end u p l m h v
