-- A scheme by the bytes of a text: all that it has are ASCII.
use Rattle.rdf_terms.proofs.Prelude.{◌≡◌, ℕ, ◌<◌, ◌≤◌, Bool, true, false, List, [], ◌∷◌, ◌++◌, ◌&&◌, ◌||◌, ◌==◌, nat_lt, ◌⊎◌, inl, inr, ⊎_elim, refl, sym, ap, ◌∙◌, length, arith, IsUtf8, and_parts, cases_lt, eqb-true, false≢true, nat_tests, chars-nil, encode_ascii, chars, is_digit, is_letter, is_http, has_scheme, scheme_goes_on}
use Rattle.rdf_terms.proofs.CharsLemmas.{Next, next_char}
use Rattle.rdf_terms.proofs.EscapesLemmas.{high_first}

-- a text that begins with an ASCII byte has that character first
ascii_next : (c : ℕ) (t : List ℕ) → c < 128 → IsUtf8 (c ∷ t) → Next (c ∷ t) t c
ascii_next c t l u = next_char (c ∷ t) t c u (ap (λ x. x ++ t) (sym (encode_ascii c l)))

-- nothing from 128 on stands in a scheme, or begins one
none_high : (c : ℕ) (w : List ℕ) → 128 ≤ c → (scheme_goes_on (c ∷ w) ≡ false) × (has_scheme (c ∷ w) ≡ false)
none_high c w l =
    let colon : (c == 58) ≡ false = grind (arith, nat_tests) in
    let other : (is_letter c || is_digit c || c == 43 || c == 45 || c == 46) ≡ false = grind (arith, nat_tests) in
    let letter : is_letter c ≡ false = grind (arith, nat_tests) in (
      ap (λ t. t || ((is_letter c || is_digit c || c == 43 || c == 45 || c == 46) && scheme_goes_on w)) colon ∙ ap (λ t. t && scheme_goes_on w) other,
      ap (λ t. t && scheme_goes_on w) letter,
    )

-- what comes after a scheme's first letter, by characters and by bytes
rest_by_bytes : (bs : List ℕ) → IsUtf8 bs → scheme_goes_on (chars bs) ≡ scheme_goes_on bs
rest_by_bytes [] u = ap scheme_goes_on chars-nil
rest_by_bytes (c ∷ t) u = ⊎_elim (low (λ v. rest_by_bytes t v)) high (cases_lt c 128)
  where
    low : (IsUtf8 t → scheme_goes_on (chars t) ≡ scheme_goes_on t) → c < 128 → scheme_goes_on (chars (c ∷ t)) ≡ scheme_goes_on (c ∷ t)
    low rest l =
        let n = ascii_next c t l u in
        ap scheme_goes_on n.chars ∙ ap (λ b. c == 58 || ((is_letter c || is_digit c || c == 43 || c == 45 || c == 46) && b)) (rest n.utf8)

    high : 128 ≤ c → scheme_goes_on (chars (c ∷ t)) ≡ scheme_goes_on (c ∷ t)
    high l =
        let h = high_first (c ∷ t) 0 (omega arith) u l in
        ap scheme_goes_on h.2 ∙ ((none_high h.0 h.1 h.3).0 ∙ sym (none_high c t l).0)

-- a scheme, by characters and by bytes
pub scheme_by_bytes : (bs : List ℕ) → IsUtf8 bs → has_scheme (chars bs) ≡ has_scheme bs
scheme_by_bytes [] u = ap has_scheme chars-nil
scheme_by_bytes (c ∷ t) u = ⊎_elim low high (cases_lt c 128)
  where
    low : c < 128 → has_scheme (chars (c ∷ t)) ≡ has_scheme (c ∷ t)
    low l = let n = ascii_next c t l u in ap has_scheme n.chars ∙ ap (λ b. is_letter c && b) (rest_by_bytes t n.utf8)

    high : 128 ≤ c → has_scheme (chars (c ∷ t)) ≡ has_scheme (c ∷ t)
    high l =
        let h = high_first (c ∷ t) 0 (omega arith) u l in
        ap has_scheme h.2 ∙ ((none_high h.0 h.1 h.3).1 ∙ sym (none_high c t l).1)

-- six bytes, one by one, and those after them
same_six : {h a b p c d h' a' b' p' c' d' : ℕ} (t : List ℕ) → h ≡ h' → a ≡ a' → b ≡ b' → p ≡ p' → c ≡ c' → d ≡ d' →
    h ∷ a ∷ b ∷ p ∷ c ∷ d ∷ t ≡ h' ∷ a' ∷ b' ∷ p' ∷ c' ∷ d' ∷ t
same_six t x y z w v r = cc

-- a byte is itself
same : (d : ℕ) → d ≡ d
same d = refl

-- one of two tests holds
either : (a b : Bool) → (a || b) ≡ true → (a ≡ true) ⊎ (b ≡ true)
either true b e = inl refl
either false b e = inr e

-- the bytes that are looked for first are a scheme
pub http_scheme : (bs : List ℕ) → is_http bs ≡ true → has_scheme bs ≡ true
http_scheme (h ∷ a ∷ b ∷ p ∷ c ∷ d ∷ t) e =
    let fifth = (c == 58) || ((c == 115) && d == 58) in
    let fourth = (p == 112) && fifth in
    let third = (b == 116) && fourth in
    let second = (a == 116) && third in
    let long : Bool = nat_lt 5 (length {A = ℕ} (h ∷ a ∷ b ∷ p ∷ c ∷ d ∷ t)) in
    let e0 : ((h == 104) && second) ≡ true = (and_parts long ((h == 104) && second) e).1 in
    let e1 = and_parts (h == 104) second e0 in
    let e2 = and_parts (a == 116) third e1.1 in
    let e3 = and_parts (b == 116) fourth e2.1 in
    let e4 = and_parts (p == 112) fifth e3.1 in
    go (eqb-true h 104 e1.0) (eqb-true a 116 e2.0) (eqb-true b 116 e3.0) (eqb-true p 112 e4.0) (either (c == 58) ((c == 115) && d == 58) e4.1)
  where
    go : h ≡ 104 → a ≡ 116 → b ≡ 116 → p ≡ 112 → ((c == 58) ≡ true) ⊎ (((c == 115) && d == 58) ≡ true) → has_scheme (h ∷ a ∷ b ∷ p ∷ c ∷ d ∷ t) ≡ true
    go x y z w (inl e) = ap has_scheme (same_six t x y z w (eqb-true c 58 e) (same d))
    go x y z w (inr e) = let q = and_parts (c == 115) _ e in ap has_scheme (same_six t x y z w (eqb-true c 115 q.0) (eqb-true d 58 q.1))
http_scheme bs e = absurd (false≢true e)
