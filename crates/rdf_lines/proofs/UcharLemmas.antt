-- A character as UCHAR: its digits, its shape, and what it means.
use Rattle.rdf_lines.proofs.Prelude.{◌≡◌, ℕ, ◌+◌, ◌*◌, ◌/◌, ◌%◌, ◌^◌, ◌<◌, ◌≤◌, true, false, List, [], ◌∷◌, nat_le, inl, inr, length, refl, sym, ap, ◌∙◌, arith, AllByRecursion, cond_both, and_from, nat_tests, hex_digit, Regex, Matches, hex, all_have, Inside, hex_value, hex_number, MayMean, IsNumberEscape, Escapes, Ascii, hex_character, hex_digits, uchar, written}
use Rattle.rdf_terms.specs.Classes.{has, scalar}
use Rattle.rdf_terms.specs.Regex.{◌·◌}
use Rattle.rdf_terms.specs.Shapes as shapes
use Rattle.rdf_lines.specs.declared.form.Escapes.TheVariants.{Plain}

-- the digits of the two lengths
abbrev pub four : ℕ → List ℕ
four c = hex_digits (0x1000 ∷ 0x100 ∷ 0x10 ∷ 1 ∷ []) c

abbrev pub eight : ℕ → List ℕ
eight c = hex_digits (0x10000000 ∷ 0x1000000 ∷ 0x100000 ∷ 0x10000 ∷ 0x1000 ∷ 0x100 ∷ 0x10 ∷ 1 ∷ []) c

-- the test of the code, as an order
above : (c n : ℕ) → nat_le c n ≡ false → n < c
above c n e = grind (arith, nat_tests)

-- and its other half
within : (c n : ℕ) → nat_le c n ≡ true → c ≤ n
within c n e = grind (arith, nat_tests)

-- the forms that a written character has
pub written_cases : (e : Escapes) (P : List ℕ → Type 0) (c : ℕ) → P (c ∷ []) → (127 < c → P (uchar c)) → P (written e c)
written_cases Plain P c raw escape = raw
written_cases Ascii P c raw escape = cond_both (nat_le c 0x7F) (c ∷ []) (uchar c) P (λ h. raw) (λ h. escape (above c 127 h))

-- what holds of both forms of the escape holds of it
pub uchar_cases : (P : List ℕ → Type 0) (c : ℕ) → (c ≤ 0xFFFF → P (92 ∷ 117 ∷ four c)) → (0xFFFF < c → P (92 ∷ 85 ∷ eight c)) → P (uchar c)
uchar_cases P c short long =
    cond_both (nat_le c 0xFFFF) (92 ∷ 117 ∷ four c) (92 ∷ 85 ∷ eight c) P (λ h. short (within c 0xFFFF h)) (λ h. long (above c 0xFFFF h))

-- a digit
glyph_is : (d : ℕ) → d < 16 → has hex_digit (hex_character d) ≡ true
unfolding has
glyph_is d l = grind (arith, nat_tests)

-- a digit reads back as its number
glyph_value : (d : ℕ) → d < 16 → hex_value (hex_character d) ≡ d
glyph_value d l = grind (arith, nat_tests)

-- and is ASCII
glyph_low : (d : ℕ) → d < 16 → hex_character d < 128
glyph_low d l = grind (arith, nat_tests)

-- at each place stands a digit of HEX
digit_at : (c place : ℕ) → has hex_digit (hex_character (c / place % 16)) ≡ true
digit_at c place = glyph_is (c / place % 16) (omega arith)

-- so all that is written are digits of HEX
pub digits_are : (places : List ℕ) (c : ℕ) → all_have (has hex_digit) (hex_digits places c) ≡ true
digits_are [] c = refl
digits_are (p ∷ ps) c = and_from (has hex_digit (hex_character (c / p % 16))) (all_have (has hex_digit) (hex_digits ps c)) (digit_at c p) (digits_are ps c)

-- and ASCII
digits_low : (places : List ℕ) (c : ℕ) → AllByRecursion (λ d. d < 128) (hex_digits places c)
digits_low [] c = tt
digits_low (p ∷ ps) c = (glyph_low (c / p % 16) (omega arith), digits_low ps c)

-- an escape is of ASCII
pub uchar_low : (c : ℕ) → AllByRecursion (λ d. d < 128) (uchar c)
uchar_low c =
    uchar_cases (AllByRecursion (λ d. d < 128)) c
    (λ l. (omega arith, (omega arith, digits_low (0x1000 ∷ 0x100 ∷ 0x10 ∷ 1 ∷ []) c)))
    (λ l. (omega arith, (omega arith, digits_low (0x10000000 ∷ 0x1000000 ∷ 0x100000 ∷ 0x10000 ∷ 0x1000 ∷ 0x100 ∷ 0x10 ∷ 1 ∷ []) c)))

-- its shape
hex_then : (c place : ℕ) (r : Regex) (w : List ℕ) → Matches r w → Matches (hex · r) (hex_character (c / place % 16) ∷ w)
hex_then c place r w m = (hex_character (c / place % 16) ∷ [], w, (hex_character (c / place % 16), digit_at c place, refl), m, refl)

-- one digit, as the grammar has it
hex_last : (c place : ℕ) → Matches hex (hex_character (c / place % 16) ∷ [])
hex_last c place = (hex_character (c / place % 16), digit_at c place, refl)

-- as many digits as places, of which there is one at least
abbrev row : List ℕ → Regex
row [] = hex
row (p ∷ ps) = hex · row ps

-- a row of them
row_shape : (p : ℕ) (ps : List ℕ) (c : ℕ) → Matches (row ps) (hex_digits (p ∷ ps) c)
row_shape p [] c = hex_last c p
row_shape p (q ∷ qs) c = hex_then c p (row qs) (hex_digits (q ∷ qs) c) (row_shape q qs c)

-- so the escape is a UCHAR of the grammar
pub uchar_shape : (c : ℕ) → Matches shapes.uchar (uchar c)
unfolding has
uchar_shape c =
    uchar_cases (Matches shapes.uchar) c
    (λ l. inl (
      92 ∷ 117 ∷ [],
      four c,
      (92 ∷ [], 117 ∷ [], (92, refl, refl), (117 ∷ [], [], (117, refl, refl), refl, refl), refl),
      row_shape 0x1000 (0x100 ∷ 0x10 ∷ 1 ∷ []) c,
      refl,
    ))
    (λ l. inr (
      92 ∷ 85 ∷ [],
      eight c,
      (92 ∷ [], 85 ∷ [], (92, refl, refl), (85 ∷ [], [], (85, refl, refl), refl, refl), refl),
      row_shape 0x10000000 (0x1000000 ∷ 0x100000 ∷ 0x10000 ∷ 0x1000 ∷ 0x100 ∷ 0x10 ∷ 1 ∷ []) c,
      refl,
    ))

-- the number that the digits write
abbrev AreSixteens : List ℕ → Type 0
AreSixteens [] = Unit
AreSixteens (p ∷ ps) = (p ≡ 16 ^ length ps) × AreSixteens ps

abbrev number_at : List ℕ → ℕ → ℕ
number_at [] c = 0
number_at (p ∷ ps) c = c / p % 16 * p + number_at ps c

-- there is one digit for each place
length-digits : (ps : List ℕ) (c : ℕ) → length (hex_digits ps c) ≡ length ps
length-digits [] c = refl
length-digits (p ∷ ps) c = let h = length-digits ps c in omega arith

-- their number is the character's, as far as the places go
digits_number : (ps : List ℕ) (c : ℕ) → AreSixteens ps → hex_number (hex_digits ps c) ≡ number_at ps c
digits_number [] c a = refl
digits_number (p ∷ ps) c a =
    let rest = hex_number (hex_digits ps c) in
    ap (λ x. x * 16 ^ length (hex_digits ps c) + rest) (glyph_value (c / p % 16) (omega arith))
    ∙ (ap (λ x. c / p % 16 * 16 ^ x + rest) (length-digits ps c)
    ∙ (ap (λ x. c / p % 16 * x + rest) (sym a.0) ∙ ap (λ x. c / p % 16 * p + x) (digits_number ps c a.1)))

-- four places suffice up to U+FFFF
four_number : (c : ℕ) → c ≤ 0xFFFF → c ≡ hex_number (four c)
four_number c l =
    let whole : c ≡ number_at (0x1000 ∷ 0x100 ∷ 0x10 ∷ 1 ∷ []) c = omega arith in
    whole ∙ sym (digits_number (0x1000 ∷ 0x100 ∷ 0x10 ∷ 1 ∷ []) c (refl, (refl, (refl, (refl, tt)))))

-- eight suffice for every character
eight_number : (c : ℕ) → c < 0x100000000 → c ≡ hex_number (eight c)
eight_number c l =
    let whole : c ≡ number_at (0x10000000 ∷ 0x1000000 ∷ 0x100000 ∷ 0x10000 ∷ 0x1000 ∷ 0x100 ∷ 0x10 ∷ 1 ∷ []) c = omega arith in
    whole ∙ sym (digits_number (0x10000000 ∷ 0x1000000 ∷ 0x100000 ∷ 0x10000 ∷ 0x1000 ∷ 0x100 ∷ 0x10 ∷ 1 ∷ []) c
    (refl, (refl, (refl, (refl, (refl, (refl, (refl, (refl, tt)))))))))

-- a scalar value has no more than eight digits
scalar_bound : (c : ℕ) → scalar c ≡ true → c < 0x100000000
scalar_bound c h = grind (arith, nat_tests)

-- what it means
pub uchar_meant : (i : Inside) (c : ℕ) → scalar c ≡ true → MayMean i c → IsNumberEscape i (uchar c) c
uchar_meant i c s m =
    uchar_cases (λ w. IsNumberEscape i w c) c
    (λ l. (four c, inl (refl, refl), digits_are (0x1000 ∷ 0x100 ∷ 0x10 ∷ 1 ∷ []) c, four_number c l, s, m))
    (λ l. (
      eight c,
      inr (refl, refl),
      digits_are (0x10000000 ∷ 0x1000000 ∷ 0x100000 ∷ 0x10000 ∷ 0x1000 ∷ 0x100 ∷ 0x10 ∷ 1 ∷ []) c,
      eight_number c (scalar_bound c s),
      s,
      m,
    ))
