-- Tables of hex digits and of the letters of ECHAR against their definitions.
use Rattle.rdf_terms.proofs.Prelude.{◌≡◌, ℕ, ◌<◌, ◌≤◌, Bool, true, false, ◌==◌, cond, refl, sym, ap, ◌∙◌, get_or, arith, ⊎_elim, agree_below_at, cases_Bool, ne_eqb, cond-true, cond-false, eqb-true, false≢true, nat_tests, has, hex_digit, digit_or_none, Move, leads, means, fails, hex_value, letter_move}
use Rattle.rdf_terms.specs.declared.escapes.TheConstants.{DIGITS, LETTERS}

-- the table of hex digits, by a test of each byte
pub table_digit : (b : ℕ) → b < 256 → get_or DIGITS b 0 ≡ digit_or_none b
unfolding has
table_digit b l = eqb-true _ _ (agree_below_at (λ b. get_or DIGITS b 0 == digit_or_none b) (λ _. true) 256 b refl l)

-- a hex digit counts at most 15
digit_small : (b : ℕ) → has hex_digit b ≡ true → hex_value b ≤ 15
unfolding has
digit_small b h = grind (arith, nat_tests)

-- it counts what it does
pub digit_value : (b : ℕ) → has hex_digit b ≡ true → (digit_or_none b ≡ hex_value b) × (hex_value b ≤ 15)
digit_value b h = (cond-true (has hex_digit b) (hex_value b) 65536 h, digit_small b h)

-- no other byte does
none_value : (b : ℕ) → has hex_digit b ≡ false → digit_or_none b ≡ 65536
none_value b h = cond-false (has hex_digit b) (hex_value b) 65536 h

-- a byte counts at most 65536
pub digit_most : (b : ℕ) → digit_or_none b ≤ 65536
digit_most b = ⊎_elim (λ h. let v = digit_value b h in omega (arith, v.0, v.1)) (λ h. omega (arith, none_value b h)) (cases_Bool (has hex_digit b))

-- one that counts less is a hex digit
pub digit_told : (b : ℕ) → digit_or_none b < 65536 → has hex_digit b ≡ true
digit_told b l = ⊎_elim (λ h. h) (λ h. absurd (omega (arith, none_value b h))) (cases_Bool (has hex_digit b))

-- whether two moves, neither of which leads on, are one
same_move : Move → Move → Bool
same_move fails fails = true
same_move (means a) (means b) = a == b
same_move _ _ = false

-- then they are equal
same_move-eq : (m n : Move) → same_move m n ≡ true → m ≡ n
unfolding same_move
same_move-eq fails fails e = refl
same_move-eq (means a) (means b) e = ap means (eqb-true a b e)
same_move-eq fails (leads s) e = absurd (false≢true e)
same_move-eq fails (means b) e = absurd (false≢true e)
same_move-eq (means a) fails e = absurd (false≢true e)
same_move-eq (means a) (leads s) e = absurd (false≢true e)
same_move-eq (leads s) n e = absurd (false≢true e)

-- the table of letters, by a test of each byte
pub table_letter : (b : ℕ) → b < 256 → cond (get_or LETTERS b 0 == 0) fails (means (get_or LETTERS b 0)) ≡ letter_move b
unfolding same_move
table_letter b l =
    same_move-eq _ _ (agree_below_at (λ b. same_move (cond (get_or LETTERS b 0 == 0) fails (means (get_or LETTERS b 0))) (letter_move b))
    (λ _. true) 256 b refl l)

-- so a byte whose entry is not 0 means that character
pub letter_told : (b : ℕ) → b < 256 → (get_or LETTERS b 0 ≡ 0 → ⊥) → means (get_or LETTERS b 0) ≡ letter_move b
letter_told b l n = sym (cond-false (get_or LETTERS b 0 == 0) fails (means (get_or LETTERS b 0)) (ne_eqb _ 0 n)) ∙ table_letter b l
