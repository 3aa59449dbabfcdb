-- The table has the two digits of each number below 100.
use Rattle.rdf_lines.proofs.Prelude.{◌≡◌, ℕ, zero, suc, ◌+◌, ◌-◌, ◌*◌, ◌/◌, ◌%◌, ◌<◌, Bool, true, ◌&&◌, T, eqb, [], ◌∷◌, get_or, inl, inr, arith, eq-zero-or-pos, eqb→eq, two_digits}
use lib.Ieee.Fits.{and_l, and_r}
use Rattle.rdf_lines.specs.declared.writer.digits.TheConstants.{PAIRS}

-- it has those of each number below n
abbrev are_pairs : ℕ → Bool
are_pairs zero = true
are_pairs (suc p) = (eqb (get_or PAIRS (p * 2) 0) (48 + p / 10) && eqb (get_or PAIRS (p * 2 + 1) 0) (48 + p % 10)) && are_pairs p

below : (n p : ℕ) → T (are_pairs n) → p < n → get_or PAIRS (p * 2) 0 ∷ get_or PAIRS (p * 2 + 1) 0 ∷ [] ≡ two_digits p
below zero p t h = absurd (omega arith)
below (suc n) p t h =
    elim (eq-zero-or-pos (n - p)) [
      | inl z ↦
          let e : p ≡ n = omega arith in
          let both = and_l _ (are_pairs n) t in
          let tens : get_or PAIRS (n * 2) 0 ≡ 48 + n / 10 = eqb→eq _ _ (and_l _ _ both) in
          let ones : get_or PAIRS (n * 2 + 1) 0 ≡ 48 + n % 10 = eqb→eq _ _ (and_r _ _ both) in
          rw e (rw (tens, ones))
      | inr g ↦ below n p (and_r _ (are_pairs n) t) (omega arith)
    ]

pub pair_at : (p : ℕ) → p < 100 → get_or PAIRS (p * 2) 0 ∷ get_or PAIRS (p * 2 + 1) 0 ∷ [] ≡ two_digits p
pair_at p h = below 100 p tt h
