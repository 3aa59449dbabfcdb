-- Lines without their CRs, run by run.
use Rattle.rdf_stream.proofs.Prelude.{◌≡◌, ◌++◌, ◌+◌, ◌-◌, ◌<◌, ℕ, zero, suc, List, [], ◌∷◌, ◌==◌, true, false, not, length, take, drop, length-take, sym, ap, refl, ◌∙◌, arith, slice_index, cond-true, cond-false, take-length, drop-drop, length-drop, take-append-le, without_crs}
use Rattle.rdf_lines.specs.WrittenBytes.{BeginsWith}

-- up to the first CR the bytes stay
pub first_cr : (w : List ℕ) (at : ℕ) → ((k : ℕ) → k < at → (slice_index w k == 13) ≡ false) → (slice_index w at == 13) ≡ true → at < length w →
    without_crs w ≡ take at w ++ without_crs (drop (suc at) w)
first_cr [] at f e l = absurd (omega arith)
first_cr (b ∷ w) zero f e l = cond-false (not (b == 13)) (b ∷ without_crs w) (without_crs w) (ap not e)
first_cr (b ∷ w) (suc n) f e l =
    cond-true (not (b == 13)) (b ∷ without_crs w) (without_crs w) (ap not (f 0 (omega arith)))
    ∙ ap (λ x. b ∷ x) (first_cr w n (λ k h. f (suc k) (omega arith)) e (omega arith))

-- where there is none, they all do
pub no_cr : (w : List ℕ) → ((k : ℕ) → k < length w → (slice_index w k == 13) ≡ false) → without_crs w ≡ w
no_cr [] f = refl
no_cr (b ∷ w) f =
    cond-true (not (b == 13)) (b ∷ without_crs w) (without_crs w) (ap not (f 0 (omega arith)))
    ∙ ap (λ x. b ∷ x) (no_cr w (λ k h. f (suc k) (omega arith)))

-- all from a place on
pub slice_rest : (w : List ℕ) (n : ℕ) → take (length w - n) (drop n w) ≡ drop n w
slice_rest w n = ap (λ k. take k (drop n w)) (sym (length-drop n w)) ∙ take-length (drop n w)

-- all that comes after the byte at a place
pub after_one : (w : List ℕ) (n : ℕ) →
    (let rest = take (length w - n) (drop n w) in take (length rest - 1) (drop 1 rest)) ≡ drop (n + 1) w
after_one w n = slice_rest (take (length w - n) (drop n w)) 1 ∙ (ap (drop 1) (slice_rest w n) ∙ drop-drop 1 n w)

-- what begins so still does where more is appended
pub begins_more : (a b c w : List ℕ) → BeginsWith a b → c ≡ b ++ w → BeginsWith a c
begins_more a b c w h e = ap (take (length a)) e ∙ (take-append-le (length a) b w (omega (arith, ap length h, length-take (length a) b)) ∙ h)
