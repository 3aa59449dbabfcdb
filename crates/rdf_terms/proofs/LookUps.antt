-- Tables of sixteen bytes, looked up by half of each lane.
use Rattle.rdf_terms.proofs.Prelude.{◌≡◌, ℕ, ◌/◌, ◌%◌, ◌^◌, ◌<◌, List, [], ◌∷◌, length, map, get_or, replicate, bit_and, refl, sym, ap, subst, ◌∙◌, arith, Fits, w8, length-map, get_or-map, ext_get_or, zip2_splat, swz_l, SwzOk, SwzOk-from_below, length-swz_l, get_or-swz_l_below, Each1-get_or, Each1, zip2}
use Rattle.std.proofs.lemmas.Nat.{and_mask}

-- sixteen bytes
abbrev pub AreLanes : List ℕ → Type 0
AreLanes v = (length v ≡ 16) × Each1 (Fits w8) v

-- the lower halves
pub low_halves : (v : List ℕ) → length v ≡ 16 → zip2 bit_and v (replicate 16 15) ≡ map (λ b. b % 16) v
low_halves v long = zip2_splat bit_and v 16 15 long ∙ ap (λ f. map f v) (λ i b. and_mask b 4 i)

-- the upper halves
pub high_halves : (v : List ℕ) → length v ≡ 16 → zip2 (λ a b. a / 2 ^ b) v (replicate 16 4) ≡ map (λ b. b / 16) v
high_halves v long = zip2_splat (λ a b. a / 2 ^ b) v 16 4 long

-- places in the table, computed lane by lane
module _ (place : ℕ → ℕ) (small : (b : ℕ) → b < 256 → place b < 16) (v js : List ℕ) (lanes : AreLanes v) (are : js ≡ map place v) where
  each_small : (v : List ℕ) → Each1 (Fits w8) v → Each1 (λ j. j < 16) (map place v)
  each_small [] h = tt
  each_small (b ∷ bs) h = (small b h.0.fits, each_small bs h.1)

  -- they may be looked up
  pub may_look_up : SwzOk w8 16 16 0 js
  may_look_up =
      subst (SwzOk w8 16 16 0) (sym are)
      (SwzOk-from_below w8 16 1 16 0 (map place v) refl (omega (arith, length-map v place, lanes.0)) (each_small v lanes.1))

  -- and what stands there is found
  pub looked_up : (table : List ℕ) → swz_l w8 16 table 0 js ≡ map (λ b. get_or table (place b) 0) v
  looked_up table =
      let found : ℕ → ℕ = λ b. get_or table (place b) 0 in
      let long : length js ≡ 16 = ap length are ∙ length-map v place ∙ lanes.0 in
      ext_get_or 0 _ _ (length-swz_l w8 16 table 0 js ∙ long ∙ sym (length-map v found ∙ lanes.0)) (λ i h.
      let lt : i < 16 = omega (arith, length-swz_l w8 16 table 0 js) in
      let within : i < length v = omega (arith, lanes.0) in
      let is : get_or js i 0 ≡ place (get_or v i 0) = ap (λ l. get_or l i 0) are ∙ get_or-map place v i 0 0 within in
      let below : get_or js i 0 < 16 = omega (arith, small (get_or v i 0) (Each1-get_or (Fits w8) v i 0 within lanes.1).fits) in
      get_or-swz_l_below w8 16 table 0 js i (omega arith) below
      ∙ ap (λ k. get_or table k 0) (omega arith) ∙ sym (get_or-map found v i 0 0 within))
