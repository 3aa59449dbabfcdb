-- Runs of bytes, from the lanes of a load to whole texts.
use Rattle.rdf_terms.proofs.Prelude.{◌≡◌, ℕ, zero, suc, ◌+◌, ◌-◌, ◌*◌, ◌/◌, ◌%◌, ◌^◌, ◌<◌, ◌≤◌, Bool, true, false, not, cond, ◌&&◌, ◌==◌, List, [], ◌∷◌, length, map, take, drop, get_or, refl, sym, ap, ap₂, subst, ◌∙◌, arith, ⊎_elim, Fits, w8, eqb-true, false≢true, agree_below, agree_below_at, not-true, not-false, and_from, cases_lt, eq-eqb, ne_eqb, length-map, drop-take, drop-drop, map-map, mask_l-mod, zip2_of_maps, run_in_chunk_le, run_in_chunk_fails, run_in_chunk_stops, length-chunk, leading_from_mask_l, trailing_mask_l, prefix_len, Each1, chunk, mask_l, top, zip2, all_have, PassBetween, IsRun, IsRunIn}
use Rattle.std.proofs.Math.Nat.{div-one, zero-div, pow-suc, mul_comm, div-div-eq-div-mul}
use lib.Count.{count_trailing_zeros}

-- the mask of lanes that were computed one by one, by a test of each of the 256 bytes
pub mask_within : (f : ℕ → ℕ) (p : ℕ → Bool) (v z : List ℕ) → length v ≤ 64 → Each1 (Fits w8) v → z ≡ map f v → agree_below (λ x. top 7 (f x)) p 256 ≡ true →
    mask_l (map (top 7) z) % 2 ^ 64 ≡ mask_l (map p v)
mask_within f p v z few fits e all =
    ap (λ l. mask_l l % 2 ^ 64) (ap (map (top 7)) e ∙ (map-map (top 7) f v ∙ same v fits)) ∙ mask_l-mod (map p v) 64 (omega (arith, length-map v p, few))
  where
    same : (v : List ℕ) → Each1 (Fits w8) v → map (λ x. top 7 (f x)) v ≡ map p v
    same [] t = refl
    same (x ∷ xs) t = ap₂ (λ a b. a ∷ b) (agree_below_at (λ x. top 7 (f x)) p 256 x all t.0.fits) (same xs t.1)

-- the same of sixteen lanes
pub mask_is : (f : ℕ → ℕ) (p : ℕ → Bool) (v z : List ℕ) → length v ≡ 16 → Each1 (Fits w8) v → z ≡ map f v → agree_below (λ x. top 7 (f x)) p 256 ≡ true →
    mask_l (map (top 7) z) % 2 ^ 64 ≡ mask_l (map p v)
mask_is f p v z long fits e all = mask_within f p v z (omega (arith, long)) fits e all

-- an operation on two vectors that were computed lane by lane from v
pub joined : (h : ℕ → ℕ → ℕ) (f g : ℕ → ℕ) (v : List ℕ) {a b : List ℕ} → a ≡ map f v → b ≡ map g v → zip2 h a b ≡ map (λ x. h (f x) (g x)) v
joined h f g v p q = zip2_of_maps h f g v p q

-- the bytes under a load, where so many lanes come before the first stop
pub run_in : (p : ℕ → Bool) (bs : List ℕ) (at n r : ℕ) → at + n ≤ length bs → r ≡ prefix_len (λ x. not (not (p x))) (chunk at n bs) → IsRunIn p bs at n r
run_in p bs at n r room counted =
    let q : ℕ → Bool = λ x. not (p x) in
    record {
      few = run_in_chunk_le q bs at n r 0 room counted;
      pass = λ k from to. not-false _ (run_in_chunk_fails q bs at n r 0 room counted k from to);
      stops = λ short. not-true _ (run_in_chunk_stops q bs at n r 0 room counted short);
    }

-- two runs in a row are one
pub pass-more : (p : ℕ → Bool) (bs : List ℕ) (at mid end : ℕ) → PassBetween p bs at mid → PassBetween p bs mid end → PassBetween p bs at end
pass-more p bs at mid end a b k from to = ⊎_elim (λ l. a k from l) (λ l. b k l to) (cases_lt k mid)

-- if all bytes pass between the ends, the text passes
all_pass : (p : ℕ → Bool) (bs : List ℕ) → PassBetween p bs 0 (length bs) → all_have p bs ≡ true
all_pass p [] h = refl
all_pass p (b ∷ bs) h = and_from (p b) (all_have p bs) (h 0 (omega arith) (omega arith)) (all_pass p bs (λ k from to. h (suc k) (omega arith) (omega arith)))

-- one byte that does not pass is enough for the text not to
pub one_fails : (p : ℕ → Bool) (bs : List ℕ) (k : ℕ) → k < length bs → p (get_or bs k 0) ≡ false → all_have p bs ≡ false
one_fails p [] k l e = absurd (omega arith)
one_fails p (b ∷ bs) zero l e = ap (λ t. t && all_have p bs) e
one_fails p (b ∷ bs) (suc k) l e = ap (λ t. p b && t) (one_fails p bs k (omega arith) e) ∙ and_no (p b)
  where
    and_no : (t : Bool) → (t && false) ≡ false
    and_no true = refl
    and_no false = refl

-- the last load overlaps what passed before it
pub last_decides : (p : ℕ → Bool) (bs : List ℕ) (last n at count : ℕ) → last + n ≡ length bs → last ≤ at → PassBetween p bs 0 at → IsRunIn p bs last n count →
    (count == n) ≡ all_have p bs
last_decides p bs last n at count whole over front r =
    ⊎_elim
    (λ (l : count < n). ne_eqb count n (λ e. omega (arith, e)) ∙ sym (one_fails p bs (last + count) (omega arith) (r.stops l)))
    (λ l. let all : count ≡ n = omega (arith, r.few) in
    eq-eqb count n all ∙ sym (all_pass p bs
    (pass-more p bs 0 last (length bs) (λ k from to. front k from (omega arith)) (λ k from to. r.pass k from (omega (arith, all))))))
    (cases_lt count n)

-- the first n bytes and the last decide, where they cover all
pub front_passes : (p : ℕ → Bool) (bs : List ℕ) (n first last : ℕ) → n ≤ length bs → length bs ≤ n + n → IsRunIn p bs 0 n first →
    IsRunIn p bs (length bs - n) n last → (first == n) ≡ true → (last == n) ≡ all_have p bs
front_passes p bs n first last short long front back e =
    let all : first ≡ n = eqb-true first n e in
    last_decides p bs (length bs - n) n n last (omega (arith, short)) (omega (arith, long)) (λ k from to. front.pass k from (omega (arith, all, to))) back

-- and the first n alone where one of them does not pass
pub front_fails : (p : ℕ → Bool) (bs : List ℕ) (n first : ℕ) → n ≤ length bs → IsRunIn p bs 0 n first → (first == n) ≡ false → false ≡ all_have p bs
front_fails p bs n first short front e =
    ⊎_elim
    (λ (l : first < n). sym (one_fails p bs (0 + first) (omega (arith, l, short)) (front.stops l)))
    (λ l. absurd (false≢true (sym e ∙ eq-eqb first n (omega (arith, l, front.few)))))
    (cases_lt first n)

-- the run from the first byte on ends with the text just where all bytes pass
pub run_decides : (p : ℕ → Bool) (bs : List ℕ) (end : ℕ) → IsRun p bs 0 end → (end == length bs) ≡ all_have p bs
run_decides p bs end r =
    ⊎_elim
    (λ (l : end < length bs). ne_eqb end (length bs) (λ e. omega (arith, e)) ∙ sym (one_fails p bs end l (r.stops l)))
    (λ l. let whole : end ≡ length bs = omega (arith, r.within) in
    eq-eqb end (length bs) whole ∙ sym (all_pass p bs (λ k from to. r.pass k from (omega arith))))
    (cases_lt end (length bs))

-- the mask of what does not pass among so many bytes from a place on
abbrev pub stop_mask : (ℕ → Bool) → List ℕ → ℕ → ℕ → ℕ
stop_mask p bs at n = mask_l (map (λ b. not (p b)) (chunk at n bs))

-- without a bit in the mask all bytes pass
pub none_stops : (p : ℕ → Bool) (bs : List ℕ) (at n : ℕ) → at + n ≤ length bs → stop_mask p bs at n ≡ 0 → IsRunIn p bs at n n
none_stops p bs at n room none =
    run_in p bs at n n room (sym (leading_from_mask_l (λ b. not (p b)) (chunk at n bs) none ∙ length-chunk at n bs room))

-- a mask with a bit has it below its length
set_below : (q : ℕ → Bool) (xs : List ℕ) → 0 < mask_l (map q xs) → prefix_len (λ x. not (q x)) xs < length xs
set_below q [] some = absurd (omega arith)
set_below q (x ∷ xs) some = by (q x) (mask_l (map q xs)) some (set_below q xs)
  where
    by : (b : Bool) (m : ℕ) → 0 < cond b 1 0 + 2 * m → (0 < m → prefix_len (λ y. not (q y)) xs < length xs) →
        cond (not b) (1 + prefix_len (λ y. not (q y)) xs) 0 < suc (length xs)
    by true m some rest = omega arith
    by false m some rest = omega (arith, rest (omega arith))

-- the lowest bit of the mask is the first byte that does not pass
module _ (p : ℕ → Bool) (bs : List ℕ) (at n : ℕ) (room : at + n ≤ length bs) (few : n ≤ 64) (some : 0 < stop_mask p bs at n) where
  counted : count_trailing_zeros 64 (stop_mask p bs at n) ≡ prefix_len (λ x. not (not (p x))) (chunk at n bs)
  counted = trailing_mask_l (λ b. not (p b)) 64 (chunk at n bs) (omega (arith, length-chunk at n bs room)) some

  pub one_stops : IsRunIn p bs at n (count_trailing_zeros 64 (stop_mask p bs at n))
  one_stops = run_in p bs at n _ room counted

  pub one_within : count_trailing_zeros 64 (stop_mask p bs at n) < n
  one_within = omega (arith, counted, set_below (λ b. not (p b)) (chunk at n bs) some, length-chunk at n bs room)

  pub one_ends : IsRun p bs at (at + count_trailing_zeros 64 (stop_mask p bs at n))
  one_ends = record {
    from = omega arith;
    within = omega (arith, one_within);
    pass = one_stops.pass;
    stops = λ _. one_stops.stops one_within;
  }

-- whether the mask has a bit says whether all bytes pass
pub lanes_decide : (p : ℕ → Bool) (bs : List ℕ) (at n m : ℕ) → at + n ≤ length bs → n ≤ 64 → m ≡ stop_mask p bs at n →
    (count : ℕ) × IsRunIn p bs at n count × ((m == 0) ≡ (count == n))
lanes_decide p bs at n m room few e =
    ⊎_elim
    (λ (l : 0 < m).
    let some : 0 < stop_mask p bs at n = omega (arith, e, l) in
    let k = count_trailing_zeros 64 (stop_mask p bs at n) in (
      k,
      one_stops p bs at n room few some,
      ne_eqb m 0 (λ z. omega (arith, z, l))
          ∙ sym (ne_eqb k n (λ z. omega (arith, z, one_within p bs at n room few some))),
    ))
    (λ l.
    let none : m ≡ 0 = omega (arith, l) in
    (n, none_stops p bs at n room (sym e ∙ none), eq-eqb m 0 none ∙ sym (eq-eqb n n refl)))
    (cases_lt 0 m)

-- a mask without its lowest bits is that of the bytes after them
mask-drop : (q : ℕ → Bool) (n : ℕ) (xs : List ℕ) → mask_l (map q xs) / 2 ^ n ≡ mask_l (map q (drop n xs))
mask-drop q zero xs = div-one (mask_l (map q xs))
mask-drop q (suc n) [] = zero-div (2 ^ suc n)
mask-drop q (suc n) (x ∷ xs) =
    let m = mask_l (map q (x ∷ xs)) in
    ap (λ k. m / k) (pow-suc 2 n ∙ mul_comm (2 ^ n) 2) ∙ sym (div-div-eq-div-mul m 2 (2 ^ n)) ∙ ap (λ k. k / 2 ^ n) (half (q x) (mask_l (map q xs)))
    ∙ mask-drop q n xs
  where
    half : (b : Bool) (m : ℕ) → (cond b 1 0 + 2 * m) / 2 ≡ m
    half true m = omega arith
    half false m = omega arith

-- the same of the bytes of a load
pub stop_mask-after : (p : ℕ → Bool) (bs : List ℕ) (at k m n : ℕ) → k + m ≡ n → stop_mask p bs at n / 2 ^ k ≡ stop_mask p bs (at + k) m
stop_mask-after p bs at k m n sum =
    let q : ℕ → Bool = λ b. not (p b) in
    ap (λ j. mask_l (map q (chunk at j bs)) / 2 ^ k) (sym sum)
    ∙ mask-drop q k (chunk at (k + m) bs)
    ∙ ap (λ l. mask_l (map q l)) (drop-take k m (drop at bs) ∙ ap (take m) (drop-drop k at bs))

-- a run goes on after bytes that all pass
pub run_after : (p : ℕ → Bool) (bs : List ℕ) (at mid end : ℕ) → at ≤ mid → PassBetween p bs at mid → IsRun p bs mid end → IsRun p bs at end
run_after p bs at mid end on front r = record {
  from = omega (arith, on, r.from);
  within = r.within;
  pass = pass-more p bs at mid end front r.pass;
  stops = r.stops;
}

-- the same after a load
pub run_on : (p : ℕ → Bool) (bs : List ℕ) (at n mid end : ℕ) → at + n ≡ mid → IsRunIn p bs at n n → IsRun p bs mid end → IsRun p bs at end
run_on p bs at n mid end sum front r = run_after p bs at mid end (omega (arith, sum)) (λ k from to. front.pass k from (omega (arith, sum))) r

-- the mask of sixteen bytes with a bit ends the run before the first bit, and the next run before the second
module _ (p : ℕ → Bool) (bs : List ℕ) (at m : ℕ) (room : at + 16 ≤ length bs) (is : m ≡ stop_mask p bs at 16) (some : 0 < m) where
  same : count_trailing_zeros 64 m ≡ count_trailing_zeros 64 (stop_mask p bs at 16)
  same = ap (count_trailing_zeros 64) is

  pub first_within : count_trailing_zeros 64 m < 16
  first_within = omega (arith, same, one_within p bs at 16 room (omega arith) (omega (arith, is, some)))

  pub first_ends : IsRun p bs at (at + count_trailing_zeros 64 m)
  first_ends = subst (λ k. IsRun p bs at (at + k)) (sym same) (one_ends p bs at 16 room (omega arith) (omega (arith, is, some)))

  pub others_are : m / 2 ^ (count_trailing_zeros 64 m + 1) ≡ stop_mask p bs (at + count_trailing_zeros 64 m + 1) (15 - count_trailing_zeros 64 m)
  others_are =
      let k = count_trailing_zeros 64 m + 1 in
      ap (λ n. n / 2 ^ k) is ∙ stop_mask-after p bs at k (15 - count_trailing_zeros 64 m) 16 (omega (arith, first_within))
      ∙ ap (λ j. stop_mask p bs j (15 - count_trailing_zeros 64 m)) (omega arith)

  pub second_beyond : (end : ℕ) → m / 2 ^ (count_trailing_zeros 64 m + 1) ≡ 0 → IsRun p bs (at + 16) end → IsRun p bs (at + count_trailing_zeros 64 m + 1) end
  second_beyond end none r =
      run_on p bs _ (15 - count_trailing_zeros 64 m) (at + 16) end (omega (arith, first_within))
      (none_stops p bs _ (15 - count_trailing_zeros 64 m) (omega (arith, first_within, room)) (sym others_are ∙ none)) r

  pub second_ends : 0 < m / 2 ^ (count_trailing_zeros 64 m + 1) → IsRun p bs (at + count_trailing_zeros 64 m + 1)
      (at + count_trailing_zeros 64 m + 1 + count_trailing_zeros 64 (m / 2 ^ (count_trailing_zeros 64 m + 1)))
  second_ends more =
      subst (λ o. IsRun p bs (at + count_trailing_zeros 64 m + 1) (at + count_trailing_zeros 64 m + 1 + count_trailing_zeros 64 o)) (sym others_are)
      (one_ends p bs _ (15 - count_trailing_zeros 64 m) (omega (arith, first_within, room)) (omega arith) (omega (arith, others_are, more)))

-- the bytes that are left are seen in a load with those before them, whose bits are shifted out of its mask
module _ (p : ℕ → Bool) (bs : List ℕ) (last from m : ℕ) (whole : last + 16 ≡ length bs) (over : last ≤ from) (within : from ≤ length bs)
    (is : m ≡ stop_mask p bs last 16) where
  left_are : m / 2 ^ (from - last) ≡ stop_mask p bs from (length bs - from)
  left_are =
      ap (λ n. n / 2 ^ (from - last)) is
      ∙ (stop_mask-after p bs last (from - last) (length bs - from) 16 (omega (arith, whole, over, within))
      ∙ ap (λ j. stop_mask p bs j (length bs - from)) (omega (arith, over)))

  pub none_left : m / 2 ^ (from - last) ≡ 0 → IsRun p bs from (length bs)
  none_left none =
      let r = none_stops p bs from (length bs - from) (omega (arith, within)) (sym left_are ∙ none) in
      record {
        from = within;
        within = omega arith;
        pass = λ k a b. r.pass k a (omega (arith, b, within));
        stops = λ short. absurd (omega (arith, short));
      }

  pub some_left : 0 < m / 2 ^ (from - last) → IsRun p bs from (from + count_trailing_zeros 64 (m / 2 ^ (from - last)))
  some_left some =
      subst (λ h. IsRun p bs from (from + count_trailing_zeros 64 h)) (sym left_are)
      (one_ends p bs from (length bs - from) (omega (arith, within)) (omega (arith, whole, over)) (omega (arith, left_are, some)))
