-- UCHARs in bytes: their digits, the number that these write, and what they mean in a string or an IRI.
use Rattle.rdf_terms.proofs.Prelude.{◌≡◌, ℕ, zero, suc, ◌+◌, ◌-◌, ◌*◌, ◌^◌, ◌<◌, ◌≤◌, ◌⊎◌, inl, inr, Bool, true, false, ◌==◌, nat_le, List, Option, Some, None, option_map, cond, refl, sym, ap, ◌∙◌, subst, get_or, take, drop, length, length-drop, arith, ⊎_elim, slice_range, IfSome, SomeIff, IsUtf8, and_parts, cases_Bool, cases_lt, cond-true, cond-false, eqb-true, leb-true, false≢true, nat_tests, drop_more, length-take-le, has, hex_digit, hex_number, PassBetween, allowed_in, begins, may_mean, value_after, IsHexes, IsRead, IsUchar, IsUcharOf, Reads, UcharAt, Inside, of_string, of_iri, outside, slash, Move, leads, means, fails, allowed, digit_move, echar_move, hex_value, move}
use Rattle.std.specs.Char.{IsScalar}
use Rattle.rdf_terms.specs.Classes.{scalar}
use Rattle.rdf_terms.proofs.EscapesLemmas.{no_digit, reads_letter, std_scalar, step_byte, step_digit, utf8_byte, utf8_digit}
use Rattle.rdf_terms.proofs.PiecesLemmas.{from_none, so_far}

-- the first of some hex digits, and those after it
first_digit : (bs : List ℕ) (from next n worth : ℕ) → from + suc n ≤ length bs → next ≡ from + 1 → 16 ^ n ≡ worth →
    hex_number (take (suc n) (drop from bs)) ≡ hex_value (get_or bs from 0) * worth + hex_number (take n (drop next bs))
first_digit bs from next n worth l e w =
    let b = get_or bs from 0 in
    let rest = take n (drop (from + 1) bs) in
    let long : length rest ≡ n = length-take-le n (drop (from + 1) bs) (omega (arith, length-drop (from + 1) bs)) in
    ap (λ x. hex_number (take (suc n) x)) (drop_more bs from 0 (omega arith))
    ∙ (ap (λ k. hex_value b * 16 ^ k + hex_number rest) long
    ∙ (ap (λ k. hex_value b * k + hex_number rest) w ∙ ap (λ j. hex_value b * worth + hex_number (take n (drop j bs))) (sym e)))

-- what four digits at a place write
pub four_written : (bs : List ℕ) (from : ℕ) → from + 4 ≤ length bs →
    16 * (16 * (16 * hex_value (get_or bs from 0) + hex_value (get_or bs (from + 1) 0)) + hex_value (get_or bs (from + 2) 0))
    + hex_value (get_or bs (from + 3) 0)
    ≡ hex_number (take 4 (drop from bs))
four_written bs from l =
    omega (
      arith,
      first_digit bs from (from + 1) 3 4096 l refl refl,
      first_digit bs (from + 1) (from + 2) 2 256 (omega arith) (omega arith) refl,
      first_digit bs (from + 2) (from + 3) 1 16 (omega arith) (omega arith) refl,
      first_digit bs (from + 3) (from + 4) 0 1 (omega arith) (omega arith) refl,
    )

-- what eight do
pub eight_written : (bs : List ℕ) (from : ℕ) → from + 8 ≤ length bs →
    65536 * hex_number (take 4 (drop from bs)) + hex_number (take 4 (drop (from + 4) bs)) ≡ hex_number (take 8 (drop from bs))
eight_written bs from l =
    omega (
      arith,
      first_digit bs from (from + 1) 7 268435456 l refl refl,
      first_digit bs (from + 1) (from + 2) 6 16777216 (omega arith) (omega arith) refl,
      first_digit bs (from + 2) (from + 3) 5 1048576 (omega arith) (omega arith) refl,
      first_digit bs (from + 3) (from + 4) 4 65536 (omega arith) (omega arith) refl,
      four_written bs from (omega arith),
    )

-- four hex digits stand at a place, by each of them
pub four_pass : (bs : List ℕ) (at : ℕ) → has hex_digit (get_or bs at 0) ≡ true → has hex_digit (get_or bs (at + 1) 0) ≡ true →
    has hex_digit (get_or bs (at + 2) 0) ≡ true → has hex_digit (get_or bs (at + 3) 0) ≡ true → PassBetween (has hex_digit) bs at (at + 4)
four_pass bs at p q r s k from to =
    let here : (j : ℕ) → has hex_digit (get_or bs j 0) ≡ true → j ≡ k → has hex_digit (get_or bs k 0) ≡ true =
    λ j x e. subst (λ i. has hex_digit (get_or bs i 0) ≡ true) e x in
    ⊎_elim (λ (x : k < at + 1). here at p (omega arith))
    (λ x. ⊎_elim (λ (y : k < at + 2). here (at + 1) q (omega arith))
    (λ y. ⊎_elim (λ (z : k < at + 3). here (at + 2) r (omega arith)) (λ z. here (at + 3) s (omega arith)) (cases_lt k (at + 3)))
    (cases_lt k (at + 2)))
    (cases_lt k (at + 1))

-- twice as many, by each four
eight_pass : (bs : List ℕ) (at : ℕ) → PassBetween (has hex_digit) bs at (at + 4) → PassBetween (has hex_digit) bs (at + 4) (at + 4 + 4) →
    PassBetween (has hex_digit) bs at (at + 8)
eight_pass bs at p q k from to = ⊎_elim (λ (x : k < at + 4). p k from x) (λ x. q k x (omega arith)) (cases_lt k (at + 4))

-- the digits of a text between two places are so many
slice_count : (bs : List ℕ) (from count end : ℕ) → end ≡ from + count → slice_range bs from end ≡ take count (drop from bs)
slice_count bs from count end e = let n : end - from ≡ count = omega arith in ap (λ k. take k (drop from bs)) n

-- what begins so stands within the bytes
begun : (bs : List ℕ) (at letter room : ℕ) → begins bs at letter room ≡ true → (at + room ≤ length bs) × (get_or bs at 0 ≡ 92) × (get_or bs (at + 1) 0 ≡ letter)
begun bs at letter room h =
    let p = and_parts (nat_le (at + room) (length bs)) _ h in
    let q = and_parts (get_or bs at 0 == 92) _ p.1 in
    (leb-true (at + room) (length bs) p.0, eqb-true (get_or bs at 0) 92 q.0, eqb-true (get_or bs (at + 1) 0) letter q.1)

-- a character of std is one
our_scalar : (c : ℕ) → IsScalar c → scalar c ≡ true
our_scalar c h = grind (arith, nat_tests)

-- where it begins and its digits write a number, the character with that number is found, or there is none
uchar_found : (letter count : ℕ) (bs : List ℕ) (at end n : ℕ) (o : Option ℕ) → end ≡ at + 2 + count → begins bs at letter (2 + count) ≡ true →
    PassBetween (has hex_digit) bs (at + 2) (at + 2 + count) → n ≡ hex_number (take count (drop (at + 2) bs)) → SomeIff o (IsScalar n) n →
    UcharAt (IsUcharOf letter count) bs at (option_map (λ c. (c, end)) o)
uchar_found letter count bs at end n None e b p w s = λ j u.
    s (std_scalar n (subst (λ m. scalar m ≡ true) (ap hex_number (slice_count bs (at + 2) count j u.digits.ends) ∙ sym w) u.character))
uchar_found letter count bs at end n (Some c) e b p w s =
    let r = begun bs at letter (2 + count) b in
    let number = w ∙ sym (ap hex_number (slice_count bs (at + 2) count end e)) in (
      record {
        slash = r.1;
        letter = r.2;
        digits = record { ends = e; within = omega (arith, r.0); hexes = λ k x y. p k x (omega (arith, y)) };
        character = subst (λ m. scalar m ≡ true) number (our_scalar n s.0);
      },
      s.1 ∙ number,
    )

-- so with four digits
pub short_found : (bs : List ℕ) (at n : ℕ) (o : Option ℕ) → begins bs at 117 6 ≡ true → PassBetween (has hex_digit) bs (at + 2) (at + 2 + 4) →
    n ≡ hex_number (take 4 (drop (at + 2) bs)) → SomeIff o (IsScalar n) n → UcharAt (IsUcharOf 117 4) bs at (option_map (λ c. (c, at + 6)) o)
short_found bs at n o b p w s = uchar_found 117 4 bs at (at + 6) n o (omega arith) b p w s

-- and with twice as many
pub long_found : (bs : List ℕ) (at m n : ℕ) (o : Option ℕ) → begins bs at 85 10 ≡ true → PassBetween (has hex_digit) bs (at + 2) (at + 2 + 4) →
    m ≡ hex_number (take 4 (drop (at + 2) bs)) → PassBetween (has hex_digit) bs (at + 6) (at + 6 + 4) → n ≡ hex_number (take 4 (drop (at + 6) bs)) →
    SomeIff o (IsScalar (65536 * m + n)) (65536 * m + n) → UcharAt (IsUcharOf 85 8) bs at (option_map (λ c. (c, at + 10)) o)
long_found bs at m n o b p v q w s =
    let four : at + 6 ≡ at + 2 + 4 = omega arith in
    let room = (begun bs at 85 10 b).0 in
    let back = w ∙ ap (λ k. hex_number (take 4 (drop k bs))) four in
    uchar_found 85 8 bs at (at + 10) (65536 * m + n) o (omega arith) b
    (eight_pass bs (at + 2) p (subst (λ k. PassBetween (has hex_digit) bs k (k + 4)) four q))
    (ap (λ k. 65536 * k + n) v ∙ (ap (λ k. 65536 * hex_number (take 4 (drop (at + 2) bs)) + k) back ∙ eight_written bs (at + 2) (omega arith))) s

-- What the digits of a UCHAR mean.
-- So many hex digits stand at a place, and the value is that after their number.
record DigitsRead (i : Inside) (bs : List ℕ) (k n at : ℕ) : Type 0 where
  hexes : IsHexes bs at k (at + k)
  utf8 : IsUtf8 (drop (at + k) bs)
  value : value_after i (digit_move i k n) bs at ≡ value_after i (digit_move i 0 (so_far n (take k (drop at bs)))) bs (at + k)

-- they do, or there is no value
digits_read : (i : Inside) (bs : List ℕ) (k n at : ℕ) → at ≤ length bs → IsUtf8 (drop at bs) →
    ((IsHexes bs at k (at + k) → ⊥) × (value_after i (digit_move i k n) bs at ≡ None)) ⊎ DigitsRead i bs k n at
digits_read i bs zero n at l u =
    let z : at ≡ at + 0 = omega arith in
    inr (record {
      hexes = record { ends = refl; within = omega arith; hexes = λ j a b. absurd (omega arith) };
      utf8 = subst (λ j. IsUtf8 (drop j bs)) z u;
      value = ap (value_after i (digit_move i 0 n) bs) z;
    })
digits_read i bs (suc k) n at l u = ⊎_elim
    (λ (x : at < length bs). ⊎_elim
    (λ h. here x h (digits_read i bs k (16 * n + hex_value (get_or bs at 0)) (at + 1) (omega arith) (utf8_digit bs at x u h)))
    (λ h. other (λ p. false≢true (sym h ∙ p.1)))
    (cases_Bool (has hex_digit (get_or bs at 0))))
    (λ x. other (λ p. absurd (omega (arith, p.0))))
    (cases_lt at (length bs))
  where
    Result : Type 0
    Result = ((IsHexes bs at (suc k) (at + suc k) → ⊥) × (value_after i (digit_move i (suc k) n) bs at ≡ None)) ⊎ DigitsRead i bs (suc k) n at

    other : ((at < length bs) × (has hex_digit (get_or bs at 0) ≡ true) → ⊥) → Result
    other f = inl (
      λ h. f (omega (arith, h.within), h.hexes at (omega arith) (omega arith)),
      no_digit i (suc k) n bs at (omega arith) u f,
    )

    first : ℕ
    first = 16 * n + hex_value (get_or bs at 0)

    step : at < length bs → has hex_digit (get_or bs at 0) ≡ true → value_after i (digit_move i (suc k) n) bs at ≡ value_after i (digit_move i k first) bs (at + 1)
    step x h = let e : suc k - 1 ≡ k = omega arith in
        step_digit i (suc k) n bs at (omega arith) u x h ∙ ap (λ j. value_after i (digit_move i j first) bs (at + 1)) e

    here : at < length bs → has hex_digit (get_or bs at 0) ≡ true →
        ((IsHexes bs (at + 1) k (at + 1 + k) → ⊥) × (value_after i (digit_move i k first) bs (at + 1) ≡ None)) ⊎ DigitsRead i bs k first (at + 1) → Result
    here x h (inl p) = inl (
      λ g. p.0 (record { ends = refl; within = omega (arith, g.within); hexes = λ j a b. g.hexes j (omega arith) (omega arith) }),
      step x h ∙ p.1,
    )
    here x h (inr d) =
        let e : at + 1 + k ≡ at + suc k = omega arith in
        inr (record {
          hexes = record {
            ends = refl;
            within = omega (arith, d.hexes.within);
            hexes = λ j a b. ⊎_elim
                (λ (y : at < j). d.hexes.hexes j (omega arith) (omega arith))
                (λ y. let s : at ≡ j = omega arith in subst (λ m. has hex_digit (get_or bs m 0) ≡ true) s h)
                (cases_lt at j);
          };
          utf8 = subst (λ j. IsUtf8 (drop j bs)) e d.utf8;
          value = step x h
              ∙ (d.value
              ∙ (ap (value_after i (digit_move i 0 (so_far first (take k (drop (at + 1) bs)))) bs) e
              ∙ ap (λ w. value_after i (digit_move i 0 (so_far n (take (suc k) w))) bs (at + suc k)) (sym (drop_more bs at 0 x))));
        })

-- what an escape with this letter and so many digits means: nothing, or the character that they write, where it may be meant
abbrev UcharRead : Inside → ℕ → ℕ → List ℕ → ℕ → Type 0
UcharRead i letter count bs at =
    let end = at + 2 + count in
    ((IsUcharOf letter count bs at end → ⊥) × (value_after i (leads outside) bs at ≡ None))
    ⊎ (IsUcharOf letter count bs at end × IsUtf8 (drop end bs)
    × (value_after i (leads outside) bs at ≡ value_after i (allowed i (hex_number (slice_range bs (at + 2) end))) bs end))

uchar_read : (i : Inside) (letter count : ℕ) (bs : List ℕ) (at : ℕ) → letter < 128 → move i slash letter ≡ digit_move i count 0 → at + 1 < length bs →
    IsUtf8 (drop at bs) → get_or bs at 0 ≡ 92 → get_or bs (at + 1) 0 ≡ letter → UcharRead i letter count bs at
uchar_read i letter count bs at low m l u a b = ⊎_elim
    (λ p. inl (λ x. p.0 x.digits, begun_so ∙ p.1))
    (λ d. by d (cases_Bool (scalar c)))
    (digits_read i bs count 0 from (omega arith) (subst (λ k. IsUtf8 (drop k bs)) two w))
  where
    from : ℕ
    from = at + 2

    end : ℕ
    end = from + count

    c : ℕ
    c = hex_number (slice_range bs from end)

    two : at + 1 + 1 ≡ from
    two = omega arith

    v : IsUtf8 (drop (at + 1) bs)
    v = utf8_byte 92 bs at (omega arith) u a (omega arith)

    w : IsUtf8 (drop (at + 1 + 1) bs)
    w = utf8_byte letter bs (at + 1) l v b low

    begun_so : value_after i (leads outside) bs at ≡ value_after i (digit_move i count 0) bs from
    begun_so =
        step_byte i outside 92 bs at (omega arith) u a (omega arith)
        ∙ (step_byte i slash letter bs (at + 1) l v b low
        ∙ (ap (λ n. value_after i n bs (at + 1 + 1)) m ∙ ap (value_after i (digit_move i count 0) bs) two))

    moved : (d : DigitsRead i bs count 0 from) (m : Move) → digit_move i 0 c ≡ m → value_after i (leads outside) bs at ≡ value_after i m bs end
    moved d m f =
        let number = from_none (take count (drop from bs)) ∙ sym (ap hex_number (slice_count bs from count end refl)) in
        begun_so ∙ (d.value ∙ ap (λ m. value_after i m bs end) (ap (digit_move i 0) number ∙ f))

    by : DigitsRead i bs count 0 from → (scalar c ≡ true) ⊎ (scalar c ≡ false) → UcharRead i letter count bs at
    by d (inl s) = inr (
      record { slash = a; letter = b; digits = d.hexes; character = s },
      d.utf8,
      moved d (allowed i c) (cond-true (scalar c) (allowed i c) fails s),
    )
    by d (inr s) = inl (λ n. false≢true (sym s ∙ n.character), moved d fails (cond-false (scalar c) (allowed i c) fails s))

-- a character that is meant where it may be
allowed_is : (i : Inside) (c : ℕ) (t : Bool) → may_mean i c ≡ t → allowed i c ≡ cond t (means c) fails
allowed_is of_string c true e = refl
allowed_is of_string c false e = absurd (false≢true (sym e))
allowed_is of_iri c t e = ap (λ b. cond b (means c) fails) e

-- an escape was read up to this place
reads_allowed : (i : Inside) (bs : List ℕ) (at c end : ℕ) → at ≤ end → end ≤ length bs → IsUtf8 (drop end bs) → scalar c ≡ true →
    value_after i (leads outside) bs at ≡ value_after i (allowed i c) bs end → Reads i (leads outside) bs at (allowed_in i (Some (c, end)))
reads_allowed i bs at c end f l u s e = by (may_mean i c) refl
  where
    by : (t : Bool) → may_mean i c ≡ t → Reads i (leads outside) bs at (cond (may_mean i c) (Some (c, end)) None)
    by true h = subst (λ b. Reads i (leads outside) bs at (cond b (Some (c, end)) None)) (sym h) (record {
      from = f;
      within = l;
      utf8 = u;
      character = s;
      value = e ∙ ap (λ m. value_after i m bs end) (allowed_is i c true h);
    })
    by false h = subst (λ b. Reads i (leads outside) bs at (cond b (Some (c, end)) None)) (sym h)
        (e ∙ ap (λ m. value_after i m bs end) (allowed_is i c false h))

-- a UCHAR at a place
found_read : (i : Inside) (letter count : ℕ) (bs : List ℕ) (at : ℕ) (x : ℕ × ℕ) → letter < 128 → move i slash letter ≡ digit_move i count 0 → IsUtf8 (drop at bs) →
    IsUcharOf letter count bs at x.1 → x.0 ≡ hex_number (slice_range bs (at + 2) x.1) → Reads i (leads outside) bs at (allowed_in i (Some x))
found_read i letter count bs at x low m u s e =
    let to = s.digits.ends in
    let l = s.digits.within in
    subst (λ y. Reads i (leads outside) bs at (allowed_in i (Some y))) (ap (λ c. (c, x.1)) (sym e))
    (⊎_elim
    (λ p. absurd (p.0 (subst (IsUcharOf letter count bs at) to s)))
    (λ p. reads_allowed i bs at _ x.1 (omega arith) l (subst (λ k. IsUtf8 (drop k bs)) (sym to) p.1) s.character
    (subst (λ k. value_after i (leads outside) bs at ≡ value_after i (allowed i (hex_number (slice_range bs (at + 2) k))) bs k) (sym to) p.2))
    (uchar_read i letter count bs at low m (omega arith) u s.slash s.letter))

-- so what is found of a UCHAR with four digits is read
pub short_reads : (i : Inside) (bs : List ℕ) (at : ℕ) (r : Option (ℕ × ℕ)) → IsUtf8 (drop at bs) →
    UcharAt (IsUcharOf 117 4) bs at r → IfSome (allowed_in i r) (λ x. IsRead i (leads outside) bs at x.0 x.1)
short_reads i bs at None u h = tt
short_reads i bs at (Some x) u h = some (allowed_in i (Some x)) (found_read i 117 4 bs at x (omega arith) refl u h.0 h.1)
  where
    some : (r : Option (ℕ × ℕ)) → Reads i (leads outside) bs at r → IfSome r (λ x. IsRead i (leads outside) bs at x.0 x.1)
    some None h = tt
    some (Some x) h = h

-- and of any, where no letter of ECHAR stands after the backslash
pub uchar_reads : (i : Inside) (bs : List ℕ) (at : ℕ) (r : Option (ℕ × ℕ)) → at + 1 < length bs → IsUtf8 (drop at bs) → get_or bs at 0 ≡ 92 →
    echar_move i (get_or bs (at + 1) 0) ≡ fails → UcharAt IsUchar bs at r → Reads i (leads outside) bs at (allowed_in i r)
uchar_reads i bs at (Some x) l u a n h =
    ⊎_elim (λ p. found_read i 117 4 bs at x (omega arith) refl u p h.1) (λ p. found_read i 85 8 bs at x (omega arith) refl u p h.1) h.0
uchar_reads i bs at None l u a n h = ⊎_elim
    (λ e. no 117 4 (omega arith) refl (λ p. inl p) (eqb-true (get_or bs (at + 1) 0) 117 e))
    (λ e. ⊎_elim
    (λ f. no 85 8 (omega arith) refl (λ p. inr p) (eqb-true (get_or bs (at + 1) 0) 85 f))
    (λ f. step_byte i outside 92 bs at (omega arith) u a (omega arith)
    ∙ reads_letter i bs (at + 1) None l (utf8_byte 92 bs at (omega arith) u a (omega arith)) e f (sym n) tt)
    (cases_Bool (get_or bs (at + 1) 0 == 85)))
    (cases_Bool (get_or bs (at + 1) 0 == 117))
  where
    no : (letter count : ℕ) → letter < 128 → move i slash letter ≡ digit_move i count 0 →
        (IsUcharOf letter count bs at (at + 2 + count) → IsUchar bs at (at + 2 + count)) → get_or bs (at + 1) 0 ≡ letter →
        value_after i (leads outside) bs at ≡ None
    no letter count low m is b = ⊎_elim (λ p. p.1) (λ p. absurd (h _ (is p.0))) (uchar_read i letter count bs at low m l u a b)
