-- Plain bytes and whole escapes of a string or an IRI have a meaning, whatever text comes after them.
use Rattle.rdf_tokens.proofs.Prelude.{◌≡◌, ◌⊎◌, ℕ, ◌+◌, ◌-◌, ◌<◌, ◌≤◌, ◌==◌, Bool, true, false, not, List, [], ◌∷◌, ◌++◌, Option, Some, None, inl, inr, is_some, get_or, take, drop, refl, sym, ap, ◌∙◌, subst, arith, ⊎_elim, append_assoc, length, length-drop, slice_range, agree_below_at, cases_Bool, cases_lt, eqb-true, false≢true, nat_tests, append-nil, get_or-drop, get_or-take, length-take-le, take-append-add, has, hex_digit, escape_letter, iri_char, Run, IsRun, PassBetween, goes_over, iri_byte, is_unescaped, of_string, of_iri, outside, slash, Move, means, letter_move, go, value, string_value, high_byte_stands, Quote, Single, long_run, short_run, IsEchar, IsEscapeThen, IsIriUchar, FitsIn, FitsInString, FitsInIri}
use Rattle.std.proofs.lemmas.List.Folds.{drop_split}
use Rattle.rdf_terms.specs.Escapes.{completes, stands, IsUchar, IsUcharOf}
use Rattle.rdf_terms.specs.Pieces.{IsNumberEscape, MayMean, hex_number}
use Rattle.rdf_terms.specs.Terms.{all_have}
use Rattle.rdf_terms.specs.Values.{Inside, move}
use Rattle.rdf_terms.proofs.EscapesLemmas.{is_some-map, slice_passes, value_stands}
use Rattle.rdf_terms.proofs.PiecesLemmas.{number_escape-takes}
use Rattle.rdf_tokens.specs.declared.states.text.Quote.TheVariants.{Double}
use Rattle.rdf_tokens.proofs.RestEscapes.{letter_below, implied}

-- the bytes between two places, cut at one between them
pub slice-split : (bs : List ℕ) (at mid end : ℕ) → at ≤ mid → mid ≤ end → mid ≤ length bs →
    slice_range bs at end ≡ slice_range bs at mid ++ slice_range bs mid end
slice-split bs at mid end l m h =
    let first = slice_range bs at mid in
    let long : length first ≡ mid - at = length-take-le (mid - at) (drop at bs) (omega (arith, length-drop at bs)) in
    let sum : end - at ≡ length first + (end - mid) = omega (arith, long) in
    ap (take (end - at)) (drop_split bs at mid l) ∙ (ap (λ n. take n (first ++ drop mid bs)) sum ∙ take-append-add first (drop mid bs) (end - mid))

-- one more piece
pub fits-more : {i : Inside} (bs : List ℕ) (at mid end : ℕ) → FitsIn i bs at mid → FitsIn i bs mid end → FitsIn i bs at end
fits-more {i} bs at mid end a b = record {
  from = omega (arith, a.from, b.from);
  within = b.within;
  value = λ w.
      let first = slice_range bs at mid in
      let second = slice_range bs mid end in
      ap (λ p. is_some (value i outside (p ++ w))) (slice-split bs at mid end a.from b.from a.within)
      ∙ (ap (λ p. is_some (value i outside p)) (append_assoc first second w) ∙ (a.value (second ++ w) ∙ b.value w));
}

-- what fits has a meaning
pub fits-value : {i : Inside} (bs : List ℕ) (at end : ℕ) → FitsIn i bs at end → is_some (value i outside (slice_range bs at end)) ≡ true
fits-value {i} bs at end f = ap (λ w. is_some (value i outside w)) (sym (append-nil (slice_range bs at end))) ∙ f.value []

-- what a run that ends at a backslash goes over is none
run_unescaped : (r : Run) (b : ℕ) → goes_over r 92 ≡ false → goes_over r b ≡ true → is_unescaped b ≡ true
run_unescaped r b n e =
    ⊎_elim
    (λ z. absurd (false≢true (sym n ∙ (ap (goes_over r) (sym (eqb-true b 92 z)) ∙ e))))
    (λ z. ap not z)
    (cases_Bool (b == 92))

-- bytes that stand as they are
fits_standing : (i : Inside) (bs : List ℕ) (at end : ℕ) → at ≤ end → end ≤ length bs → PassBetween (stands i) bs at end → FitsIn i bs at end
fits_standing i bs at end from within pass = record {
  from = from;
  within = within;
  value = λ w.
      let p = slice_range bs at end in
      let all : all_have (stands i) p ≡ true = slice_passes (stands i) bs at (end - at) (omega arith) (λ k a b. pass k a (omega arith)) in
      ap is_some (value_stands i p w all) ∙ is_some-map (λ v. p ++ v) (value i outside w);
}

-- in a string those without a backslash
pub fits_unescaped : (bs : List ℕ) (at end : ℕ) → at ≤ end → end ≤ length bs → PassBetween is_unescaped bs at end → FitsInString bs at end
fits_unescaped bs at end from within pass = fits_standing of_string bs at end from within pass

-- a byte of the characters of IRIs stands in one as it is
iri_stands : (b : ℕ) → b < 256 → iri_byte b ≡ true → stands of_iri b ≡ true
unfolding has
iri_stands b l e = ⊎_elim (λ a. low b a e) (λ a. high_byte_stands of_iri b a l) (cases_lt b 128)
  where
    low : (b : ℕ) → b < 128 → iri_byte b ≡ true → has iri_char b ≡ true
    low b a e = grind (arith, nat_tests)

-- a run in an IRI
pub fits_iri_run : (bs : List ℕ) (at end : ℕ) → ((k : ℕ) → get_or bs k 0 < 256) → IsRun iri_byte bs at end → FitsInIri bs at end
fits_iri_run bs at end byte r = fits_standing of_iri bs at end r.from r.within (λ k a b. iri_stands (get_or bs k 0) (byte k) (r.pass k a b))

-- a run in a string
pub fits_run : (r : Run) (bs : List ℕ) (at end : ℕ) → goes_over r 92 ≡ false → IsRun (goes_over r) bs at end → FitsInString bs at end
fits_run r bs at end n x = fits_unescaped bs at end x.from x.within (λ k a b. run_unescaped r (get_or bs k 0) n (x.pass k a b))

-- the runs of strings end at a backslash
pub short_slash : (q : Quote) → goes_over (short_run q) 92 ≡ false
short_slash Double = refl
short_slash Single = refl

pub long_slash : (q : Quote) → goes_over (long_run q) 92 ≡ false
long_slash Double = refl
long_slash Single = refl

-- one byte
pub fits_byte : (bs : List ℕ) (at : ℕ) → at < length bs → is_unescaped (get_or bs at 0) ≡ true → FitsInString bs at (at + 1)
fits_byte bs at l e =
    fits_unescaped bs at (at + 1) (omega arith) (omega arith) (λ k a b. let same : at ≡ k = omega arith in
    subst (λ k. is_unescaped (get_or bs k 0) ≡ true) same e)

-- none
pub fits_none : (bs : List ℕ) (at : ℕ) → at ≤ length bs → FitsInString bs at at
fits_none bs at l = fits_unescaped bs at at (omega arith) l (λ k a b. absurd (omega arith))

-- the move means a character
abbrev is_means : Move → Bool
is_means (means c) = true
is_means m = false

-- a letter of ECHAR means a character, and no other byte does, by a test of each byte
pub letter_tells : (b : ℕ) (o : Option ℕ) → b < 256 → completes o ≡ letter_move b → is_some o ≡ has escape_letter b
unfolding has
letter_tells b o l e = some o ∙ (ap is_means e ∙ agree_below_at (λ b. is_means (letter_move b)) (has escape_letter) 256 b refl l)
  where
    some : (o : Option ℕ) → is_some o ≡ is_means (completes o)
    some None = refl
    some (Some c) = refl

-- that character
meant : (m : Move) → is_means m ≡ true → (c : ℕ) × (m ≡ means c)
meant (means c) e = (c, refl)
meant m e = absurd (false≢true e)

-- a letter of ECHAR means one after its backslash
letter_meant : (l : ℕ) → has escape_letter l ≡ true → (c : ℕ) × (move of_string slash l ≡ means c)
unfolding has
letter_meant l h = meant (move of_string slash l) (implied (has escape_letter) (λ c. is_means (move of_string slash c)) refl l (letter_below l h) h)

-- so a backslash and the letter do, whatever comes after them
letter_value : (l : ℕ) (w : List ℕ) → has escape_letter l ≡ true → is_some (string_value (92 ∷ l ∷ w)) ≡ is_some (string_value w)
letter_value l w h =
    let m = letter_meant l h in
    ap (λ m. is_some (go m (λ t. value of_string t w))) m.1 ∙ is_some-map (λ v. m.0 ∷ v) (string_value w)

-- two bytes
two : (p : List ℕ) → length p ≡ 2 → p ≡ get_or p 0 0 ∷ get_or p 1 0 ∷ []
two [] e = absurd (omega arith)
two (x ∷ []) e = absurd (omega arith)
two (x ∷ y ∷ []) e = refl
two (x ∷ y ∷ z ∷ p) e = absurd (omega arith)

-- the two bytes at a place
two-at : (bs : List ℕ) (at end a b : ℕ) → end ≡ at + 2 → end ≤ length bs → get_or bs at 0 ≡ a → get_or bs (at + 1) 0 ≡ b → slice_range bs at end ≡ a ∷ b ∷ []
two-at bs at end a b e l x y =
    let p = slice_range bs at end in
    let n : end - at ≡ 2 = omega arith in
    let zero : at + 0 ≡ at = omega arith in
    let long : length p ≡ 2 = length-take-le (end - at) (drop at bs) (omega (arith, length-drop at bs)) ∙ n in
    let first : get_or p 0 0 ≡ a = get_or-take (end - at) (drop at bs) 0 0 (omega arith) ∙ (get_or-drop at bs 0 0 ∙ (ap (λ k. get_or bs k 0) zero ∙ x)) in
    let second : get_or p 1 0 ≡ b = get_or-take (end - at) (drop at bs) 1 0 (omega arith) ∙ (get_or-drop at bs 1 0 ∙ y) in
    two p long ∙ (ap (λ c. c ∷ get_or p 1 0 ∷ []) first ∙ ap (λ c. a ∷ c ∷ []) second)

-- an ECHAR
pub fits_echar : (bs : List ℕ) (at end : ℕ) → IsEchar bs at end → FitsInString bs at end
fits_echar bs at end e = record {
  from = omega (arith, e.ends);
  within = e.within;
  value = λ w.
      let l = get_or bs (at + 1) 0 in
      ap (λ p. is_some (string_value (p ++ w))) (two-at bs at end 92 l e.ends e.within e.slash refl) ∙ letter_value l w e.letter;
}

-- what is an escape by number
number_value : (i : Inside) (piece : List ℕ) (c : ℕ) (w : List ℕ) → IsNumberEscape i piece c →
    is_some (value i outside (piece ++ w)) ≡ is_some (value i outside w)
number_value i piece c w h = ap is_some (number_escape-takes i piece c h w) ∙ is_some-map (λ v. c ∷ v) (value i outside w)

-- a UCHAR with one letter and so many digits
module _ (u count : ℕ) (bs : List ℕ) (at end : ℕ) (h : IsUcharOf u count bs at end) where
  abbrev hexes : List ℕ
  hexes = slice_range bs (at + 2) end

  -- it is the backslash, the letter, and the digits
  uchar_parts : slice_range bs at end ≡ 92 ∷ u ∷ hexes
  uchar_parts =
      let e = h.digits.ends in
      let l = h.digits.within in
      slice-split bs at (at + 2) end (omega arith) (omega arith) (omega arith)
      ∙ ap (λ p. p ++ hexes) (two-at bs at (at + 2) 92 u refl (omega arith) h.slash h.letter)

  -- there are so many
  digits_count : length hexes ≡ count
  digits_count =
      let e = h.digits.ends in
      let w = h.digits.within in
      length-take-le (end - (at + 2)) (drop (at + 2) bs) (omega (arith, length-drop (at + 2) bs)) ∙ omega arith

  -- they are hex digits
  digits_hex : all_have (has hex_digit) hexes ≡ true
  digits_hex =
      let e = h.digits.ends in
      let w = h.digits.within in
      slice_passes (has hex_digit) bs (at + 2) (end - (at + 2)) (omega arith) (λ k a b. h.digits.hexes k a (omega arith))

  -- its character may be meant, so it has a meaning, whatever text comes after it
  fits_number : (i : Inside) → ((u ≡ 117) × (count ≡ 4)) ⊎ ((u ≡ 85) × (count ≡ 8)) → MayMean i (hex_number hexes) → FitsIn i bs at end
  fits_number i k m = record {
    from = let e = h.digits.ends in omega arith;
    within = h.digits.within;
    value = λ w.
        ap (λ p. is_some (value i outside (p ++ w))) uchar_parts
        ∙ number_value i (92 ∷ u ∷ hexes) (hex_number hexes) w (
          hexes,
          ⊎_elim (λ x. inl (ap (λ u. 92 ∷ u ∷ hexes) x.0, digits_count ∙ x.1)) (λ x. inr (ap (λ u. 92 ∷ u ∷ hexes) x.0, digits_count ∙ x.1)) k,
          digits_hex,
          refl,
          h.character,
          m,
        );
  }

-- a UCHAR whose character may be meant
fits_meant : (i : Inside) (bs : List ℕ) (at end : ℕ) → IsUchar bs at end → MayMean i (hex_number (slice_range bs (at + 2) end)) → FitsIn i bs at end
fits_meant i bs at end u m =
    ⊎_elim (λ h. fits_number 117 4 bs at end h i (inl (refl, refl)) m) (λ h. fits_number 85 8 bs at end h i (inr (refl, refl)) m) u

-- in a string each may
pub fits_uchar : (bs : List ℕ) (at end : ℕ) → IsUchar bs at end → FitsInString bs at end
fits_uchar bs at end u = fits_meant of_string bs at end u tt

-- in an IRI those that IRIs have
pub fits_iri_uchar : (bs : List ℕ) (at end : ℕ) → IsIriUchar bs at end → FitsInIri bs at end
fits_iri_uchar bs at end u = fits_meant of_iri bs at end u.uchar u.allowed

-- an escape of a string and the run after it
pub fits_then : (r : Run) (bs : List ℕ) (at end : ℕ) → goes_over r 92 ≡ false → IsEscapeThen r bs at end → FitsInString bs at end
fits_then r bs at end n x =
    fits-more bs at x.mid end (⊎_elim (λ u. fits_echar bs at x.mid u) (λ u. fits_uchar bs at x.mid u) x.escape) (fits_run r bs x.mid end n x.run)
