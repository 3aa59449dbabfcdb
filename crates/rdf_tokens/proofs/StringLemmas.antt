-- Strings with one quote at each end: how the states come to a place inside them, and what stands before it means.
use Rattle.rdf_tokens.proofs.Prelude.{◌≡◌, ℕ, ◌+◌, ◌-◌, ◌<◌, ◌≤◌, true, false, not, ◌==◌, nat_lt, List, ◌++◌, refl, sym, ap, ◌∙◌, subst, arith, ⊎_elim, length, get_or, drop, inl, inr, lt-ltb, IsUtf8, None, encode_utf8, len_utf8, chars, and_from, and_parts, cases_lt, cond-false, eqb-true, le-ltb, le-leb, leb-true, lt-leb, ltb-true, ne_eqb, get_or-drop, get_or_append_left, encode_ascii, length-encode, len_utf8_bounds, Dialect, ShortString, IsRun, goes_over, is_ascii_byte, is_short_byte, Quote, Single, FitsInString, Reached, opens_with, quote_byte, short_run, stands_at, wide_of, IsFirst, IsHighChar, RestsInQuotes, begins_high, three_quotes, IsFit}
use Rattle.rdf_tokens.specs.declared.states.machine.State.TheVariants.{Text}
use Rattle.rdf_tokens.specs.declared.states.text.Sort.TheVariants as sort
use Rattle.rdf_tokens.specs.declared.states.text.Text.TheVariants as text
use Rattle.rdf_tokens.specs.declared.states.text.Quote.TheVariants.{Double}
use Rattle.rdf_tokens.specs.Machine.{step}
use Rattle.rdf_tokens.specs.Quick.{IsToken}
use Rattle.rdf_tokens.specs.Text as strings
use Rattle.rdf_tokens.proofs.BlankLemmas.{high-encode}
use Rattle.rdf_tokens.proofs.FitEscapes.{fits_echar, fits_run, fits_uchar, fits_unescaped, fits-more, short_slash}
use Rattle.rdf_tokens.proofs.NoNamesLemmas.{no_long}
use Rattle.rdf_tokens.proofs.PlainQuick.{after_plain, after_quote, low_quote, one_quote, plain_fits, plain_second, quick_string, string_token, utf8_after}
use Rattle.rdf_tokens.proofs.RestEscapes.{opened_escape, uchar_from}
use Rattle.rdf_tokens.proofs.RestLemmas.{first_char, reached-run}
use Rattle.rdf_tokens.proofs.RestStates.{rests_short}
use Rattle.rdf_tokens.proofs.StateLemmas.{reached-step}

-- a character at the second byte is not of ASCII where that byte is not
pub high_char : (bs : List ℕ) (end c : ℕ) → begins_high bs ≡ true → drop 1 bs ≡ encode_utf8 c ++ drop end bs → end ≡ 1 + len_utf8 c →
    end ≤ length bs → IsHighChar bs 1 end
high_char bs end c h e p w = record { c = c; high = high; is = e; past = p; within = w }
  where
    byte : 128 ≤ get_or bs 1 0
    byte = leb-true 128 (get_or bs 1 0) (and_parts (nat_lt 1 (length bs)) _ h).1

    high : 128 ≤ c
    high = ⊎_elim
        (λ (l : c < 128).
        let same : get_or bs 1 0 ≡ c =
        sym (get_or-drop 1 bs 0 0) ∙ (ap (λ v. get_or v 0 0) e ∙ ap (λ v. get_or (v ++ drop end bs) 0 0) (encode_ascii c l)) in
        let b = byte in
        absurd (omega (arith, same)))
        (λ l. l)
        (cases_lt c 128)

-- its bytes mean themselves
high_fits : (bs : List ℕ) (at end : ℕ) → IsHighChar bs at end → FitsInString bs at end
high_fits bs at end x = fits_unescaped bs at end (omega (arith, x.past)) x.within (λ k from to.
    let size = length-encode x.c in
    let p = x.past in
    let place : at + (k - at) ≡ k = omega arith in
    let inside : k - at < length (encode_utf8 x.c) = omega (arith, size) in
    let byte : get_or bs (at + (k - at)) 0 ≡ get_or (encode_utf8 x.c) (k - at) 0 =
    sym (get_or-drop at bs (k - at) 0) ∙ (ap (λ v. get_or v (k - at) 0) x.is ∙ get_or_append_left (encode_utf8 x.c) (drop end bs) 0 (k - at) inside) in
    let high = high-encode x.c x.high (k - at) inside in
    ap not (ne_eqb (get_or bs k 0) 92 (λ e. omega (arith, e, high, byte, ap (λ j. get_or bs j 0) place))))

-- after the first quote it leads into the string
high_step : (d : Dialect) (q : Quote) (c : ℕ) → 128 ≤ c → step d (Text (text.Opened q)) c ≡ Text (text.Short q)
high_step d q c l =
    ap (λ x. Text (strings.move d (text.Opened q) x)) (cond-false (nat_lt c 128) (strings.ascii c) (strings.high (wide_of c)) (le-ltb c 128 l)) ∙ plain q
  where
    plain : (q : Quote) → Text (strings.move d (text.Opened q) sort.Plain) ≡ Text (text.Short q)
    plain Double = refl
    plain Single = refl

-- what stands after the first quote ends within the text
pub first_within : (q : Quote) (bs : List ℕ) (end : ℕ) → IsFirst q bs end → (2 ≤ end) × (end ≤ length bs)
first_within q bs end f = ⊎_elim
    (λ x. let l : 1 < length bs = ltb-true 1 (length bs) (and_parts (nat_lt 1 (length bs)) _ x.0).0 in let e = x.1 in (omega arith, omega arith))
    (λ x. ⊎_elim
    (λ y. (omega (arith, y.past, len_utf8_bounds y.c), y.within))
    (λ y. ⊎_elim
    (λ z. (omega (arith, z.ends), z.within))
    (λ z. let l = uchar_from bs 1 end z in let m = l.0 in (omega arith, l.1))
    y)
    x)
    f

-- A quote of the dialect comes first, and then what can stand in a string.
module _ (d : Dialect) (q : Quote) (bs : List ℕ) (u : IsUtf8 bs) (o : opens_with d q bs ≡ true) (first : ℕ) (f : IsFirst q bs first) where
  -- the second byte is no quote
  second : (get_or bs 1 0 == quote_byte q) ≡ false
  second = ⊎_elim
      (λ x. (plain_second d q bs u o x.0).2)
      (λ x. ⊎_elim
      (λ y. let l = first_byte y in ne_eqb (get_or bs 1 0) (quote_byte q) (λ e. let b = low_quote q in omega (arith, e)))
      (λ y. ap (λ b. b == quote_byte q) (⊎_elim (λ z. z.slash) (⊎_elim (λ z. z.slash) (λ z. z.slash)) y) ∙ no_quote q)
      x)
      f
    where
      no_quote : (q : Quote) → (92 == quote_byte q) ≡ false
      no_quote Double = refl
      no_quote Single = refl

      first_byte : IsHighChar bs 1 first → 128 ≤ get_or bs 1 0
      first_byte y =
          let size = length-encode y.c in
          let bound = len_utf8_bounds y.c in
          let inside : 0 < length (encode_utf8 y.c) = omega arith in
          let byte : get_or bs 1 0 ≡ get_or (encode_utf8 y.c) 0 0 =
          sym (get_or-drop 1 bs 0 0) ∙ (ap (λ v. get_or v 0 0) y.is ∙ get_or_append_left (encode_utf8 y.c) (drop first bs) 0 0 inside) in
          let high = high-encode y.c y.high 0 inside in
          omega (arith, byte)

  one : three_quotes d (chars bs) ≡ false
  one = let l = first_within q bs first f in let a = l.0 in let b = l.1 in one_quote d q bs u o (omega arith) second

  -- the states after it
  first_on : Reached d bs first (Text (text.Short q)) None
  first_on = ⊎_elim
      (λ x. subst (λ n. Reached d bs n (Text (text.Short q)) None) (sym x.1) (after_plain d q bs u o x.0))
      (λ x. ⊎_elim
      (λ y. reached-step d bs 1 first y.c (Text (text.Opened q)) (Text (text.Short q)) None None None (after_quote d q bs u o) y.is y.past y.within
      (sym (high_step d q y.c y.high)) (sym (no_long (three_quotes d (chars bs)))) refl)
      (λ y. opened_escape d q bs 1 first None y (after_quote d q bs u o))
      x)
      f

  -- it has a meaning
  first_fits : FitsInString bs 1 first
  first_fits = ⊎_elim
      (λ x. subst (FitsInString bs 1) (sym x.1) (plain_fits d q bs u o x.0))
      (λ x. ⊎_elim (λ y. high_fits bs 1 first y) (λ y. ⊎_elim (λ z. fits_echar bs 1 first z) (λ z. fits_uchar bs 1 first z) y) x)
      f

  -- the states within the string
  pub string_reached : (end : ℕ) → RestsInQuotes q bs first end → Reached d bs end (Text (text.Short q)) None
  string_reached end r = reached-run d bs first end (Text (text.Short q)) None None (sym (no_long (three_quotes d (chars bs)))) r first_on

  -- up to there it has no bad escape
  pub string_fits : (end : ℕ) → RestsInQuotes q bs first end → FitsInString bs first end → IsFit d bs end q
  string_fits end r g = record { opens = o; one = one; inside = fits-more bs 1 first end first_fits g; reached = string_reached end r }

  -- the string, up to its second quote
  pub string_whole : (end : ℕ) → RestsInQuotes q bs first end → FitsInString bs first end → stands_at (quote_byte q) bs end ≡ true →
      IsToken d bs (end + 1) ShortString
  string_whole end r g z = string_token d q bs u o end one (fits-more bs 1 first end first_fits g) z (string_reached end r)

-- A string that has no bad escape up to a place has none up to one after it.
pub fit_on : (d : Dialect) (q : Quote) (bs : List ℕ) (at end : ℕ) → IsFit d bs at q → RestsInQuotes q bs at end → FitsInString bs at end → IsFit d bs end q
fit_on d q bs at end h r g = record {
  opens = h.opens;
  one = h.one;
  inside = fits-more bs 1 at end h.inside g;
  reached = reached-run d bs at end (Text (text.Short q)) None None (sym (no_long (three_quotes d (chars bs)))) r h.reached;
}

-- where its second quote stands there, it is whole
pub fit_whole : (d : Dialect) (q : Quote) (bs : List ℕ) (end : ℕ) → IsUtf8 bs → IsFit d bs end q → stands_at (quote_byte q) bs end ≡ true →
    IsToken d bs (end + 1) ShortString
fit_whole d q bs end u h z = string_token d q bs u h.opens end h.one h.inside z h.reached

-- What stands in strings leads from the first quote up to the second: some bytes, be the first of ASCII or not.
module _ (d : Dialect) (q : Quote) (bs : List ℕ) (u : IsUtf8 bs) (o : opens_with d q bs ≡ true) (end : ℕ) (some : 1 < end)
    (r : IsRun (goes_over (short_run q)) bs 1 end)
    (z : stands_at (quote_byte q) bs end ≡ true) where
  within : 1 < length bs
  within = let w = r.within in omega arith

  -- the run after the first character
  run_from : (at : ℕ) → 1 ≤ at → at ≤ end → IsRun (goes_over (short_run q)) bs at end
  run_from at l m = record { from = m; within = r.within; pass = λ k a b. r.pass k (omega arith) b; stops = r.stops }

  text_byte : is_short_byte (quote_byte q) (get_or bs 1 0) ≡ true
  text_byte = short q (get_or bs 1 0) (r.pass 1 (omega arith) some)
    where
      short : (q : Quote) (b : ℕ) → goes_over (short_run q) b ≡ true → is_short_byte (quote_byte q) b ≡ true
      short Double b e = e
      short Single b e = e

  low_first : get_or bs 1 0 < 128 → IsToken d bs (end + 1) ShortString
  low_first l =
      let ascii : is_ascii_byte (get_or bs 1 0) ≡ true = ap not (lt-leb 128 (get_or bs 1 0) l) in
      quick_string d q bs u o end (and_from (nat_lt 1 (length bs)) _ (lt-ltb 1 (length bs) within)
      (and_from (is_short_byte (quote_byte q) (get_or bs 1 0)) _ text_byte ascii)) (run_from 2 (omega arith) (omega arith)) z

  high_first : 128 ≤ get_or bs 1 0 → IsToken d bs (end + 1) ShortString
  high_first h =
      let one = first_char bs 1 (utf8_after d q bs u o) within in
      let first = 1 + len_utf8 one.0 in
      let begins : begins_high bs ≡ true = and_from (nat_lt 1 (length bs)) _ (lt-ltb 1 (length bs) within) (le-leb 128 (get_or bs 1 0) h) in
      let char = high_char bs first one.0 begins one.1 refl one.2 in
      let size = length-encode char.c in
      let long = char.past in
      let p = and_parts (nat_lt end (length bs)) (get_or bs end 0 == quote_byte q) z in
      let low : get_or bs end 0 < 128 = subst (λ n. n < 128) (sym (eqb-true (get_or bs end 0) (quote_byte q) p.1)) (low_quote q) in
      let whole : first ≤ end = ⊎_elim
      (λ (m : end < first).
      let place : 1 + (end - 1) ≡ end = omega arith in
      let inside : end - 1 < length (encode_utf8 char.c) = omega (arith, size, long) in
      let byte : get_or bs (1 + (end - 1)) 0 ≡ get_or (encode_utf8 char.c) (end - 1) 0 =
      sym (get_or-drop 1 bs (end - 1) 0)
      ∙ (ap (λ v. get_or v (end - 1) 0) char.is ∙ get_or_append_left (encode_utf8 char.c) (drop first bs) 0 (end - 1) inside) in
      let high = high-encode char.c char.high (end - 1) inside in
      absurd (omega (arith, byte, high, low, ap (λ j. get_or bs j 0) place)))
      (λ m. m)
      (cases_lt end first) in
      let rest = run_from first (omega arith) whole in
      string_whole d q bs u o first (inr (inl char)) end (rests_short q bs first end rest) (fits_run (short_run q) bs first end (short_slash q) rest) z

  pub run_string : IsToken d bs (end + 1) ShortString
  run_string = ⊎_elim low_first high_first (cases_lt (get_or bs 1 0) 128)
