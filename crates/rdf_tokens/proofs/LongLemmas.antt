-- The inside of a string between three quotes: what leads back to the state there.
use Rattle.rdf_tokens.proofs.Prelude.{◌≡◌, ◌+◌, ◌<◌, ◌≤◌, ℕ, Option, None, Bool, true, false, nat_lt, List, length, get_or, ◌==◌, not, ◌||◌, refl, sym, ap, ◌∙◌, subst, ⊎_elim, encode_utf8, arith, len_utf8, chars, agree_below, agree_below_at, and_parts, cases_lt, cond-false, eqb-true, false≢true, le-ltb, ltb-true, encode_ascii, IsRun, goes_over, is_unescaped, Dialect, Lines, Turtle, Kind, State, Quote, Single, FitsInString, Reached, RestsInLong, long_run, quote_byte, stands_at, wide_of, three_quotes}
use Rattle.rdf_tokens.specs.declared.states.machine.State.TheVariants.{Text}
use Rattle.rdf_tokens.specs.declared.states.text.Quote.TheVariants.{Double}
use Rattle.rdf_tokens.specs.declared.states.text.Sort.TheVariants as sort
use Rattle.rdf_tokens.specs.declared.states.text.Text.TheVariants as text
use Rattle.rdf_tokens.specs.Machine.{step}
use Rattle.rdf_tokens.specs.Text as strings
use Rattle.rdf_tokens.proofs.FitEscapes.{fits_byte, fits_run, fits-more, long_slash}
use Rattle.rdf_tokens.proofs.NoNamesLemmas.{implied, no_long}
use Rattle.rdf_tokens.proofs.PlainQuick.{low_quote}
use Rattle.rdf_tokens.proofs.RestEscapes.{byte_on, rests_by}
use Rattle.rdf_tokens.proofs.RestLemmas.{char_is, char_lead, char_whole, reached-run, the_char}
use Rattle.rdf_tokens.proofs.RestStates.{long_below, rests_long}
use Rattle.rdf_tokens.proofs.StateLemmas.{reached-step}

-- the state inside
abbrev at_long : Quote → State → Bool
at_long Double (Text (text.Long Double)) = true
at_long Single (Text (text.Long Single)) = true
at_long q s = false

long-state : (q : Quote) (s : State) → at_long q s ≡ true → s ≡ Text (text.Long q)
long-state Double (Text (text.Long Double)) e = refl
long-state Single (Text (text.Long Single)) e = refl
long-state q s e = absurd (false≢true e)

-- each byte of ASCII: one that is neither the quote nor a backslash leads there from after a quote
abbrev inner_tests : Dialect → Quote → ℕ → Bool
inner_tests d q c = not (goes_over (long_run q) c) || at_long q (step d (Text (text.LongOneQuote q)) c)

-- it is so for each of them
inner_all : (d : Dialect) (q : Quote) → agree_below (inner_tests d q) (λ c. true) 128 ≡ true
inner_all Lines Double = refl
inner_all Lines Single = refl
inner_all Turtle Double = refl
inner_all Turtle Single = refl

-- and a character from U+0080 on does
high-step : (d : Dialect) (q : Quote) (c : ℕ) → 128 ≤ c → step d (Text (text.LongOneQuote q)) c ≡ Text (text.Long q)
high-step d q c l =
    ap (λ x. Text (strings.move d (text.LongOneQuote q) x)) (cond-false (nat_lt c 128) (strings.ascii c) (strings.high (wide_of c)) (le-ltb c 128 l)) ∙ plain q
  where
    plain : (q : Quote) → Text (strings.move d (text.LongOneQuote q) sort.Plain) ≡ Text (text.Long q)
    plain Double = refl
    plain Single = refl

-- so a character that begins with a byte that the run goes over does
inner-step : (d : Dialect) (q : Quote) (c b : ℕ) → get_or (encode_utf8 c) 0 0 ≡ b → goes_over (long_run q) b ≡ true →
    step d (Text (text.LongOneQuote q)) c ≡ Text (text.Long q)
inner-step d q c b e p =
    ⊎_elim
    (λ (l : c < 128).
    let same : b ≡ c = sym e ∙ ap (λ w. get_or w 0 0) (encode_ascii c l) in
    long-state q _ (implied (goes_over (long_run q) c) _ (agree_below_at (inner_tests d q) (λ c. true) 128 c (inner_all d q) l)
    (ap (goes_over (long_run q)) (sym same) ∙ p)))
    (λ l. high-step d q c l)
    (cases_lt c 128)

-- a quote is no backslash
quote_unescaped : (q : Quote) → is_unescaped (quote_byte q) ≡ true
quote_unescaped Double = refl
quote_unescaped Single = refl

-- a quote leads on
pub quote-step : (d : Dialect) (q : Quote) → step d (Text (text.Long q)) (quote_byte q) ≡ Text (text.LongOneQuote q)
quote-step d Double = refl
quote-step d Single = refl

-- a byte stands at a place
there : (b : ℕ) (bs : List ℕ) (at : ℕ) → stands_at b bs at ≡ true → (at < length bs) × (get_or bs at 0 ≡ b)
there b bs at z = let p = and_parts (nat_lt at (length bs)) (get_or bs at 0 == b) z in (ltb-true at (length bs) p.0, eqb-true (get_or bs at 0) b p.1)

-- what ends such a run is ASCII
ends_low : (q : Quote) (x : ℕ) → goes_over (long_run q) x ≡ false → x < 128
ends_low Double x e = long_below 34 x (omega arith) e
ends_low Single x e = long_below 39 x (omega arith) e

-- A quote, and a run of some bytes after it.
module _ (q : Quote) (bs : List ℕ) (at end : ℕ) (z : stands_at (quote_byte q) bs at ≡ true)
    (r : IsRun (goes_over (long_run q)) bs (at + 1) end) (some : at + 1 < end) where
  -- the states over them
  quoted_on : (d : Dialect) (b : Option (ℕ × Kind)) → Reached d bs at (Text (text.Long q)) b → Reached d bs end (Text (text.Long q)) b
  quoted_on d b x =
      let s = Text (text.Long q) in
      let t = there (quote_byte q) bs at z in
      let one = byte_on d bs at s (Text (text.LongOneQuote q)) b t.0 (subst (λ c. c < 128) (sym t.1) (low_quote q))
      (ap (step d s) t.1 ∙ quote-step d q) refl x in
      let low = λ (a : 128 ≤ get_or bs (at + 1) 0) (inside : end < length bs). ends_low q (get_or bs end 0) (r.stops inside) in
      let u = one.here.utf8 in
      let c = the_char bs (at + 1) end r.within low some u in
      let next = at + 1 + len_utf8 c in
      let whole = char_whole bs (at + 1) end r.within low some u in
      let none = sym (no_long (three_quotes d (chars bs))) in
      let rest : IsRun (goes_over (long_run q)) bs next end =
      record { from = whole; within = r.within; pass = λ k from to. r.pass k (omega arith) to; stops = r.stops } in
      let after = reached-step d bs (at + 1) next c (Text (text.LongOneQuote q)) s None b b one
      (char_is bs (at + 1) end r.within low some u) refl (omega (arith, whole, r.within))
      (sym (inner-step d q c (get_or bs (at + 1) 0) (char_lead bs (at + 1) end r.within low some u) (r.pass (at + 1) (omega arith) some))) none refl in
      reached-run d bs next end s None b none (rests_long q bs next end rest) after

  -- lead back to the state inside
  pub quoted_rests : RestsInLong q bs at end
  quoted_rests = let s = some in rests_by (Text (text.Long q)) bs at end refl (omega arith) r.within quoted_on

  -- and have a meaning
  pub quoted_fits : FitsInString bs at end
  quoted_fits =
      let t = there (quote_byte q) bs at z in
      fits-more bs at (at + 1) end (fits_byte bs at t.0 (ap is_unescaped t.1 ∙ quote_unescaped q)) (fits_run (long_run q) bs (at + 1) end (long_slash q) r)
