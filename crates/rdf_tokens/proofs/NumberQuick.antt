-- Numbers that begin with a digit, or with a sign and a digit: the states over their digits, and after the byte that ends them.
use Rattle.rdf_tokens.proofs.Prelude.{◌≡◌, ℕ, zero, suc, ◌+◌, ◌-◌, ◌<◌, ◌≤◌, Bool, true, false, cond, nat_lt, List, [], ◌∷◌, ◌&&◌, ◌||◌, ◌==◌, not, refl, sym, ap, ◌∙◌, subst, length, get_or, inl, inr, ◌⊎◌, arith, Option, Some, None, IsUtf8, agree_below, agree_below_at, and_parts, false≢true, eqb-true, ltb-true, ltb-false, or_left, or_right, nat_tests, encode_ascii, length-encode, chars, Kind, Integer, Decimal, Turtle, is_digit, one_of, fixed, IsRun, PassBetween, is_fit, State, with_length, three_quotes, only_long, Row, fits, is_begun, live_by, rows_of, Reached, longer_front, begins, front_by, BeginsNumber, IsMantissa, after_sign, is_sign, is_point, is_exponent, is_integer_end, is_decimal_end, is_double_end, ends_integer, ends_number}
use Rattle.rdf_terms.specs.declared.kind.Kind.TheVariants.{Double}
use Rattle.rdf_tokens.specs.declared.states.machine.State.TheVariants.{Start, Number}
use Rattle.rdf_tokens.specs.declared.states.number.Number.TheVariants as number
use Rattle.rdf_tokens.specs.declared.states.number.Number as numbers
use Rattle.rdf_tokens.specs.Fixed.{left}
use Rattle.rdf_tokens.specs.Machine.{step, kind_at}
use Rattle.rdf_tokens.specs.Quick.{IsToken}
use Rattle.rdf_tokens.proofs.ByteLemmas.{at-start, ascii_first}
use Rattle.rdf_tokens.proofs.NoNamesLemmas.{implied, one_on}
use Rattle.rdf_tokens.proofs.QuickLemmas.{settled, not_true, other, at_ended, ended-state}
use Rattle.rdf_tokens.proofs.StateLemmas.{reached-first, reached-step}

-- no spelling begins with a character
abbrev pub no_begin : ℕ → Bool → List ℕ → Bool
no_begin c b [] = false
no_begin c b (x ∷ s) = not (fits b x c)

-- none of several does
abbrev pub no_first : ℕ → List Row → Bool
no_first c [] = true
no_first c (r ∷ rs) = no_begin c r.any_case r.text && no_first c rs

-- such a character begins no text that is a spelling, or the beginning of one
first_row : (b : Bool) (s : List ℕ) (c : ℕ) (t : List ℕ) → no_begin c b s ≡ true → (begins b s (c ∷ t) ≡ false) × (is_begun (left b s (c ∷ t)) ≡ false)
first_row b [] c t n = absurd (false≢true n)
first_row b (x ∷ s) c t n =
    let f : fits b x c ≡ false = not_true (fits b x c) n in
    (ap (λ z. z && begins b s t) f, ap (λ z. is_begun (cond z (left b s t) None)) f)

-- the same of several spellings
pub first_rows : (rs : List Row) (c : ℕ) (t : List ℕ) → no_first c rs ≡ true → (front_by rs (c ∷ t) ≡ None) × (live_by rs (c ∷ t) ≡ false)
first_rows [] c t n = (refl, refl)
first_rows (r ∷ rs) c t n =
    let a = and_parts (no_begin c r.any_case r.text) (no_first c rs) n in
    let p = first_row r.any_case r.text c t a.0 in
    let h = first_rows rs c t a.1 in
    (ap (λ z. longer_front (cond z (Some (length r.text, r.kind)) None) (front_by rs (c ∷ t))) p.0 ∙ h.0, ap (λ z. z || live_by rs (c ∷ t)) p.1 ∙ h.1)

-- a state is this one of a number, which other tokens have not
abbrev is_at : numbers.Number → State → Bool
is_at number.Sign (Number number.Sign) = true
is_at number.Digits (Number number.Digits) = true
is_at number.Fraction (Number number.Fraction) = true
is_at number.Exponent (Number number.Exponent) = true
is_at number.ExponentSign (Number number.ExponentSign) = true
is_at number.ExponentDigits (Number number.ExponentDigits) = true
is_at n s = false

-- that state
is-at : (n : numbers.Number) (s : State) → is_at n s ≡ true → s ≡ Number n
is-at number.Sign (Number number.Sign) e = refl
is-at number.Digits (Number number.Digits) e = refl
is-at number.Fraction (Number number.Fraction) e = refl
is-at number.Exponent (Number number.Exponent) e = refl
is-at number.ExponentSign (Number number.ExponentSign) e = refl
is-at number.ExponentDigits (Number number.ExponentDigits) e = refl
is-at n s e = absurd (false≢true e)

-- a byte of some kind leads from one state to another
abbrev leads : (ℕ → Bool) → State → numbers.Number → ℕ → Bool
leads f s n c = not (f c) || is_at n (step Turtle s c)

-- a byte of some kind that is no digit ends the token at a state
abbrev ends : (ℕ → Bool) → State → ℕ → Bool
ends f s c = not (f c) || (is_digit c || at_ended (step Turtle s c))

-- each byte of ASCII is tried
step_is : (f : ℕ → Bool) (s : State) (n : numbers.Number) → agree_below (leads f s n) (λ c. true) 128 ≡ true → (c : ℕ) → f c ≡ true →
    c < 128 → step Turtle s c ≡ Number n
step_is f s n t c e l = is-at n (step Turtle s c) (implied (f c) _ (agree_below_at (leads f s n) (λ c. true) 128 c t l) e)

step_ends : (f : ℕ → Bool) (s : State) → agree_below (ends f s) (λ c. true) 128 ≡ true → (c : ℕ) → f c ≡ true → c < 128 →
    is_digit c ≡ false → at_ended (step Turtle s c) ≡ true
step_ends f s t c e l d = other (is_digit c) _ (implied (f c) _ (agree_below_at (ends f s) (λ c. true) 128 c t l) e) d

-- a digit begins no spelling, nor does a sign
abbrev first_tests : ℕ → Bool
first_tests c = not (is_sign c || is_digit c) || no_first c (rows_of Turtle fixed)

-- digits are ASCII
low-digit : (c : ℕ) → is_digit c ≡ true → c < 128
low-digit c e = grind (arith, nat_tests)

-- signs are
low-sign : (c : ℕ) → is_sign c ≡ true → c < 128
low-sign c e = grind (arith, nat_tests)

-- 'E' or 'e'
abbrev is_e : ℕ → Bool
is_e c = one_of (69 ∷ 101 ∷ []) c

low-e : (c : ℕ) → is_e c ≡ true → c < 128
low-e c e = grind (arith, nat_tests)

-- three quotes do not begin with a digit, nor with a sign
no_digit_quotes : (c : ℕ) (w : List ℕ) → (is_sign c || is_digit c) ≡ true → three_quotes Turtle (c ∷ w) ≡ false
no_digit_quotes c [] e = refl
no_digit_quotes c (a ∷ []) e = refl
no_digit_quotes c (a ∷ b ∷ w) e =
    let p : (c == 34) ≡ false = grind (arith, nat_tests) in
    let q : (c == 39) ≡ false = grind (arith, nat_tests) in
    ap (λ t. ((t && a == 34) && b == 34) || ((c == 39 && a == 39) && b == 39)) p ∙ ap (λ t. (t && a == 39) && b == 39) q

-- numbers have no escapes
number-fit : (w : List ℕ) → (is_fit Integer w ≡ true) × ((is_fit Decimal w ≡ true) × (is_fit Double w ≡ true))
unfolding is_fit
number-fit w = (refl, (refl, refl))

-- what a number begins with
abbrev begins_number : ℕ → Bool
begins_number c = is_sign c || is_digit c

low-first : (c : ℕ) → begins_number c ≡ true → c < 128
low-first c e = grind (arith, nat_tests)

-- A text that begins with a digit, or with a sign and a digit, and its run of digits.
module _ (bs : List ℕ) (start end : ℕ) (u : IsUtf8 bs) (n : BeginsNumber bs start) (r : IsRun is_digit bs (start + 1) end) where
  l : 0 < length bs
  l = let i = n.inside in omega arith

  first : begins_number (get_or bs 0 0) ≡ true
  first = by n.sign
    where
      by : (start ≡ 0) ⊎ ((start ≡ 1) × (is_sign (get_or bs 0 0) ≡ true)) → begins_number (get_or bs 0 0) ≡ true
      by (inl z) = or_right (is_sign (get_or bs 0 0)) _ (subst (λ k. is_digit (get_or bs k 0) ≡ true) z n.digit)
      by (inr p) = or_left (is_sign (get_or bs 0 0)) _ p.1

  -- such a text does not begin with three quotes
  quotes : three_quotes Turtle (chars bs) ≡ false
  quotes =
      let c = get_or bs 0 0 in
      ap (three_quotes Turtle) (one_on bs 0 (at-start bs u) l (low-first c first)).0 ∙ no_digit_quotes c _ first

  -- one byte of ASCII on
  byte_on : (at : ℕ) (s t : State) (k : Option Kind) (b : Option (ℕ × Kind)) → at < length bs → get_or bs at 0 < 128 → Reached Turtle bs at s b →
      t ≡ step Turtle s (get_or bs at 0) → k ≡ kind_at t → Reached Turtle bs (at + 1) t (with_length (at + 1) k b)
  byte_on at s t k b i a h es ek =
      let c = get_or bs at 0 in
      reached-step Turtle bs at (at + 1) c s t k b (with_length (at + 1) k b) h (ascii_first bs at i a)
      (omega (arith, ap length (encode_ascii c a), length-encode c)) (omega arith) es
      (ek ∙ sym (ap (λ x. only_long x (kind_at t)) quotes)) refl

  -- a digit on
  digit_on : (at : ℕ) (s t : State) (k : Option Kind) (b : Option (ℕ × Kind)) → at < length bs → is_digit (get_or bs at 0) ≡ true → Reached Turtle bs at s b →
      step Turtle s (get_or bs at 0) ≡ t → k ≡ kind_at t → Reached Turtle bs (at + 1) t (with_length (at + 1) k b)
  digit_on at s t k b i d h e ek = byte_on at s t k b i (low-digit (get_or bs at 0) d) h (sym e) ek

  -- over so many digits that leave a state as it is
  digits_on : (s : State) (k : Kind) (at n : ℕ) → Some k ≡ kind_at s → ((c : ℕ) → is_digit c ≡ true → step Turtle s c ≡ s) →
      PassBetween is_digit bs at (at + n) → at + n ≤ length bs →
      Reached Turtle bs at s (Some (at, k)) → Reached Turtle bs (at + n) s (Some (at + n, k))
  digits_on s k at zero ek f p w h = let x : at ≡ at + 0 = omega arith in subst (λ m. Reached Turtle bs m s (Some (m, k))) x h
  digits_on s k at (suc n) ek f p w h =
      let c = get_or bs (at + n) 0 in
      let d : is_digit c ≡ true = p (at + n) (omega arith) (omega arith) in
      let x : at + n + 1 ≡ at + suc n = omega arith in
      subst (λ m. Reached Turtle bs m s (Some (m, k))) x
      (digit_on (at + n) s s (Some k) (Some (at + n, k)) (omega arith) d (digits_on s k at n ek f (λ i a b. p i a (omega arith)) (omega arith) h) (f c d) ek)

  -- the same up to a place
  digits_to : (s : State) (k : Kind) (at to : ℕ) → Some k ≡ kind_at s → ((c : ℕ) → is_digit c ≡ true → step Turtle s c ≡ s) → IsRun is_digit bs at to →
      Reached Turtle bs at s (Some (at, k)) → Reached Turtle bs to s (Some (to, k))
  digits_to s k at to ek f q h =
      let from = q.from in
      let within = q.within in
      let x : at + (to - at) ≡ to = omega arith in
      subst (λ m. Reached Turtle bs m s (Some (m, k))) x (digits_on s k at (to - at) ek f (λ i a b. q.pass i a (omega arith)) (omega arith) h)

  -- the states after the digits in front
  whole : Reached Turtle bs end (Number number.Digits) (Some (end, Integer))
  whole =
      digits_to (Number number.Digits) Integer (start + 1) end refl
      (λ c d. step_is is_digit (Number number.Digits) number.Digits refl c d (low-digit c d)) r (by n.sign)
    where
      one : (k : Option Kind) (s : State) → s ≡ step Turtle Start (get_or bs 0 0) → k ≡ kind_at s → Reached Turtle bs 1 s (with_length 1 k None)
      one k s es ek =
          let c = get_or bs 0 0 in
          let a : c < 128 = low-first c first in
          let same : only_long (three_quotes Turtle (chars bs)) (kind_at s) ≡ k = ap (λ x. only_long x (kind_at s)) quotes ∙ sym ek in
          subst (λ k. Reached Turtle bs 1 s (with_length 1 k None)) same
          (reached-first Turtle bs 1 c s u (ascii_first bs 0 l a) (omega (arith, ap length (encode_ascii c a), length-encode c)) (omega arith) es)

      by : (start ≡ 0) ⊎ ((start ≡ 1) × (is_sign (get_or bs 0 0) ≡ true)) → Reached Turtle bs (start + 1) (Number number.Digits) (Some (start + 1, Integer))
      by (inl z) =
          let d : is_digit (get_or bs 0 0) ≡ true = subst (λ k. is_digit (get_or bs k 0) ≡ true) z n.digit in
          subst (λ k. Reached Turtle bs (k + 1) (Number number.Digits) (Some (k + 1, Integer))) (sym z)
          (one (Some Integer) (Number number.Digits) (sym (step_is is_digit Start number.Digits refl (get_or bs 0 0) d (low-digit (get_or bs 0 0) d))) refl)
      by (inr p) =
          let i = n.inside in
          let d : is_digit (get_or bs 1 0) ≡ true = subst (λ k. is_digit (get_or bs k 0) ≡ true) p.0 n.digit in
          subst (λ k. Reached Turtle bs (k + 1) (Number number.Digits) (Some (k + 1, Integer))) (sym p.0)
          (digit_on 1 (Number number.Sign) (Number number.Digits) (Some Integer) None (let z = p.0 in omega arith) d
          (one None (Number number.Sign) (sym (step_is is_sign Start number.Sign refl (get_or bs 0 0) p.1 (low-sign (get_or bs 0 0) p.1))) refl)
          (step_is is_digit (Number number.Sign) number.Digits refl (get_or bs 1 0) d (low-digit (get_or bs 1 0) d)) refl)

  -- no spelling begins so
  unspelled : (v : List ℕ) → 0 < length v → begins_number (get_or v 0 0) ≡ true →
      (front_by (rows_of Turtle fixed) v ≡ None) × (live_by (rows_of Turtle fixed) v ≡ false)
  unspelled [] l e = absurd (omega arith)
  unspelled (c ∷ t) l e = first_rows (rows_of Turtle fixed) c t
      (implied (begins_number c) _ (agree_below_at first_tests (λ c. true) 128 c refl (low-first c e)) e)

  -- the token ends before a byte after which the states have ended
  ended_at : (s : State) (k : Kind) (to : ℕ) → Reached Turtle bs to s (Some (to, k)) → to < length bs → get_or bs to 0 < 128 →
      at_ended (step Turtle s (get_or bs to 0)) ≡ true →
      ((w : List ℕ) → is_fit k w ≡ true) → IsToken Turtle bs to k
  ended_at s k to h i a x t =
      let s' = step Turtle s (get_or bs to 0) in
      let d = ended-state s' x in
      let z = unspelled bs l first in
      settled Turtle bs (to + 1) s' (Some (to, k)) None to k u (byte_on to s s' None (Some (to, k)) i a h refl (sym d.0)) d.1 (sym z.0) z.1 refl (t _)

  -- an integer
  pub quick_integer : is_integer_end bs end ≡ true → IsToken Turtle bs end Integer
  quick_integer z =
      let x = get_or bs end 0 in
      let p = and_parts _ _ z in
      let i : end < length bs = ltb-true end (length bs) p.0 in
      let a : x < 128 = ltb-true x 128 (and_parts _ _ p.1).0 in
      ended_at (Number number.Digits) Integer end whole i a (step_ends ends_integer (Number number.Digits) refl x p.1 a (r.stops i)) (λ w. (number-fit w).0)

  -- the states after a dot
  dot : is_point bs end ≡ true → Reached Turtle bs (end + 1) (Number number.DigitsDot) (Some (end, Integer))
  dot m =
      let p = and_parts (nat_lt end (length bs)) (get_or bs end 0 == 46) m in
      let is_46 : get_or bs end 0 ≡ 46 = eqb-true (get_or bs end 0) 46 p.1 in
      byte_on end (Number number.Digits) (Number number.DigitsDot) None (Some (end, Integer)) (ltb-true end (length bs) p.0)
      (omega (arith, is_46)) whole (ap (step Turtle (Number number.Digits)) (sym is_46)) refl

  -- the states after a dot and the digits after it
  fraction : (last : ℕ) → is_point bs end ≡ true → IsRun is_digit bs (end + 1) last → end + 1 < last →
      Reached Turtle bs last (Number number.Fraction) (Some (last, Decimal))
  fraction last m q more =
      let c = get_or bs (end + 1) 0 in
      let d : is_digit c ≡ true = q.pass (end + 1) (omega arith) more in
      let within = q.within in
      let rest : IsRun is_digit bs (end + 1 + 1) last =
      record { from = omega arith; within = within; pass = λ k a b. q.pass k (omega arith) b; stops = q.stops } in
      digits_to (Number number.Fraction) Decimal (end + 1 + 1) last refl
      (λ c d. step_is is_digit (Number number.Fraction) number.Fraction refl c d (low-digit c d)) rest
      (digit_on (end + 1) (Number number.DigitsDot) (Number number.Fraction) (Some Decimal) (Some (end, Integer)) (omega arith) d (dot m)
      (step_is is_digit (Number number.DigitsDot) number.Fraction refl c d (low-digit c d)) refl)

  -- a decimal
  pub quick_decimal : (last : ℕ) → is_point bs end ≡ true → IsRun is_digit bs (end + 1) last → is_decimal_end bs end last ≡ true →
      IsToken Turtle bs last Decimal
  quick_decimal last m q z =
      let x = get_or bs last 0 in
      let p = and_parts _ _ z in
      let o = and_parts _ _ p.1 in
      let i : last < length bs = ltb-true last (length bs) o.0 in
      let a : x < 128 = ltb-true x 128 (and_parts _ _ o.1).0 in
      ended_at (Number number.Fraction) Decimal last (fraction last m q (ltb-true (end + 1) last p.0)) i a
      (step_ends ends_number (Number number.Fraction) refl x o.1 a (q.stops i)) (λ w. (number-fit w).1.0)

  -- The states have come to a place in a number, from where the letter of an exponent leads on.
  record TakesExponent (at : ℕ) : Type 0 where
    s : State
    b : Option (ℕ × Kind)
    reached : Reached Turtle bs at s b
    leads_on : agree_below (leads is_e s number.Exponent) (λ c. true) 128 ≡ true

  -- they have at the end of the digits
  takes : (at : ℕ) → (at ≡ end) ⊎ ((is_point bs end ≡ true) × IsRun is_digit bs (end + 1) at) → TakesExponent at
  takes at (inl e) = record {
    s = Number number.Digits;
    b = Some (end, Integer);
    reached = subst (λ k. Reached Turtle bs k (Number number.Digits) (Some (end, Integer))) (sym e) whole;
    leads_on = refl;
  }
  takes at (inr p) = by (nat_lt (end + 1) at) refl
    where
      by : (t : Bool) → nat_lt (end + 1) at ≡ t → TakesExponent at
      by true e = record { s = Number number.Fraction; b = Some (at, Decimal); reached = fraction at p.0 p.1 (ltb-true (end + 1) at e); leads_on = refl }
      by false e =
          let from = p.1.from in
          let x : at ≡ end + 1 = omega (arith, ltb-false (end + 1) at e) in
          record {
            s = Number number.DigitsDot;
            b = Some (end, Integer);
            reached = subst
                (λ k. Reached Turtle bs k (Number number.DigitsDot) (Some (end, Integer))) (sym x) (dot p.0);
            leads_on = refl;
          }

  -- the states after the letter of an exponent, its sign if it has one, and a digit
  exponent : (at : ℕ) → TakesExponent at → is_exponent bs at ≡ true → after_sign bs (at + 1) < length bs →
      is_digit (get_or bs (after_sign bs (at + 1)) 0) ≡ true →
      Reached Turtle bs (after_sign bs (at + 1) + 1) (Number number.ExponentDigits) (Some (after_sign bs (at + 1) + 1, Double))
  exponent at h e l d =
      let p = and_parts (nat_lt at (length bs)) (is_e (get_or bs at 0)) e in
      let low = low-e (get_or bs at 0) p.1 in
      let here : Reached Turtle bs (at + 1) (Number number.Exponent) h.b =
      byte_on at h.s (Number number.Exponent) None h.b (ltb-true at (length bs) p.0) low h.reached
      (sym (step_is is_e h.s number.Exponent h.leads_on (get_or bs at 0) p.1 low)) refl in
      by here (nat_lt (at + 1) (length bs) && is_sign (get_or bs (at + 1) 0)) refl l d
    where
      by : Reached Turtle bs (at + 1) (Number number.Exponent) h.b → (t : Bool) → (nat_lt (at + 1) (length bs) && is_sign (get_or bs (at + 1) 0)) ≡ t →
          cond t (at + 1 + 1) (at + 1) < length bs → is_digit (get_or bs (cond t (at + 1 + 1) (at + 1)) 0) ≡ true →
          Reached Turtle bs (cond t (at + 1 + 1) (at + 1) + 1) (Number number.ExponentDigits) (Some (cond t (at + 1 + 1) (at + 1) + 1, Double))
      by here true e l d =
          let p = and_parts (nat_lt (at + 1) (length bs)) (is_sign (get_or bs (at + 1) 0)) e in
          let low = low-sign (get_or bs (at + 1) 0) p.1 in
          digit_on (at + 1 + 1) (Number number.ExponentSign) (Number number.ExponentDigits) (Some Double) h.b l d
          (byte_on (at + 1) (Number number.Exponent) (Number number.ExponentSign) None h.b (ltb-true (at + 1) (length bs) p.0) low here
          (sym (step_is is_sign (Number number.Exponent) number.ExponentSign refl (get_or bs (at + 1) 0) p.1 low)) refl)
          (step_is is_digit (Number number.ExponentSign) number.ExponentDigits refl (get_or bs (at + 1 + 1) 0) d (low-digit (get_or bs (at + 1 + 1) 0) d)) refl
      by here false e l d =
          digit_on (at + 1) (Number number.Exponent) (Number number.ExponentDigits) (Some Double) h.b l d here
          (step_is is_digit (Number number.Exponent) number.ExponentDigits refl (get_or bs (at + 1) 0) d (low-digit (get_or bs (at + 1) 0) d)) refl

  -- a double
  double_from : (at first last : ℕ) → first ≡ after_sign bs (at + 1) → TakesExponent at → is_exponent bs at ≡ true →
      IsRun is_digit bs first last → is_double_end bs first last ≡ true →
      IsToken Turtle bs last Double
  double_from at first last f h e q z =
      let x = get_or bs last 0 in
      let p = and_parts (nat_lt first last) (nat_lt last (length bs) && nat_lt x 128) z in
      let o = and_parts (nat_lt last (length bs)) (nat_lt x 128) p.1 in
      let some : first < last = ltb-true first last p.0 in
      let i : last < length bs = ltb-true last (length bs) o.0 in
      let d : is_digit (get_or bs first 0) ≡ true = q.pass first (omega arith) some in
      let one : Reached Turtle bs (first + 1) (Number number.ExponentDigits) (Some (first + 1, Double)) =
      subst (λ k. Reached Turtle bs (k + 1) (Number number.ExponentDigits) (Some (k + 1, Double))) (sym f)
      (exponent at h e (subst (λ k. k < length bs) f (omega arith)) (subst (λ k. is_digit (get_or bs k 0) ≡ true) f d)) in
      let within = q.within in
      let rest : IsRun is_digit bs (first + 1) last =
      record { from = omega arith; within = within; pass = λ k a b. q.pass k (omega arith) b; stops = q.stops } in
      ended_at (Number number.ExponentDigits) Double last
      (digits_to (Number number.ExponentDigits) Double (first + 1) last refl
      (λ c d. step_is is_digit (Number number.ExponentDigits) number.ExponentDigits refl c d (low-digit c d)) rest one) i
      (ltb-true x 128 o.1) (step_ends (λ c. nat_lt c 128) (Number number.ExponentDigits) refl x o.1 (ltb-true x 128 o.1) (q.stops i)) (λ w. (number-fit w).1.1)

-- the same by the place where its digits end
pub quick_double : (bs : List ℕ) (start at first last : ℕ) → IsUtf8 bs → BeginsNumber bs start → IsMantissa bs start at →
    first ≡ after_sign bs (at + 1) → is_exponent bs at ≡ true →
    IsRun is_digit bs first last → is_double_end bs first last ≡ true → IsToken Turtle bs last Double
quick_double bs start at first last u n m f e q z = double_from bs start m.end u n m.run at first last f (takes bs start m.end u n m.run at m.rest) e q z
