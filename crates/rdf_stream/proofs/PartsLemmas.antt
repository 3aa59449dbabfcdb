-- From the parts of a piece to all of it.
use Rattle.rdf_stream.proofs.Prelude.{◌≡◌, ◌+◌, ◌≤◌, ◌<◌, ℕ, zero, suc, Bool, true, false, List, [], ◌∷◌, ◌++◌, ◌==◌, not, length, take, drop, get_or, sym, ap, subst, ◌∙◌, append_assoc, ⊎_elim, length-take, arith, IsUtf8, IsCharBoundary, cases_Bool, cases_lt, cond-true, cond-false, IsCharBoundary-from_take, drop-append-le, drop-drop, length-drop, length-take-le, take-append-drop, take-append-le, take-add, take-length, most_bytes, written_as, StreamFault, HaltsWithin, IsAsciiText, MayPass, HaltsOn, HasBegun, StaysOn, TakesMore}
use Rattle.std.proofs.lemmas.Bool.Decides.{nat_tests}
use Rattle.rdf_terms.specs.Runs.{IsRun, is_ascii_byte}
use Rattle.rdf_lines.specs.declared.form.LineEnding.{LineEnding}
use Rattle.rdf_lines.specs.declared.form.LineEnding.TheVariants.{Lf, CrLf}
use Rattle.rdf_lines.proofs.AsciiLemmas.{low_encodes, low_scalars}

-- a front of an ASCII text is ASCII
pub ascii_take : (n : ℕ) (w : List ℕ) → IsAsciiText w → IsAsciiText (take n w)
ascii_take zero w a = tt
ascii_take (suc n) [] a = tt
ascii_take (suc n) (b ∷ w) a = (a.0, ascii_take n w a.1)

-- so is what is written of its lines
pub low_written : (ending : LineEnding) (w : List ℕ) → IsAsciiText w → IsAsciiText (written_as ending w)
low_written Lf w a = a
low_written CrLf [] a = tt
low_written CrLf (b ∷ w) a =
    let rest = low_written CrLf w a.1 in
    ⊎_elim
    (λ t. subst IsAsciiText (sym (cond-true (not (b == 13)) (b ∷ written_as CrLf w) (written_as CrLf w) t)) (a.0, rest))
    (λ t. subst IsAsciiText (sym (cond-false (not (b == 13)) (b ∷ written_as CrLf w) (written_as CrLf w) t)) rest)
    (cases_Bool (not (b == 13)))

-- so is what stands from a place on
ascii_drop : (n : ℕ) (w : List ℕ) → IsAsciiText w → IsAsciiText (drop n w)
ascii_drop zero w a = a
ascii_drop (suc n) [] a = tt
ascii_drop (suc n) (b ∷ w) a = ascii_drop n w a.1

-- and a front of that
pub ascii_from : (text rest : List ℕ) (at : ℕ) → rest ≡ take (length rest) (drop at text) → IsAsciiText text → IsAsciiText rest
ascii_from text rest at e a = subst IsAsciiText (sym e) (ascii_take (length rest) (drop at text) (ascii_drop at text a))

-- the text may be cut where a run of ASCII ends
module _ (w : List ℕ) (n : ℕ) (r : IsRun is_ascii_byte w 0 n) where
  -- the bytes that a run of ASCII goes over are ASCII
  pub low_run : IsAsciiText (take n w)
  low_run = each w n (λ k l. r.pass k (omega arith) l) r.within
    where
      low : (b : ℕ) → is_ascii_byte b ≡ true → b < 128
      low b h = grind (arith, nat_tests)

      each : (w : List ℕ) (n : ℕ) → ((k : ℕ) → k < n → is_ascii_byte (get_or w k 0) ≡ true) → n ≤ length w → IsAsciiText (take n w)
      each w zero h l = tt
      each [] (suc n) h l = tt
      each (b ∷ w) (suc n) h l = (low b (h 0 (omega arith)), each w n (λ k m. h (suc k) (omega arith)) (omega arith))

  -- so the front and the rest are UTF-8, and each can be read by itself
  pub ascii_cut : IsUtf8 w → IsCharBoundary w n
  ascii_cut u = IsCharBoundary-from_take w n u r.within (take n w, (low_scalars (take n w) low_run, low_encodes (take n w) low_run))

-- a front of what stands from a place on in a front of the bytes stands there in the bytes
pub front_at : (rest text front : List ℕ) (v at n : ℕ) → text ≡ take v rest → front ≡ take (length front) (drop at text) →
    n ≤ length front → take n front ≡ take n (drop at rest)
front_at rest text front v at n t f h = ⊎_elim outside inside (cases_lt (length text) at)
  where
    outside : length text < at → take n front ≡ take n (drop at rest)
    outside o =
        let zero_len : n ≡ 0 = omega (arith, ap length f, length-take (length front) (drop at text), length-drop at text, o, h) in
        ap (λ m. take m front) zero_len ∙ sym (ap (λ m. take m (drop at rest)) zero_len)

    inside : at ≤ length text → take n front ≡ take n (drop at rest)
    inside i =
        let whole : rest ≡ text ++ drop v rest = sym (take-append-drop v rest) ∙ ap (λ l. l ++ drop v rest) (sym t) in
        let then_text : drop at rest ≡ drop at text ++ drop v rest = ap (drop at) whole ∙ drop-append-le at text (drop v rest) i in
        let split : drop at text ≡ front ++ drop (length front) (drop at text) =
        sym (take-append-drop (length front) (drop at text)) ∙ ap (λ l. l ++ drop (length front) (drop at text)) (sym f) in
        let all : drop at rest ≡ front ++ (drop (length front) (drop at text) ++ drop v rest) =
        then_text ∙ (ap (λ l. l ++ drop v rest) split ∙ append_assoc front (drop (length front) (drop at text)) (drop v rest)) in
        sym (ap (take n) all ∙ take-append-le n front (drop (length front) (drop at text) ++ drop v rest) h)

-- what stands from a place on in such a text may be passed there
pub pass_later : (text front later : List ℕ) (at n to : ℕ) (b : Bool) → to ≡ at + n → MayPass text at b front →
    later ≡ take (length later) (drop n front) → MayPass text to b later
pass_later text front later at n to b t m e = record {
  stands = sym (take-length later) ∙ (front_at (drop at text) front later (length front) n (length later) m.stands e (omega arith)
      ∙ ap (take (length later)) (drop-drop n at text ∙ ap (λ k. drop k text) (sym t)));
  ascii = λ h. ascii_from front later n e (m.ascii h);
}

-- such a front ends within the bytes
pub front_within : (rest text front : List ℕ) (v at n : ℕ) → text ≡ take v rest → front ≡ take (length front) (drop at text) →
    n ≤ length front → at ≤ length rest → at + n ≤ length rest
front_within rest text front v at n t f h w =
    omega (arith, ap length (front_at rest text front v at n t f h), length-take-le n front h, length-take n (drop at rest), length-drop at rest, w)

module _ {R : Type 0} (taken : R → List ℕ → R → Type 0) where
  -- a part more was taken, and then another
  pub takes_both : (a b c : R) (part more : List ℕ) → TakesMore taken a part b → TakesMore taken b more c → TakesMore taken a (part ++ more) c
  takes_both a b c part more p q first bytes t = subst (λ l. taken first l c) (append_assoc bytes part more) (q first (bytes ++ part) (p first bytes t))

  -- what takes more has begun
  pub begun_on : (a b : R) (part : List ℕ) → HasBegun taken a → TakesMore taken a part b → HasBegun taken b
  begun_on a b part h p = (h.0, h.1 ++ part, p h.0 h.1 h.2)

  -- the bytes before the place were taken, and they are not too many
  pub record HasTaken (a b : R) (rest : List ℕ) (at count : ℕ) : Type 0 where
    pub within : at ≤ length rest
    pub takes : TakesMore taken a (take at rest) b
    pub begun : HasBegun taken b
    pub few : count ≤ most_bytes

  -- as far as a place, and a part from there on
  pub takes_to : (a b c : R) (rest part : List ℕ) (at n : ℕ) → TakesMore taken a (take at rest) b → TakesMore taken b part c →
      part ≡ take n (drop at rest) → TakesMore taken a (take (at + n) rest) c
  takes_to a b c rest part at n p q e = subst (λ l. TakesMore taken a l c) (ap (λ l. take at rest ++ l) e ∙ sym (take-add at n rest))
      (takes_both a b c (take at rest) part p q)

  -- the text before the place was taken, and what stays has stayed
  pub record HasPassed (stays : R → R → Type 0) (a b : R) (text : List ℕ) (at : ℕ) : Type 0 where
    pub within : at ≤ length text
    pub takes : TakesMore taken a (take at text) b
    pub stays_on : StaysOn stays a b

  -- and a front of what stands from there on
  pub passes_on : (stays : R → R → Type 0) (a b c : R) (text rest : List ℕ) (at n : ℕ) → HasPassed stays a b text at →
      rest ≡ take (length rest) (drop at text) →
      n ≤ length rest → TakesMore taken b (take n rest) c → StaysOn stays b c → HasPassed stays a c text (at + n)
  passes_on stays a b c text rest at n h e l q s =
      let all = sym (take-length text) in
      record {
        within = front_within text text rest (length text) at n all e l h.within;
        takes = takes_to a b c text (take n rest) at n h.takes q (front_at text text rest (length text) at n all e l);
        stays_on = λ first x. s first (h.stays_on first x);
      }

  module _ (halts : StreamFault → R → List ℕ → Bool → R → Type 0) (f : StreamFault) where
    -- a part more was taken, and then the bytes are not read on
    pub halts_later : (a b c : R) (part more : List ℕ) → TakesMore taken a part b →
        HaltsOn taken halts f b (λ bytes. bytes ++ more) false c → HaltsOn taken halts f a (λ bytes. bytes ++ (part ++ more)) false c
    halts_later a b c part more p h first bytes t =
        subst (λ l. halts f first l false c) (append_assoc bytes part more) (h first (bytes ++ part) (p first bytes t))

    -- the same of a part of all the bytes
    pub halts_in : (a c : R) (part all : List ℕ) (n : ℕ) → part ≡ take n all → HaltsWithin taken halts f a part c →
        HaltsOn taken halts f a (λ bytes. bytes ++ all) false c
    halts_in a c part all n e h = subst (λ l. HaltsOn taken halts f a (λ bytes. bytes ++ l) false c)
        (ap (λ l. l ++ drop n all) e ∙ take-append-drop n all) (h (drop n all))

    -- as far as a place, and then a part from there on with which the bytes are not read on
    pub halts_from : (a b c : R) (rest part : List ℕ) (at n : ℕ) → TakesMore taken a (take at rest) b → part ≡ take n (drop at rest) →
        HaltsWithin taken halts f b part c →
        HaltsOn taken halts f a (λ bytes. bytes ++ rest) false c
    halts_from a b c rest part at n p e h =
        subst (λ l. HaltsOn taken halts f a (λ bytes. bytes ++ l) false c) (take-append-drop at rest)
        (halts_later a b c (take at rest) (drop at rest) p (halts_in b c part (drop at rest) n e h))

    -- the same, whatever comes after the bytes
    pub halts_at : (a b c : R) (text rest : List ℕ) (at : ℕ) → TakesMore taken a (take at text) b → rest ≡ take (length rest) (drop at text) →
        HaltsWithin taken halts f b rest c → HaltsWithin taken halts f a text c
    halts_at a b c text rest at p e h more =
        let left = drop (length rest) (drop at text) in
        let split : rest ++ left ≡ drop at text = ap (λ l. l ++ left) e ∙ take-append-drop (length rest) (drop at text) in
        let whole : take at text ++ (rest ++ (left ++ more)) ≡ text ++ more =
        ap (λ l. take at text ++ l) (sym (append_assoc rest left more) ∙ ap (λ l. l ++ more) split)
        ∙ (sym (append_assoc (take at text) (drop at text) more) ∙ ap (λ l. l ++ more) (take-append-drop at text)) in
        subst (λ l. HaltsOn taken halts f a (λ bytes. bytes ++ l) false c) whole
        (halts_later a b c (take at text) (rest ++ (left ++ more)) p (h (left ++ more)))
