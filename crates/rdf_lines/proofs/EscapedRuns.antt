-- A run stands as it is written, with the character after it.
use Rattle.rdf_lines.proofs.Prelude.{◌≡◌, ℕ, zero, suc, ◌<◌, ◌≤◌, Bool, true, false, List, [], ◌∷◌, ◌++◌, refl, sym, ap, ◌∙◌, subst, ⊎_elim, length, take, drop, get_or, arith, flat_map, chars, IsUtf8, IsCharBoundary, encode_utf8_all, AllByRecursion, encode, encodes, and_parts, and_from, cases_lt, nat_tests, take-append-drop, flat_map-append, IsUtf8-had, IsUtf8-take, IsCharBoundary-end, IsCharBoundary-before_ascii, IsCharBoundary-from_take, encodes-append, encodes-chars, chars-append, chars-nil, chars_past_char, length-encode, len_utf8_bounds, iri_char, IsRun, goes_over, is_short_byte, is_ascii_byte, is_ascii_quote_byte, all_have, iri_chars, encode_one, Escapes, Ascii, escaped, written, escaped_bytes, run_of}
use Rattle.std.proofs.Math.Logic.{∥∥₁_elim}
use mathlib.Core.Bool.{Bool-set}
use Rattle.rdf_terms.specs.declared.views.IriView.{IriView}
use Rattle.rdf_terms.specs.Classes.{has}
use Rattle.rdf_lines.specs.declared.form.Escapes.TheVariants.{Plain}
use Rattle.rdf_lines.proofs.AsciiLemmas.{low_encodes, low_scalars}
use Rattle.rdf_lines.proofs.EncodedLine.{high_bytes}

-- the bytes that a run goes over, as a test
abbrev passes : Escapes → ℕ → Bool
passes e b = goes_over (run_of e) b

-- a test that holds of two texts in a row holds of each
have_parts : (p : ℕ → Bool) (u v : List ℕ) → all_have p (u ++ v) ≡ true → (all_have p u ≡ true) × (all_have p v ≡ true)
have_parts p [] v h = (refl, h)
have_parts p (c ∷ u) v h =
    let a = and_parts (p c) (all_have p (u ++ v)) h in
    let b = have_parts p u v a.1 in
    (and_from (p c) (all_have p u) a.0 b.0, b.1)

-- a character of ASCII that a run goes over
low_stands : (e : Escapes) (c : ℕ) → c < 128 → passes e c ≡ true → escaped e c ≡ c ∷ []
low_stands Plain c l h = grind (arith, nat_tests)
low_stands Ascii c l h = grind (arith, nat_tests)

-- a test that bytes from 128 on fail fails on those of a character from U+0080 on
no_high : (p : ℕ → Bool) → ((b : ℕ) → 128 ≤ b → p b ≡ true → ⊥) → (c : ℕ) → 128 ≤ c → all_have p (encode c) ≡ true → ⊥
no_high p none c l h = fails (encode c) (let n = length-encode c in let one = (len_utf8_bounds c).0 in omega arith) (high_bytes c l) h
  where
    fails : (w : List ℕ) → 0 < length w → AllByRecursion (λ b. 128 ≤ b) w → all_have p w ≡ true → ⊥
    fails [] l a h = omega arith
    fails (b ∷ w) l a h = none b a.0 (and_parts (p b) (all_have p w) h).0

-- a run in a string of the ASCII form goes over no byte from 128 on
no_ascii_text : (b : ℕ) → 128 ≤ b → is_ascii_quote_byte b ≡ true → ⊥
no_ascii_text b l h = grind (arith, nat_tests)

-- nor does one in an IRI
no_ascii : (b : ℕ) → 128 ≤ b → is_ascii_byte b ≡ true → ⊥
no_ascii b l h = grind (arith, nat_tests)

-- another one
high_stands : (e : Escapes) (c : ℕ) → 128 ≤ c → all_have (passes e) (encode c) ≡ true → escaped e c ≡ c ∷ []
high_stands Plain c l h = stands c l
  where
    stands : (c : ℕ) → 128 ≤ c → escaped Plain c ≡ c ∷ []
    stands c l = grind (arith, nat_tests)
high_stands Ascii c l h = absurd (no_high is_ascii_quote_byte no_ascii_text c l h)

-- so a character whose bytes a run goes over is written as itself
stands : (e : Escapes) (c : ℕ) → all_have (passes e) (encode c) ≡ true → escaped e c ≡ c ∷ []
stands e c h =
    ⊎_elim
    (λ (l : c < 128). low_stands e c l (and_parts (passes e c) true (subst (λ w. all_have (passes e) w ≡ true) (encode_one c l) h)).0)
    (λ l. high_stands e c l h)
    (cases_lt c 128)

-- characters that each stand as they are, by their bytes, stand so together
each_stands : (p : ℕ → Bool) (f : ℕ → List ℕ) → ((c : ℕ) → all_have p (encode c) ≡ true → f c ≡ c ∷ []) → (cs : List ℕ) →
    all_have p (encodes cs) ≡ true → flat_map f cs ≡ cs
each_stands p f one [] h = refl
each_stands p f one (c ∷ cs) h =
    let (a, b) = have_parts p (encode c) (encodes cs) h in
    ap (λ x. x ++ flat_map f cs) (one c a) ∙ ap (λ x. c ∷ x) (each_stands p f one cs b)

-- and a text of such characters too
pub all_stand : (e : Escapes) (cs : List ℕ) → all_have (passes e) (encodes cs) ≡ true → flat_map (escaped e) cs ≡ cs
all_stand e cs h = each_stands (passes e) (escaped e) (stands e) cs h

-- a text that a run goes over is written as it is
pub text_stands : (e : Escapes) (w : List ℕ) → IsUtf8 w → all_have (goes_over (run_of e)) w ≡ true → escaped_bytes e w ≡ w
text_stands e w u h =
    let whole = encodes-chars w u in
    ap encodes (all_stand e (chars w) (subst (λ x. all_have (passes e) x ≡ true) (sym whole) h)) ∙ whole

-- a test that holds at each place of a front holds of the front
front_passes : (p : ℕ → Bool) (w : List ℕ) (n : ℕ) → ((k : ℕ) → k < n → p (get_or w k 0) ≡ true) → n ≤ length w → all_have p (take n w) ≡ true
front_passes p w zero h l = refl
front_passes p [] (suc n) h l = refl
front_passes p (c ∷ w) (suc n) h l =
    and_from (p c) (all_have p (take n w)) (h 0 (omega arith)) (front_passes p w n (λ k m. h (suc k) (omega arith)) (omega arith))

-- the front that a run went over passes its test
pub run_front : (e : Escapes) (w : List ℕ) (n : ℕ) → IsRun (goes_over (run_of e)) w 0 n → all_have (passes e) (take n w) ≡ true
run_front e w n r = front_passes (passes e) w n (λ k l. r.pass k (omega arith) l) r.within

-- the text may be cut where a run ends
all_low : (w : List ℕ) → all_have is_ascii_quote_byte w ≡ true → AllByRecursion (λ c. c < 128) w
all_low [] h = tt
all_low (b ∷ w) h = let p = and_parts (is_ascii_quote_byte b) (all_have is_ascii_quote_byte w) h in (low b p.0, all_low w p.1)
  where
    low : (b : ℕ) → is_ascii_quote_byte b ≡ true → b < 128
    low b h = grind (arith, nat_tests)

-- before its end a text is cut at a byte of ASCII, or after bytes of ASCII
cut_inside : (e : Escapes) (w : List ℕ) (n : ℕ) → IsUtf8 w → IsRun (goes_over (run_of e)) w 0 n → n < length w → IsCharBoundary w n
cut_inside Plain w n u r l = IsCharBoundary-before_ascii w n l (low (get_or w n 0) (r.stops l))
  where
    low : (b : ℕ) → is_short_byte 34 b ≡ false → b < 128
    low b h = grind (arith, nat_tests)
cut_inside Ascii w n u r l =
    let a = all_low (take n w) (run_front Ascii w n r) in
    IsCharBoundary-from_take w n u r.within (take n w, (low_scalars (take n w) a, low_encodes (take n w) a))

-- so the front is UTF-8 and can be copied by itself
pub run_cut : (e : Escapes) (w : List ℕ) (n : ℕ) → IsUtf8 w → IsRun (goes_over (run_of e)) w 0 n → IsCharBoundary w n
run_cut e w n u r =
    ⊎_elim
    (λ l. cut_inside e w n u r l)
    (λ l. let whole : length w ≡ n = omega (arith, r.within) in subst (IsCharBoundary w) whole (IsCharBoundary-end w))
    (cases_lt n (length w))

-- a run, and what follows it
pub run_written : (e : Escapes) (w : List ℕ) (n : ℕ) → IsUtf8 w → IsRun (goes_over (run_of e)) w 0 n →
    escaped_bytes e w ≡ take n w ++ escaped_bytes e (drop n w)
run_written e w n u r =
    let front = take n w in
    let rest = drop n w in
    let f = IsUtf8-take w n u (run_cut e w n u r) in
    let whole = encodes-chars front f in
    let plain : flat_map (escaped e) (chars front) ≡ chars front =
    all_stand e (chars front) (subst (λ x. all_have (passes e) x ≡ true) (sym whole) (run_front e w n r)) in
    ap (λ x. encodes (flat_map (escaped e) (chars x))) (sym (take-append-drop n w))
    ∙ (ap (λ x. encodes (flat_map (escaped e) x)) (chars-append front rest f)
    ∙ (ap encodes (flat_map-append (escaped e) (chars front) (chars rest))
    ∙ (encodes-append (flat_map (escaped e) (chars front)) (flat_map (escaped e) (chars rest))
    ∙ ap (λ x. x ++ escaped_bytes e rest) (ap encodes plain ∙ whole))))

-- a character, and what follows it
pub char_written : (e : Escapes) (w rest : List ℕ) (c : ℕ) → IsUtf8 w → w ≡ encode c ++ rest →
    escaped_bytes e w ≡ encode_utf8_all (escaped e c) ++ escaped_bytes e rest
char_written e w rest c u s =
    ap (λ x. encodes (flat_map (escaped e) x)) (chars_past_char w rest c u s) ∙ encodes-append (escaped e c) (flat_map (escaped e) (chars rest))

-- in the plain form an IRI stands as it is
pub each : (w : List ℕ) → flat_map (written Plain) w ≡ w
each [] = refl
each (c ∷ w) = ap (λ x. c ∷ x) (each w)

-- so its bytes are copied
pub plain_iri : (i : IriView) → encode_utf8_all (flat_map (written Plain) (iri_chars i)) ≡ i.text.now
plain_iri i = ap encodes (each (iri_chars i)) ∙ encodes-chars i.text.now (IsUtf8-had _ i.utf8)

-- a character of an IRI that is ASCII
ascii_stands : (c : ℕ) → all_have is_ascii_byte (encode c) ≡ true → written Ascii c ≡ c ∷ []
ascii_stands c h = ⊎_elim (λ (l : c < 128). low c l) (λ l. absurd (no_high is_ascii_byte no_ascii c l h)) (cases_lt c 128)
  where
    low : (c : ℕ) → c < 128 → written Ascii c ≡ c ∷ []
    low c l = grind (arith, nat_tests)

-- in ASCII an IRI of ASCII stands as it is
pub ascii_iri : (i : IriView) → all_have is_ascii_byte i.text.now ≡ true → encode_utf8_all (flat_map (written Ascii) (iri_chars i)) ≡ i.text.now
ascii_iri i h =
    let whole = encodes-chars i.text.now (IsUtf8-had _ i.utf8) in
    ap encodes (each_stands is_ascii_byte (written Ascii) ascii_stands (iri_chars i) (subst (λ x. all_have is_ascii_byte x ≡ true) (sym whole) h)) ∙ whole

-- the four short escapes are of characters that no IRI has
iri_char_stands : (e : Escapes) (c : ℕ) → has iri_char c ≡ true → escaped e c ≡ written e c
unfolding has
iri_char_stands e c h = grind (arith, nat_tests)

-- so an IRI may be written by the loop that writes strings
all_iri : (e : Escapes) (w : List ℕ) → all_have (has iri_char) w ≡ true → flat_map (escaped e) w ≡ flat_map (written e) w
all_iri e [] h = refl
all_iri e (c ∷ w) h =
    let p = and_parts (has iri_char c) (all_have (has iri_char) w) h in
    ap (λ x. x ++ flat_map (escaped e) w) (iri_char_stands e c p.0) ∙ ap (λ x. written e c ++ x) (all_iri e w p.1)

-- no character of an IRI is escaped by a letter
pub escaped_iri : (e : Escapes) (i : IriView) → escaped_bytes e i.text.now ≡ encode_utf8_all (flat_map (written e) (iri_chars i))
escaped_iri e i = ap encodes (all_iri e (iri_chars i) (∥∥₁_elim i.is_iri (Bool-set _ _) (λ x. x.characters)))

-- nothing is written for no characters
pub none_written : (e : Escapes) (w : List ℕ) → length w ≡ 0 → escaped_bytes e w ≡ []
none_written e [] l = ap (λ x. encodes (flat_map (escaped e) x)) chars-nil
none_written e (c ∷ w) l = absurd (omega arith)
