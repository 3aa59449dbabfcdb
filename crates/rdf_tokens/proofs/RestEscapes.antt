-- A whole escape leads from the state within a string or an IRI back to it.
use Rattle.rdf_tokens.proofs.Prelude.{◌≡◌, ℕ, zero, suc, ◌+◌, ◌<◌, ◌≤◌, Bool, true, false, not, ◌||◌, ◌⊎◌, List, ◌++◌, get_or, nat_le, ◌&&◌, ◌==◌, refl, sym, ap, ◌∙◌, subst, arith, ⊎_elim, length, drop, Option, None, chars, agree_below, agree_below_at, and_parts, eqb-true, leb-true, false≢true, nat_tests, drop_more, encode_ascii, len_utf8_ascii, Dialect, Kind, Run, has, hex_digit, escape_letter, PassBetween, State, Quote, Single, Reached, Rests, kind_here, long_run, short_run, sort_by, with_length, only_long, three_quotes, IsEchar, IsEscapeThen, RestsInIri}
use Rattle.rdf_terms.specs.Escapes.{IsUchar, IsUcharOf}
use Rattle.rdf_tokens.specs.declared.states.machine.State.TheVariants as state
use Rattle.rdf_tokens.specs.declared.states.iri.Iri.TheVariants as iri_state
use Rattle.rdf_tokens.specs.declared.states.iri.Sort.{Sort as IriSort}
use Rattle.rdf_tokens.specs.declared.states.iri.Sort.TheVariants as iri_sort
use Rattle.rdf_tokens.specs.declared.states.text.Quote.TheVariants.{Double}
use Rattle.rdf_tokens.specs.declared.states.text.Text.{Text}
use Rattle.rdf_tokens.specs.declared.states.text.Text.TheVariants as text_state
use Rattle.rdf_tokens.specs.declared.states.text.Sort.{Sort as TextSort}
use Rattle.rdf_tokens.specs.declared.states.text.Sort.TheVariants as text_sort
use Rattle.rdf_tokens.specs.Machine.{step, kind_at}
use Rattle.rdf_tokens.specs.Iri as iri
use Rattle.rdf_tokens.specs.Text as text
use Rattle.rdf_tokens.proofs.NoNamesLemmas.{no_long}
use Rattle.rdf_tokens.proofs.RestLemmas.{rests-more}
use Rattle.rdf_tokens.proofs.RestStates.{rests_short, rests_long}
use Rattle.rdf_tokens.proofs.StateLemmas.{reached-step}

-- over one byte of ASCII to a state without a token
pub byte_on : (d : Dialect) (bs : List ℕ) (at : ℕ) (s t : State) (b : Option (ℕ × Kind)) → at < length bs → get_or bs at 0 < 128 →
    step d s (get_or bs at 0) ≡ t →
    kind_at t ≡ None → Reached d bs at s b → Reached d bs (at + 1) t b
byte_on d bs at s t b l a e n r =
    let c = get_or bs at 0 in
    reached-step d bs at (at + 1) c s t None b b r
    (drop_more bs at 0 l ∙ ap (λ w. w ++ drop (at + 1) bs) (sym (encode_ascii c a)))
    (ap (λ k. at + k) (sym (len_utf8_ascii c a)))
    (omega arith)
    (sym e)
    (sym (ap (only_long (three_quotes d (chars bs))) n ∙ no_long (three_quotes d (chars bs))))
    refl

-- how the states within a string or an IRI take a UCHAR: by the state after its backslash, and those that wait for one hex digit and so many more
record Numbers (s e : State) (h : ℕ → State) : Type 0 where
  slash : (d : Dialect) → step d s 92 ≡ e
  small : (d : Dialect) → step d e 117 ≡ h 3
  big : (d : Dialect) → step d e 85 ≡ h 7
  more : (d : Dialect) (n c : ℕ) → has hex_digit c ≡ true → step d (h (suc n)) c ≡ h n
  last : (d : Dialect) (c : ℕ) → has hex_digit c ≡ true → step d (h 0) c ≡ s
  none : kind_at s ≡ None
  none_after : kind_at e ≡ None
  none_yet : (n : ℕ) → kind_at (h n) ≡ None

-- a hex digit is ASCII
pub hex_below : (c : ℕ) → has hex_digit c ≡ true → c < 128
unfolding has
hex_below c h = grind (arith, nat_tests)

-- what follows a backslash is ASCII too
pub letter_below : (c : ℕ) → has escape_letter c ≡ true → c < 128
unfolding has
letter_below c h = grind (arith, nat_tests)

-- over hex digits, to the last one
hexes_on : (s e : State) (h : ℕ → State) → Numbers s e h → (d : Dialect) (bs : List ℕ) (b : Option (ℕ × Kind)) (n at : ℕ) → at + suc n ≤ length bs →
    PassBetween (has hex_digit) bs at (at + suc n) → Reached d bs at (h n) b → Reached d bs (at + suc n) s b
hexes_on s e h f d bs b zero at l p r =
    let x = p at (omega arith) (omega arith) in
    byte_on d bs at (h 0) s b (omega arith) (hex_below (get_or bs at 0) x) (f.last d (get_or bs at 0) x) f.none r
hexes_on s e h f d bs b (suc n) at l p r =
    let x = p at (omega arith) (omega arith) in
    let next = byte_on d bs at (h (suc n)) (h n) b (omega arith) (hex_below (get_or bs at 0) x) (f.more d n (get_or bs at 0) x) (f.none_yet n) r in
    let sum : at + 1 + suc n ≡ at + suc (suc n) = omega arith in
    subst (λ k. Reached d bs k s b) sum (hexes_on s e h f d bs b n (at + 1) (omega arith) (λ k from to. p k (omega arith) (omega arith)) next)

-- over a UCHAR, from a state that takes its backslash as the state within does
module _ (s e : State) (h : ℕ → State) (f : Numbers s e h) (o : State) (bs : List ℕ) (at end : ℕ) (d : Dialect) (b : Option (ℕ × Kind))
    (slash : step d o 92 ≡ e) where
  digits_on : (c n : ℕ) → c < 128 → step d e c ≡ h n → IsUcharOf c (suc n) bs at end → Reached d bs at o b → Reached d bs end s b
  digits_on c n a t u r =
      let x = u.slash in
      let y = u.letter in
      let w = u.digits.within in
      let z = u.digits.ends in
      let after = byte_on d bs at o e b (omega arith) (omega (arith, x)) (ap (step d o) x ∙ slash) f.none_after r in
      let begun = byte_on d bs (at + 1) e (h n) b (omega arith) (omega (arith, y)) (ap (step d e) y ∙ t) (f.none_yet n) after in
      let two : at + 1 + 1 ≡ at + 2 = omega arith in
      subst (λ k. Reached d bs k s b) (sym z)
      (hexes_on s e h f d bs b n (at + 2) (omega arith) (λ k x y. u.digits.hexes k x (omega arith))
      (subst (λ k. Reached d bs k (h n) b) two begun))

  uchar_on : IsUchar bs at end → Reached d bs at o b → Reached d bs end s b
  uchar_on u r = ⊎_elim (λ g. digits_on 117 3 (omega arith) (f.small d) g r) (λ g. digits_on 85 7 (omega arith) (f.big d) g r) u

-- no token ends within it, so none is told
none_told : (d : Dialect) (bs : List ℕ) (s : State) (at : ℕ) (b : Option (ℕ × Kind)) → kind_at s ≡ None → with_length at (kind_here d bs s) b ≡ b
none_told d bs s at b n = ap (λ k. with_length at k b) (ap (only_long (three_quotes d (chars bs))) n ∙ no_long (three_quotes d (chars bs)))

-- bytes that lead back to a state without a token
pub rests_by : (s : State) (bs : List ℕ) (at end : ℕ) → kind_at s ≡ None → at ≤ end → end ≤ length bs →
    ((d : Dialect) (b : Option (ℕ × Kind)) → Reached d bs at s b → Reached d bs end s b) → Rests s bs at end
rests_by s bs at end n from within f = record {
  from = from;
  within = within;
  on = λ d b r. subst (Reached d bs end s) (sym (none_told d bs s end b n)) (f d b (subst (Reached d bs at s) (none_told d bs s at b n) r));
}

-- where a UCHAR ends
pub uchar_from : (bs : List ℕ) (at end : ℕ) → IsUchar bs at end → (at < end) × (end ≤ length bs)
uchar_from bs at end u =
    ⊎_elim (λ g. (omega (arith, g.digits.ends), g.digits.within)) (λ g. (omega (arith, g.digits.ends), g.digits.within)) u

-- so a UCHAR leads back to the state before it
rests_uchar : (s e : State) (h : ℕ → State) → Numbers s e h → (bs : List ℕ) (at end : ℕ) → IsUchar bs at end → Rests s bs at end
rests_uchar s e h f bs at end u =
    let l = uchar_from bs at end u in
    rests_by s bs at end f.none (let x = l.0 in omega arith) l.1 (λ d b r. uchar_on s e h f s bs at end d b (f.slash d) u r)

-- over an ECHAR, from such a state
echar_on : (s e : State) (h : ℕ → State) → Numbers s e h → ((d : Dialect) (c : ℕ) → has escape_letter c ≡ true → step d e c ≡ s) →
    (o : State) (bs : List ℕ) (at end : ℕ) (d : Dialect)
    (b : Option (ℕ × Kind)) → step d o 92 ≡ e → IsEchar bs at end → Reached d bs at o b → Reached d bs end s b
echar_on s e h f letter o bs at end d b slash u r =
    let w = u.within in
    let z = u.ends in
    let x = u.slash in
    let after = byte_on d bs at o e b (omega arith) (omega arith) (ap (step d o) x ∙ slash) f.none_after r in
    let done = byte_on d bs (at + 1) e s b (omega arith) (letter_below (get_or bs (at + 1) 0) u.letter)
    (letter d (get_or bs (at + 1) 0) u.letter) f.none after in
    let two : at + 1 + 1 ≡ end = omega arith in
    subst (λ k. Reached d bs k s b) two done

-- so an ECHAR leads back
rests_echar : (s e : State) (h : ℕ → State) → Numbers s e h → ((d : Dialect) (c : ℕ) → has escape_letter c ≡ true → step d e c ≡ s) →
    (bs : List ℕ) (at end : ℕ) → IsEchar bs at end → Rests s bs at end
rests_echar s e h f letter bs at end u =
    rests_by s bs at end f.none (omega (arith, u.ends)) u.within (λ d b r. echar_on s e h f letter s bs at end d b (f.slash d) u r)

-- The states of strings. A hex digit and a letter of ECHAR are sorts of their own.
abbrev is_hex_sort : TextSort → Bool
is_hex_sort text_sort.HexLetter = true
is_hex_sort text_sort.HexDigit = true
is_hex_sort x = false

abbrev is_letter_sort : TextSort → Bool
is_letter_sort text_sort.Quotation = true
is_letter_sort text_sort.Apostrophe = true
is_letter_sort text_sort.Backslash = true
is_letter_sort text_sort.Letter = true
is_letter_sort text_sort.HexLetter = true
is_letter_sort x = false

-- what a test of each byte of ASCII tells of one that passes another
pub implied : (p q : ℕ → Bool) → agree_below (λ c. not (p c) || q c) (λ _. true) 128 ≡ true → (c : ℕ) → c < 128 → p c ≡ true → q c ≡ true
implied p q all c l h = sym (ap (λ t. not t || q c) h) ∙ agree_below_at (λ c. not (p c) || q c) (λ _. true) 128 c all l

-- a hex digit is of such a sort, by a test of each byte
text_hex : (c : ℕ) → has hex_digit c ≡ true → is_hex_sort (sort_by text.ascii text.high c) ≡ true
unfolding has
text_hex c h = implied (has hex_digit) (λ c. is_hex_sort (sort_by text.ascii text.high c)) refl c (hex_below c h) h

-- and so is a letter of ECHAR
text_letter : (c : ℕ) → has escape_letter c ≡ true → is_letter_sort (sort_by text.ascii text.high c) ≡ true
unfolding has
text_letter c h = implied (has escape_letter) (λ c. is_letter_sort (sort_by text.ascii text.high c)) refl c (letter_below c h) h

-- such a sort leads on where a hex digit is to come
if_hex-hex : (s : Text) (x : TextSort) → is_hex_sort x ≡ true → text.if_hex s x ≡ s
if_hex-hex s text_sort.HexLetter h = refl
if_hex-hex s text_sort.HexDigit h = refl
if_hex-hex s x h = absurd (false≢true h)

-- and back after a backslash
escaped-letter : (hex : ℕ → Text) (s : Text) (x : TextSort) → is_letter_sort x ≡ true → text.escaped hex s x ≡ s
escaped-letter hex s text_sort.Quotation h = refl
escaped-letter hex s text_sort.Apostrophe h = refl
escaped-letter hex s text_sort.Backslash h = refl
escaped-letter hex s text_sort.Letter h = refl
escaped-letter hex s text_sort.HexLetter h = refl
escaped-letter hex s x h = absurd (false≢true h)

-- how a string with one quote at each end takes a UCHAR
short_numbers : (q : Quote) → Numbers (state.Text (text_state.Short q)) (state.Text (text_state.ShortEscape q)) (λ n. state.Text (text_state.ShortHex q n))
short_numbers q = record {
  slash = λ d. slash q d;
  small = λ d. refl;
  big = λ d. refl;
  more = λ d n c h. ap state.Text (if_hex-hex (text_state.ShortHex q n) (sort_by text.ascii text.high c) (text_hex c h));
  last = λ d c h. ap state.Text (if_hex-hex (text_state.Short q) (sort_by text.ascii text.high c) (text_hex c h));
  none = refl;
  none_after = refl;
  none_yet = λ n. refl;
}
  where
    slash : (q : Quote) (d : Dialect) → step d (state.Text (text_state.Short q)) 92 ≡ state.Text (text_state.ShortEscape q)
    slash Double d = refl
    slash Single d = refl

-- how one with three does
long_numbers : (q : Quote) → Numbers (state.Text (text_state.Long q)) (state.Text (text_state.LongEscape q)) (λ n. state.Text (text_state.LongHex q n))
long_numbers q = record {
  slash = λ d. slash q d;
  small = λ d. refl;
  big = λ d. refl;
  more = λ d n c h. ap state.Text (if_hex-hex (text_state.LongHex q n) (sort_by text.ascii text.high c) (text_hex c h));
  last = λ d c h. ap state.Text (if_hex-hex (text_state.Long q) (sort_by text.ascii text.high c) (text_hex c h));
  none = refl;
  none_after = refl;
  none_yet = λ n. refl;
}
  where
    slash : (q : Quote) (d : Dialect) → step d (state.Text (text_state.Long q)) 92 ≡ state.Text (text_state.LongEscape q)
    slash Double d = refl
    slash Single d = refl

-- a letter of ECHAR leads back into a string with one quote at each end
short_letter : (q : Quote) (d : Dialect) (c : ℕ) → has escape_letter c ≡ true → step d (state.Text (text_state.ShortEscape q)) c ≡ state.Text (text_state.Short q)
short_letter q d c h = ap state.Text (escaped-letter (λ n. text_state.ShortHex q n) (text_state.Short q) (sort_by text.ascii text.high c) (text_letter c h))

-- an escape leads back into a string with one quote at each end
pub short_escape : (q : Quote) (bs : List ℕ) (at end : ℕ) → IsEchar bs at end ⊎ IsUchar bs at end → Rests (state.Text (text_state.Short q)) bs at end
short_escape q bs at end u = ⊎_elim
    (λ x. rests_echar (state.Text (text_state.Short q)) (state.Text (text_state.ShortEscape q)) (λ n. state.Text (text_state.ShortHex q n))
    (short_numbers q) (short_letter q) bs at end x)
    (λ x. rests_uchar (state.Text (text_state.Short q)) (state.Text (text_state.ShortEscape q)) (λ n. state.Text (text_state.ShortHex q n))
    (short_numbers q) bs at end x)
    u

-- and into one with three
pub long_escape : (q : Quote) (bs : List ℕ) (at end : ℕ) → IsEchar bs at end ⊎ IsUchar bs at end → Rests (state.Text (text_state.Long q)) bs at end
long_escape q bs at end u = ⊎_elim
    (λ x. rests_echar (state.Text (text_state.Long q)) (state.Text (text_state.LongEscape q)) (λ n. state.Text (text_state.LongHex q n))
    (long_numbers q) (λ d c h. ap state.Text (escaped-letter (λ n. text_state.LongHex q n) (text_state.Long q)
    (sort_by text.ascii text.high c) (text_letter c h))) bs at end x)
    (λ x. rests_uchar (state.Text (text_state.Long q)) (state.Text (text_state.LongEscape q)) (λ n. state.Text (text_state.LongHex q n))
    (long_numbers q) bs at end x)
    u

-- so does an escape with the run after it
pub short_then : (q : Quote) (bs : List ℕ) (at end : ℕ) → IsEscapeThen (short_run q) bs at end → Rests (state.Text (text_state.Short q)) bs at end
short_then q bs at end x = rests-more (state.Text (text_state.Short q)) bs at x.mid end (short_escape q bs at x.mid x.escape) (rests_short q bs x.mid end x.run)

pub long_then : (q : Quote) (bs : List ℕ) (at end : ℕ) → IsEscapeThen (long_run q) bs at end → Rests (state.Text (text_state.Long q)) bs at end
long_then q bs at end x = rests-more (state.Text (text_state.Long q)) bs at x.mid end (long_escape q bs at x.mid x.escape) (rests_long q bs x.mid end x.run)

-- it has some bytes
pub escape_on : (r : Run) (bs : List ℕ) (at end : ℕ) → IsEscapeThen r bs at end → at < end
escape_on r bs at end x =
    let l : at < x.mid = ⊎_elim (λ u. omega (arith, u.ends)) (λ u. (uchar_from bs at x.mid u).0) x.escape in
    omega (arith, l, x.run.from)

-- an escape after the first quote leads into the string
pub opened_escape : (d : Dialect) (q : Quote) (bs : List ℕ) (at end : ℕ) (b : Option (ℕ × Kind)) → IsEchar bs at end ⊎ IsUchar bs at end →
    Reached d bs at (state.Text (text_state.Opened q)) b → Reached d bs end (state.Text (text_state.Short q)) b
opened_escape d q bs at end b u r =
    let s = state.Text (text_state.Short q) in
    let e = state.Text (text_state.ShortEscape q) in
    let h = λ (n : ℕ). state.Text (text_state.ShortHex q n) in
    let o = state.Text (text_state.Opened q) in
    ⊎_elim
    (λ x. echar_on s e h (short_numbers q) (short_letter q) o bs at end d b (slash q) x r)
    (λ x. uchar_on s e h (short_numbers q) o bs at end d b (slash q) x r)
    u
  where
    slash : (q : Quote) → step d (state.Text (text_state.Opened q)) 92 ≡ state.Text (text_state.ShortEscape q)
    slash Double = refl
    slash Single = refl

-- the bytes that are tested are an ECHAR
pub echar_of : (bs : List ℕ) (at : ℕ) → (nat_le (at + 2) (length bs) && get_or bs at 0 == 92 && has escape_letter (get_or bs (at + 1) 0)) ≡ true →
    IsEchar bs at (at + 2)
echar_of bs at e =
    let p = and_parts _ _ e in
    let q = and_parts _ _ p.0 in
    record { ends = refl; within = leb-true (at + 2) (length bs) q.0; slash = eqb-true (get_or bs at 0) 92 q.1; letter = p.1 }

-- The states of IRIs.
abbrev is_hex_in_iri : IriSort → Bool
is_hex_in_iri iri_sort.HexDigit = true
is_hex_in_iri x = false

-- a hex digit is of that sort
iri_hex : (c : ℕ) → has hex_digit c ≡ true → is_hex_in_iri (sort_by iri.ascii iri.high c) ≡ true
unfolding has
iri_hex c h = implied (has hex_digit) (λ c. is_hex_in_iri (sort_by iri.ascii iri.high c)) refl c (hex_below c h) h

-- the last one leads back
iri_last : (x : IriSort) → is_hex_in_iri x ≡ true → iri.move (iri_state.Hex 0) x ≡ iri_state.Inside
iri_last iri_sort.HexDigit h = refl
iri_last x h = absurd (false≢true h)

-- another one leads to the next
iri_more : (n : ℕ) (x : IriSort) → is_hex_in_iri x ≡ true → iri.move (iri_state.Hex (suc n)) x ≡ iri_state.Hex n
iri_more n iri_sort.HexDigit h = refl
iri_more n x h = absurd (false≢true h)

-- how an IRI takes a UCHAR
iri_numbers : Numbers (state.Iri iri_state.Inside) (state.Iri iri_state.Escape) (λ n. state.Iri (iri_state.Hex n))
iri_numbers = record {
  slash = λ d. refl;
  small = λ d. refl;
  big = λ d. refl;
  more = λ d n c h. ap state.Iri (iri_more n (sort_by iri.ascii iri.high c) (iri_hex c h));
  last = λ d c h. ap state.Iri (iri_last (sort_by iri.ascii iri.high c) (iri_hex c h));
  none = refl;
  none_after = refl;
  none_yet = λ n. refl;
}

-- an escape of an IRI
pub rests_uchar_in_iri : (bs : List ℕ) (at end : ℕ) → IsUchar bs at end → RestsInIri bs at end
rests_uchar_in_iri bs at end u =
    rests_uchar (state.Iri iri_state.Inside) (state.Iri iri_state.Escape) (λ n. state.Iri (iri_state.Hex n)) iri_numbers bs at end u
