-- References and labels whose bytes are plain up to their end, and strings with one quote at each end.
use Rattle.rdf_tokens.proofs.Prelude.{◌≡◌, ℕ, ◌+◌, ◌<◌, Bool, true, false, nat_lt, List, [], ◌∷◌, ◌&&◌, ◌||◌, ◌==◌, not, refl, sym, ap, ◌∙◌, subst, length, get_or, take, drop, arith, Option, Some, None, IsUtf8, agree_below, agree_below_at, and_parts, false≢true, eqb-true, ltb-true, nat_tests, drop_more, encode_ascii, length-encode, chars, Kind, IriRef, ShortString, LabelNode, Dialect, Lines, Turtle, fixed, IsRun, goes_over, iri_byte, is_name_byte, is_unescaped, is_fit, utf8_bytes, State, Quote, Single, FitsInIri, FitsInString, RestsInIri, with_length, three_quotes, only_long, live_by, rows_of, IsAt, Reached, front_by, short_run, stands_at, begins_label, begins_label_name, quote_byte, has_quote, opens_with, begins_string, is_empty_string, begins_iri, ends_name, is_name_end}
use Rattle.rdf_terms.proofs.PlainTokens.{valued_iri_fit, valued_string_fit}
use Rattle.rdf_tokens.specs.declared.states.machine.State.TheVariants.{Start, Iri, Text, Label}
use Rattle.rdf_tokens.specs.declared.states.iri.Iri.TheVariants as iri
use Rattle.rdf_tokens.specs.declared.states.label.Label.TheVariants as label
use Rattle.rdf_tokens.specs.declared.states.text.Text.TheVariants as text
use Rattle.rdf_tokens.specs.declared.states.text.Quote.TheVariants.{Double}
use Rattle.rdf_tokens.specs.Machine.{step, kind_at}
use Rattle.rdf_tokens.specs.Quick.{IsToken, is_short_ascii}
use Rattle.rdf_tokens.proofs.ByteLemmas.{at-start, ascii_first}
use Rattle.rdf_tokens.proofs.FitEscapes.{fits_byte, fits_iri_run, fits_none, fits_run, fits-more, fits-value, short_slash}
use Rattle.rdf_tokens.proofs.NoNamesLemmas.{implied, no_long, one_on}
use Rattle.rdf_tokens.proofs.NumberQuick.{no_first, first_rows}
use Rattle.rdf_tokens.proofs.QuickLemmas.{settled, first-none, other, not_true, low-name}
use Rattle.rdf_tokens.proofs.RestLemmas.{reached-run}
use Rattle.rdf_tokens.proofs.RestStates.{rests_iri, rests_short, rests_label}
use Rattle.rdf_tokens.proofs.SpellingLemmas.{quotes-bytes}
use Rattle.rdf_tokens.proofs.StateLemmas.{reached-step}

-- one byte of ASCII on, in a text that does not begin with three quotes
pub byte_on : (d : Dialect) (bs : List ℕ) (at : ℕ) (s t : State) (k : Option Kind) (b : Option (ℕ × Kind)) →
    three_quotes d (chars bs) ≡ false → at < length bs → get_or bs at 0 < 128 →
    Reached d bs at s b → t ≡ step d s (get_or bs at 0) → k ≡ kind_at t → Reached d bs (at + 1) t (with_length (at + 1) k b)
byte_on d bs at s t k b q i a h es ek =
    let c = get_or bs at 0 in
    reached-step d bs at (at + 1) c s t k b (with_length (at + 1) k b) h (ascii_first bs at i a)
    (omega (arith, ap length (encode_ascii c a), length-encode c)) (omega arith) es
    (ek ∙ sym (ap (λ x. only_long x (kind_at t)) q)) refl

-- no spelling begins with such a byte
abbrev begins_none : ℕ → Type 0
begins_none c = (d : Dialect) → no_first c (rows_of d fixed) ≡ true

-- so none stands at the front, and none is begun
unspelled : (d : Dialect) (c : ℕ) (bs : List ℕ) → begins_none c → 0 < length bs → get_or bs 0 0 ≡ c →
    (front_by (rows_of d fixed) bs ≡ None) × (live_by (rows_of d fixed) bs ≡ false)
unspelled d c [] n l e = absurd (omega arith)
unspelled d c (x ∷ t) n l e = first_rows (rows_of d fixed) x t (ap (λ x. no_first x (rows_of d fixed)) e ∙ n d)

-- no three quotes come first where no quote does
no_quote_first : (d : Dialect) (c : ℕ) (w : List ℕ) → (c == 34) ≡ false → (c == 39) ≡ false → three_quotes d (c ∷ w) ≡ false
no_quote_first Lines c w p q = refl
no_quote_first Turtle c [] p q = refl
no_quote_first Turtle c (a ∷ []) p q = refl
no_quote_first Turtle c (a ∷ b ∷ w) p q =
    ap (λ t. ((t && a == 34) && b == 34) || ((c == 39 && a == 39) && b == 39)) p ∙ ap (λ t. (t && a == 39) && b == 39) q

-- nor where the second is none
no_quote_second : (d : Dialect) (q : Quote) (a : ℕ) (w : List ℕ) → (a == quote_byte q) ≡ false → three_quotes d (quote_byte q ∷ a ∷ w) ≡ false
no_quote_second Lines q a w p = refl
no_quote_second Turtle Double a [] p = refl
no_quote_second Turtle Single a [] p = refl
no_quote_second Turtle Double a (b ∷ w) p = ap (λ t. ((true && t) && b == 34) || ((false && a == 39) && b == 39)) p
no_quote_second Turtle Single a (b ∷ w) p = ap (λ t. ((false && a == 34) && b == 34) || ((true && t) && b == 39)) p

-- nor where the third is none
no_quote_third : (d : Dialect) (q : Quote) (b : ℕ) (w : List ℕ) → (b == quote_byte q) ≡ false → three_quotes d (quote_byte q ∷ quote_byte q ∷ b ∷ w) ≡ false
no_quote_third Lines q b w p = refl
no_quote_third Turtle Double b w p = ap (λ t. t || false) p
no_quote_third Turtle Single b w p = p

-- A text that begins with a byte of ASCII that is no quote.
pub quotes_of : (d : Dialect) (bs : List ℕ) (c : ℕ) → IsUtf8 bs → 0 < length bs → c < 128 → get_or bs 0 0 ≡ c → (c == 34) ≡ false →
    (c == 39) ≡ false → three_quotes d (chars bs) ≡ false
quotes_of d bs c u l a e p q =
    let low : get_or bs 0 0 < 128 = omega (arith, e) in
    ap (three_quotes d) ((one_on bs 0 (at-start bs u) l low).0 ∙ ap (λ x. x ∷ drop 1 (chars bs)) e) ∙ no_quote_first d c (drop 1 (chars bs)) p q

-- '<' comes first.
module _ (d : Dialect) (bs : List ℕ) (u : IsUtf8 bs) (e : begins_iri bs ≡ true) where
  pub some_iri : 0 < length bs
  some_iri = ltb-true 0 (length bs) (and_parts (nat_lt 0 (length bs)) (get_or bs 0 0 == 60) e).0

  is_60 : get_or bs 0 0 ≡ 60
  is_60 = eqb-true (get_or bs 0 0) 60 (and_parts (nat_lt 0 (length bs)) (get_or bs 0 0 == 60) e).1

  -- the states within the reference
  pub iri_reached : (end : ℕ) → RestsInIri bs 1 end → Reached d bs end (Iri iri.Inside) None
  iri_reached end r =
      let first = first-none d bs (Iri iri.Inside) u some_iri (omega (arith, is_60)) (sym (ap (step d Start) is_60)) refl in
      reached-run d bs 1 end (Iri iri.Inside) None None (sym (no_long (three_quotes d (chars bs)))) r first

  -- the reference, up to its closing bracket
  pub iri_whole : (end : ℕ) → RestsInIri bs 1 end → FitsInIri bs 1 end → stands_at 62 bs end ≡ true → IsToken d bs (end + 1) IriRef
  iri_whole end r f z =
      let n = unspelled d 60 bs (λ d. go d) some_iri is_60 in
      let q = quotes_of d bs 60 u some_iri (omega arith) is_60 refl refl in
      let from = f.from in
      let p = and_parts (nat_lt end (length bs)) (get_or bs end 0 == 62) z in
      let inside : end < length bs = ltb-true end (length bs) p.0 in
      let ends : get_or bs end 0 ≡ 62 = eqb-true (get_or bs end 0) 62 p.1 in
      let closed = byte_on d bs end (Iri iri.Inside) (Iri iri.Whole) (Some IriRef) None q inside (omega (arith, ends)) (iri_reached end r)
      (sym (ap (step d (Iri iri.Inside)) ends)) refl in
      settled d bs (end + 1) (Iri iri.Whole) (Some (end + 1, IriRef)) None (end + 1) IriRef u closed refl (sym n.0) n.1 refl
      (valued_iri_fit bs end u (omega arith) inside (omega (arith, is_60)) (omega (arith, ends)) (fits-value bs 1 end f))
    where
      go : begins_none 60
      go Lines = refl
      go Turtle = refl

  -- without an escape
  pub quick_iri : (end : ℕ) → IsRun iri_byte bs 1 end → stands_at 62 bs end ≡ true → IsToken d bs (end + 1) IriRef
  quick_iri end r z = iri_whole end (rests_iri bs 1 end r) (fits_iri_run bs 1 end (utf8_bytes bs u) r) z

-- a state within a string in this quote
abbrev at_short : Quote → State → Bool
at_short Double (Text (text.Short Double)) = true
at_short Single (Text (text.Short Single)) = true
at_short q s = false

-- that state
short-state : (q : Quote) (s : State) → at_short q s ≡ true → s ≡ Text (text.Short q)
short-state Double (Text (text.Short Double)) e = refl
short-state Single (Text (text.Short Single)) e = refl
short-state q s e = absurd (false≢true e)

-- the state after what is no string
abbrev at_no_string : State → Bool
at_no_string (Text text.Dead) = true
at_no_string s = false

-- that state
no_string-state : (s : State) → at_no_string s ≡ true → s ≡ Text text.Dead
no_string-state (Text text.Dead) e = refl
no_string-state s e = absurd (false≢true e)

-- each byte of ASCII: one that stands in strings leads into the string after its quote
abbrev string_tests : Dialect → Quote → ℕ → Bool
string_tests d q c = not (is_short_ascii q c) || at_short q (step d (Text (text.Opened q)) c)

-- and one that is not the quote leads out of the empty string
abbrev empty_tests : Dialect → Quote → ℕ → Bool
empty_tests d q c = c == quote_byte q || at_no_string (step d (Text (text.Empty q)) c)

-- it is so for each of them
string_all : (d : Dialect) (q : Quote) → (agree_below (string_tests d q) (λ c. true) 128 ≡ true) × (agree_below (empty_tests d q) (λ c. true) 128 ≡ true)
string_all Lines Double = (refl, refl)
string_all Lines Single = (refl, refl)
string_all Turtle Double = (refl, refl)
string_all Turtle Single = (refl, refl)

-- the step of a byte that stands in strings
string-first : (d : Dialect) (q : Quote) (c : ℕ) → c < 128 → is_short_ascii q c ≡ true → step d (Text (text.Opened q)) c ≡ Text (text.Short q)
string-first d q c l e = short-state q _ (implied (is_short_ascii q c) _ (agree_below_at (string_tests d q) (λ c. true) 128 c (string_all d q).0 l) e)

-- that of a byte after two quotes that is not a third
empty-last : (d : Dialect) (q : Quote) (c : ℕ) → c < 128 → (c == quote_byte q) ≡ false → step d (Text (text.Empty q)) c ≡ Text text.Dead
empty-last d q c l e = no_string-state _ (other (c == quote_byte q) _ (agree_below_at (empty_tests d q) (λ c. true) 128 c (string_all d q).1 l) e)

-- the steps of the quotes
opened : (d : Dialect) (q : Quote) → has_quote d q ≡ true → Text (text.Opened q) ≡ step d Start (quote_byte q)
opened Lines Double e = refl
opened Lines Single e = absurd (false≢true e)
opened Turtle Double e = refl
opened Turtle Single e = refl

closed_string : (d : Dialect) (q : Quote) → Text text.ShortWhole ≡ step d (Text (text.Short q)) (quote_byte q)
closed_string Lines Double = refl
closed_string Lines Single = refl
closed_string Turtle Double = refl
closed_string Turtle Single = refl

pub closed_empty : (d : Dialect) (q : Quote) → Text (text.Empty q) ≡ step d (Text (text.Opened q)) (quote_byte q)
closed_empty Lines Double = refl
closed_empty Lines Single = refl
closed_empty Turtle Double = refl
closed_empty Turtle Single = refl

-- no spelling begins with a quote, which is ASCII
quote_spells : (q : Quote) → begins_none (quote_byte q)
quote_spells Double Lines = refl
quote_spells Double Turtle = refl
quote_spells Single Lines = refl
quote_spells Single Turtle = refl

pub low_quote : (q : Quote) → quote_byte q < 128
low_quote Double = omega arith
low_quote Single = omega arith

-- a byte of ASCII that stands in strings in this quote is ASCII, no backslash, and not the quote
plain_byte : (c : ℕ) (q : Quote) → is_short_ascii q c ≡ true → (c < 128) × (is_unescaped c ≡ true) × ((c == quote_byte q) ≡ false)
plain_byte c q e = (low q c e, no_slash q c e, no_quote q c e)
  where
    low : (q : Quote) (c : ℕ) → is_short_ascii q c ≡ true → c < 128
    low Double c e = grind (arith, nat_tests)
    low Single c e = grind (arith, nat_tests)

    no_slash : (q : Quote) (c : ℕ) → is_short_ascii q c ≡ true → is_unescaped c ≡ true
    no_slash Double c e = grind (arith, nat_tests)
    no_slash Single c e = grind (arith, nat_tests)

    no_quote : (q : Quote) (c : ℕ) → is_short_ascii q c ≡ true → (c == quote_byte q) ≡ false
    no_quote Double c e = grind (arith, nat_tests)
    no_quote Single c e = grind (arith, nat_tests)

-- A quote of the dialect comes first.
module _ (d : Dialect) (q : Quote) (bs : List ℕ) (u : IsUtf8 bs) (o : opens_with d q bs ≡ true) where
  stands : stands_at (quote_byte q) bs 0 ≡ true
  stands = (and_parts (has_quote d q) _ o).1

  pub some_string : 0 < length bs
  some_string = ltb-true 0 (length bs) (and_parts (nat_lt 0 (length bs)) _ stands).0

  is_quote : get_or bs 0 0 ≡ quote_byte q
  is_quote = eqb-true (get_or bs 0 0) (quote_byte q) (and_parts (nat_lt 0 (length bs)) (get_or bs 0 0 == quote_byte q) stands).1

  ascii_quote : get_or bs 0 0 < 128
  ascii_quote = subst (λ n. n < 128) (sym is_quote) (low_quote q)

  -- the states after the quote
  pub after_quote : Reached d bs 1 (Text (text.Opened q)) None
  after_quote =
      first-none d bs (Text (text.Opened q)) u some_string ascii_quote (opened d q (and_parts (has_quote d q) _ o).0 ∙ sym (ap (step d Start) is_quote)) refl

  -- no spelling stands there, and none is begun
  pub no_spelling : (front_by (rows_of d fixed) bs ≡ None) × (live_by (rows_of d fixed) bs ≡ false)
  no_spelling = unspelled d (quote_byte q) bs (quote_spells q) some_string is_quote

  -- what stands between the quotes has a meaning
  string_fit : (end : ℕ) → 0 < end → end < length bs → get_or bs end 0 < 128 → FitsInString bs 1 end → is_fit ShortString (chars (take (end + 1) bs)) ≡ true
  string_fit end p i x f = valued_string_fit bs end u p i ascii_quote x (fits-value bs 1 end f)

  -- the first two characters, where the second is ASCII
  first_two : 1 < length bs → get_or bs 1 0 < 128 → (chars bs ≡ quote_byte q ∷ get_or bs 1 0 ∷ drop 2 (chars bs)) × IsAt bs 2 2
  first_two l a =
      let first = one_on bs 0 (at-start bs u) some_string ascii_quote in
      let second = one_on bs 1 first.1 l a in
      (first.0 ∙ (ap (λ c. c ∷ drop 1 (chars bs)) is_quote ∙ ap (λ w. quote_byte q ∷ w) second.0), second.1)

  -- what follows the quote is a text
  pub utf8_after : IsUtf8 (drop 1 bs)
  utf8_after = (one_on bs 0 (at-start bs u) some_string ascii_quote).1.utf8

  -- the text does not begin with three quotes, where its second byte is another
  pub one_quote : 1 < length bs → (get_or bs 1 0 == quote_byte q) ≡ false → three_quotes d (chars bs) ≡ false
  one_quote l n =
      let first : bs ≡ quote_byte q ∷ drop 1 bs = drop_more bs 0 0 some_string ∙ ap (λ c. c ∷ drop 1 bs) is_quote in
      let both : bs ≡ quote_byte q ∷ get_or bs 1 0 ∷ drop 2 bs = first ∙ ap (λ w. quote_byte q ∷ w) (drop_more bs 1 0 l) in
      sym (quotes-bytes d bs u) ∙ (ap (three_quotes d) both ∙ no_quote_second d q (get_or bs 1 0) (drop 2 bs) n)

  -- the states within the string have come to the second quote
  pub string_token : (end : ℕ) → three_quotes d (chars bs) ≡ false → FitsInString bs 1 end → stands_at (quote_byte q) bs end ≡ true →
      Reached d bs end (Text (text.Short q)) None →
      IsToken d bs (end + 1) ShortString
  string_token end one f z r =
      let from = f.from in
      let p = and_parts (nat_lt end (length bs)) (get_or bs end 0 == quote_byte q) z in
      let inside : end < length bs = ltb-true end (length bs) p.0 in
      let ends : get_or bs end 0 ≡ quote_byte q = eqb-true (get_or bs end 0) (quote_byte q) p.1 in
      let low : get_or bs end 0 < 128 = subst (λ n. n < 128) (sym ends) (low_quote q) in
      let closed = byte_on d bs end (Text (text.Short q)) (Text text.ShortWhole) (Some ShortString) None one inside low r
      (closed_string d q ∙ sym (ap (step d (Text (text.Short q))) ends)) refl in
      settled d bs (end + 1) (Text text.ShortWhole) (Some (end + 1, ShortString)) None (end + 1) ShortString u closed refl
      (sym no_spelling.0) no_spelling.1 refl
      (string_fit end (omega arith) inside low f)

  -- a byte of ASCII that stands in strings comes second
  module _ (e : begins_string q bs ≡ true) where
    pub two : 1 < length bs
    two = ltb-true 1 (length bs) (and_parts (nat_lt 1 (length bs)) _ e).0

    pub plain_second : (get_or bs 1 0 < 128) × (is_unescaped (get_or bs 1 0) ≡ true) × ((get_or bs 1 0 == quote_byte q) ≡ false)
    plain_second = plain_byte (get_or bs 1 0) q (and_parts (nat_lt 1 (length bs)) _ e).1

    -- the states after it
    pub after_plain : Reached d bs 2 (Text (text.Short q)) None
    after_plain =
        byte_on d bs 1 (Text (text.Opened q)) (Text (text.Short q)) None None (one_quote two plain_second.2) two plain_second.0 after_quote
        (sym (string-first d q (get_or bs 1 0) plain_second.0 (and_parts (nat_lt 1 (length bs)) _ e).1)) refl

    -- it has a meaning
    pub plain_fits : FitsInString bs 1 2
    plain_fits = fits_byte bs 1 two plain_second.1

  -- Bytes that stand in strings come between the quotes, and no escape.
  pub quick_string : (end : ℕ) → begins_string q bs ≡ true → IsRun (goes_over (short_run q)) bs 2 end →
      stands_at (quote_byte q) bs end ≡ true → IsToken d bs (end + 1) ShortString
  quick_string end e r z =
      let none = sym (no_long (three_quotes d (chars bs))) in
      string_token end (one_quote (two e) (plain_second e).2) (fits-more bs 1 2 end (plain_fits e) (fits_run (short_run q) bs 2 end (short_slash q) r)) z
      (reached-run d bs 2 end (Text (text.Short q)) None None none (rests_short q bs 2 end r) (after_plain e))

  -- The second byte is the quote too, and the third another byte of ASCII.
  module _ (e : is_empty_string q bs ≡ true) where
    second_stands : stands_at (quote_byte q) bs 1 ≡ true
    second_stands = (and_parts (stands_at (quote_byte q) bs 1) _ e).0

    third : (nat_lt 2 (length bs) && (nat_lt (get_or bs 2 0) 128 && not (get_or bs 2 0 == quote_byte q))) ≡ true
    third = (and_parts (stands_at (quote_byte q) bs 1) _ e).1

    three_bytes : 2 < length bs
    three_bytes = ltb-true 2 (length bs) (and_parts (nat_lt 2 (length bs)) _ third).0

    ascii_third : get_or bs 2 0 < 128
    ascii_third = ltb-true (get_or bs 2 0) 128 (and_parts (nat_lt (get_or bs 2 0) 128) _ (and_parts (nat_lt 2 (length bs)) _ third).1).0

    no_third : (get_or bs 2 0 == quote_byte q) ≡ false
    no_third = not_true _ (and_parts (nat_lt (get_or bs 2 0) 128) _ (and_parts (nat_lt 2 (length bs)) _ third).1).1

    is_second : get_or bs 1 0 ≡ quote_byte q
    is_second = eqb-true (get_or bs 1 0) (quote_byte q) (and_parts (nat_lt 1 (length bs)) (get_or bs 1 0 == quote_byte q) second_stands).1

    ascii_second : get_or bs 1 0 < 128
    ascii_second = subst (λ n. n < 128) (sym is_second) (low_quote q)

    -- the text does not begin with three quotes
    two_quotes : three_quotes d (chars bs) ≡ false
    two_quotes =
        let l = three_bytes in
        let x = first_two (omega arith) ascii_second in
        let third = one_on bs 2 x.1 l ascii_third in
        ap (three_quotes d) (x.0 ∙ (ap (λ c. quote_byte q ∷ c ∷ drop 2 (chars bs)) is_second ∙ ap (λ w. quote_byte q ∷ quote_byte q ∷ w) third.0))
        ∙ no_quote_third d q (get_or bs 2 0) (drop 3 (chars bs)) no_third

    pub quick_empty : IsToken d bs 2 ShortString
    quick_empty =
        let l = three_bytes in
        let second = byte_on d bs 1 (Text (text.Opened q)) (Text (text.Empty q)) (Some ShortString) None two_quotes (omega arith) ascii_second after_quote
        (closed_empty d q ∙ sym (ap (step d (Text (text.Opened q))) is_second)) refl in
        let over = byte_on d bs 2 (Text (text.Empty q)) (Text text.Dead) None (Some (2, ShortString)) two_quotes l ascii_third second
        (sym (empty-last d q (get_or bs 2 0) ascii_third no_third)) refl in
        settled d bs 3 (Text text.Dead) (Some (2, ShortString)) None 2 ShortString u over refl (sym no_spelling.0) no_spelling.1 refl
        (string_fit 1 (omega arith) (omega arith) ascii_second (fits_none bs 1 (omega arith)))

-- a state within the name of a label
abbrev at_label : State → Bool
at_label (Label label.Name) = true
at_label s = false

-- that state
label-state : (s : State) → at_label s ≡ true → s ≡ Label label.Name
label-state (Label label.Name) e = refl
label-state s e = absurd (false≢true e)

-- the state after what is no label
abbrev at_no_label : State → Bool
at_no_label (Label label.Dead) = true
at_no_label s = false

-- that state
no_label-state : (s : State) → at_no_label s ≡ true → s ≡ Label label.Dead
no_label-state (Label label.Dead) e = refl
no_label-state s e = absurd (false≢true e)

-- each byte of ASCII: such a one leads into the name
abbrev label_tests : Dialect → ℕ → Bool
label_tests d c = not (begins_label_name c) || at_label (step d (Label label.Colon) c)

-- and one that ends a name leads to no label
abbrev over_tests : Dialect → ℕ → Bool
over_tests d c = not (ends_name c) || (is_name_byte c || at_no_label (step d (Label label.Name) c))

-- it is so for each of them
label_all : (d : Dialect) → (agree_below (label_tests d) (λ c. true) 128 ≡ true) × (agree_below (over_tests d) (λ c. true) 128 ≡ true)
label_all Lines = (refl, refl)
label_all Turtle = (refl, refl)

-- the steps of `_:`
underscore : (d : Dialect) → Label label.Underscore ≡ step d Start 95
underscore Lines = refl
underscore Turtle = refl

colon : (d : Dialect) → Label label.Colon ≡ step d (Label label.Underscore) 58
colon Lines = refl
colon Turtle = refl

-- no label has an escape
label-fit : (w : List ℕ) → is_fit LabelNode w ≡ true
unfolding is_fit
label-fit w = refl

-- A label of ASCII before a byte with which no name goes on.
module _ (d : Dialect) (bs : List ℕ) (end : ℕ) (u : IsUtf8 bs) (e : begins_label bs ≡ true) (r : IsRun is_name_byte bs 3 end)
    (z : is_name_end bs end ≡ true) where
  three : 2 < length bs
  three = ltb-true 2 (length bs) (and_parts (nat_lt 2 (length bs)) _ e).0

  is_95 : get_or bs 0 0 ≡ 95
  is_95 = eqb-true (get_or bs 0 0) 95 (and_parts (get_or bs 0 0 == 95) _ (and_parts (nat_lt 2 (length bs)) _ e).1).0

  is_58 : get_or bs 1 0 ≡ 58
  is_58 = eqb-true (get_or bs 1 0) 58 (and_parts (get_or bs 1 0 == 58) _ (and_parts (get_or bs 0 0 == 95) _ (and_parts (nat_lt 2 (length bs)) _ e).1).1).0

  begun : begins_label_name (get_or bs 2 0) ≡ true
  begun = (and_parts (get_or bs 1 0 == 58) _ (and_parts (get_or bs 0 0 == 95) _ (and_parts (nat_lt 2 (length bs)) _ e).1).1).1

  pub quick_label : IsToken d bs end LabelNode
  quick_label =
      let l = three in
      let n = unspelled d 95 bs (λ d. go d) (omega arith) is_95 in
      let q = quotes_of d bs 95 u (omega arith) (omega arith) is_95 refl refl in
      let a = is_95 in
      let b = is_58 in
      let c = get_or bs 2 0 in
      let low : c < 128 = low-name c (and_parts (is_name_byte c) _ begun).0 in
      let first = first-none d bs (Label label.Underscore) u (omega arith) (omega (arith, a)) (underscore d ∙ sym (ap (step d Start) a)) refl in
      let second = byte_on d bs 1 (Label label.Underscore) (Label label.Colon) None None q (omega arith) (omega (arith, b)) first
      (colon d ∙ sym (ap (step d (Label label.Underscore)) b)) refl in
      let named : step d (Label label.Colon) c ≡ Label label.Name =
      label-state _ (implied (begins_label_name c) _ (agree_below_at (label_tests d) (λ c. true) 128 c (label_all d).0 low) begun) in
      let third = byte_on d bs 2 (Label label.Colon) (Label label.Name) (Some LabelNode) None q l low second (sym named) refl in
      let kind : Some LabelNode ≡ only_long (three_quotes d (chars bs)) (Some LabelNode) = sym (ap (λ x. only_long x (Some LabelNode)) q) in
      let run = reached-run d bs 3 end (Label label.Name) (Some LabelNode) None kind (rests_label bs 3 end r) third in
      let p = and_parts (nat_lt end (length bs)) _ z in
      let i : end < length bs = ltb-true end (length bs) p.0 in
      let x = get_or bs end 0 in
      let ascii : x < 128 = ltb-true x 128 (and_parts _ _ p.1).0 in
      let dead : step d (Label label.Name) x ≡ Label label.Dead =
      no_label-state _ (other (is_name_byte x) _
      (implied (ends_name x) _ (agree_below_at (over_tests d) (λ c. true) 128 x (label_all d).1 ascii) p.1) (r.stops i)) in
      let over = byte_on d bs end (Label label.Name) (Label label.Dead) None (Some (end, LabelNode)) q i ascii run (sym dead) refl in
      settled d bs (end + 1) (Label label.Dead) (Some (end, LabelNode)) None end LabelNode u over refl (sym n.0) n.1 refl (label-fit _)
    where
      go : begins_none 95
      go Lines = refl
      go Turtle = refl
