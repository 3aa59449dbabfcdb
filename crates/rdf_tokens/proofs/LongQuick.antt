-- A string between three quotes: the states over its quotes, and what stands between them means.
use Rattle.rdf_tokens.proofs.Prelude.{◌≡◌, ℕ, zero, suc, ◌+◌, ◌-◌, ◌<◌, ◌≤◌, true, nat_lt, List, [], ◌∷◌, ◌++◌, ◌==◌, refl, sym, ap, ◌∙◌, subst, append_assoc, length, length-append, length-drop, get_or, take, drop, is_some, arith, Some, None, IsUtf8, take-suc, take-append_seam, and_parts, eqb-true, ltb-true, drop_more, get_or-drop, chars-append, chars-IsAscii, encode_ascii, length-encode, IsCharBoundary-after_ascii, IsCharBoundary-before_ascii, IsUtf8-drop, IsUtf8-from_ascii, IsUtf8-take, chars, IsAscii, LongString, ShortString, Turtle, of_string, inside, is_fit, string_value, value-bytes, Quote, Single, FitsInString, Reached, RestsInLong, opens_with, quote_byte, stands_at, stands_thrice, three_quotes, only_long}
use Rattle.rdf_tokens.specs.declared.states.machine.State.TheVariants.{Text}
use Rattle.rdf_tokens.specs.declared.states.text.Quote.TheVariants.{Double}
use Rattle.rdf_tokens.specs.declared.states.text.Text.TheVariants as text
use Rattle.rdf_tokens.specs.Machine.{step}
use Rattle.rdf_tokens.specs.Quick.{IsToken}
use Rattle.rdf_tokens.proofs.ByteLemmas.{ascii_first}
use Rattle.rdf_tokens.proofs.FitEscapes.{fits-value}
use Rattle.rdf_tokens.proofs.LongLemmas.{quote-step}
use Rattle.rdf_tokens.proofs.NoNamesLemmas.{no_long}
use Rattle.rdf_tokens.proofs.PlainQuick.{after_quote, closed_empty, low_quote, no_spelling}
use Rattle.rdf_tokens.proofs.QuickLemmas.{settled}
use Rattle.rdf_tokens.proofs.RestEscapes.{byte_on}
use Rattle.rdf_tokens.proofs.RestLemmas.{reached-run}
use Rattle.rdf_tokens.proofs.SpellingLemmas.{quotes-bytes}
use Rattle.rdf_tokens.proofs.StateLemmas.{reached-step}

-- three bytes of ASCII are a text
three_ascii : (q : ℕ) → q < 128 → IsAscii (q ∷ q ∷ q ∷ [])
three_ascii q l zero = l
three_ascii q l (suc zero) = l
three_ascii q l (suc (suc zero)) = l
three_ascii q l (suc (suc (suc i))) = omega arith

-- three bytes after a place, one by one
take-three : (t : List ℕ) (n q : ℕ) → n + 3 ≤ length t → get_or t n 0 ≡ q → get_or t (n + 1) 0 ≡ q → get_or t (n + 2) 0 ≡ q →
    take (n + 3) t ≡ take n t ++ (q ∷ q ∷ q ∷ [])
take-three t n q l a b c =
    let e1 : n + 1 ≡ suc n = omega arith in
    let e2 : n + 2 ≡ suc (n + 1) = omega arith in
    let e3 : n + 3 ≡ suc (n + 2) = omega arith in
    let one : take (n + 1) t ≡ take n t ++ (q ∷ []) = ap (λ k. take k t) e1 ∙ (take-suc t n 0 (omega arith) ∙ ap (λ c. take n t ++ (c ∷ [])) a) in
    let two : take (n + 2) t ≡ take n t ++ (q ∷ q ∷ []) =
    ap (λ k. take k t) e2 ∙ (take-suc t (n + 1) 0 (omega arith)
    ∙ (ap (λ c. take (n + 1) t ++ (c ∷ [])) b ∙ (ap (λ w. w ++ (q ∷ [])) one ∙ append_assoc (take n t) (q ∷ []) (q ∷ [])))) in
    ap (λ k. take k t) e3 ∙ (take-suc t (n + 2) 0 (omega arith)
    ∙ (ap (λ c. take (n + 2) t ++ (c ∷ [])) c ∙ (ap (λ w. w ++ (q ∷ [])) two ∙ append_assoc (take n t) (q ∷ q ∷ []) (q ∷ []))))

-- what stands between three bytes of ASCII and three of them: as bytes it is UTF-8, and as characters it is the inside of the token
record Between (q : ℕ) (t : List ℕ) (n : ℕ) : Type 0 where
  utf8 : IsUtf8 (take n t)
  inside : inside 3 (chars (take (n + 6) (q ∷ q ∷ q ∷ t))) ≡ chars (take n t)

between : (q : ℕ) (t : List ℕ) (n : ℕ) → q < 128 → IsUtf8 t → n + 3 ≤ length t → get_or t n 0 ≡ q → get_or t (n + 1) 0 ≡ q →
    get_or t (n + 2) 0 ≡ q → Between q t n
between q t n a u l x y z =
    let r = take n t in
    let m = q ∷ q ∷ q ∷ [] in
    let three = three_ascii q a in
    let front : IsUtf8 r = IsUtf8-take t n u (IsCharBoundary-before_ascii t n (omega arith) (subst (λ c. c < 128) (sym x) a)) in
    let k : n + 6 ≡ suc (suc (suc (n + 3))) = omega arith in
    let bytes : take (n + 6) (q ∷ q ∷ q ∷ t) ≡ m ++ (r ++ m) = ap (λ k. take k (q ∷ q ∷ q ∷ t)) k ∙ ap (λ w. q ∷ q ∷ q ∷ w) (take-three t n q l x y z) in
    let text : chars (take (n + 6) (q ∷ q ∷ q ∷ t)) ≡ q ∷ q ∷ q ∷ (chars r ++ m) = ap chars bytes
    ∙ (chars-append m (r ++ m) (IsUtf8-from_ascii m three)
    ∙ (ap (λ w. w ++ chars (r ++ m)) (chars-IsAscii m three)
    ∙ ap (λ w. q ∷ q ∷ q ∷ w) (chars-append r m front ∙ ap (λ w. chars r ++ w) (chars-IsAscii m three)))) in
    let long : suc (suc (suc (length (chars r ++ m)))) - 6 ≡ length (chars r) = omega (arith, length-append (chars r) m) in
    record {
      utf8 = front;
      inside = ap (inside 3) text ∙ (ap (λ k. take k (chars r ++ m)) long ∙ take-append_seam (chars r) m);
    }

-- where three of a quote stand
record Thrice (q : Quote) (bs : List ℕ) (at : ℕ) : Type 0 where
  within : at + 3 ≤ length bs
  first : get_or bs at 0 ≡ quote_byte q
  second : get_or bs (at + 1) 0 ≡ quote_byte q
  third : get_or bs (at + 2) 0 ≡ quote_byte q

thrice : (q : Quote) (bs : List ℕ) (at : ℕ) → stands_thrice q bs at ≡ true → Thrice q bs at
thrice q bs at e =
    let c = quote_byte q in
    let p = and_parts (stands_at c bs at) _ e in
    let o = and_parts (stands_at c bs (at + 1)) (stands_at c bs (at + 2)) p.1 in
    let z = and_parts (nat_lt (at + 2) (length bs)) (get_or bs (at + 2) 0 == c) o.1 in
    let l : at + 2 < length bs = ltb-true (at + 2) (length bs) z.0 in
    record {
      within = omega arith;
      first = eqb-true (get_or bs at 0) c (and_parts (nat_lt at (length bs)) (get_or bs at 0 == c) p.0).1;
      second = eqb-true (get_or bs (at + 1) 0) c (and_parts (nat_lt (at + 1) (length bs)) (get_or bs (at + 1) 0 == c) o.0).1;
      third = eqb-true (get_or bs (at + 2) 0) c z.1;
    }

-- the steps of the quotes
long-step : (q : Quote) → step Turtle (Text (text.Empty q)) (quote_byte q) ≡ Text (text.Long q)
long-step Double = refl
long-step Single = refl

two-step : (q : Quote) → step Turtle (Text (text.LongOneQuote q)) (quote_byte q) ≡ Text (text.LongTwoQuotes q)
two-step Double = refl
two-step Single = refl

whole-step : (q : Quote) → step Turtle (Text (text.LongTwoQuotes q)) (quote_byte q) ≡ Text text.LongWhole
whole-step Double = refl
whole-step Single = refl

-- a text that begins with three quotes does so
begins_three : (q : Quote) (w : List ℕ) → three_quotes Turtle (quote_byte q ∷ quote_byte q ∷ quote_byte q ∷ w) ≡ true
begins_three Double w = refl
begins_three Single w = refl

-- Three quotes come first, and what leads from there to the next three has a meaning.
module _ (q : Quote) (bs : List ℕ) (u : IsUtf8 bs) (o : opens_with Turtle q bs ≡ true) (a : stands_thrice q bs 0 ≡ true) (end : ℕ) (r : RestsInLong q bs 3 end)
    (f : FitsInString bs 3 end) (b : stands_thrice q bs end ≡ true) where
  opening : Thrice q bs 0
  opening = thrice q bs 0 a

  closing : Thrice q bs end
  closing = thrice q bs end b

  low : (x : ℕ) → x ≡ quote_byte q → x < 128
  low x e = subst (λ n. n < 128) (sym e) (low_quote q)

  -- the text, byte by byte
  whole : bs ≡ quote_byte q ∷ quote_byte q ∷ quote_byte q ∷ drop 3 bs
  whole =
      let w = opening.within in
      drop_more bs 0 0 (omega arith) ∙ (ap (λ c. c ∷ drop 1 bs) opening.first
      ∙ ap (λ w. quote_byte q ∷ w) (drop_more bs 1 0 (omega arith) ∙ (ap (λ c. c ∷ drop 2 bs) opening.second
      ∙ ap (λ w. quote_byte q ∷ w) (drop_more bs 2 0 (omega arith) ∙ ap (λ c. c ∷ drop 3 bs) opening.third))))

  three : three_quotes Turtle (chars bs) ≡ true
  three = sym (quotes-bytes Turtle bs u) ∙ (ap (three_quotes Turtle) whole ∙ begins_three q (drop 3 bs))

  -- the states inside
  inside_on : Reached Turtle bs end (Text (text.Long q)) None
  inside_on =
      let w = opening.within in
      let second = reached-step Turtle bs 1 2 (get_or bs 1 0) (Text (text.Opened q)) (Text (text.Empty q)) None None None (after_quote Turtle q bs u o)
      (ascii_first bs 1 (omega arith) (low (get_or bs 1 0) opening.second))
      (omega (arith, ap length (encode_ascii (get_or bs 1 0) (low (get_or bs 1 0) opening.second)), length-encode (get_or bs 1 0))) (omega arith)
      (closed_empty Turtle q ∙ sym (ap (step Turtle (Text (text.Opened q))) opening.second)) (sym (ap (λ t. only_long t (Some ShortString)) three)) refl in
      let third = byte_on Turtle bs 2 (Text (text.Empty q)) (Text (text.Long q)) None (omega arith) (low (get_or bs 2 0) opening.third)
      (ap (step Turtle (Text (text.Empty q))) opening.third ∙ long-step q) refl second in
      reached-run Turtle bs 3 end (Text (text.Long q)) None None (sym (no_long (three_quotes Turtle (chars bs)))) r third

  -- and after the three quotes
  whole_on : Reached Turtle bs (end + 1 + 1 + 1) (Text text.LongWhole) (Some (end + 1 + 1 + 1, LongString))
  whole_on =
      let w = closing.within in
      let e : end + 2 ≡ end + 1 + 1 = omega arith in
      let last : get_or bs (end + 1 + 1) 0 ≡ quote_byte q = subst (λ k. get_or bs k 0 ≡ quote_byte q) e closing.third in
      let first = byte_on Turtle bs end (Text (text.Long q)) (Text (text.LongOneQuote q)) None (omega arith) (low (get_or bs end 0) closing.first)
      (ap (step Turtle (Text (text.Long q))) closing.first ∙ quote-step Turtle q) refl inside_on in
      let second = byte_on Turtle bs (end + 1) (Text (text.LongOneQuote q)) (Text (text.LongTwoQuotes q)) None (omega arith)
      (low (get_or bs (end + 1) 0) closing.second)
      (ap (step Turtle (Text (text.LongOneQuote q))) closing.second ∙ two-step q) refl first in
      let x = get_or bs (end + 1 + 1) 0 in
      reached-step Turtle bs (end + 1 + 1) (end + 1 + 1 + 1) x (Text (text.LongTwoQuotes q)) (Text text.LongWhole) (Some LongString) None
      (Some (end + 1 + 1 + 1, LongString)) second
      (ascii_first bs (end + 1 + 1) (omega arith) (low x last)) (omega (arith, ap length (encode_ascii x (low x last)), length-encode x)) (omega arith)
      (sym (ap (step Turtle (Text (text.LongTwoQuotes q))) last ∙ whole-step q)) (sym (ap (λ t. only_long t (Some LongString)) three)) refl

  long_fit : is_fit LongString (chars (take (end + 3) bs)) ≡ true
  unfolding is_fit
  long_fit =
      let t = drop 3 bs in
      let from = f.from in
      let w = closing.within in
      let size = length-drop 3 bs in
      let at : (k : ℕ) → get_or t (end - 3 + k) 0 ≡ get_or bs (end + k) 0 =
      λ k. get_or-drop 3 bs (end - 3 + k) 0 ∙ ap (λ j. get_or bs j 0) (let e : 3 + (end - 3 + k) ≡ end + k = omega arith in e) in
      let zero : get_or t (end - 3) 0 ≡ quote_byte q =
      get_or-drop 3 bs (end - 3) 0 ∙ (ap (λ j. get_or bs j 0) (let e : 3 + (end - 3) ≡ end = omega arith in e) ∙ closing.first) in
      let utf8 : IsUtf8 t = IsUtf8-drop bs 3 u
      (IsCharBoundary-after_ascii bs 2 u (let w = opening.within in omega arith) (low (get_or bs 2 0) opening.third)) in
      let p = between (quote_byte q) t (end - 3) (low_quote q) utf8 (omega arith) zero (at 1 ∙ closing.second) (at 2 ∙ closing.third) in
      let long : end + 3 ≡ end - 3 + 6 = omega arith in
      ap (λ k. is_some (string_value (inside 3 (chars (take k bs))))) long
      ∙ (ap (λ w. is_some (string_value (inside 3 (chars (take (end - 3 + 6) w))))) whole
      ∙ (ap (λ w. is_some (string_value w)) p.inside
      ∙ (sym (value-bytes of_string (take (end - 3) t) p.utf8) ∙ fits-value bs 3 end f)))

  pub quick_long : IsToken Turtle bs (end + 3) LongString
  quick_long =
      let n : end + 1 + 1 + 1 ≡ end + 3 = omega arith in
      let s = no_spelling Turtle q bs u o in
      settled Turtle bs (end + 1 + 1 + 1) (Text text.LongWhole) (Some (end + 3, LongString)) None (end + 3) LongString u
      (subst (λ k. Reached Turtle bs (end + 1 + 1 + 1) (Text text.LongWhole) (Some (k, LongString))) n whole_on) refl (sym s.0) s.1 refl long_fit
