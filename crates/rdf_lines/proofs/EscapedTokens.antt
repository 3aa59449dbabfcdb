-- IRIs and strings with any escapes are tokens.
use Rattle.rdf_lines.proofs.Prelude.{◌≡◌, ◌≢◌, ℕ, zero, suc, ◌<◌, ◌≤◌, Bool, true, false, ◌&&◌, ◌==◌, List, [], ◌∷◌, ◌++◌, inl, inr, refl, sym, ap, ◌∙◌, subst, ⊎_elim, append_assoc, Some, length, arith, AllByRecursion, concat, chars, IsUtf8, encode, encodes, scalars, cases_Bool, cases_lt, cond-true, cond-false, false≢true, and_parts, and_from, eqb-true, nat_tests, encodes-chars, length-encode, len_utf8_bounds, the, hex_digit, iri_char, plain_double, escape_letter, Lines, IriRef, ShortString, Regex, Matches, many, is_short_byte, shape, echar, hex, Inside, of_string, of_iri, IsRow, letters, IsPiece, IsNumberEscape, Means, all_have, iri_value, string_value, encode_one, is_clear}
use Rattle.std.proofs.Math.Utf8.{scalar as utf8_scalar}
use Rattle.rdf_terms.specs.Classes.{has}
use Rattle.rdf_terms.specs.Regex.{◌·◌, ◌∣◌}
use Rattle.rdf_terms.specs.Regex.Regex.{one}
use Rattle.rdf_terms.specs.Shapes as shapes
use Rattle.rdf_terms.proofs.PiecesLemmas.{iri_means, string_means}
use Rattle.rdf_lines.proofs.EncodedLine.{high_bytes}

-- texts of pieces
abbrev pub iri_part : Regex
iri_part = one iri_char ∣ shapes.uchar

abbrev pub string_part : Regex
string_part = one plain_double ∣ echar ∣ shapes.uchar

-- one text more in front of a repetition
many_more : (r : Regex) (u w : List ℕ) → Matches r u → Matches (many r) w → Matches (many r) (u ++ w)
many_more r u w m n = (u ∷ n.0, (m, n.1), ap (λ x. u ++ x) n.2)

-- as many digits as the number says, and one
abbrev digit_row : ℕ → Regex
digit_row zero = hex
digit_row (suc n) = hex · digit_row n

-- digits of HEX are such a row
row_shape : (n : ℕ) (w : List ℕ) → length w ≡ suc n → all_have (has hex_digit) w ≡ true → Matches (digit_row n) w
row_shape zero [] l h = absurd (omega arith)
row_shape zero (c ∷ []) l h = (c, (and_parts (has hex_digit c) true h).0, refl)
row_shape zero (c ∷ d ∷ w) l h = absurd (omega arith)
row_shape (suc n) [] l h = absurd (omega arith)
row_shape (suc n) (c ∷ w) l h =
    let p = and_parts (has hex_digit c) (all_have (has hex_digit) w) h in
    (c ∷ [], w, (c, p.0, refl), row_shape n w (omega arith) p.1, refl)

-- an escape by number is a UCHAR
number_shape : (i : Inside) (w : List ℕ) (c : ℕ) → IsNumberEscape i w c → Matches shapes.uchar w
unfolding has
number_shape i w c m = ⊎_elim
    (λ e. subst (Matches shapes.uchar) (sym e.0) (inl (
      92 ∷ 117 ∷ [],
      m.0,
      (92 ∷ [], 117 ∷ [], (92, refl, refl), (117 ∷ [], [], (117, refl, refl), refl, refl), refl),
      row_shape 3 m.0 e.1 m.2,
      refl,
    )))
    (λ e. subst (Matches shapes.uchar) (sym e.0) (inr (
      92 ∷ 85 ∷ [],
      m.0,
      (92 ∷ [], 85 ∷ [], (92, refl, refl), (85 ∷ [], [], (85, refl, refl), refl, refl), refl),
      row_shape 7 m.0 e.1 m.2,
      refl,
    )))
    m.1

-- what a letter stands for, it stands for by ECHAR
letter_has : (l c : ℕ) → IsRow letters l c → has escape_letter l ≡ true
unfolding has
letter_has l c (inl e) = ap (has escape_letter) e.0
letter_has l c (inr (inl e)) = ap (has escape_letter) e.0
letter_has l c (inr (inr (inl e))) = ap (has escape_letter) e.0
letter_has l c (inr (inr (inr (inl e)))) = ap (has escape_letter) e.0
letter_has l c (inr (inr (inr (inr (inl e))))) = ap (has escape_letter) e.0
letter_has l c (inr (inr (inr (inr (inr (inl e)))))) = ap (has escape_letter) e.0
letter_has l c (inr (inr (inr (inr (inr (inr (inl e))))))) = ap (has escape_letter) e.0
letter_has l c (inr (inr (inr (inr (inr (inr (inr (inl e)))))))) = ap (has escape_letter) e.0
letter_has l c (inr (inr (inr (inr (inr (inr (inr (inr e)))))))) = absurd e

-- so is the escape
letter_shape : (l c : ℕ) → IsRow letters l c → Matches echar (92 ∷ l ∷ [])
unfolding has
letter_shape l c r = (92 ∷ [], l ∷ [], (92, refl, refl), (l, letter_has l c r, refl), refl)

-- one piece of an IRI
iri_piece : (w : List ℕ) (c : ℕ) → IsPiece of_iri w c → Matches iri_part w
iri_piece w c p = ⊎_elim (λ m. inl (c, m.2, m.0)) (λ m. ⊎_elim (λ n. absurd n) (λ n. inr (number_shape of_iri w c n)) m) p

-- what means an IRI has the inside of one
iri_many : (w v : List ℕ) → Means (IsPiece of_iri) w v → Matches (many iri_part) w
iri_many w [] m = ([], tt, m)
iri_many w (c ∷ v) m = subst (Matches (many iri_part)) (sym m.2) (many_more iri_part m.0 m.1 (iri_piece m.0 c m.3) (iri_many m.1 v m.4))

-- an IRI in its brackets
pub iri_shaped : (w v : List ℕ) → iri_value w ≡ Some v → Matches (shape Lines IriRef) (60 ∷ w ++ 62 ∷ [])
unfolding shape has
iri_shaped w v e = (60 ∷ [], w ++ 62 ∷ [], (60, refl, refl), (w, 62 ∷ [], iri_many w v ((iri_means w v).0 e), (62, refl, refl), refl), refl)

-- a character that is neither a backslash nor one that ends a run leaves a text as clear as it is
pub plain_step : (c : ℕ) (w : List ℕ) → is_short_byte 34 c ≡ true → is_clear false (c ∷ w) ≡ is_clear false w
plain_step c w h = cond-false (c == 92) (is_clear true w) _ (no_slash c h) ∙ ap (λ t. t && is_clear false w) h
  where
    no_slash : (c : ℕ) → is_short_byte 34 c ≡ true → (c == 92) ≡ false
    no_slash c h = grind (arith, nat_tests)

-- a digit of HEX is such a character
hex_plain : (c : ℕ) → has hex_digit c ≡ true → is_short_byte 34 c ≡ true
unfolding has
hex_plain c h = grind (arith, nat_tests)

-- so digits leave it so
hexes_step : (u w : List ℕ) → all_have (has hex_digit) u ≡ true → is_clear false (u ++ w) ≡ is_clear false w
hexes_step [] w h = refl
hexes_step (c ∷ u) w h =
    let p = and_parts (has hex_digit c) (all_have (has hex_digit) u) h in
    plain_step c (u ++ w) (hex_plain c p.0) ∙ hexes_step u w p.1

-- a row of digits consists of them
row_digits : (n : ℕ) (w : List ℕ) → Matches (digit_row n) w → all_have (has hex_digit) w ≡ true
row_digits zero w m = subst (λ x. all_have (has hex_digit) x ≡ true) (sym m.2) (and_from (has hex_digit m.0) true m.1 refl)
row_digits (suc n) w m =
    subst (λ x. all_have (has hex_digit) x ≡ true) (sym (m.4 ∙ ap (λ x. x ++ m.1) m.2.2))
    (and_from (has hex_digit m.2.0) (all_have (has hex_digit) m.1) m.2.1 (row_digits n m.1 m.3))

-- the one character of its class
the_is : (c d : ℕ) → has (the c) d ≡ true → d ≡ c
unfolding has
the_is c d h = grind (arith, nat_tests)

-- a word is what it is
word_is : (cs w : List ℕ) → Matches (shapes.word cs) w → w ≡ cs
word_is [] w m = m
word_is (c ∷ cs) w m =
    m.4 ∙ (ap (λ x. x ++ m.1) m.2.2 ∙ (ap (λ x. m.2.0 ∷ x) (word_is cs m.1 m.3) ∙ ap (λ d. d ∷ cs) (the_is c m.2.0 m.2.1)))

-- a character that a string has as it is
plain_byte : (c : ℕ) → has plain_double c ≡ true → is_short_byte 34 c ≡ true
unfolding has
plain_byte c h = grind (arith, nat_tests)

-- the other way round
byte_plain : (c : ℕ) → utf8_scalar c ≡ true → is_short_byte 34 c ≡ true → has plain_double c ≡ true
unfolding has
byte_plain c s h = grind (arith, nat_tests)

-- an escape by number
uchar_step : (n : ℕ) (x : ℕ) (w v : List ℕ) → Matches (shapes.word (92 ∷ x ∷ []) · digit_row n) w → is_clear false (w ++ v) ≡ is_clear false v
uchar_step n x w v m =
    ap (λ y. is_clear false (y ++ v)) (m.4 ∙ ap (λ y. y ++ m.1) (word_is (92 ∷ x ∷ []) m.0 m.2)) ∙ hexes_then x m.1 v (row_digits n m.1 m.3)
  where
    hexes_then : (x : ℕ) (u v : List ℕ) → all_have (has hex_digit) u ≡ true → is_clear false ((92 ∷ x ∷ u) ++ v) ≡ is_clear false v
    hexes_then x u v h = hexes_step u v h

-- each part of a string leaves what follows as clear as it is
part_step : (w v : List ℕ) → Matches string_part w → is_clear false (w ++ v) ≡ is_clear false v
unfolding has
part_step w v (inl m) = ap (λ x. is_clear false (x ++ v)) m.2 ∙ plain_step m.0 v (plain_byte m.0 m.1)
part_step w v (inr (inl m)) =
    ap (λ x. is_clear false (x ++ v)) (m.4 ∙ (ap (λ x. x ++ m.1) (m.2.2 ∙ ap (λ d. d ∷ []) (the_is 92 m.2.0 m.2.1)) ∙ ap (λ x. 92 ∷ x) m.3.2))
part_step w v (inr (inr (inl m))) = uchar_step 3 117 w v m
part_step w v (inr (inr (inr m))) = uchar_step 7 85 w v m

-- so do all
parts_step : (ps : List (List ℕ)) (v : List ℕ) → AllByRecursion (Matches string_part) ps → is_clear false (concat ps ++ v) ≡ is_clear false v
parts_step [] v a = refl
parts_step (p ∷ ps) v a = ap (is_clear false) (append_assoc p (concat ps) v) ∙ (part_step p (concat ps ++ v) a.0 ∙ parts_step ps v a.1)

-- so the inside of a string is clear
many_clear : (w : List ℕ) → Matches (many string_part) w → is_clear false w ≡ true
many_clear w m = subst (λ x. is_clear false x ≡ true) (sym m.2) (closed m.0 m.1)
  where
    closed : (ps : List (List ℕ)) → AllByRecursion (Matches string_part) ps → is_clear false (concat ps) ≡ true
    closed [] a = refl
    closed (p ∷ ps) a = part_step p (concat ps) a.0 ∙ closed ps a.1

-- no quote stands in a clear text but after a backslash
no_quote : (w : List ℕ) → is_clear false (34 ∷ w) ≡ true → ⊥
no_quote w h = false≢true h

-- the first characters of equal texts, and what follows them
heads : (c d : ℕ) (u v : List ℕ) → c ∷ u ≡ d ∷ v → (c ≡ d) × (u ≡ v)
heads c d u v e = (let x : c ≡ d = cc in x, let y : u ≡ v = cc in y)

-- where a clear text ends at a quote, every other clear text in its place does
first_quote : (s : Bool) (a b y z : List ℕ) → is_clear s a ≡ true → is_clear s b ≡ true → a ++ 34 ∷ y ≡ b ++ 34 ∷ z → y ≡ z
first_quote true [] b y z h k e = absurd (false≢true h)
first_quote true (c ∷ a) [] y z h k e = absurd (false≢true k)
first_quote true (c ∷ a) (d ∷ b) y z h k e = first_quote false a b y z h k (heads c d (a ++ 34 ∷ y) (b ++ 34 ∷ z) e).1
first_quote false [] [] y z h k e = (heads 34 34 y z e).1
first_quote false [] (d ∷ b) y z h k e = absurd (no_quote b (subst (λ x. is_clear false (x ∷ b) ≡ true) (sym (heads 34 d y (b ++ 34 ∷ z) e).0) k))
first_quote false (c ∷ a) [] y z h k e = absurd (no_quote a (subst (λ x. is_clear false (x ∷ a) ≡ true) (heads c 34 (a ++ 34 ∷ y) z e).0 h))
first_quote false (c ∷ a) (d ∷ b) y z h k e =
    let t = heads c d (a ++ 34 ∷ y) (b ++ 34 ∷ z) e in
    let k' : is_clear false (c ∷ b) ≡ true = subst (λ x. is_clear false (x ∷ b) ≡ true) (sym t.0) k in
    ⊎_elim
    (λ s. first_quote true a b y z (sym (cond-true (c == 92) (is_clear true a) _ s) ∙ h) (sym (cond-true (c == 92) (is_clear true b) _ s) ∙ k') t.1)
    (λ s. first_quote false a b y z (and_parts _ _ (sym (cond-false (c == 92) (is_clear true a) _ s) ∙ h)).1
    (and_parts _ _ (sym (cond-false (c == 92) (is_clear true b) _ s) ∙ k')).1 t.1)
    (cases_Bool (c == 92))

-- no longer text has the shape of a string
pub clear_ends : (w : List ℕ) → is_clear false w ≡ true → (x : ℕ) (u : List ℕ) → Matches (shape Lines ShortString) ((34 ∷ w ++ 34 ∷ []) ++ x ∷ u) → ⊥
unfolding shape has
clear_ends w h x u (inr m) = absurd m
clear_ends w h x u (inl m) =
    let n = m.3 in
    let first : m.0 ≡ 34 ∷ [] = m.2.2 ∙ ap (λ d. d ∷ []) (the_is 34 m.2.0 m.2.1) in
    let last : n.1 ≡ 34 ∷ [] = n.3.2 ∙ ap (λ d. d ∷ []) (the_is 34 n.3.0 n.3.1) in
    let whole : 34 ∷ ((w ++ 34 ∷ []) ++ x ∷ u) ≡ 34 ∷ (n.0 ++ 34 ∷ []) = m.4 ∙ (ap (λ y. y ++ m.1) first ∙ ap (λ y. 34 ∷ y) (n.4 ∙ ap (λ y. n.0 ++ y) last)) in
    let inside : w ++ 34 ∷ x ∷ u ≡ n.0 ++ 34 ∷ [] = sym (append_assoc w (34 ∷ []) (x ∷ u)) ∙ (heads 34 34 _ _ whole).1 in
    let z : x ∷ u ≡ [] = first_quote false w n.0 (x ∷ u) [] h (many_clear n.0 n.2) inside in
    cc

-- what is scalar in two texts is so in each
scalars_parts : (u v : List ℕ) → scalars (u ++ v) ≡ true → (scalars u ≡ true) × (scalars v ≡ true)
scalars_parts [] v h = (refl, h)
scalars_parts (c ∷ u) v h =
    let p = and_parts (utf8_scalar c) (scalars (u ++ v)) h in
    let q = scalars_parts u v p.1 in
    (and_from (utf8_scalar c) (scalars u) p.0 q.0, q.1)

-- a clear text of pieces has the inside of a string
module _ where
  -- one piece more
  pieces_more : (u w : List ℕ) (c : ℕ) → IsPiece of_string u c → scalars (u ++ w) ≡ true → is_clear false (u ++ w) ≡ true →
      Matches string_part u × (is_clear false w ≡ true)
  pieces_more u w c (inl p) s h =
      let h' : is_clear false (c ∷ w) ≡ true = subst (λ x. is_clear false (x ++ w) ≡ true) p.0 h in
      let s' : scalars (c ∷ w) ≡ true = subst (λ x. scalars (x ++ w) ≡ true) p.0 s in
      let slash : (c == 92) ≡ false = not_slash c p.1 in
      let b = and_parts (is_short_byte 34 c) (is_clear false w) (sym (cond-false (c == 92) (is_clear true w) _ slash) ∙ h') in
      (inl (c, byte_plain c (and_parts (utf8_scalar c) (scalars w) s').0 b.0, p.0), b.1)
    where
      not_slash : (c : ℕ) → c ≢ 92 → (c == 92) ≡ false
      not_slash c n = ⊎_elim (λ e. absurd (n (eqb-true c 92 e))) (λ e. e) (cases_Bool (c == 92))
  pieces_more u w c (inr (inl p)) s h =
      (inr (inl (subst (Matches echar) (sym p.1) (letter_shape p.0 c p.2))), subst (λ x. is_clear false (x ++ w) ≡ true) p.1 h)
  pieces_more u w c (inr (inr p)) s h =
      let m : Matches string_part u = inr (inr (number_shape of_string u c p)) in
      (m, sym (part_step u w m) ∙ h)

  string_many : (w v : List ℕ) → Means (IsPiece of_string) w v → scalars w ≡ true → is_clear false w ≡ true → Matches (many string_part) w
  string_many w [] m s h = ([], tt, m)
  string_many w (c ∷ v) m s h =
      let s' : scalars (m.0 ++ m.1) ≡ true = subst (λ x. scalars x ≡ true) m.2 s in
      let p = pieces_more m.0 m.1 c m.3 s' (subst (λ x. is_clear false x ≡ true) m.2 h) in
      subst (Matches (many string_part)) (sym m.2) (many_more string_part m.0 m.1 p.0 (string_many m.1 v m.4 (scalars_parts m.0 m.1 s').1 p.1))

-- a string in its quotes
pub string_shaped : (w v : List ℕ) → string_value w ≡ Some v → scalars w ≡ true → is_clear false w ≡ true →
    Matches (shape Lines ShortString) (34 ∷ w ++ 34 ∷ [])
unfolding shape has
string_shaped w v e s h =
    inl (34 ∷ [], w ++ 34 ∷ [], (34, refl, refl), (w, 34 ∷ [], string_many w v ((string_means w v).0 e) s h, (34, refl, refl), refl), refl)

-- bytes from 128 on
high_step : (bs v : List ℕ) → AllByRecursion (λ b. 128 ≤ b) bs → is_clear false (bs ++ v) ≡ is_clear false v
high_step [] v a = refl
high_step (b ∷ bs) v a = plain_step b (bs ++ v) (high_plain b a.0) ∙ high_step bs v a.1
  where
    high_plain : (b : ℕ) → 128 ≤ b → is_short_byte 34 b ≡ true
    high_plain b l = grind (arith, nat_tests)

-- a character of ASCII in front
low_clear : (s : Bool) (c : ℕ) (u v : List ℕ) → ((t : Bool) → is_clear t v ≡ true → is_clear t u ≡ true) → is_clear s (c ∷ v) ≡ true → is_clear s (c ∷ u) ≡ true
low_clear true c u v f k = f false k
low_clear false c u v f k =
    ⊎_elim
    (λ e. cond-true (c == 92) (is_clear true u) _ e ∙ f true (sym (cond-true (c == 92) (is_clear true v) _ e) ∙ k))
    (λ e. let p = and_parts (is_short_byte 34 c) (is_clear false v) (sym (cond-false (c == 92) (is_clear true v) _ e) ∙ k) in
    cond-false (c == 92) (is_clear true u) _ e ∙ and_from (is_short_byte 34 c) (is_clear false u) p.0 (f false p.1))
    (cases_Bool (c == 92))

-- some bytes from 128 on after a backslash
after_slash : (bs v : List ℕ) → 0 < length bs → AllByRecursion (λ b. 128 ≤ b) bs → is_clear true (bs ++ v) ≡ true → is_clear false v ≡ true
after_slash [] v n a k = absurd (omega arith)
after_slash (b ∷ bs) v n a k = sym (high_step bs v a.1) ∙ k

-- a character from 128 on in front
high_clear : (s : Bool) (c : ℕ) (u v : List ℕ) → 128 ≤ c → ((t : Bool) → is_clear t v ≡ true → is_clear t u ≡ true) →
    is_clear s (encode c ++ v) ≡ true → is_clear s (c ∷ u) ≡ true
high_clear true c u v l f k = f false (after_slash (encode c) v (let n = length-encode c in let one = (len_utf8_bounds c).0 in omega arith) (high_bytes c l) k)
high_clear false c u v l f k = plain_step c u (short c l) ∙ f false (sym (high_step (encode c) v (high_bytes c l)) ∙ k)
  where
    short : (c : ℕ) → 128 ≤ c → is_short_byte 34 c ≡ true
    short c l = grind (arith, nat_tests)

-- a text is clear where its bytes are
clear_encoded : (cs : List ℕ) (s : Bool) → is_clear s (encodes cs) ≡ true → is_clear s cs ≡ true
clear_encoded [] s h = h
clear_encoded (c ∷ cs) s h =
    ⊎_elim
    (λ l. low_clear s c cs (encodes cs) (λ t k. clear_encoded cs t k) (subst (λ x. is_clear s (x ++ encodes cs) ≡ true) (encode_one c l) h))
    (λ l. high_clear s c cs (encodes cs) l (λ t k. clear_encoded cs t k) h)
    (cases_lt c 128)

-- so it is of a str
pub clear_chars : (bs : List ℕ) → IsUtf8 bs → is_clear false bs ≡ true → is_clear false (chars bs) ≡ true
clear_chars bs u h = clear_encoded (chars bs) false (subst (λ x. is_clear false x ≡ true) (sym (encodes-chars bs u)) h)
