-- What is read character by character as a label, a prefix or a tag matches its expression, and nothing else does.
use Rattle.rdf_terms.proofs.Prelude.{◌≡◌, ◌≢◌, ℕ, Bool, true, false, cond, List, [], ◌∷◌, ◌++◌, ◌&&◌, ◌==◌, ◌⊎◌, ◌↔◌, length, Option, Some, None, inl, inr, refl, sym, ap, ◌∙◌, subst, ⊎_elim, arith, and_parts, and_from, or_cases, or_left, or_right, eqb-true, cases_Bool, cond-true, cond-false, false≢true, Class, has, the, digit, letter, letter_or_digit, pn_base, pn_u, pn_char, Dialect, Lines, Turtle, PnameNs, Regex, Matches, after, one, ◌·◌, ◌∣◌, many, optional, some, dot, pn_prefix, label_name, shape, Shape, IsLabel, IsTag, begins_label, name_goes_on, Place, start, hyphen, part, after_tag, if_some, tag_goes_on, chars, IsUtf8, encode_utf8_all, chars-encodes, encodes-chars, encode_ascii, append_cancel_right}
use Rattle.rdf_terms.specs.Classes.{scalar}
use Rattle.rdf_terms.specs.Names.{letters}
use Rattle.rdf_terms.proofs.CharsLemmas.{before_last, last_char, no_chars}
use Rattle.rdf_terms.proofs.RegexLemmas.{matches-nullable, after-matches, matches-after}

-- a character of a class, before a text
pub record First (k : Class) (c : ℕ) (p : List ℕ) : Type 0 where
  pub is : has k c ≡ true
  pub alone : p ≡ []

-- what is left of a class after a character is nothing, and the character is in the class
first_of_class : (k : Class) (c : ℕ) (p : List ℕ) → Matches (after (one k) c) p → First k c p
first_of_class k c p m =
    let a = after-matches (one k) c p m in
    let same : c ≡ a.0 = cc (a.2) in
    let none : p ≡ [] = cc (a.2) in
    record { is = subst (λ x. has k x ≡ true) (sym same) a.1; alone = none }

-- a character of a class matches it
one-matches : (k : Class) (c : ℕ) → has k c ≡ true → Matches (one k) (c ∷ [])
one-matches k c h = (c, h, refl)

-- many of a class, and what follows
some-step : (k : Class) (m : Regex) (c : ℕ) (w : List ℕ) → Matches (some (one k) · m) (c ∷ w) → (has k c ≡ true) × Matches (many (one k) · m) w
some-step k m c w h =
    let a = matches-after (some (one k) · m) c w h in
    let f = first_of_class k c a.2.0 a.2.2 in
    (f.is, (a.2.1, a.1, a.2.3, a.3, a.4 ∙ ap (λ u. u ++ a.1) (a.2.4 ∙ ap (λ p. p ++ a.2.1) f.alone)))

-- one character of a class and any more are some of it
step-some : (k : Class) (m : Regex) (c : ℕ) (w : List ℕ) → has k c ≡ true → Matches (many (one k) · m) w → Matches (some (one k) · m) (c ∷ w)
step-some k m c w h p = (c ∷ p.0, p.1, (c ∷ [], p.0, one-matches k c h, p.2, refl), p.3, ap (λ x. c ∷ x) p.4)

-- a repetition of a class, by its first character
many-step : (k : Class) (m : Regex) (c : ℕ) (w : List ℕ) → Matches (many (one k) · m) (c ∷ w) →
    ((has k c ≡ true) × Matches (many (one k) · m) w) ⊎ Matches m (c ∷ w)
many-step k m c w h =
    ⊎_elim
    (λ a. let f = first_of_class k c a.2.0 a.2.2 in
    inl (f.is, (a.2.1, a.1, a.2.3, a.3, a.4 ∙ ap (λ u. u ++ a.1) (a.2.4 ∙ ap (λ p. p ++ a.2.1) f.alone))))
    (λ a. inr (after-matches m c w a))
    (matches-after (many (one k) · m) c w h)

-- one character more is a repetition of the class
step-many : (k : Class) (m : Regex) (c : ℕ) (w : List ℕ) → has k c ≡ true → Matches (many (one k) · m) w → Matches (many (one k) · m) (c ∷ w)
step-many k m c w h p =
    (c ∷ p.0, p.1, ((c ∷ []) ∷ p.2.0, (one-matches k c h, p.2.1), ap (λ x. c ∷ x) p.2.2), p.3, ap (λ x. c ∷ x) p.4)

-- a repetition of a class may be empty
none-many : (k : Class) (m : Regex) (w : List ℕ) → Matches m w → Matches (many (one k) · m) w
none-many k m w h = ([], w, ([], tt, refl), h, refl)

-- the later parts of a tag
abbrev parts : Regex
parts = many (one (the 45) · some (one letter_or_digit))

-- a later part of a tag begins with a hyphen
parts-step : (c : ℕ) (w : List ℕ) → Matches parts (c ∷ w) → (has (the 45) c ≡ true) × Matches (some (one letter_or_digit) · parts) w
parts-step c w h =
    let a = matches-after parts c w h in
    let f = first_of_class (the 45) c a.2.0 a.2.2 in
    (f.is, (a.2.1, a.1, a.2.3, a.3, a.4 ∙ ap (λ u. u ++ a.1) (a.2.4 ∙ ap (λ p. p ++ a.2.1) f.alone)))

-- a hyphen with a letter or digit after it begins a later part of a tag
step-parts : (c : ℕ) (w : List ℕ) → has (the 45) c ≡ true → Matches (some (one letter_or_digit) · parts) w → Matches parts (c ∷ w)
step-parts c w h p =
    ((c ∷ p.0) ∷ p.3.0, ((c ∷ [], p.0, one-matches (the 45) c h, p.2, refl), p.3.1), ap (λ x. c ∷ x) (p.4 ∙ ap (λ x. p.0 ++ x) p.3.2))

-- what is still to be read of a tag
abbrev rest_of_tag : Place → Regex
rest_of_tag start = some (one letter) · parts
rest_of_tag letters = many (one letter) · parts
rest_of_tag hyphen = some (one letter_or_digit) · parts
rest_of_tag part = many (one letter_or_digit) · parts

-- after a part a tag may end
nothing_left : (k : Class) → Matches (many (one k) · parts) []
nothing_left k = ([], [], ([], tt, refl), ([], tt, refl), refl)

-- which way a choice went, and how to go one
chosen : (b : Bool) (p : Place) (o : Option Place) (test : Place → Bool) → if_some (cond b (Some p) o) test ≡ true →
    ((b ≡ true) × (test p ≡ true)) ⊎ (if_some o test ≡ true)
chosen true p o test h = inl (refl, h)
chosen false p o test h = inr h

-- a choice whose test holds takes its first place
choose_first : (b : Bool) (p : Place) (o : Option Place) (test : Place → Bool) → b ≡ true → test p ≡ true → if_some (cond b (Some p) o) test ≡ true
choose_first true p o test e h = h
choose_first false p o test e h = absurd (false≢true e)

-- one whose test fails takes the second
choose_second : (b d : Bool) (p q : Place) (test : Place → Bool) → b ≡ false → d ≡ true → test q ≡ true →
    if_some (cond b (Some p) (cond d (Some q) None)) test ≡ true
choose_second true d p q test e f h = absurd (false≢true (sym e))
choose_second false d p q test e f h = choose_first d q None test f h

-- what is read as a tag matches LANGTAG
tag-matches : (p : Place) (w : List ℕ) → tag_goes_on p w ≡ true → Matches (rest_of_tag p) w
tag-matches start [] h = absurd (false≢true h)
tag-matches letters [] h = nothing_left letter
tag-matches hyphen [] h = absurd (false≢true h)
tag-matches part [] h = nothing_left letter_or_digit
tag-matches start (c ∷ w) h =
    ⊎_elim
    (λ a. step-some letter parts c w a.0 (tag-matches letters w a.1))
    (λ n. absurd (false≢true n))
    (chosen (has letter c) letters None (λ q. tag_goes_on q w) h)
tag-matches letters (c ∷ w) h =
    ⊎_elim
    (λ a. step-many letter parts c w a.0 (tag-matches letters w a.1))
    (λ n. ⊎_elim
    (λ a. none-many letter parts (c ∷ w) (step-parts c w a.0 (tag-matches hyphen w a.1)))
    (λ n. absurd (false≢true n))
    (chosen (has (the 45) c) hyphen None (λ q. tag_goes_on q w) n))
    (chosen (has letter c) letters (cond (has (the 45) c) (Some hyphen) None) (λ q. tag_goes_on q w) h)
tag-matches hyphen (c ∷ w) h =
    ⊎_elim
    (λ a. step-some letter_or_digit parts c w a.0 (tag-matches part w a.1))
    (λ n. absurd (false≢true n))
    (chosen (has letter_or_digit c) part None (λ q. tag_goes_on q w) h)
tag-matches part (c ∷ w) h =
    ⊎_elim
    (λ a. step-many letter_or_digit parts c w a.0 (tag-matches part w a.1))
    (λ n. ⊎_elim
    (λ a. none-many letter_or_digit parts (c ∷ w) (step-parts c w a.0 (tag-matches hyphen w a.1)))
    (λ n. absurd (false≢true n))
    (chosen (has (the 45) c) hyphen None (λ q. tag_goes_on q w) n))
    (chosen (has letter_or_digit c) part (cond (has (the 45) c) (Some hyphen) None) (λ q. tag_goes_on q w) h)

-- a character of its own is in no class that does not have it
apart : (k : Class) (x c : ℕ) → has (the x) c ≡ true → has k x ≡ false → has k c ≡ false
unfolding has
apart k x c h f = let p = and_parts (scalar c) (c == x) h in subst (λ y. has k y ≡ false) (sym (eqb-true c x p.1)) f

-- a hyphen is no letter
no_letter : has letter 45 ≡ false
unfolding has
no_letter = refl

-- a hyphen is no letter and no digit
no_letter_or_digit : has letter_or_digit 45 ≡ false
unfolding has
no_letter_or_digit = refl

-- a dot is not in PN_CHARS
no_pn_char : (d : Dialect) → has (pn_char d) 46 ≡ false
unfolding has
no_pn_char Lines = refl
no_pn_char Turtle = refl

-- what matches LANGTAG is read as a tag
matches-tag : (p : Place) (w : List ℕ) → Matches (rest_of_tag p) w → tag_goes_on p w ≡ true
matches-tag start [] m = absurd (false≢true (matches-nullable (rest_of_tag start) m))
matches-tag letters [] m = refl
matches-tag hyphen [] m = absurd (false≢true (matches-nullable (rest_of_tag hyphen) m))
matches-tag part [] m = refl
matches-tag start (c ∷ w) m =
    let a = some-step letter parts c w m in
    choose_first (has letter c) letters None (λ q. tag_goes_on q w) a.0 (matches-tag letters w a.1)
matches-tag letters (c ∷ w) m =
    ⊎_elim
    (λ a. choose_first (has letter c) letters _ (λ q. tag_goes_on q w) a.0 (matches-tag letters w a.1))
    (λ n. let a = parts-step c w n in
    choose_second (has letter c) (has (the 45) c) letters hyphen (λ q. tag_goes_on q w) (apart letter 45 c a.0 no_letter) a.0 (matches-tag hyphen w a.1))
    (many-step letter parts c w m)
matches-tag hyphen (c ∷ w) m =
    let a = some-step letter_or_digit parts c w m in
    choose_first (has letter_or_digit c) part None (λ q. tag_goes_on q w) a.0 (matches-tag part w a.1)
matches-tag part (c ∷ w) m =
    ⊎_elim
    (λ a. choose_first (has letter_or_digit c) part _ (λ q. tag_goes_on q w) a.0 (matches-tag part w a.1))
    (λ n. let a = parts-step c w n in
    choose_second (has letter_or_digit c) (has (the 45) c) part hyphen (λ q. tag_goes_on q w)
    (apart letter_or_digit 45 c a.0 no_letter_or_digit) a.0 (matches-tag hyphen w a.1))
    (many-step letter_or_digit parts c w m)

-- the code tells exactly the language tags
pub tag_goes_on-IsTag : (b : Bool) (w : List ℕ) → b ≡ tag_goes_on start w → (b ≡ true) ↔ IsTag w
tag_goes_on-IsTag b w e = (λ h. tag-matches start w (sym e ∙ h), λ m. e ∙ matches-tag start w m)

-- the rest of a label or a prefix after a character that is no end
abbrev longer_name : Dialect → Regex
longer_name d = many (one (pn_char d) ∣ dot) · one (pn_char d)

-- what may follow a name so far, which may be its end or not
abbrev rest_of_name : Dialect → Bool → Regex
rest_of_name d true = optional (longer_name d)
rest_of_name d false = longer_name d

-- what makes a name longer may follow it
longer : (d : Dialect) (b : Bool) (w : List ℕ) → Matches (longer_name d) w → Matches (rest_of_name d b) w
longer d true w m = inr m
longer d false w m = m

-- a character or dot more, before what makes it longer
name-more : (d : Dialect) (c : ℕ) (w : List ℕ) → Matches (one (pn_char d) ∣ dot) (c ∷ []) → Matches (longer_name d) w → Matches (longer_name d) (c ∷ w)
name-more d c w h m = (c ∷ m.0, m.1, ((c ∷ []) ∷ m.2.0, (h, m.2.1), ap (λ x. c ∷ x) m.2.2), m.3, ap (λ x. c ∷ x) m.4)

-- a character at which the name may end
name-last : (d : Dialect) (c : ℕ) (w : List ℕ) → has (pn_char d) c ≡ true → Matches (optional (longer_name d)) w → Matches (longer_name d) (c ∷ w)
name-last d c w h m =
    ⊎_elim
    (λ none. ([], c ∷ [], ([], tt, refl), one-matches (pn_char d) c h, ap (λ x. c ∷ x) none))
    (λ more. name-more d c w (inl (one-matches (pn_char d) c h)) more)
    m

-- what is read as the rest of a name matches it
name-matches : (d : Dialect) (b : Bool) (w : List ℕ) → name_goes_on d b w ≡ true → Matches (rest_of_name d b) w
name-matches d true [] h = inl refl
name-matches d false [] h = absurd (false≢true h)
name-matches d b (c ∷ w) h =
    ⊎_elim
    (λ e. longer d b (c ∷ w) (name-last d c w e (name-matches d true w (sym (cond-true _ _ _ e) ∙ h))))
    (λ e. let p = and_parts (has (the 46) c) (name_goes_on d false w) (sym (cond-false _ _ _ e) ∙ h) in
    longer d b (c ∷ w) (name-more d c w (inr (one-matches (the 46) c p.0)) (name-matches d false w p.1)))
    (cases_Bool (has (pn_char d) c))

-- a longer name goes on with a character that may end it, or with a dot
name-step : (d : Dialect) (c : ℕ) (w : List ℕ) → Matches (longer_name d) (c ∷ w) →
    ((has (pn_char d) c ≡ true) × Matches (optional (longer_name d)) w) ⊎ ((has (the 46) c ≡ true) × Matches (longer_name d) w)
name-step d c w m =
    ⊎_elim
    (λ a. ⊎_elim
    (λ x. let f = first_of_class (pn_char d) c a.2.0 x in
    inl (f.is, inr (a.2.1, a.1, a.2.3, a.3, a.4 ∙ ap (λ u. u ++ a.1) (a.2.4 ∙ ap (λ p. p ++ a.2.1) f.alone))))
    (λ x. let f = first_of_class (the 46) c a.2.0 x in
    inr (f.is, (a.2.1, a.1, a.2.3, a.3, a.4 ∙ ap (λ u. u ++ a.1) (a.2.4 ∙ ap (λ p. p ++ a.2.1) f.alone))))
    a.2.2)
    (λ a. let f = first_of_class (pn_char d) c w a in inl (f.is, inl f.alone))
    (matches-after (longer_name d) c w m)

-- a rest that is not empty makes the name longer
not_empty : (d : Dialect) (b : Bool) (c : ℕ) (w : List ℕ) → Matches (rest_of_name d b) (c ∷ w) → Matches (longer_name d) (c ∷ w)
not_empty d true c w m = ⊎_elim (λ e. absurd (cc)) (λ h. h) m
not_empty d false c w m = m

-- what matches the rest of a name is read as it
matches-name : (d : Dialect) (b : Bool) (w : List ℕ) → Matches (rest_of_name d b) w → name_goes_on d b w ≡ true
matches-name d true [] m = refl
matches-name d false [] m = absurd (false≢true (matches-nullable (longer_name d) m))
matches-name d b (c ∷ w) m =
    ⊎_elim
    (λ a. cond-true _ _ _ a.0 ∙ matches-name d true w a.1)
    (λ a. cond-false _ _ _ (apart (pn_char d) 46 c a.0 (no_pn_char d)) ∙ and_from _ _ a.0 (matches-name d false w a.1))
    (name-step d c w (not_empty d b c w m))

-- a first character and the rest of a name are a label
label-begin : (c : ℕ) (w : List ℕ) → begins_label c ≡ true → Matches (optional (longer_name Lines)) w → IsLabel (c ∷ w)
label-begin c w h m =
    (c ∷ [], w, ⊎_elim (λ x. inl (one-matches (pn_u Lines) c x)) (λ x. inr (one-matches digit c x)) (or_cases _ _ h), m, refl)

-- a label is a first character and the rest of a name
begin-label : (c : ℕ) (w : List ℕ) → IsLabel (c ∷ w) → (begins_label c ≡ true) × Matches (optional (longer_name Lines)) w
begin-label c w m =
    let a = matches-after (label_name Lines) c w m in
    ⊎_elim
    (λ x. let f = first_of_class (pn_u Lines) c a.0 x in
    (or_left _ _ f.is, subst (Matches (optional (longer_name Lines))) (sym (a.4 ∙ ap (λ p. p ++ a.1) f.alone)) a.3))
    (λ x. let f = first_of_class digit c a.0 x in
    (or_right _ _ f.is, subst (Matches (optional (longer_name Lines))) (sym (a.4 ∙ ap (λ p. p ++ a.1) f.alone)) a.3))
    a.2

-- the code tells exactly the labels
pub name_goes_on-IsLabel : (b : Bool) (c : ℕ) (w : List ℕ) → b ≡ (begins_label c && name_goes_on Lines true w) → (b ≡ true) ↔ IsLabel (c ∷ w)
name_goes_on-IsLabel b c w e = (
  λ h. let p = and_parts (begins_label c) (name_goes_on Lines true w) (sym e ∙ h) in label-begin c w p.0 (name-matches Lines true w p.1),
  λ m. let p = begin-label c w m in e ∙ and_from _ _ p.0 (matches-name Lines true w p.1),
)

-- the colon
colon : has (the 58) 58 ≡ true
unfolding has
colon = refl

-- the expression of ":" has ":" alone
colon_alone : (w : List ℕ) → Matches (one (the 58)) w → w ≡ 58 ∷ []
unfolding has
colon_alone w m = m.2 ∙ ap (λ c. c ∷ []) (eqb-true m.0 58 (and_parts (scalar m.0) (m.0 == 58) m.1).1)

-- a prefix begins with a character of its own class
begin-prefix : (c : ℕ) (w : List ℕ) → Matches pn_prefix (c ∷ w) → (has pn_base c ≡ true) × Matches (optional (longer_name Turtle)) w
begin-prefix c w m =
    let a = matches-after pn_prefix c w m in
    let f = first_of_class pn_base c a.0 a.2 in
    (f.is, subst (Matches (optional (longer_name Turtle))) (sym (a.4 ∙ ap (λ p. p ++ a.1) f.alone)) a.3)

-- the code tells exactly the prefixes that are not empty
pub name_goes_on-prefix : (b : Bool) (c : ℕ) (w : List ℕ) → b ≡ (has pn_base c && name_goes_on Turtle true w) → (b ≡ true) ↔ Matches pn_prefix (c ∷ w)
name_goes_on-prefix b c w e = (
  λ h. let p = and_parts (has pn_base c) (name_goes_on Turtle true w) (sym e ∙ h) in
      (c ∷ [], w, one-matches pn_base c p.0, name-matches Turtle true w p.1, refl),
  λ m. let p = begin-prefix c w m in e ∙ and_from _ _ p.0 (matches-name Turtle true w p.1),
)

-- a text that ends in a colon is one or not as what stands before it is empty or a prefix
prefix-ns : (v : List ℕ) → (v ≡ []) ⊎ Matches pn_prefix v → Shape Turtle PnameNs (v ++ 58 ∷ [])
unfolding shape
prefix-ns v h = (v, 58 ∷ [], h, one-matches (the 58) 58 colon, refl)

-- before the colon of a PNAME_NS there is a prefix or nothing
ns-prefix : (v : List ℕ) → Shape Turtle PnameNs (v ++ 58 ∷ []) → (v ≡ []) ⊎ Matches pn_prefix v
unfolding shape
ns-prefix v m =
    let s : v ≡ m.0 = append_cancel_right v m.0 (58 ∷ []) (m.4 ∙ ap (λ x. m.0 ++ x) (colon_alone m.1 m.3)) in
    subst (λ x. (x ≡ []) ⊎ Matches pn_prefix x) (sym s) m.2

-- a PNAME_NS ends in its colon
ns-ends : (w : List ℕ) → Shape Turtle PnameNs w → (v : List ℕ) × (w ≡ v ++ 58 ∷ [])
unfolding shape
ns-ends w m = (m.0, m.4 ∙ ap (λ x. m.0 ++ x) (colon_alone m.1 m.3))

-- ":" is its own byte
pub bytes_colon : encode_utf8_all (58 ∷ []) ≡ 58 ∷ []
bytes_colon = ap (λ x. x ++ []) (encode_ascii 58 (omega arith))

-- the byte of ":" is UTF-8
pub utf8_colon : IsUtf8 (58 ∷ [])
utf8_colon = (58 ∷ [], (refl, bytes_colon))

-- the byte of ":" is one character
pub chars_colon : chars (58 ∷ []) ≡ 58 ∷ []
chars_colon = ap chars (sym bytes_colon) ∙ chars-encodes (58 ∷ []) refl

-- by the bytes before the colon
pub ns_of_prefix : (b : Bool) (bytes front : List ℕ) → IsUtf8 bytes → bytes ≡ front ++ 58 ∷ [] →
    (b ≡ true) ↔ Matches pn_prefix (chars front) → (length front ≡ 0 → ⊥) →
    (b ≡ true) ↔ Shape Turtle PnameNs (chars bytes)
ns_of_prefix b bytes front u e h n =
    let k = before_last bytes front 58 utf8_colon chars_colon u e in (
      λ t. subst (Shape Turtle PnameNs) (sym k.chars) (prefix-ns (chars front) (inr (h.0 t))),
      λ m. ⊎_elim
          (λ none. absurd (n (ap length (sym (encodes-chars front k.utf8) ∙ ap encode_utf8_all none))))
          (λ p. h.1 p)
          (ns-prefix (chars front) (subst (Shape Turtle PnameNs) k.chars m)),
    )

-- ":" alone is a PNAME_NS, that of the empty prefix
pub ns_of_nothing : (bytes front : List ℕ) → IsUtf8 bytes → bytes ≡ front ++ 58 ∷ [] → length front ≡ 0 → Shape Turtle PnameNs (chars bytes)
ns_of_nothing bytes front u e n =
    let k = before_last bytes front 58 utf8_colon chars_colon u e in
    subst (Shape Turtle PnameNs) (sym k.chars) (prefix-ns (chars front) (inl (no_chars front n)))

-- a text that does not end in ":" is none
pub ns_without_colon : (bytes : List ℕ) → IsUtf8 bytes → ((front : List ℕ) → bytes ≢ front ++ 58 ∷ []) → Shape Turtle PnameNs (chars bytes) → ⊥
ns_without_colon bytes u n m = let v = ns-ends (chars bytes) m in n (encode_utf8_all v.0) (last_char bytes v.0 58 bytes_colon u v.1)

-- no text is no label
pub no_label : IsLabel [] → ⊥
no_label m = false≢true (matches-nullable (label_name Lines) m)

-- a tag, by its first character
goes_cons : (p : Place) (c : ℕ) (w : List ℕ) → tag_goes_on p (c ∷ w) ≡ if_some (after_tag p c) (λ q. tag_goes_on q w)
goes_cons start c w = refl
goes_cons letters c w = refl
goes_cons hyphen c w = refl
goes_cons part c w = refl

-- a tag, one character on
pub tag_step : (p : Place) (c : ℕ) (w v : List ℕ) (o : Option Place) → w ≡ c ∷ v → o ≡ after_tag p c → tag_goes_on p w ≡ if_some o (λ q. tag_goes_on q v)
tag_step p c w v o e f = ap (tag_goes_on p) e ∙ goes_cons p c v ∙ ap (λ x. if_some x (λ q. tag_goes_on q v)) (sym f)
