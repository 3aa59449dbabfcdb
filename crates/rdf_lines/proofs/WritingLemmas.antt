-- Each kind of written text has its shape, is fit, and means what was written.
use Rattle.rdf_lines.proofs.Prelude.{◌≡◌, ◌≢◌, ℕ, ◌-◌, ◌*◌, Bool, true, false, cond, List, [], ◌∷◌, ◌++◌, ◌==◌, inl, inr, refl, sym, ap, ◌∙◌, subst, ⊎_elim, append_assoc, Some, length, take, drop, is_some, arith, length-append, flat_map, cases_Bool, cond-true, cond-false, false≢true, and_parts, eqb-true, eq-eqb, nat_tests, take_at, Lines, the, iri_char, plain_double, escape_letter, Regex, Matches, after, possible, after_all, many, Kind, fixed, shaped, shape, echar, hex, matches-any, IriRef, LabelNode, ShortString, LangTag, of_string, of_iri, IsPiece, Means, is_fit, inside, iri_value, string_value, all_have, Escapes, uchar, written, escaped, iri_text, string_text, matches-after, matches-after_all, clean, matches-clean}
use Rattle.rdf_terms.specs.Classes.{has, scalar}
use Rattle.rdf_terms.specs.Regex.{◌·◌, ◌∣◌}
use Rattle.rdf_terms.specs.Regex.Regex.{one, empty}
use Rattle.rdf_terms.specs.Shapes as shapes
use Rattle.rdf_terms.proofs.PiecesLemmas.{iri_means, string_means}
use Rattle.rdf_lines.proofs.NextToken.{Begins}
use Rattle.rdf_lines.proofs.UcharLemmas.{four, eight, written_cases, uchar_cases, uchar_shape, uchar_meant}

-- the first characters
pub begins_iri : Begins 60 IriRef
unfolding shape has
begins_iri = record { only = only; any = λ w m. matches-any Lines fixed IriRef (drop 1 shaped) w m }
  where
    only : (l : Kind) → possible (after (shape Lines l) 60) ≡ true → l ≡ IriRef
    only IriRef e = refl
    only l e = absurd (false≢true e)

-- a text that begins with "_" is a label or nothing
pub begins_label : Begins 95 LabelNode
unfolding shape has
begins_label = record { only = only; any = λ w m. matches-any Lines (fixed ++ take 1 shaped) LabelNode (drop 2 shaped) w m }
  where
    only : (l : Kind) → possible (after (shape Lines l) 95) ≡ true → l ≡ LabelNode
    only LabelNode e = refl
    only l e = absurd (false≢true e)

-- one that begins with a quotation mark, a string
pub begins_string : Begins 34 ShortString
unfolding shape has
begins_string = record { only = only; any = λ w m. matches-any Lines (fixed ++ take 2 shaped) ShortString (drop 3 shaped) w m }
  where
    only : (l : Kind) → possible (after (shape Lines l) 34) ≡ true → l ≡ ShortString
    only ShortString e = refl
    only l e = absurd (false≢true e)

-- one that begins with "@", a tag
pub begins_tag : Begins 64 LangTag
unfolding shape has
begins_tag = record { only = only; any = λ w m. matches-any Lines (fixed ++ take 4 shaped) LangTag (drop 5 shaped) w m }
  where
    only : (l : Kind) → possible (after (shape Lines l) 64) ≡ true → l ≡ LangTag
    only LangTag e = refl
    only l e = absurd (false≢true e)

-- texts of `many`
many_more : (r : Regex) (u w : List ℕ) → Matches r u → Matches (many r) w → Matches (many r) (u ++ w)
many_more r u w m n = (u ∷ n.0, (m, n.1), ap (λ x. u ++ x) n.2)

-- a text of pieces is a repetition of what each piece is
pub many_of : (r : Regex) (test : ℕ → Bool) (f : ℕ → List ℕ) → ((c : ℕ) → test c ≡ true → Matches r (f c)) → (w : List ℕ) →
    all_have test w ≡ true → Matches (many r) (flat_map f w)
many_of r test f g [] a = ([], tt, refl)
many_of r test f g (c ∷ w) a =
    let p = and_parts (test c) (all_have test w) a in
    many_more r (f c) (flat_map f w) (g c p.0) (many_of r test f g w p.1)

-- a text without its delimiters
pub inside_one : (c d : ℕ) (w : List ℕ) → inside 1 (c ∷ w ++ d ∷ []) ≡ w
inside_one c d w = take_at w (d ∷ []) (length (c ∷ w ++ d ∷ []) - 2 * 1) (omega (arith, length-append w (d ∷ [])))

-- IRIs
abbrev iri_part : Regex
iri_part = one iri_char ∣ shapes.uchar

-- a character of an IRI stands as itself or as a UCHAR, and both are parts of an IRIREF
iri_char_part : (e : Escapes) (c : ℕ) → has iri_char c ≡ true → Matches iri_part (written e c)
iri_char_part e c h = written_cases e (Matches iri_part) c (inl (c, h, refl)) (λ l. inr (uchar_shape c))

-- IRIs
pub iri_shape : (e : Escapes) (i : List ℕ) → all_have (has iri_char) i ≡ true → Matches (shape Lines IriRef) (iri_text e i)
unfolding shape has
iri_shape e i a =
    let m = many_of iri_part (has iri_char) (written e) (iri_char_part e) i a in
    (60 ∷ [], flat_map (written e) i ++ 62 ∷ [], (60, refl, refl), (flat_map (written e) i, 62 ∷ [], m, (62, refl, refl), refl), refl)

-- a character of an IRI is no backslash
not_slash : (c : ℕ) → (c == 92) ≡ false → c ≢ 92
not_slash c h e = false≢true (sym h ∙ eq-eqb c 92 e)

-- it is a scalar value and no backslash, so it means itself
iri_others : (c : ℕ) → has iri_char c ≡ true → (scalar c ≡ true) × ((c == 92) ≡ false)
unfolding has
iri_others c h = (grind (arith, nat_tests), grind (arith, nat_tests))

-- one piece of an IRIREF means the character
iri_piece : (e : Escapes) (c : ℕ) → has iri_char c ≡ true → IsPiece of_iri (written e c) c
iri_piece e c h =
    let o = iri_others c h in
    written_cases e (λ w. IsPiece of_iri w c) c (inl (refl, not_slash c o.1, h)) (λ l. inr (inr (uchar_meant of_iri c o.0 h)))

-- so all pieces mean the IRI, as it is read back
iri_pieces : (e : Escapes) (i : List ℕ) → all_have (has iri_char) i ≡ true → Means (IsPiece of_iri) (flat_map (written e) i) i
iri_pieces e [] a = refl
iri_pieces e (c ∷ w) a =
    let p = and_parts (has iri_char c) (all_have (has iri_char) w) a in
    (written e c, flat_map (written e) w, refl, iri_piece e c p.0, iri_pieces e w p.1)

-- an IRI that is written means itself
pub iri_meant : (e : Escapes) (i : List ℕ) → all_have (has iri_char) i ≡ true → iri_value (flat_map (written e) i) ≡ Some i
iri_meant e i a = (iri_means (flat_map (written e) i) i).1 (iri_pieces e i a)

-- strings
abbrev part : Regex
part = one plain_double ∣ echar ∣ shapes.uchar

-- what is left of a string after its first quote
abbrev string_rest : Regex
string_rest = many part · one (the 34)

-- a character that is written as it is needs no escape
plain_others : (c : ℕ) → has plain_double c ≡ true → (has (the 92) c ≡ false) × (has (the 34) c ≡ false) × ((c == 92) ≡ false)
unfolding has
plain_others c h = (grind (arith, nat_tests), grind (arith, nat_tests), grind (arith, nat_tests))

-- every character but four may be written as it is
all_others : (c : ℕ) → scalar c ≡ true → (c == 34) ≡ false → (c == 92) ≡ false → (c == 10) ≡ false → (c == 13) ≡ false → has plain_double c ≡ true
unfolding has
all_others c s a b d e = grind (arith, nat_tests)

-- a written character is one of four escapes, or stands as in an IRI
escape_cases : (e : Escapes) (P : ℕ → List ℕ → Type 0) → P 34 (92 ∷ 34 ∷ []) → P 92 (92 ∷ 92 ∷ []) → P 10 (92 ∷ 110 ∷ []) → P 13 (92 ∷ 114 ∷ []) →
    ((c : ℕ) → has plain_double c ≡ true → P c (written e c)) → (c : ℕ) → scalar c ≡ true → P c (escaped e c)
escape_cases e P quote back feed return plain c s =
    test 34 (92 ∷ 34 ∷ []) _ quote (λ a. test 92 (92 ∷ 92 ∷ []) _ back
    (λ b. test 10 (92 ∷ 110 ∷ []) _ feed (λ d. test 13 (92 ∷ 114 ∷ []) _ return (λ f. plain c (all_others c s a b d f)))))
  where
    test : (x : ℕ) (u v : List ℕ) → P x u → ((c == x) ≡ false → P c v) → P c (cond (c == x) u v)
    test x u v h k =
        ⊎_elim
        (λ e. subst (P c) (sym (cond-true (c == x) u v e)) (subst (λ y. P y u) (sym (eqb-true c x e)) h))
        (λ e. subst (P c) (sym (cond-false (c == x) u v e)) (k e))
        (cases_Bool (c == x))

-- an ECHAR is a piece of a string
two_part : (x : ℕ) → has escape_letter x ≡ true → Matches part (92 ∷ x ∷ [])
unfolding has
two_part x h = inr (inl (92 ∷ [], x ∷ [], (92, refl, refl), (x, h, refl), refl))

-- each character, as it is written, is a piece of a string
escape_part : (e : Escapes) (c : ℕ) → scalar c ≡ true → Matches part (escaped e c)
unfolding has
escape_part e = escape_cases e (λ c w. Matches part w) (two_part 34 refl) (two_part 92 refl) (two_part 110 refl) (two_part 114 refl)
    (λ c h. written_cases e (Matches part) c (inl (c, h, refl)) (λ l. inr (inr (uchar_shape c))))

-- after a written character a string goes on as before
plain_after : (c : ℕ) → has plain_double c ≡ true → clean (after string_rest c) ≡ string_rest
plain_after c h =
    let o = plain_others c h in
    rw (h, o.0, o.1) (refl {a = string_rest})

-- after an ECHAR the rest of the string is left
two_after : (x : ℕ) → clean (after_all string_rest (92 ∷ x ∷ [])) ≡ string_rest → (v : List ℕ) → Matches string_rest (92 ∷ x ∷ v) → Matches string_rest v
two_after x e v m =
    subst (λ r. Matches r v) e (matches-clean (after_all string_rest (92 ∷ x ∷ [])) v (matches-after_all (92 ∷ x ∷ []) v string_rest m))

-- after an escaped quotation mark the rest of the string is left
quote_after : clean (after_all string_rest (92 ∷ 34 ∷ [])) ≡ string_rest
unfolding has
quote_after = refl

-- after an escaped backslash the rest of the string is left
back_after : clean (after_all string_rest (92 ∷ 92 ∷ [])) ≡ string_rest
unfolding has
back_after = refl

-- after an escaped line feed the rest of the string is left
feed_after : clean (after_all string_rest (92 ∷ 110 ∷ [])) ≡ string_rest
unfolding has
feed_after = refl

-- after an escaped carriage return the rest of the string is left
return_after : clean (after_all string_rest (92 ∷ 114 ∷ [])) ≡ string_rest
unfolding has
return_after = refl

-- what is left of an escape, and then of the string
abbrev Left : Regex → List ℕ → Type 0
Left r v = Matches ((r · many part) · one (the 34)) v

abbrev four_left : Regex
four_left = hex · hex · hex · hex

abbrev eight_left : Regex
eight_left = hex · hex · hex · hex · four_left

-- after `\u` four digits are to come
short_after : clean (after_all string_rest (92 ∷ 117 ∷ [])) ≡ (four_left · many part) · one (the 34)
unfolding has
short_after = refl

-- after `\U` eight are
long_after : clean (after_all string_rest (92 ∷ 85 ∷ [])) ≡ (eight_left · many part) · one (the 34)
unfolding has
long_after = refl

-- one digit less
digit_off : (r : Regex) (x : ℕ) (v : List ℕ) → Left (hex · r) (x ∷ v) → Left r v
digit_off r x v m =
    let n = m.2 in
    let d = n.2 in
    let same : x ∷ v ≡ d.2.0 ∷ (d.1 ++ n.1) ++ m.1 = m.4 ∙ ap (λ u. u ++ m.1) (n.4 ∙ ap (λ u. u ++ n.1) (d.4 ∙ ap (λ u. u ++ d.1) d.2.2)) in
    (d.1 ++ n.1, m.1, (d.1, n.1, d.3, n.3, refl), m.3, (let z : v ≡ (d.1 ++ n.1) ++ m.1 = cc in z))

-- the last digit
last_off : (x : ℕ) (v : List ℕ) → Left hex (x ∷ v) → Matches string_rest v
last_off x v m =
    let n = m.2 in
    let same : x ∷ v ≡ n.2.0 ∷ n.1 ++ m.1 = m.4 ∙ ap (λ u. u ++ m.1) (n.4 ∙ ap (λ u. u ++ n.1) n.2.2) in
    (n.1, m.1, n.3, m.3, (let z : v ≡ n.1 ++ m.1 = cc in z))

-- what is left of a string after a backslash and its letter
left_after : (r : Regex) (x : ℕ) → clean (after_all string_rest (92 ∷ x ∷ [])) ≡ (r · many part) · one (the 34) → (v : List ℕ) →
    Matches string_rest (92 ∷ x ∷ v) → Left r v
left_after r x e v m =
    subst (λ r. Matches r v) e (matches-clean (after_all string_rest (92 ∷ x ∷ [])) v (matches-after_all (92 ∷ x ∷ []) v string_rest m))

-- four digits are the whole escape, or the second half of it
four_off : (a b d e : ℕ) (v : List ℕ) → Left four_left (a ∷ b ∷ d ∷ e ∷ v) → Matches string_rest v
four_off a b d e v m = last_off e v (digit_off hex d _ (digit_off (hex · hex) b _ (digit_off (hex · hex · hex) a _ m)))

-- the first four of eight
eight_off : (a b d e : ℕ) (v : List ℕ) → Left eight_left (a ∷ b ∷ d ∷ e ∷ v) → Left four_left v
eight_off a b d e v m =
    digit_off four_left e v (digit_off (hex · four_left) d _ (digit_off (hex · hex · four_left) b _ (digit_off (hex · hex · hex · four_left) a _ m)))

-- so after an escaped character a string goes on as before
uchar_after : (c : ℕ) (v : List ℕ) → Matches string_rest (uchar c ++ v) → Matches string_rest v
uchar_after c v =
    uchar_cases (λ w. Matches string_rest (w ++ v) → Matches string_rest v) c
    (λ l m. four_off _ _ _ _ v (left_after four_left 117 short_after (four c ++ v) m))
    (λ l m. four_off _ _ _ _ v (eight_off _ _ _ _ _ (left_after eight_left 85 long_after (eight c ++ v) m)))

-- after a character, escaped or not, the rest of the string is left
pub escape_after : (e : Escapes) (c : ℕ) → scalar c ≡ true → (v : List ℕ) → Matches string_rest (escaped e c ++ v) → Matches string_rest v
escape_after e c s v =
    escape_cases e (λ c w. Matches string_rest (w ++ v) → Matches string_rest v)
    (two_after 34 quote_after v) (two_after 92 back_after v) (two_after 110 feed_after v) (two_after 114 return_after v)
    (λ c h. written_cases e (λ w. Matches string_rest (w ++ v) → Matches string_rest v) c
    (λ m. subst (λ r. Matches r v) (plain_after c h) (matches-clean (after string_rest c) v (matches-after string_rest c v m)))
    (λ l. uchar_after c v))
    c s

-- after any text that is written the rest of the string is left
escapes_after : (e : Escapes) (w : List ℕ) → all_have scalar w ≡ true → (v : List ℕ) → Matches string_rest (flat_map (escaped e) w ++ v) → Matches string_rest v
escapes_after e [] a v m = m
escapes_after e (c ∷ w) a v m =
    let p = and_parts (scalar c) (all_have scalar w) a in
    escapes_after e w p.1 v (escape_after e c p.0 (flat_map (escaped e) w ++ v)
    (subst (Matches string_rest) (append_assoc (escaped e c) (flat_map (escaped e) w) v) m))

-- after the last quote nothing is left
end_after : clean (after string_rest 34) ≡ empty
unfolding has
end_after = refl

-- a string that is written has the shape of one
pub string_shape : (e : Escapes) (w : List ℕ) → all_have scalar w ≡ true → Matches (shape Lines ShortString) (string_text e w)
unfolding shape has
string_shape e w a =
    let m = many_of part scalar (escaped e) (escape_part e) w a in
    inl (34 ∷ [], flat_map (escaped e) w ++ 34 ∷ [], (34, refl, refl), (flat_map (escaped e) w, 34 ∷ [], m, (34, refl, refl), refl), refl)

-- after its first quote the rest of it is left
shape_rest : clean (after (shape Lines ShortString) 34) ≡ string_rest
unfolding shape has
shape_rest = refl

-- no string begins with a whole written one
pub string_ends : (e : Escapes) (w : List ℕ) → all_have scalar w ≡ true → (x : ℕ) (u : List ℕ) →
    Matches (shape Lines ShortString) (string_text e w ++ x ∷ u) → ⊥
string_ends e w a x u m =
    let rest = (flat_map (escaped e) w ++ 34 ∷ []) ++ x ∷ u in
    let n = subst (λ r. Matches r rest) shape_rest
    (matches-clean (after (shape Lines ShortString) 34) rest (matches-after (shape Lines ShortString) 34 rest m)) in
    let f = escapes_after e w a (34 ∷ x ∷ u) (subst (Matches string_rest) (append_assoc (flat_map (escaped e) w) (34 ∷ []) (x ∷ u)) n) in
    let z : x ∷ u ≡ [] = subst (λ r. Matches r (x ∷ u)) end_after (matches-clean (after string_rest 34) (x ∷ u) (matches-after string_rest 34 (x ∷ u) f)) in
    cc

-- a character that stands as itself in a string is a scalar value
plain_scalar : (c : ℕ) → has plain_double c ≡ true → scalar c ≡ true
unfolding has
plain_scalar c h = (and_parts (scalar c) _ h).0

-- one piece of a string means the character
string_piece : (e : Escapes) (c : ℕ) → scalar c ≡ true → IsPiece of_string (escaped e c) c
string_piece e =
    escape_cases e (λ c w. IsPiece of_string w c)
    (inr (inl (34, refl, inr (inr (inr (inr (inr (inl (refl, refl)))))))))
    (inr (inl (92, refl, inr (inr (inr (inr (inr (inr (inr (inl (refl, refl)))))))))))
    (inr (inl (110, refl, inr (inr (inl (refl, refl))))))
    (inr (inl (114, refl, inr (inr (inr (inl (refl, refl)))))))
    (λ c h. written_cases e (λ w. IsPiece of_string w c) c (inl (refl, not_slash c ((plain_others c h).2), tt))
    (λ l. inr (inr (uchar_meant of_string c (plain_scalar c h) tt))))

-- so all pieces mean the characters, as they are read back
string_pieces : (e : Escapes) (w : List ℕ) → all_have scalar w ≡ true → Means (IsPiece of_string) (flat_map (escaped e) w) w
string_pieces e [] a = refl
string_pieces e (c ∷ w) a =
    let p = and_parts (scalar c) (all_have scalar w) a in
    (escaped e c, flat_map (escaped e) w, refl, string_piece e c p.0, string_pieces e w p.1)

-- a string that is written means its text
pub string_meant : (e : Escapes) (w : List ℕ) → all_have scalar w ≡ true → string_value (flat_map (escaped e) w) ≡ Some w
string_meant e w a = (string_means (flat_map (escaped e) w) w).1 (string_pieces e w a)

-- fit
pub iri_fit : (e : Escapes) (i : List ℕ) → all_have (has iri_char) i ≡ true → is_fit IriRef (iri_text e i) ≡ true
unfolding is_fit
iri_fit e i a = ap (λ x. is_some (iri_value x)) (inside_one 60 62 (flat_map (written e) i)) ∙ ap is_some (iri_meant e i a)

-- the token of a string that is written is fit
pub string_fit : (e : Escapes) (w : List ℕ) → all_have scalar w ≡ true → is_fit ShortString (string_text e w) ≡ true
unfolding is_fit
string_fit e w a = ap (λ x. is_some (string_value x)) (inside_one 34 34 (flat_map (escaped e) w)) ∙ ap is_some (string_meant e w a)
