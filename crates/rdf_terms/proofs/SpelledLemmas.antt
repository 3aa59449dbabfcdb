-- What the kind and the shape of a token say of what it spells.
use Rattle.rdf_terms.proofs.Prelude.{◌≡◌, ℕ, ◌-◌, ◌*◌, ◌≤◌, Bool, true, false, String, List, [], ◌∷◌, ◌++◌, ◌&&◌, ◌||◌, ◌==◌, length, drop, Option, Some, None, is_some, option_map, unwrap_or, refl, sym, ap, subst, inl, inr, ⊎_elim, ◌∙◌, arith, length-drop, chars, string_bytes, AllByRecursion, false≢true, length-take, encodes-chars, IsUtf8-string_bytes, Class, has, is_base, is_digit, within, pn_u, pn_char, Regex, Matches, nothing, empty, one, ◌·◌, ◌∣◌, many, Dialect, Lines, Turtle, IriRef, LabelNode, ShortString, LangTag, shape, Shape, label_name, IsLabel, IsTag, of_string, EscapeState, outside, slash, digits, Move, leads, means, fails, move, go, value, iri_value, string_value, inside, is_fit}
use Rattle.rdf_terms.specs.Classes.{scalar}
use Rattle.rdf_terms.specs.Buffers.{string_in}
use Rattle.rdf_terms.proofs.CharsLemmas.{few_bytes}

-- a fit IRIREF has a value
pub fit_iri : (w : List ℕ) → is_fit IriRef w ≡ true → iri_value (inside 1 w) ≡ None → ⊥
unfolding is_fit
fit_iri w f n = false≢true (sym (ap is_some n) ∙ f)

-- so has a fit string
pub fit_string : (w : List ℕ) → is_fit ShortString w ≡ true → string_value (inside 1 w) ≡ None → ⊥
unfolding is_fit
fit_string w f n = false≢true (sym (ap is_some n) ∙ f)

-- the value of a text, if it has one, has no more characters than the text
value_short : (s : EscapeState) (w : List ℕ) → length (unwrap_or (value of_string s w) []) ≤ length w
value_short outside [] = omega arith
value_short slash [] = omega arith
value_short (digits k n) [] = omega arith
value_short s (c ∷ w) = by (move of_string s c) (λ t. value of_string t w) (λ t. value_short t w)
  where
    one_more : (c : ℕ) (o : Option (List ℕ)) → length (unwrap_or o []) ≤ length w → length (unwrap_or (option_map (λ v. c ∷ v) o) []) ≤ length (c ∷ w)
    one_more c None h = omega arith
    one_more c (Some v) h = omega (arith, h)

    by : (m : Move) (rest : EscapeState → Option (List ℕ)) → ((t : EscapeState) → length (unwrap_or (rest t) []) ≤ length w) →
        length (unwrap_or (go m rest) []) ≤ length (c ∷ w)
    by (leads t) rest h = let z = h t in omega (arith, z)
    by (means d) rest h = one_more d (rest outside) (h outside)
    by fails rest h = omega arith

-- a token without its delimiters is shorter by them
pub inside_short : (n : ℕ) (w : List ℕ) → length (inside n w) ≤ length w - n
inside_short n w = let a = length-take (length w - 2 * n) (drop n w) in let b = length-drop n w in omega (arith, a, b)

-- a string is shorter than its token by n characters at least
pub string_short : (n : ℕ) (w : List ℕ) → length (unwrap_or (string_value (inside n w)) []) ≤ length w - n
string_short n w = let a = value_short outside (inside n w) in let b = inside_short n w in omega (arith, a, b)

-- so it has at most four bytes for each of the token's characters
pub string_fits : {A : Type 0} (s : String A) (w : List ℕ) → chars (string_bytes s) ≡ string_in w → length (string_bytes s) ≤ 4 * length w
string_fits s w e =
    let all = ap length (encodes-chars (string_bytes s) (IsUtf8-string_bytes s)) in
    let few = few_bytes (chars (string_bytes s)) in
    omega (arith, all, few, ap length e, string_short 1 w)

-- a label of Turtle is one of the line formats
u_bools : (s b u k : Bool) → (s && (b || u)) ≡ true → (s && (b || u || k)) ≡ true
u_bools true true u k h = refl
u_bools true false true k h = refl
u_bools true false false k h = absurd (false≢true h)
u_bools false b u k h = absurd (false≢true h)

-- PN_CHARS of Turtle is in that of the line formats, as truth values
char_bools : (s b u k v w x y z : Bool) → (s && ((b || u) || v || w || x || y || z)) ≡ true → (s && ((b || u || k) || v || w || x || y || z)) ≡ true
char_bools true true u k v w x y z h = refl
char_bools true false true k v w x y z h = refl
char_bools true false false true v w x y z h = refl
char_bools true false false false v w x y z h = h
char_bools false b u k v w x y z h = absurd (false≢true h)

-- the class that N-Triples has in place of one of Turtle: only the names of labels differ, by ':'
abbrev wide_class : Class → Class
wide_class (pn_u d) = pn_u Lines
wide_class (pn_char d) = pn_char Lines
wide_class k = k

-- a member of a class of Turtle is in that of N-Triples
wider : (k : Class) (c : ℕ) → has k c ≡ true → has (wide_class k) c ≡ true
unfolding has
wider (pn_u Turtle) c h = u_bools (scalar c) (is_base c) (c == 95) (c == 58) h
wider (pn_u Lines) c h = h
wider (pn_char Turtle) c h = char_bools (scalar c) (is_base c) (c == 95) (c == 58) (c == 45) (is_digit c) (c == 0xB7) (within 0x300 0x36F c)
    (within 0x203F 0x2040 c) h
wider (pn_char Lines) c h = h
wider k c h = h

-- an expression with the classes of N-Triples
abbrev wide : Regex → Regex
wide nothing = nothing
wide empty = empty
wide (one k) = one (wide_class k)
wide (r · s) = wide r · wide s
wide (r ∣ s) = wide r ∣ wide s
wide (many r) = many (wide r)

-- what holds of each part of a repetition carries over
all_wide : (P Q : List ℕ → Type 0) → ((w : List ℕ) → P w → Q w) → (ws : List (List ℕ)) → AllByRecursion P ws → AllByRecursion Q ws
all_wide P Q f [] a = tt
all_wide P Q f (w ∷ ws) a = (f w a.0, all_wide P Q f ws a.1)

-- a text of an expression is one of the wider expression
matches-wide : (r : Regex) (w : List ℕ) → Matches r w → Matches (wide r) w
matches-wide nothing w m = m
matches-wide empty w m = m
matches-wide (one k) w m = (m.0, wider k m.0 m.1, m.2)
matches-wide (r · s) w m = (m.0, m.1, matches-wide r m.0 m.2, matches-wide s m.1 m.3, m.4)
matches-wide (r ∣ s) w m = ⊎_elim (λ x. inl (matches-wide r w x)) (λ x. inr (matches-wide s w x)) m
matches-wide (many r) w m = (m.0, all_wide (Matches r) (Matches (wide r)) (matches-wide r) m.0 m.1, m.2)

-- a label of a token, in either dialect, is one of N-Triples, and can be written as such
pub label_in : (d : Dialect) (w : List ℕ) → Shape d LabelNode w → IsLabel (drop 2 w)
unfolding shape
label_in d w m =
    let front = m.2 in
    let second = front.3 in
    let rest : second.0 ++ second.1 ≡ second.2.0 ∷ [] = ap (λ x. x ++ second.1) second.2.2 ∙ ap (λ x. second.2.0 ∷ x) second.3 in
    let u : m.0 ≡ front.2.0 ∷ second.2.0 ∷ [] = front.4 ∙ (ap (λ x. x ++ front.1) front.2.2 ∙ ap (λ x. front.2.0 ∷ x) (second.4 ∙ rest)) in
    subst IsLabel (sym (ap (drop 2) (m.4 ∙ ap (λ x. x ++ m.1) u))) (matches-wide (label_name d) m.1 m.3)

-- a LANGTAG without its '@' is a tag
pub tag_in : (d : Dialect) (w : List ℕ) → Shape d LangTag w → IsTag (drop 1 w)
unfolding shape
tag_in d w m =
    let h = m.0 in
    subst IsTag (sym (ap (drop 1) (h.4 ∙ ap (λ x. x ++ h.1) h.2.2))) h.3
