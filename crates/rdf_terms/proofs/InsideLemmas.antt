-- A text without the characters at its ends.
use Rattle.rdf_terms.proofs.Prelude.{◌≡◌, ℕ, ◌+◌, ◌-◌, ◌*◌, ◌≤◌, List, [], ◌∷◌, ◌++◌, length, take, drop, Option, Some, None, encode_utf8, sym, ap, ◌∙◌, subst, ⊎_elim, append_assoc, arith, length-append, length-drop, encode_utf8_all, append-nil, drop-take, length-take-le, take-take, drop-drop, take-append_seam, cases_lt, MatchOption, chars, IsUtf8, chars_rest, IsUtf8-past_char, chars-append, chars-nil, inside}
use Rattle.std.specs.declared.str.Chars.{Chars}
use Rattle.rdf_terms.proofs.CharsLemmas.{next_char, no_chars}

-- the ends of a front of a text
inside-take : (m b : ℕ) (w : List ℕ) → b ≤ length w → inside m (take b w) ≡ take (b - 2 * m) (drop m w)
inside-take m b w h =
    let same = length-take-le b w h in
    ⊎_elim
    (λ short. let all : length (take b w) - 2 * m ≡ 0 = omega arith in
    let none : b - 2 * m ≡ 0 = omega arith in
    ap (λ k. take k (drop m (take b w))) all ∙ sym (ap (λ k. take k (drop m w)) none))
    (λ long. let e : b ≡ m + (b - m) = omega arith in
    let few : b - 2 * m ≤ b - m = omega arith in
    ap (λ k. take (k - 2 * m) (drop m (take b w))) same
    ∙ ap (λ k. take (b - 2 * m) (drop m (take k w))) e
    ∙ ap (take (b - 2 * m)) (drop-take m (b - m) w)
    ∙ take-take (b - 2 * m) (b - m) (drop m w) few)
    (cases_lt b m)

-- to take off ends twice is to take off more of them, as the three quotes of a string
pub inside-inside : (m n : ℕ) (w : List ℕ) → inside m (inside n w) ≡ inside (n + m) w
inside-inside m n w =
    let l = length-drop n w in
    let e : length w - 2 * n - 2 * m ≡ length w - 2 * (n + m) = omega arith in
    inside-take m (length w - 2 * n) (drop n w) (omega arith)
    ∙ ap (λ k. take k (drop m (drop n w))) e
    ∙ ap (take (length w - 2 * (n + m))) (drop-drop m n w)

-- what one character less at the front leaves, and one less at the end
pub front_off : (text rest : Chars) (r : Option ℕ) → IsUtf8 (chars_rest text) →
    MatchOption r ((length (chars_rest text) ≡ 0) × (rest ≡ text)) (λ c. chars_rest text ≡ encode_utf8 c ++ chars_rest rest) →
    IsUtf8 (chars_rest rest) × (chars (chars_rest rest) ≡ drop 1 (chars (chars_rest text)))
front_off text rest None u h =
    let none = no_chars (chars_rest text) h.0 in
    let same = ap chars_rest h.1 in
    (subst IsUtf8 (sym same) u, ap chars same ∙ none ∙ sym (ap (drop 1) none))
front_off text rest (Some c) u h =
    let n = next_char (chars_rest text) (chars_rest rest) c u h in
    (n.utf8, sym (ap (drop 1) n.chars))

-- what follows whole characters of a text is UTF-8
encoded_rest : (cs ys : List ℕ) → IsUtf8 (encode_utf8_all cs ++ ys) → IsUtf8 ys
encoded_rest [] ys u = u
encoded_rest (c ∷ cs) ys u =
    encoded_rest cs ys (IsUtf8-past_char _ (encode_utf8_all cs ++ ys) c u (append_assoc (encode_utf8 c) (encode_utf8_all cs) ys))

-- what follows a front that is UTF-8 is UTF-8
utf8_rest : (xs ys : List ℕ) → IsUtf8 xs → IsUtf8 (xs ++ ys) → IsUtf8 ys
utf8_rest xs ys x u = encoded_rest x.0 ys (subst (λ w. IsUtf8 (w ++ ys)) (sym x.1.1) u)

-- a text without its last character
last_off : (text rest : List ℕ) (c : ℕ) → IsUtf8 text → IsUtf8 rest → text ≡ rest ++ encode_utf8 c →
    chars rest ≡ take (length (chars text) - 1) (chars text)
last_off text rest c u v h =
    let last = next_char (encode_utf8 c) [] c (utf8_rest rest (encode_utf8 c) v (subst IsUtf8 h u)) (sym (append-nil (encode_utf8 c))) in
    let whole : chars text ≡ chars rest ++ c ∷ [] =
    ap chars h ∙ chars-append rest (encode_utf8 c) v ∙ ap (λ w. chars rest ++ w) (last.chars ∙ ap (λ w. c ∷ w) chars-nil) in
    let e : length (chars rest ++ c ∷ []) - 1 ≡ length (chars rest) = omega (arith, length-append (chars rest) (c ∷ [])) in
    sym (ap (λ w. take (length w - 1) w) whole ∙ ap (λ k. take k (chars rest ++ c ∷ [])) e ∙ take-append_seam (chars rest) (c ∷ []))

-- a text without its last character, as an iterator over characters gives it
pub back_off : (text rest : Chars) (r : Option ℕ) → IsUtf8 (chars_rest text) → IsUtf8 (chars_rest rest) →
    MatchOption r ((length (chars_rest text) ≡ 0) × (rest ≡ text)) (λ c. chars_rest text ≡ chars_rest rest ++ encode_utf8 c) →
    chars (chars_rest rest) ≡ take (length (chars (chars_rest text)) - 1) (chars (chars_rest text))
back_off text rest None u v h =
    let none = no_chars (chars_rest text) h.0 in
    ap (λ x. chars (chars_rest x)) h.1 ∙ none ∙ sym (ap (λ w. take (length w - 1) w) none)
back_off text rest (Some c) u v h = last_off (chars_rest text) (chars_rest rest) c u v h

-- both ends off
pub ends_off : (text mid rest : List ℕ) → chars mid ≡ drop 1 (chars text) → chars rest ≡ take (length (chars mid) - 1) (chars mid) →
    chars rest ≡ inside 1 (chars text)
ends_off text mid rest e f =
    let k : length (drop 1 (chars text)) - 1 ≡ length (chars text) - 2 * 1 = omega (arith, length-drop 1 (chars text)) in
    f ∙ ap (λ w. take (length w - 1) w) e ∙ ap (λ n. take n (drop 1 (chars text))) k
