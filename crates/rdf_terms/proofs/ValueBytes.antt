-- Whether a string or an IRI has a value is told by its bytes: those of a character that is not of ASCII stand as they are, and so does it.
use Rattle.rdf_terms.proofs.Prelude.{◌≡◌, ℕ, zero, suc, ◌+◌, ◌*◌, ◌<◌, ◌≤◌, Bool, false, true, List, [], ◌∷◌, ◌++◌, Option, is_some, encode_utf8, refl, sym, ap, ◌∙◌, ⊎_elim, length, get_or, arith, IsUtf8, encode_utf8_all, nat_lt, chars, and_from, and_parts, cases_lt, cond-false, ltb-true, nat_tests, encode_ascii, encodes-chars, length-encode, len_utf8_bounds, scalars-chars, encode, scalars, has, member, hex_digit, iri_char, stands, all_have, Inside, of_string, of_iri, EscapeState, outside, slash, digits, Move, leads, means, fails, digit_move, hex_value, move, go, value}
use Rattle.rdf_terms.specs.Classes.{scalar}
use Rattle.rdf_terms.proofs.EscapesLemmas.{value-cons, slash_high, hex_none, stands_means, value_stands, is_some-map}
use Rattle.rdf_terms.proofs.IriBytes.{have-append, high_bytes, high_char, scalar_same}

-- a move before two texts: if they have a value from the same places, so have they after it
pub go-same : (m : Move) (f g : EscapeState → Option (List ℕ)) → ((s : EscapeState) → is_some (f s) ≡ is_some (g s)) → is_some (go m f) ≡ is_some (go m g)
go-same (leads s) f g h = h s
go-same (means c) f g h = is_some-map (λ w. c ∷ w) (f outside) ∙ (h outside ∙ sym (is_some-map (λ w. c ∷ w) (g outside)))
go-same fails f g h = refl

-- a character from U+0080 on stands as it is
pub high_stands : (i : Inside) (c : ℕ) → 128 ≤ c → scalar c ≡ true → stands i c ≡ true
unfolding has
high_stands of_string c h s = grind (arith, nat_tests)
high_stands of_iri c h s = and_from (scalar c) (member iri_char c) s (high_char c h)

-- and so does a byte that is not of ASCII
pub high_byte_stands : (i : Inside) (b : ℕ) → 128 ≤ b → b < 256 → stands i b ≡ true
high_byte_stands i b h l = high_stands i b h (character b l)
  where
    character : (b : ℕ) → b < 256 → scalar b ≡ true
    character b l = grind (arith, nat_tests)

-- less than 256
abbrev is_byte : ℕ → Bool
is_byte b = nat_lt b 256

-- the UTF-8 of a character consists of bytes
encode_bytes : (c : ℕ) → scalar c ≡ true → all_have is_byte (encode_utf8 c) ≡ true
unfolding encode
encode_bytes c s = grind (arith, nat_tests)

-- and so does a text
pub utf8_bytes : (bs : List ℕ) → IsUtf8 bs → (k : ℕ) → get_or bs k 0 < 256
utf8_bytes bs u k = each bs (ap (all_have is_byte) (sym (encodes-chars bs u)) ∙ all (chars bs) (scalars-chars bs u)) k
  where
    all : (w : List ℕ) → scalars w ≡ true → all_have is_byte (encode_utf8_all w) ≡ true
    all [] h = refl
    all (c ∷ w) h =
        let p = and_parts _ (scalars w) h in
        have-append is_byte (encode_utf8 c) (encode_utf8_all w)
        ∙ and_from (all_have is_byte (encode_utf8 c)) _ (encode_bytes c (scalar_same c (and_from _ true p.0 refl))) (all w p.1)

    each : (xs : List ℕ) → all_have is_byte xs ≡ true → (k : ℕ) → get_or xs k 0 < 256
    each [] e k = omega arith
    each (b ∷ xs) e zero = ltb-true b 256 (and_parts (is_byte b) (all_have is_byte xs) e).0
    each (b ∷ xs) e (suc k) = each xs (and_parts (is_byte b) (all_have is_byte xs) e).1 k

-- the bytes of a character stand as they are where it is not of ASCII
encode_stands : (i : Inside) (c : ℕ) → 128 ≤ c → scalar c ≡ true → all_have (stands i) (encode_utf8 c) ≡ true
encode_stands i c h s = each (encode_utf8 c) (high_bytes c h) (encode_bytes c s)
  where
    each : (xs : List ℕ) → ((k : ℕ) → k < length xs → 128 ≤ get_or xs k 0) → all_have is_byte xs ≡ true → all_have (stands i) xs ≡ true
    each [] f e = refl
    each (b ∷ xs) f e =
        let p = and_parts (is_byte b) (all_have is_byte xs) e in
        and_from (stands i b) (all_have (stands i) xs) (high_byte_stands i b (f 0 (omega arith)) (ltb-true b 256 p.0))
        (each xs (λ k l. f (suc k) (omega arith)) p.1)

-- a number from 128 on is no hex digit
high_digit : (i : Inside) (b : ℕ) → 128 ≤ b → (k n : ℕ) → move i (digits k n) b ≡ fails
high_digit i b h zero n = refl
high_digit i b h (suc k) n = cond-false (has hex_digit b) (digit_move i k (16 * n + hex_value b)) fails (hex_none b h)

-- no value is there from a place where the next character may not stand
no_value : (i : Inside) (s : EscapeState) (c : ℕ) (w : List ℕ) → move i s c ≡ fails → is_some (value i s (c ∷ w)) ≡ false
no_value i s c w e = ap is_some (value-cons i s c w ∙ ap (λ m. go m (λ t. value i t w)) e)

-- inside an escape neither such a character may stand nor its bytes
none_high : (i : Inside) (s : EscapeState) (c : ℕ) (v w : List ℕ) → 128 ≤ c → ((b : ℕ) → 128 ≤ b → move i s b ≡ fails) →
    is_some (value i s (encode_utf8 c ++ v)) ≡ is_some (value i s (c ∷ w))
none_high i s c v w h f = first (encode_utf8 c) (omega (arith, length-encode c, len_utf8_bounds c)) (high_bytes c h)
  where
    first : (xs : List ℕ) → 0 < length xs → ((k : ℕ) → k < length xs → 128 ≤ get_or xs k 0) → is_some (value i s (xs ++ v)) ≡ is_some (value i s (c ∷ w))
    first [] l x = absurd (omega arith)
    first (b ∷ xs) l x = no_value i s b (xs ++ v) (f b (x 0 (omega arith))) ∙ sym (no_value i s c w (f c h))

-- such a character means itself, and so do its bytes
high-value : (i : Inside) (s : EscapeState) (c : ℕ) (v w : List ℕ) → 128 ≤ c → scalar c ≡ true → is_some (value i outside v) ≡ is_some (value i outside w) →
    is_some (value i s (encode_utf8 c ++ v)) ≡ is_some (value i s (c ∷ w))
high-value i outside c v w h x e =
    ap is_some (value_stands i (encode_utf8 c) v (encode_stands i c h x))
    ∙ (is_some-map (λ x. encode_utf8 c ++ x) (value i outside v)
    ∙ (e ∙ sym (ap (λ m. is_some (go m (λ t. value i t w))) (stands_means i c (high_stands i c h x)) ∙ is_some-map (λ x. c ∷ x) (value i outside w))))
high-value i slash c v w h x e = none_high i slash c v w h (slash_high i)
high-value i (digits k n) c v w h x e = none_high i (digits k n) c v w h (λ b l. high_digit i b l k n)

-- the walk over a text's bytes comes to a value where that over its characters does
value-encodes : (i : Inside) (s : EscapeState) (w : List ℕ) → scalars w ≡ true → is_some (value i s (encode_utf8_all w)) ≡ is_some (value i s w)
value-encodes i s [] h = refl
value-encodes i s (c ∷ w) h =
    let p = and_parts _ (scalars w) h in
    ⊎_elim
    (λ l. ap (λ x. is_some (value i s (x ++ encode_utf8_all w))) (encode_ascii c l)
    ∙ (ap is_some (value-cons i s c (encode_utf8_all w))
    ∙ (go-same (move i s c) (λ t. value i t (encode_utf8_all w)) (λ t. value i t w) (λ t. value-encodes i t w p.1)
    ∙ sym (ap is_some (value-cons i s c w)))))
    (λ l. high-value i s c (encode_utf8_all w) w l (scalar_same c (and_from _ true p.0 refl)) (value-encodes i outside w p.1))
    (cases_lt c 128)

-- so the code may look at bytes alone
pub value-bytes : (i : Inside) (bs : List ℕ) → IsUtf8 bs → is_some (value i outside bs) ≡ is_some (value i outside (chars bs))
value-bytes i bs u = ap (λ w. is_some (value i outside w)) (sym (encodes-chars bs u)) ∙ value-encodes i outside (chars bs) (scalars-chars bs u)
