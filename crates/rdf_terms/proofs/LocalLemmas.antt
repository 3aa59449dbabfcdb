-- The value of a local part, and the walk over it.
use Rattle.rdf_terms.proofs.Prelude.{◌≡◌, ◌<◌, ℕ, Bool, true, false, cond, List, [], ◌∷◌, ◌++◌, ◌==◌, ◌&&◌, ◌||◌, Option, Some, None, is_some, option_map, encode_utf8, refl, sym, ap, ◌∙◌, subst, ⊎_elim, append_assoc, arith, not, encode_utf8_all, unwrap_or, chars, IsUtf8, IsUtf8-append, chars-append, chars-encodes, chars-nil, chars_from_encodes, encodes-chars, encode_ascii, scalars-chars, append-nil, cases_Bool, cases_lt, and_parts, and_from, or_cases, cond-true, cond-false, not-true, not_from_false, false≢true, ne_eqb, eqb-true, eq-eqb, scalars, has, one_of, iri_char, local_escape, all_have, is_unescaped, local_from, local_value, local_stands, local_opens, without_backslashes}
use lib.Utf8.{scalar}
use Rattle.rdf_terms.specs.Classes.{scalar as is_scalar}
use Rattle.rdf_terms.proofs.CharsLemmas.{next_char}
use Rattle.rdf_terms.proofs.IriBytes.{all_high, high_bytes}

-- a backslash is neither an IRI character nor a local escape, and each local escape is an IRI character
iri_char-backslash : has iri_char 92 ≡ false
unfolding has
iri_char-backslash = refl

-- a backslash cannot be escaped in a local part
local_escape-backslash : has local_escape 92 ≡ false
unfolding has
local_escape-backslash = refl

-- a character that passes a test which a backslash fails is none
not_backslash : (c : ℕ) (test : ℕ → Bool) → test 92 ≡ false → test c ≡ true → (c == 92) ≡ false
not_backslash c test n h = ne_eqb c 92 (λ e. false≢true (sym n ∙ (ap test (sym e) ∙ h)))

-- a test that holds of all characters of a list holds of each
one_of-all : (test : ℕ → Bool) (xs : List ℕ) (c : ℕ) → all_have test xs ≡ true → one_of xs c ≡ true → test c ≡ true
one_of-all test [] c a h = absurd (false≢true h)
one_of-all test (x ∷ xs) c a h =
    let p = and_parts (test x) (all_have test xs) a in
    ⊎_elim
    (λ t. ap test (eqb-true c x t) ∙ p.0)
    (λ t. one_of-all test xs c p.1 t)
    (or_cases (c == x) (one_of xs c) h)

-- each character that PN_LOCAL_ESC escapes may stand in an IRI
pub local_escape-iri_char : (c : ℕ) → has local_escape c ≡ true → has iri_char c ≡ true
unfolding has
local_escape-iri_char c h =
    one_of-all (has iri_char) (95 ∷ 126 ∷ 46 ∷ 45 ∷ 33 ∷ 36 ∷ 38 ∷ 39 ∷ 40 ∷ 41 ∷ 42 ∷ 43 ∷ 44 ∷ 59 ∷ 61 ∷ 47 ∷ 63 ∷ 35 ∷ 64 ∷ 37 ∷ []) c
    refl (and_parts (is_scalar c) _ h).1

-- a text of IRI characters means itself
pub local_value_plain : (w : List ℕ) → all_have (has iri_char) w ≡ true → local_value w ≡ Some w
local_value_plain [] h = refl
local_value_plain (c ∷ w) h =
    let p = and_parts (has iri_char c) (all_have (has iri_char) w) h in
    rw (not_backslash c (has iri_char) iri_char-backslash p.0, p.0, local_value_plain w p.1) refl

-- a value that is mapped is there where it was
is_some-map : (f : List ℕ → List ℕ) (o : Option (List ℕ)) → is_some (option_map f o) ≡ is_some o
is_some-map f None = refl
is_some-map f (Some w) = refl

-- whether there is a value, one character on
pub local-next : (b : Bool) (c : ℕ) (w : List ℕ) → is_some (local_from b (c ∷ w)) ≡ (local_stands b c && is_some (local_from (local_opens b c) w))
local-next true c w = by (has local_escape c)
  where
    by : (t : Bool) → is_some (cond t (option_map (λ v. c ∷ v) (local_from false w)) None) ≡ (t && is_some (local_from false w))
    by true = is_some-map _ (local_from false w)
    by false = refl
local-next false c w = by (c == 92) (has iri_char c)
  where
    by : (s t : Bool) → is_some (cond s (local_from true w) (cond t (option_map (λ v. c ∷ v) (local_from false w)) None))
        ≡ ((s || t) && is_some (local_from s w))
    by true t = refl
    by false true = is_some-map _ (local_from false w)
    by false false = refl

-- a local part may end anywhere but after a backslash
pub local-end : (b : Bool) → is_some (local_from b []) ≡ not b
local-end true = refl
local-end false = refl

-- a value has the characters that are no backslash, and they are IRI characters
pub mapped : (c : ℕ) (o : Option (List ℕ)) (v : List ℕ) → option_map (λ x. c ∷ x) o ≡ Some v → (u : List ℕ) × (o ≡ Some u) × (v ≡ c ∷ u)
mapped c None v h = absurd (false≢true (ap is_some h))
mapped c (Some u) v h = (u, refl, ap (λ x. unwrap_or x []) (sym h))

-- a local part means its text without backslashes, which consists of IRI characters
abbrev Means : List ℕ → List ℕ → Type 0
Means w v = (v ≡ without_backslashes w) × (all_have (has iri_char) v ≡ true)

-- a local part with one plain character more means one character more
means-cons : (c : ℕ) (w v u : List ℕ) → v ≡ c ∷ u → (c == 92) ≡ false → has iri_char c ≡ true → Means w u → Means (c ∷ w) v
means-cons c w v u e n t m = (
  e ∙ (ap (λ x. c ∷ x) m.0 ∙ sym (cond-false (c == 92) (without_backslashes w) (c ∷ without_backslashes w) n)),
  ap (all_have (has iri_char)) e ∙ and_from (has iri_char c) _ t m.1,
)

-- the value of a local part is its text without backslashes
pub local-means : (b : Bool) (w v : List ℕ) → local_from b w ≡ Some v → Means w v
local-means true [] v h = absurd (false≢true (ap is_some h))
local-means false [] v h = let e : v ≡ [] = ap (λ x. unwrap_or x []) (sym h) in (e, ap (all_have (has iri_char)) e)
local-means true (c ∷ w) v h =
    let o = option_map (λ x. c ∷ x) (local_from false w) in
    ⊎_elim
    (λ (t : has local_escape c ≡ true).
    let m = mapped c (local_from false w) v (sym (cond-true (has local_escape c) o None t) ∙ h) in
    means-cons c w v m.0 m.2 (not_backslash c (has local_escape) local_escape-backslash t) (local_escape-iri_char c t) (local-means false w m.0 m.1))
    (λ (f : has local_escape c ≡ false). absurd (false≢true (ap is_some (sym (cond-false (has local_escape c) o None f) ∙ h))))
    (cases_Bool (has local_escape c))
local-means false (c ∷ w) v h =
    let o = option_map (λ x. c ∷ x) (local_from false w) in
    let r = cond (has iri_char c) o None in
    ⊎_elim
    (λ (t : (c == 92) ≡ true).
    let m = local-means true w v (sym (cond-true (c == 92) (local_from true w) r t) ∙ h) in
    (m.0 ∙ sym (cond-true (c == 92) (without_backslashes w) (c ∷ without_backslashes w) t), m.1))
    (λ (f : (c == 92) ≡ false).
    let k : r ≡ Some v = sym (cond-false (c == 92) (local_from true w) r f) ∙ h in
    ⊎_elim
    (λ (t : has iri_char c ≡ true).
    let m = mapped c (local_from false w) v (sym (cond-true (has iri_char c) o None t) ∙ k) in
    means-cons c w v m.0 m.2 f t (local-means false w m.0 m.1))
    (λ (n : has iri_char c ≡ false). absurd (false≢true (ap is_some (sym (cond-false (has iri_char c) o None n) ∙ k))))
    (cases_Bool (has iri_char c)))
    (cases_Bool (c == 92))

-- the first turn of the loop that builds, and a character more
pub unescaped_none : (text rest out : List ℕ) → rest ≡ text → out ≡ [] → without_backslashes (chars text) ≡ chars out ++ without_backslashes (chars rest)
unescaped_none text rest out e f = ap (λ x. without_backslashes (chars x)) (sym e)
    ∙ ap (λ x. x ++ without_backslashes (chars rest)) (sym (ap chars f ∙ chars-nil))

-- the first character of a text is one
first_scalar : (bytes rest : List ℕ) (c : ℕ) → IsUtf8 bytes → bytes ≡ encode_utf8 c ++ rest → scalars (c ∷ []) ≡ true
first_scalar bytes rest c u e =
    and_from (scalar c) true (and_parts (scalar c) (scalars (chars rest)) (ap scalars (sym (next_char bytes rest c u e).chars) ∙ scalars-chars bytes u)).0 refl

-- what the loop keeps holds after a character that is copied
pub unescaped_push : (whole out grown bytes rest : List ℕ) (c : ℕ) → whole ≡ chars out ++ without_backslashes (chars bytes) → IsUtf8 out → IsUtf8 bytes →
    bytes ≡ encode_utf8 c ++ rest → (c ≡ 92 → ⊥) → grown ≡ out ++ encode_utf8 c → whole ≡ chars grown ++ without_backslashes (chars rest)
unescaped_push whole out grown bytes rest c h u v e n g =
    let one : chars (encode_utf8 c) ≡ c ∷ [] = ap chars (sym (append-nil (encode_utf8 c))) ∙ chars-encodes (c ∷ []) (first_scalar bytes rest c v e) in
    let k : chars grown ≡ chars out ++ (c ∷ []) = ap chars g ∙ (chars-append out (encode_utf8 c) u ∙ ap (λ x. chars out ++ x) one) in
    let w : without_backslashes (chars bytes) ≡ c ∷ without_backslashes (chars rest) =
    ap without_backslashes (next_char bytes rest c v e).chars ∙ cond-false (c == 92) (without_backslashes (chars rest)) _ (ne_eqb c 92 n) in
    h ∙ (ap (λ x. chars out ++ x) w ∙ (sym (append_assoc (chars out) (c ∷ []) (without_backslashes (chars rest)))
    ∙ ap (λ x. x ++ without_backslashes (chars rest)) (sym k)))

-- what the loop keeps holds after a backslash that is left out
pub unescaped_skip : (whole out bytes rest : List ℕ) (c : ℕ) → whole ≡ chars out ++ without_backslashes (chars bytes) → IsUtf8 bytes →
    bytes ≡ encode_utf8 c ++ rest → c ≡ 92 → whole ≡ chars out ++ without_backslashes (chars rest)
unescaped_skip whole out bytes rest c h v e n =
    h ∙ ap (λ x. chars out ++ x) (ap without_backslashes (next_char bytes rest c v e).chars
    ∙ cond-true (c == 92) (without_backslashes (chars rest)) _ (eq-eqb c 92 n))

-- a value is the text without backslashes
pub value_is : (w : List ℕ) → is_some (local_value w) ≡ true →
    (local_value w ≡ Some (without_backslashes w)) × (all_have (has iri_char) (without_backslashes w) ≡ true)
value_is w h = by (local_value w) refl h
  where
    by : (o : Option (List ℕ)) → local_value w ≡ o → is_some o ≡ true →
        (local_value w ≡ Some (without_backslashes w)) × (all_have (has iri_char) (without_backslashes w) ≡ true)
    by None e h = absurd (false≢true h)
    by (Some v) e h = let m = local-means false w v e in (e ∙ ap (λ x. Some x) m.0, sym (ap (all_have (has iri_char)) m.0) ∙ m.1)

-- after the last character the text that was built is the value
pub unescaped_all : (out rest : List ℕ) → chars rest ≡ [] → chars out ++ without_backslashes (chars rest) ≡ chars out
unescaped_all out rest e = ap (λ x. chars out ++ without_backslashes x) e ∙ append-nil (chars out)

-- bytes that are no backslash stay
without-append : (u v : List ℕ) → all_have is_unescaped u ≡ true → without_backslashes (u ++ v) ≡ u ++ without_backslashes v
without-append [] v h = refl
without-append (c ∷ u) v h =
    let p = and_parts (is_unescaped c) (all_have is_unescaped u) h in
    cond-false (c == 92) _ _ (not-true (c == 92) p.0) ∙ ap (λ x. c ∷ x) (without-append u v p.1)

-- no other character has a backslash among its bytes
bytes_unescaped : (c : ℕ) → (c == 92) ≡ false → all_have is_unescaped (encode_utf8 c) ≡ true
bytes_unescaped c n =
    ⊎_elim
    (λ (l : c < 128). ap (all_have is_unescaped) (encode_ascii c l) ∙ and_from (is_unescaped c) true (not_from_false (c == 92) n) refl)
    (λ l. all_high is_unescaped (λ b m. not_from_false (b == 92) (ne_eqb b 92 (λ e. absurd (omega (arith, e, m))))) (encode_utf8 c) (high_bytes c l))
    (cases_lt c 128)

-- so a text loses its backslashes where its bytes do
encodes-without : (w : List ℕ) → encode_utf8_all (without_backslashes w) ≡ without_backslashes (encode_utf8_all w)
encodes-without [] = refl
encodes-without (c ∷ w) =
    let rest = encode_utf8_all w in
    ⊎_elim
    (λ (t : (c == 92) ≡ true).
    ap encode_utf8_all (cond-true (c == 92) (without_backslashes w) (c ∷ without_backslashes w) t)
    ∙ (encodes-without w ∙ sym (ap (λ x. without_backslashes (encode_utf8 x ++ rest)) (eqb-true c 92 t)
    ∙ ap (λ x. without_backslashes (x ++ rest)) (encode_ascii 92 (omega arith)))))
    (λ (f : (c == 92) ≡ false).
    ap encode_utf8_all (cond-false (c == 92) (without_backslashes w) (c ∷ without_backslashes w) f)
    ∙ (ap (λ x. encode_utf8 c ++ x) (encodes-without w) ∙ sym (without-append (encode_utf8 c) rest (bytes_unescaped c f))))
    (cases_Bool (c == 92))

-- what is left are characters as before
scalars-without : (w : List ℕ) → scalars w ≡ true → scalars (without_backslashes w) ≡ true
scalars-without [] h = refl
scalars-without (c ∷ w) h =
    let p = and_parts (scalar c) (scalars w) h in
    ⊎_elim
    (λ (t : (c == 92) ≡ true). ap scalars (cond-true (c == 92) (without_backslashes w) (c ∷ without_backslashes w) t) ∙ scalars-without w p.1)
    (λ (f : (c == 92) ≡ false).
    ap scalars (cond-false (c == 92) (without_backslashes w) (c ∷ without_backslashes w) f) ∙ and_from (scalar c) _ p.0 (scalars-without w p.1))
    (cases_Bool (c == 92))

-- so what is left of a text is one, and it can be put after another one
pub unescaped_after : (front bs whole : List ℕ) → IsUtf8 front → IsUtf8 bs → whole ≡ front ++ without_backslashes bs →
    (chars whole ≡ chars front ++ without_backslashes (chars bs)) × IsUtf8 whole
unescaped_after front bs whole u v e =
    let left = without_backslashes (chars bs) in
    let bytes : encode_utf8_all left ≡ without_backslashes bs = encodes-without (chars bs) ∙ ap without_backslashes (encodes-chars bs v) in
    let k : IsUtf8 (without_backslashes bs) = (left, (scalars-without (chars bs) (scalars-chars bs v), bytes)) in (
      ap chars e ∙ (chars-append front (without_backslashes bs) u ∙ ap (λ x. chars front ++ x) (sym (chars_from_encodes left _ k bytes))),
      subst IsUtf8 (sym e) (IsUtf8-append front (without_backslashes bs) u k),
    )
