-- The way from escape to escape in a token's inside: steps over its bytes, and the runs between them.
use Rattle.rdf_terms.proofs.Prelude.{◌≡◌, ℕ, zero, suc, ◌+◌, ◌-◌, ◌*◌, ◌<◌, ◌≤◌, Bool, true, false, ◌&&◌, List, [], ◌∷◌, ◌++◌, ◌==◌, Option, Some, None, is_some, option_map, encode_utf8, refl, sym, ap, ◌∙◌, subst, ⊎_elim, append_assoc, length, length-drop, get_or, drop, take, arith, encode_utf8_all, slice_range, nat_le, IfSome, chars, IsUtf8, IsCharBoundary, chars-append, chars-encodes, chars-nil, chars_from_encodes, encodes-chars, encode_ascii, byte_from_char, IsUtf8-between, IsUtf8-drop, IsCharBoundary-end, IsCharBoundary-before_ascii, IsCharBoundary-from_drop, append-nil, drop_more, drop_all, get_or-drop, and_from, and_parts, cases_Bool, cases_lt, cond-true, cond-false, eqb-true, ne_eqb, not-true, not-false, not_from_false, or_parts, false≢true, nat_tests, has, member, hex_digit, iri_char, all_have, IsRun, PassBetween, goes_over, is_unescaped, iri_byte, string_value, Inside, of_string, of_iri, EscapeState, outside, slash, digits, Move, leads, means, fails, allowed, letter_move, echar_move, digit_move, hex_value, go, move, value, iri_value, run_of, stands, completes, value_after, with_front, IsPutUpTo, IsRead, Reads}
use Rattle.std.proofs.lemmas.List.Folds.{drop_split}
use lib.Utf8.{scalar as lib_scalar}
use Rattle.rdf_terms.specs.Classes.{scalar}
use Rattle.rdf_terms.proofs.CharsLemmas.{Next, next_char}
use Rattle.rdf_terms.proofs.IriBytes.{iri_bytes, have-append}
use Rattle.rdf_terms.proofs.ValuesLemmas.{backslash_excluded}

-- the value of a text by the move of its first character
pub value-cons : (i : Inside) (s : EscapeState) (c : ℕ) (w : List ℕ) → value i s (c ∷ w) ≡ go (move i s c) (λ t. value i t w)
value-cons i outside c w = refl
value-cons i slash c w = refl
value-cons i (digits k n) c w = refl

-- a byte of ASCII is the character at its place
low_first : (bs : List ℕ) (at : ℕ) → at < length bs → IsUtf8 (drop at bs) → get_or bs at 0 < 128 → Next (drop at bs) (drop (at + 1) bs) (get_or bs at 0)
low_first bs at l u a =
    next_char (drop at bs) (drop (at + 1) bs) (get_or bs at 0) u
    (drop_more bs at 0 l ∙ ap (λ x. x ++ drop (at + 1) bs) (sym (encode_ascii (get_or bs at 0) a)))

-- another byte begins a character that is not of ASCII
pub high_first : (bs : List ℕ) (at : ℕ) → at < length bs → IsUtf8 (drop at bs) → 128 ≤ get_or bs at 0 →
    (c : ℕ) × (w : List ℕ) × (chars (drop at bs) ≡ c ∷ w) × (128 ≤ c)
high_first bs at l u h = by u.0 (chars_from_encodes u.0 (drop at bs) u u.1.1) u.1.1
  where
    first : get_or (drop at bs) 0 0 ≡ get_or bs at 0
    first = get_or-drop at bs 0 0 ∙ (let z : at + 0 ≡ at = omega arith in ap (λ k. get_or bs k 0) z)

    by : (cs : List ℕ) → cs ≡ chars (drop at bs) → encode_utf8_all cs ≡ drop at bs → (c : ℕ) × (w : List ℕ) × (chars (drop at bs) ≡ c ∷ w) × (128 ≤ c)
    by [] e f = absurd (omega (arith, ap length f, length-drop at bs))
    by (c ∷ w) e f = (
      c,
      w,
      sym e,
      ⊎_elim
          (λ (k : c < 128). absurd (omega (arith, byte_from_char (drop at bs) (encode_utf8_all w) c (sym f) k, first)))
          (λ k. k)
          (cases_lt c 128),
    )

-- one byte of ASCII on
pub step_low : (i : Inside) (s : EscapeState) (m : Move) (bs : List ℕ) (at : ℕ) → at < length bs → IsUtf8 (drop at bs) → get_or bs at 0 < 128 →
    move i s (get_or bs at 0) ≡ m → value_after i (leads s) bs at ≡ value_after i m bs (at + 1)
step_low i s m bs at l u a e =
    let rest = chars (drop (at + 1) bs) in
    ap (value i s) (low_first bs at l u a).chars ∙ (value-cons i s (get_or bs at 0) rest ∙ ap (λ x. go x (λ t. value i t rest)) e)

-- what stands there is UTF-8 again
pub utf8_low : (bs : List ℕ) (at : ℕ) → at < length bs → IsUtf8 (drop at bs) → get_or bs at 0 < 128 → IsUtf8 (drop (at + 1) bs)
utf8_low bs at l u a = (low_first bs at l u a).utf8

-- the same by the byte's number
pub step_byte : (i : Inside) (s : EscapeState) (b : ℕ) (bs : List ℕ) (at : ℕ) → at < length bs → IsUtf8 (drop at bs) → get_or bs at 0 ≡ b → b < 128 →
    value_after i (leads s) bs at ≡ value_after i (move i s b) bs (at + 1)
step_byte i s b bs at l u e a = step_low i s (move i s b) bs at l u (omega (arith, e)) (ap (move i s) e)

-- and what stands there is UTF-8 again
pub utf8_byte : (b : ℕ) (bs : List ℕ) (at : ℕ) → at < length bs → IsUtf8 (drop at bs) → get_or bs at 0 ≡ b → b < 128 → IsUtf8 (drop (at + 1) bs)
utf8_byte b bs at l u e a = utf8_low bs at l u (omega (arith, e))

-- a place that is not the end is before it
pub not_end : (at n : ℕ) → at ≤ n → (at ≡ n → ⊥) → at < n
not_end at n l f = ⊎_elim (λ (k : at < n). k) (λ k. absurd (f (omega arith))) (cases_lt at n)

-- where no character from U+0080 on may stand
step_high : (i : Inside) (s : EscapeState) (bs : List ℕ) (at : ℕ) → at < length bs → IsUtf8 (drop at bs) → 128 ≤ get_or bs at 0 →
    ((c : ℕ) → 128 ≤ c → move i s c ≡ fails) → value_after i (leads s) bs at ≡ None
step_high i s bs at l u h f =
    let n = high_first bs at l u h in
    ap (value i s) n.2 ∙ (value-cons i s n.0 n.1 ∙ ap (λ x. go x (λ t. value i t n.1)) (f n.0 n.3))

-- where a text may not end
pub step_end : (i : Inside) (s : EscapeState) (bs : List ℕ) (at : ℕ) → length bs ≤ at → value i s [] ≡ None → value_after i (leads s) bs at ≡ None
step_end i s bs at l e = ap (λ w. value i s (chars w)) (drop_all at bs l) ∙ (ap (value i s) chars-nil ∙ e)

-- the rest of an escape that is read from a byte on was read from one before it
pub reads_from : (i : Inside) (m n : Move) (bs : List ℕ) (at to : ℕ) (r : Option (ℕ × ℕ)) → at ≤ to → value_after i m bs at ≡ value_after i n bs to →
    Reads i n bs to r → Reads i m bs at r
reads_from i m n bs at to None l e h = e ∙ h
reads_from i m n bs at to (Some x) l e h = record {
  from = omega (arith, h.from);
  within = h.within;
  utf8 = h.utf8;
  character = h.character;
  value = e ∙ h.value;
}

-- a character that is not of ASCII is none that is
none_of : (c k : ℕ) → 128 ≤ c → k < 128 → (c == k) ≡ false
none_of c k h l = ne_eqb c k (λ e. omega (arith, e))

-- so no escape has it after its backslash
letter_high : (c : ℕ) → 128 ≤ c → letter_move c ≡ fails
letter_high c h =
    let n : (k : ℕ) → k < 128 → (c == k) ≡ false = λ k l. none_of c k h l in
    rw (
      n 116 (omega arith),
      n 98 (omega arith),
      n 110 (omega arith),
      n 114 (omega arith),
      n 102 (omega arith),
      n 34 (omega arith),
      n 39 (omega arith),
      n 92 (omega arith),
    ) refl

-- nor is it one of ECHAR where an IRI stands
echar_high : (i : Inside) (c : ℕ) → 128 ≤ c → echar_move i c ≡ fails
echar_high of_string c h = letter_high c h
echar_high of_iri c h = refl

-- a letter that begins no UCHAR
slash_letter : (i : Inside) (c : ℕ) → (c == 117) ≡ false → (c == 85) ≡ false → move i slash c ≡ echar_move i c
slash_letter i c u v =
    cond-false (c == 117) (leads (digits 4 0)) _ u ∙ cond-false (c == 85) (leads (digits 8 0)) (echar_move i c) v

-- so a backslash before it begins no escape
pub slash_high : (i : Inside) (c : ℕ) → 128 ≤ c → move i slash c ≡ fails
slash_high i c h = slash_letter i c (none_of c 117 h (omega arith)) (none_of c 85 h (omega arith)) ∙ echar_high i c h

-- a letter of ECHAR is no byte that is none
pub no_letter : (i : Inside) (k b c : ℕ) → letter_move k ≡ fails → means c ≡ echar_move i b → (b == k) ≡ false
no_letter i k b c f e = by i e
  where
    means≢fails : means c ≡ fails → ⊥
    means≢fails h = cc

    by : (i : Inside) → means c ≡ echar_move i b → (b == k) ≡ false
    by of_string e = ne_eqb b k (λ x. means≢fails (e ∙ (ap letter_move x ∙ f)))
    by of_iri e = absurd (means≢fails e)

-- after a backslash stands the letter of an ECHAR, or the escape is bad
pub reads_letter : (i : Inside) (bs : List ℕ) (at : ℕ) (o : Option ℕ) → at < length bs → IsUtf8 (drop at bs) → (get_or bs at 0 == 117) ≡ false →
    (get_or bs at 0 == 85) ≡ false → completes o ≡ echar_move i (get_or bs at 0) → IfSome o (λ c. scalar c ≡ true) →
    Reads i (leads slash) bs at (option_map (λ c. (c, at + 1)) o)
reads_letter i bs at None l u x y e s =
    ⊎_elim
    (λ (a : get_or bs at 0 < 128). step_low i slash fails bs at l u a (slash_letter i (get_or bs at 0) x y ∙ sym e))
    (λ h. step_high i slash bs at l u h (slash_high i))
    (cases_lt (get_or bs at 0) 128)
reads_letter i bs at (Some c) l u x y e s =
    ⊎_elim
    (λ (a : get_or bs at 0 < 128). record {
      from = omega arith;
      within = omega arith;
      utf8 = utf8_low bs at l u a;
      character = s;
      value = step_low i slash (means c) bs at l u a (slash_letter i (get_or bs at 0) x y ∙ sym e);
    })
    (λ h. absurd (no_means c (e ∙ echar_high i (get_or bs at 0) h)))
    (cases_lt (get_or bs at 0) 128)
  where
    no_means : (c : ℕ) → means c ≡ fails → ⊥
    no_means c e = cc

-- a hex digit is ASCII
pub hex_none : (c : ℕ) → 128 ≤ c → has hex_digit c ≡ false
unfolding has
hex_none c h = grind (arith, nat_tests)

-- so what stands for a hex digit is one byte
hex_low : (c : ℕ) → has hex_digit c ≡ true → c < 128
hex_low c h = ⊎_elim (λ (l : c < 128). l) (λ l. absurd (false≢true (sym (hex_none c l) ∙ h))) (cases_lt c 128)

-- one hex digit on
pub step_digit : (i : Inside) (left n : ℕ) (bs : List ℕ) (at : ℕ) → 0 < left → IsUtf8 (drop at bs) → at < length bs → has hex_digit (get_or bs at 0) ≡ true →
    value_after i (digit_move i left n) bs at ≡ value_after i (digit_move i (left - 1) (16 * n + hex_value (get_or bs at 0))) bs (at + 1)
step_digit i zero n bs at p u l h = absurd (omega arith)
step_digit i (suc k) n bs at p u l h =
    let b = get_or bs at 0 in
    let e : suc k - 1 ≡ k = omega arith in
    step_low i (digits (suc k) n) (digit_move i k (16 * n + hex_value b)) bs at l u (hex_low b h)
    (cond-true (has hex_digit b) (digit_move i k (16 * n + hex_value b)) fails h)
    ∙ ap (λ j. value_after i (digit_move i j (16 * n + hex_value b)) bs (at + 1)) (sym e)

-- and what follows it is UTF-8
pub utf8_digit : (bs : List ℕ) (at : ℕ) → at < length bs → IsUtf8 (drop at bs) → has hex_digit (get_or bs at 0) ≡ true → IsUtf8 (drop (at + 1) bs)
utf8_digit bs at l u h = utf8_low bs at l u (hex_low (get_or bs at 0) h)

-- where a digit is to come and none does
pub no_digit : (i : Inside) (left n : ℕ) (bs : List ℕ) (at : ℕ) → 0 < left → IsUtf8 (drop at bs) →
    ((at < length bs) × (has hex_digit (get_or bs at 0) ≡ true) → ⊥) →
    value_after i (digit_move i left n) bs at ≡ None
no_digit i zero n bs at p u f = absurd (omega arith)
no_digit i (suc k) n bs at p u f =
    ⊎_elim
    (λ (l : at < length bs). ⊎_elim (λ h. absurd (f (l, h))) (λ h. other l h) (cases_Bool (has hex_digit (get_or bs at 0))))
    (λ l. step_end i (digits (suc k) n) bs at l refl)
    (cases_lt at (length bs))
  where
    other : at < length bs → has hex_digit (get_or bs at 0) ≡ false → value_after i (leads (digits (suc k) n)) bs at ≡ None
    other l h =
        ⊎_elim
        (λ (a : get_or bs at 0 < 128). step_low i (digits (suc k) n) fails bs at l u a
        (cond-false (has hex_digit (get_or bs at 0)) (digit_move i k (16 * n + hex_value (get_or bs at 0))) fails h))
        (λ a. step_high i (digits (suc k) n) bs at l u a (λ c x. cond-false (has hex_digit c) (digit_move i k (16 * n + hex_value c)) fails (hex_none c x)))
        (cases_lt (get_or bs at 0) 128)

-- a value that is mapped is there where it was
pub is_some-map : (f : List ℕ → List ℕ) (o : Option (List ℕ)) → is_some (option_map f o) ≡ is_some o
is_some-map f None = refl
is_some-map f (Some w) = refl

-- before the first character nothing has been given out
pub with_front-nil : (out : List ℕ) (o : Option (List ℕ)) → out ≡ [] → with_front out o ≡ o
with_front-nil out None e = refl
with_front-nil out (Some w) e = ap (λ x. Some (x ++ w)) (ap chars e ∙ chars-nil)

-- the two ways to write the range of a character say the same
pub std_scalar : (c : ℕ) → scalar c ≡ true → lib_scalar c ≡ true
std_scalar c h = grind (arith, nat_tests)

-- a character that is encoded is one character
chars-encode : (c : ℕ) → scalar c ≡ true → chars (encode_utf8 c) ≡ c ∷ []
chars-encode c h =
    ap chars (sym (append-nil (encode_utf8 c))) ∙ chars-encodes (c ∷ []) (and_from _ _ (std_scalar c h) refl)

-- a character that was pushed is the next of the value
pub with_front-push : (out grown : List ℕ) (c : ℕ) (o : Option (List ℕ)) → IsUtf8 out → scalar c ≡ true → grown ≡ out ++ encode_utf8 c →
    with_front out (option_map (λ w. c ∷ w) o) ≡ with_front grown o
with_front-push out grown c None u h e = refl
with_front-push out grown c (Some w) u h e =
    let one : chars (encode_utf8 c) ≡ c ∷ [] = chars-encode c h in
    ap Some (sym (ap (λ x. chars x ++ w) e ∙ ap (λ x. x ++ w) (chars-append out (encode_utf8 c) u ∙ ap (λ x. chars out ++ x) one)
    ∙ append_assoc (chars out) (c ∷ []) w))

-- Runs between escapes.
-- a character that stands as it is means itself
pub stands_means : (i : Inside) (c : ℕ) → stands i c ≡ true → move i outside c ≡ means c
stands_means of_string c h = cond-false (c == 92) (leads slash) (means c) (not-true (c == 92) h)
stands_means of_iri c h =
    cond-false (c == 92) (leads slash) (allowed of_iri c) (ne_eqb c 92 (backslash_excluded c h)) ∙ cond-true (has iri_char c) (means c) fails h

-- texts in front of a value, one by one
map-nil : (o : Option (List ℕ)) → option_map (λ w. [] ++ w) o ≡ o
map-nil None = refl
map-nil (Some w) = refl

-- two of them are one
map-append : (u v : List ℕ) (o : Option (List ℕ)) → option_map (λ w. u ++ w) (option_map (λ w. v ++ w) o) ≡ option_map (λ w. (u ++ v) ++ w) o
map-append u v None = refl
map-append u v (Some w) = ap Some (sym (append_assoc u v w))

-- so a text of such characters does, in front of another
pub value_stands : (i : Inside) (u w : List ℕ) → all_have (stands i) u ≡ true → value i outside (u ++ w) ≡ option_map (λ v. u ++ v) (value i outside w)
value_stands i [] w h = sym (map-nil (value i outside w))
value_stands i (c ∷ u) w h =
    let p = and_parts (stands i c) (all_have (stands i) u) h in
    ap (λ m. go m (λ t. value i t (u ++ w))) (stands_means i c p.0)
    ∙ (ap (option_map (λ v. c ∷ v)) (value_stands i u w p.1) ∙ map-append (c ∷ []) u (value i outside w))

-- the bytes of a run, as a text
pub slice_passes : (p : ℕ → Bool) (bs : List ℕ) (at n : ℕ) → at + n ≤ length bs → PassBetween p bs at (at + n) → all_have p (take n (drop at bs)) ≡ true
slice_passes p bs at zero l h = refl
slice_passes p bs at (suc n) l h =
    ap (λ x. all_have p (take (suc n) x)) (drop_more bs at 0 (omega arith))
    ∙ and_from (p (get_or bs at 0)) _ (h at (omega arith) (omega arith))
    (slice_passes p bs (at + 1) n (omega arith) (λ k from to. h k (omega arith) (omega arith)))

-- as the bytes of a run do, which a look at the whole text needs
run_passes : (p : ℕ → Bool) (bs : List ℕ) (at end : ℕ) → IsRun p bs at end → all_have p (slice_range bs at end) ≡ true
run_passes p bs at end r =
    slice_passes p bs at (end - at) (omega (arith, r.from, r.within)) (λ k from to. r.pass k from (omega (arith, r.from)))

-- a text has a backslash where its bytes have one
unescaped_one : (c : ℕ) → all_have is_unescaped (encode_utf8 c) ≡ true → is_unescaped c ≡ true
unescaped_one c h =
    ⊎_elim
    (λ e. absurd (false≢true (sym (ap (all_have is_unescaped) (encode_ascii 92 (omega arith)))
    ∙ subst (λ x. all_have is_unescaped (encode_utf8 x) ≡ true) (eqb-true c 92 e) h)))
    (λ e. not_from_false (c == 92) e)
    (cases_Bool (c == 92))

-- so a text without the byte has no such character
unescaped_chars : (w : List ℕ) → all_have is_unescaped (encode_utf8_all w) ≡ true → all_have is_unescaped w ≡ true
unescaped_chars [] h = refl
unescaped_chars (c ∷ w) h =
    let p = and_parts (all_have is_unescaped (encode_utf8 c)) _ (sym (have-append is_unescaped (encode_utf8 c) (encode_utf8_all w)) ∙ h) in
    and_from (is_unescaped c) _ (unescaped_one c p.0) (unescaped_chars w p.1)

-- so the characters of a run between escapes stand as they are
pub run_stands : (i : Inside) (bs : List ℕ) → IsUtf8 bs → all_have (goes_over (run_of i)) bs ≡ true → all_have (stands i) (chars bs) ≡ true
run_stands of_string bs u h = unescaped_chars (chars bs) (ap (all_have is_unescaped) (encodes-chars bs u) ∙ h)
run_stands of_iri bs u h = sym (iri_bytes bs u) ∙ h

-- an IRI without a backslash means itself, if it means anything
plain_value : (w : List ℕ) → all_have is_unescaped w ≡ true → (value of_iri outside w ≡ None → ⊥) → value of_iri outside w ≡ Some w
plain_value [] h some = refl
plain_value (c ∷ w) h some =
    let p = and_parts (is_unescaped c) (all_have is_unescaped w) h in
    let step : move of_iri outside c ≡ allowed of_iri c = cond-false (c == 92) (leads slash) (allowed of_iri c) (not-true (c == 92) p.0) in
    let rest : EscapeState → Option (List ℕ) = λ t. value of_iri t w in
    ⊎_elim
    (λ e. let one : value of_iri outside (c ∷ w) ≡ option_map (λ v. c ∷ v) (value of_iri outside w) = ap (λ m. go m rest)
    (step ∙ cond-true (has iri_char c) (means c) fails e) in
    one ∙ ap (option_map (λ v. c ∷ v)) (plain_value w p.1 (λ none. some (one ∙ ap (option_map (λ v. c ∷ v)) none))))
    (λ e. absurd (some (ap (λ m. go m rest) (step ∙ cond-false (has iri_char c) (means c) fails e))))
    (cases_Bool (has iri_char c))

-- so its bytes are copied
pub unescaped_iri : (bs : List ℕ) → IsUtf8 bs → all_have is_unescaped bs ≡ true → (iri_value (chars bs) ≡ None → ⊥) → iri_value (chars bs) ≡ Some (chars bs)
unescaped_iri bs u h some = plain_value (chars bs) (run_stands of_string bs u h) some

-- and a string without one means itself
plain_string : (w : List ℕ) → all_have is_unescaped w ≡ true → value of_string outside w ≡ Some w
plain_string [] h = refl
plain_string (c ∷ w) h =
    let p = and_parts (is_unescaped c) (all_have is_unescaped w) h in
    let step : move of_string outside c ≡ allowed of_string c = cond-false (c == 92) (leads slash) (allowed of_string c) (not-true (c == 92) p.0) in
    let rest : EscapeState → Option (List ℕ) = λ t. value of_string t w in
    ap (λ m. go m rest) step ∙ ap (option_map (λ v. c ∷ v)) (plain_string w p.1)

pub unescaped_string : (bs : List ℕ) → IsUtf8 bs → all_have is_unescaped bs ≡ true → string_value (chars bs) ≡ Some (chars bs)
unescaped_string bs u h = plain_string (chars bs) (run_stands of_string bs u h)

-- a byte that is excluded from IRIs is a character that is
excluded : (b : ℕ) → iri_byte b ≡ false → has iri_char b ≡ false
unfolding has
excluded b h = let p = or_parts (nat_le 128 b) (member iri_char b) h in ap (λ t. scalar b && t) p.1 ∙ and_no (scalar b)
  where
    and_no : (t : Bool) → (t && false) ≡ false
    and_no true = refl
    and_no false = refl

-- what ends a run is ASCII
pub stop_low : (i : Inside) (b : ℕ) → goes_over (run_of i) b ≡ false → b < 128
stop_low of_string b h = let e = eqb-true b 92 (not-false (b == 92) h) in omega (arith, e)
stop_low of_iri b h = low b h
  where
    low : (b : ℕ) → iri_byte b ≡ false → b < 128
    low b h = grind (arith, nat_tests)

-- where it is no backslash it may not stand there
pub stop_fails : (i : Inside) (bs : List ℕ) (at : ℕ) → at < length bs → IsUtf8 (drop at bs) → goes_over (run_of i) (get_or bs at 0) ≡ false →
    (get_or bs at 0 ≡ 92 → ⊥) → value_after i (leads outside) bs at ≡ None
stop_fails of_string bs at l u h n = absurd (n (eqb-true (get_or bs at 0) 92 (not-false (get_or bs at 0 == 92) h)))
stop_fails of_iri bs at l u h n =
    let b = get_or bs at 0 in
    step_low of_iri outside fails bs at l u (stop_low of_iri b h)
    (cond-false (b == 92) (leads slash) (allowed of_iri b) (ne_eqb b 92 n) ∙ cond-false (has iri_char b) (means b) fails (excluded b h))

-- the text may be cut there
pub run_cut : (i : Inside) (bs : List ℕ) (at end : ℕ) → IsRun (goes_over (run_of i)) bs at end → IsCharBoundary bs end
run_cut i bs at end r =
    ⊎_elim
    (λ l. IsCharBoundary-before_ascii bs end l (stop_low i (get_or bs end 0) (r.stops l)))
    (λ l. let whole : length bs ≡ end = omega (arith, r.within) in subst (IsCharBoundary bs) whole (IsCharBoundary-end bs))
    (cases_lt end (length bs))

-- a run, and what follows it
pub record RunRead (i : Inside) (bs : List ℕ) (at end : ℕ) : Type 0 where
  pub utf8 : IsUtf8 (drop end bs)
  pub front : IsUtf8 (slice_range bs at end)
  pub value : value i outside (chars (drop at bs)) ≡ with_front (slice_range bs at end) (value i outside (chars (drop end bs)))

-- how a look from escape to escape goes over a run
pub run_read : (i : Inside) (bs : List ℕ) (at end : ℕ) → IsUtf8 bs → IsUtf8 (drop at bs) → IsRun (goes_over (run_of i)) bs at end → RunRead i bs at end
run_read i bs at end u v r =
    let cut = run_cut i bs at end r in
    let start = IsCharBoundary-from_drop bs at (omega (arith, r.from, r.within)) v in
    let run = slice_range bs at end in
    let front = IsUtf8-between bs at end u r.from start cut in
    record {
      utf8 = IsUtf8-drop bs end u cut;
      front = front;
      value = ap (λ x. value i outside (chars x)) (drop_split bs at end r.from)
          ∙ (ap (value i outside) (chars-append run (drop end bs) front)
          ∙ value_stands i (chars run) (chars (drop end bs)) (run_stands i run front (run_passes (goes_over (run_of i)) bs at end r)));
    }

-- whether there is a value, after a run
pub run_is_some : (i : Inside) (bs : List ℕ) (at end : ℕ) → RunRead i bs at end →
    is_some (value i outside (chars (drop at bs))) ≡ is_some (value i outside (chars (drop end bs)))
run_is_some i bs at end r = ap is_some r.value ∙ is_some-map (λ w. chars (slice_range bs at end) ++ w) (value i outside (chars (drop end bs)))

-- and after an escape that was read
pub read_is_some : (i : Inside) (bs : List ℕ) (at c end : ℕ) → IsRead i (leads outside) bs at c end →
    is_some (value i outside (chars (drop at bs))) ≡ is_some (value i outside (chars (drop end bs)))
read_is_some i bs at c end r = ap is_some r.value ∙ is_some-map (λ w. c ∷ w) (value i outside (chars (drop end bs)))

-- at the end of a text nothing more is meant
pub value_end : (i : Inside) (bs : List ℕ) (at : ℕ) → length bs ≤ at → value i outside (chars (drop at bs)) ≡ Some []
value_end i bs at l = ap (λ w. value i outside (chars w)) (drop_all at bs l) ∙ ap (value i outside) chars-nil

-- a run that was put after what was built
pub with_front-run : (i : Inside) (out grown bs : List ℕ) (at end : ℕ) → IsUtf8 out → grown ≡ out ++ slice_range bs at end → RunRead i bs at end →
    with_front out (value i outside (chars (drop at bs))) ≡ with_front grown (value i outside (chars (drop end bs)))
with_front-run i out grown bs at end u e r =
    let run = slice_range bs at end in
    let rest = value i outside (chars (drop end bs)) in
    ap (with_front out) r.value
    ∙ (map-append (chars out) (chars run) rest
    ∙ ap (λ x. option_map (λ w. x ++ w) rest) (sym (ap chars e ∙ chars-append out run u)))

-- the first run
pub with_front-first : (i : Inside) (text out : List ℕ) → out ≡ [] → value i outside (chars text) ≡ with_front out (value i outside (chars (drop 0 text)))
with_front-first i text out e = sym (with_front-nil out (value i outside (chars text)) e)

-- at the end of the text what was built is its value
pub with_front-end : (i : Inside) (out bs : List ℕ) (at : ℕ) → length bs ≤ at → with_front out (value i outside (chars (drop at bs))) ≡ Some (chars out)
with_front-end i out bs at l = ap (with_front out) (value_end i bs at l) ∙ ap Some (append-nil (chars out))

-- one character was put, which an escape means
pub put_one : (i : Inside) (bs before after : List ℕ) (at c end : ℕ) → IsRead i (leads outside) bs at c end → IsUtf8 before → after ≡ before ++ encode_utf8 c →
    IsPutUpTo i bs before after at end
put_one i bs before after at c end r u e = record {
  from = r.from;
  within = r.within;
  utf8 = r.utf8;
  value = ap (with_front before) r.value ∙ with_front-push before after c (value i outside (chars (drop end bs))) u r.character e;
}

-- and more after it
pub put_more : (i : Inside) (bs before between after : List ℕ) (at mid end : ℕ) → IsPutUpTo i bs before between at mid → IsPutUpTo i bs between after mid end →
    IsPutUpTo i bs before after at end
put_more i bs before between after at mid end p q = record {
  from = omega (arith, p.from, q.from);
  within = q.within;
  utf8 = q.utf8;
  value = p.value ∙ q.value;
}
