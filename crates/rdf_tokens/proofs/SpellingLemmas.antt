-- The longest spelling at the front of a text, by characters and by bytes: spellings are ASCII.
use Rattle.rdf_tokens.proofs.Prelude.{true≢false, ◌≡◌, ℕ, zero, suc, ◌+◌, ◌<◌, ◌≤◌, Bool, true, false, cond, nat_lt, List, [], ◌∷◌, ◌++◌, ◌&&◌, ◌||◌, ◌==◌, refl, sym, ap, ◌∙◌, subst, ⊎_elim, length, take, drop, arith, encode_utf8, length-append, Option, Some, None, IsUtf8, and_parts, cases_lt, lt-ltb, le-ltb, ltb-true, eqb-true, or_cases, or_left, or_right, false≢true, nat_tests, drop_all, drop_more, encode_ascii, char_from_byte, len_utf8_bounds, length-encode, encodes-chars, encode_utf8_all, chars, Kind, Dialect, Lines, Turtle, is_turtle, fixed, or_else, three_quotes, only_long, with_length, slice_get, Row, fits, is_done, is_begun, kind_by, live_by, rows_of, kind_by_table, live_by_table, at_first, bytes_of, in_bytes, longest_by, longer_front, begins, row_front, front_by}
use Rattle.rdf_tokens.specs.Fixed.{left}
use Rattle.rdf_tokens.proofs.FrontLemmas.{AtMost, longest_by-or, longest_by-same, longest_by-at_most, in_bytes-longer}

-- a front of n characters is the spelling
both_suc : (i j : ℕ) → (i == j) ≡ (suc i == suc j)
both_suc i j = grind (arith, nat_tests)

-- a test and one that fails are false
and_false : (t : Bool) → (t && false) ≡ false
and_false true = refl
and_false false = refl

-- a length is not 0 and positive
no_length : (n : ℕ) → (suc n == 0) ≡ false
no_length n = grind (arith, nat_tests)

-- no length is positive and 0
length_no : (n : ℕ) → (0 == suc n) ≡ false
length_no n = grind (arith, nat_tests)

-- a front is a spelling exactly where it has its length and agrees with it
done-take : (b : Bool) (s w : List ℕ) (n : ℕ) → n ≤ length w → is_done (left b s (take n w)) ≡ (n == length s && begins b s w)
done-take b [] w zero l = refl
done-take b [] [] (suc n) l = absurd (omega arith)
done-take b [] (x ∷ w) (suc n) l = sym (ap (λ t. t && true) (no_length n))
done-take b (c ∷ s) w zero l = sym (ap (λ t. t && begins b (c ∷ s) w) (length_no (length s)))
done-take b (c ∷ s) [] (suc n) l = absurd (omega arith)
done-take b (c ∷ s) (x ∷ w) (suc n) l = go (fits b c x) (done-take b s w n (omega arith))
  where
    go : (t : Bool) → is_done (left b s (take n w)) ≡ (n == length s && begins b s w) →
        is_done (cond t (left b s (take n w)) None) ≡ (suc n == suc (length s) && (t && begins b s w))
    go true e = e ∙ ap (λ u. u && begins b s w) (both_suc n (length s))
    go false e = sym (and_false (suc n == suc (length s)))

-- the kind by one row
abbrev row_kind : Row → List ℕ → Option Kind
row_kind r u = cond (is_done (left r.any_case r.text u)) (Some r.kind) None

-- one character more finds a spelling, or keeps what was found
row_step : (n m : ℕ) (k : Kind) (b : Bool) → with_length (suc n) (cond (suc n == m && b) (Some k) None) (cond (nat_lt n m) None (cond b (Some (m, k)) None))
    ≡ cond (nat_lt (suc n) m) None (cond b (Some (m, k)) None)
row_step n m k b =
    ⊎_elim
    (λ h. let x : (suc n == m) ≡ false = grind (arith, nat_tests) in rw (x, lt-ltb n m (omega arith), lt-ltb (suc n) m h) refl)
    (λ h. ⊎_elim
    (λ g. let x : (suc n == m) ≡ false = grind (arith, nat_tests) in rw (x, le-ltb n m (omega arith), le-ltb (suc n) m h) (same b))
    (λ g. let x : (suc n == m) ≡ true = grind (arith, nat_tests) in let e : suc n ≡ m = omega arith in
    rw (x, lt-ltb n m (omega arith), le-ltb (suc n) m h) (ends b e))
    (cases_lt m (suc n)))
    (cases_lt (suc n) m)
  where
    same : (b : Bool) → with_length (suc n) (let o : Option Kind = None in o) (cond b (Some (m, k)) None) ≡ cond b (Some (m, k)) None
    same b = refl

    ends : (b : Bool) → suc n ≡ m → with_length (suc n) (cond b (Some k) None) None ≡ cond b (Some (m, k)) None
    ends true e = ap (λ i. Some (i, k)) e
    ends false e = refl

-- the longest front by one spelling is the spelling, if it stands there
one_row : (r : Row) (w : List ℕ) (n : ℕ) → 0 < length r.text → n ≤ length w →
    longest_by (row_kind r) w n ≡ cond (nat_lt n (length r.text)) None (row_front r w)
one_row r w zero p l = sym (ap (λ t. cond t None (row_front r w)) (lt-ltb zero (length r.text) p))
one_row r w (suc n) p l =
    ap (λ t. with_length (suc n) (cond t (Some r.kind) None) (longest_by (row_kind r) w n)) (done-take r.any_case r.text w (suc n) l)
    ∙ (ap (with_length (suc n) (cond (suc n == length r.text && begins r.any_case r.text w) (Some r.kind) None)) (one_row r w n p (omega arith))
    ∙ row_step n (length r.text) r.kind (begins r.any_case r.text w))

-- a text too short for a spelling does not begin with it
pub short : (b : Bool) (s w : List ℕ) → length w < length s → begins b s w ≡ false
short b [] w l = absurd (omega arith)
short b (c ∷ s) [] l = refl
short b (c ∷ s) (x ∷ w) l = ap (λ t. fits b c x && t) (short b s w (omega arith)) ∙ and_false (fits b c x)

-- the longest front of all of a text by one spelling is the spelling, if it stands there
longest-row : (r : Row) (w : List ℕ) → 0 < length r.text → longest_by (row_kind r) w (length w) ≡ row_front r w
longest-row r w p = one_row r w (length w) p (omega arith) ∙ ⊎_elim
    (λ h. ap (λ t. cond t None (row_front r w)) (lt-ltb _ _ h) ∙ sym (ap (λ t. cond t (Some (length r.text, r.kind)) None) (short r.any_case r.text w h)))
    (λ h. ap (λ t. cond t None (row_front r w)) (le-ltb _ _ h))
    (cases_lt (length w) (length r.text))

-- a spelling has a character, and is ASCII, in capitals too
abbrev pub is_low : Bool → List ℕ → Bool
is_low b [] = true
is_low b (a ∷ s) = nat_lt (a + cond b 32 0) 128 && is_low b s

-- all spellings are ASCII, in either case
abbrev pub all_low : List Row → Bool
all_low [] = true
all_low (r ∷ rs) = (nat_lt 0 (length r.text) && is_low r.any_case r.text) && all_low rs

-- all spellings of the table are ASCII
pub rows_low : (d : Dialect) → all_low (rows_of d fixed) ≡ true
rows_low Lines = refl
rows_low Turtle = refl

-- the longest front by the table is its longest spelling that stands there
longest-rows : (rs : List Row) (w : List ℕ) → all_low rs ≡ true → longest_by (kind_by rs) w (length w) ≡ front_by rs w
longest-rows [] w e = none (length w)
  where
    none : (n : ℕ) → longest_by (kind_by []) w n ≡ None
    none zero = refl
    none (suc n) = none n
longest-rows (r ∷ rs) w e =
    let p = and_parts _ _ e in
    let z : 0 < length r.text = ltb-true 0 (length r.text) (and_parts _ _ p.0).0 in
    longest_by-same (kind_by (r ∷ rs)) (λ u. or_else (row_kind r u) (kind_by rs u)) w
    (λ m. split (is_done (left r.any_case r.text (take (suc m) w))) (kind_by rs (take (suc m) w))) (length w)
    ∙ (longest_by-or (row_kind r) (kind_by rs) w (length w)
    ∙ (ap (λ o. longer_front o (longest_by (kind_by rs) w (length w))) (longest-row r w z)
    ∙ ap (longer_front (row_front r w)) (longest-rows rs w p.1)))
  where
    split : (t : Bool) (o : Option Kind) → cond t (Some r.kind) o ≡ or_else (cond t (Some r.kind) None) o
    split true o = refl
    split false o = refl

-- the bytes of a text begin with a spelling as its characters do
misfit : (b : Bool) (a y : ℕ) → nat_lt (a + cond b 32 0) 128 ≡ true → 128 ≤ y → fits b a y ≡ false
misfit true a y e l = grind (arith, nat_tests)
misfit false a y e l = grind (arith, nat_tests)

-- a character from U+0080 on begins with a byte from 128 on
high_byte : (c : ℕ) (rest : List ℕ) → 128 ≤ c → (x : ℕ) × (t : List ℕ) × (128 ≤ x) × (encode_utf8 c ++ rest ≡ x ∷ t)
high_byte c rest l = first (encode_utf8 c ++ rest) refl
  where
    first : (v : List ℕ) → encode_utf8 c ++ rest ≡ v → (x : ℕ) × (t : List ℕ) × (128 ≤ x) × (encode_utf8 c ++ rest ≡ x ∷ t)
    first [] e = absurd (omega (arith, ap length e, length-append (encode_utf8 c) rest, length-encode c, len_utf8_bounds c))
    first (x ∷ t) e = ⊎_elim
        (λ m. let h : c ≡ x = char_from_byte (x ∷ t) rest c (sym e) m (omega arith) in absurd (omega arith))
        (λ m. (x, t, m, e))
        (cases_lt x 128)

-- a spelling stands at the front of a text where it stands at the front of its bytes
pub begins_bytes : (b : Bool) (s w : List ℕ) → is_low b s ≡ true → begins b s (encode_utf8_all w) ≡ begins b s w
begins_bytes b [] w e = refl
begins_bytes b (a ∷ s) [] e = refl
begins_bytes b (a ∷ s) (c ∷ w) e =
    let p = and_parts _ _ e in
    ⊎_elim
    (λ l. ap (λ x. begins b (a ∷ s) (x ++ encode_utf8_all w)) (encode_ascii c l) ∙ ap (λ t. fits b a c && t) (begins_bytes b s w p.1))
    (λ l. let h = high_byte c (encode_utf8_all w) l in
    ap (begins b (a ∷ s)) h.3 ∙ (ap (λ t. t && begins b s h.1) (misfit b a h.0 p.0 h.2) ∙ sym (ap (λ t. t && begins b s w) (misfit b a c p.0 l))))
    (cases_lt c 128)

-- the bytes of a spelling that was found
low_fit : (b : Bool) (a c : ℕ) → nat_lt (a + cond b 32 0) 128 ≡ true → fits b a c ≡ true → c < 128
low_fit true a c e f = grind (arith, nat_tests)
low_fit false a c e f = grind (arith, nat_tests)

-- a spelling that stands at the front has as many bytes as characters
begins_size : (b : Bool) (s w : List ℕ) → is_low b s ≡ true → begins b s w ≡ true → bytes_of (length s) w ≡ length s
begins_size b [] w e f = refl
begins_size b (a ∷ s) [] e f = absurd (false≢true f)
begins_size b (a ∷ s) (c ∷ w) e f =
    let p = and_parts _ _ e in
    let q = and_parts _ _ f in
    ap (λ x. length (x ++ encode_utf8_all (take (length s) w))) (encode_ascii c (low_fit b a c p.0 q.0)) ∙ ap suc (begins_size b s w p.1 q.1)

-- so one spelling is found in the bytes as in the characters
row-bytes : (r : Row) (w : List ℕ) → is_low r.any_case r.text ≡ true → row_front r (encode_utf8_all w) ≡ in_bytes w (row_front r w)
row-bytes r w e =
    ap (λ t. cond t (Some (length r.text, r.kind)) None) (begins_bytes r.any_case r.text w e)
    ∙ go (begins r.any_case r.text w) (begins_size r.any_case r.text w e)
  where
    go : (t : Bool) → (t ≡ true → bytes_of (length r.text) w ≡ length r.text) →
        cond t (Some (length r.text, r.kind)) None ≡ in_bytes w (cond t (Some (length r.text, r.kind)) None)
    go true h = ap (λ n. Some (n, r.kind)) (sym (h refl))
    go false h = refl

-- the longest spelling of a table is found in the bytes as in the characters
rows-bytes : (rs : List Row) (w : List ℕ) → all_low rs ≡ true → front_by rs (encode_utf8_all w) ≡ in_bytes w (front_by rs w)
rows-bytes [] w e = refl
rows-bytes (r ∷ rs) w e =
    let p = and_parts _ _ e in
    let q = and_parts _ _ p.0 in
    ap (λ o. longer_front o (front_by rs (encode_utf8_all w))) (row-bytes r w q.1)
    ∙ (ap (longer_front (in_bytes w (row_front r w))) (rows-bytes rs w p.1)
    ∙ sym (in_bytes-longer w (row_front r w) (front_by rs w)
    (subst (AtMost (length w)) (longest-row r w (ltb-true 0 (length r.text) q.0)) (longest_by-at_most (row_kind r) w (length w)))
    (subst (AtMost (length w)) (longest-rows rs w p.1) (longest_by-at_most (kind_by rs) w (length w)))))

-- the longest front by the table, over the bytes of a text
pub table-front : (d : Dialect) (bs : List ℕ) → IsUtf8 bs → front_by (rows_of d fixed) bs ≡ in_bytes (chars bs)
    (longest_by (kind_by_table d) (chars bs) (length (chars bs)))
unfolding kind_by_table
table-front d bs u =
    ap (front_by (rows_of d fixed)) (sym (encodes-chars bs u))
    ∙ (rows-bytes (rows_of d fixed) (chars bs) (rows_low d) ∙ ap (in_bytes (chars bs)) (sym (longest-rows (rows_of d fixed) (chars bs) (rows_low d))))

-- what is left of a spelling, by bytes and by characters
left_high : (b : Bool) (s t : List ℕ) (x : ℕ) → is_low b s ≡ true → 128 ≤ x → left b s (x ∷ t) ≡ None
left_high b [] t x e l = refl
left_high b (a ∷ s) t x e l = ap (λ f. cond f (left b s t) None) (misfit b a x (and_parts _ _ e).0 l)

-- what is left of a spelling after some bytes is what is left after their characters
left_bytes : (b : Bool) (s w : List ℕ) → is_low b s ≡ true → left b s (encode_utf8_all w) ≡ left b s w
left_bytes b s [] e = refl
left_bytes b s (c ∷ w) e = ⊎_elim
    (λ l. ap (λ x. left b s (x ++ encode_utf8_all w)) (encode_ascii c l) ∙ low s e (λ t h. left_bytes b t w h))
    (λ l. let h = high_byte c (encode_utf8_all w) l in ap (left b s) h.3 ∙ (left_high b s h.1 h.0 e h.2 ∙ sym (left_high b s w c e l)))
    (cases_lt c 128)
  where
    low : (s : List ℕ) → is_low b s ≡ true → ((t : List ℕ) → is_low b t ≡ true → left b t (encode_utf8_all w) ≡ left b t w) →
        left b s (c ∷ encode_utf8_all w) ≡ left b s (c ∷ w)
    low [] e h = refl
    low (a ∷ s) e h = ap (λ o. cond (fits b a c) o None) (h s (and_parts _ _ e).1)

-- so a longer spelling is looked for in the bytes as in the characters
live_bytes : (rs : List Row) (w : List ℕ) → all_low rs ≡ true → live_by rs (encode_utf8_all w) ≡ live_by rs w
live_bytes [] w e = refl
live_bytes (r ∷ rs) w e =
    let p = and_parts _ _ e in
    ap (λ o. is_begun o || live_by rs (encode_utf8_all w)) (left_bytes r.any_case r.text w (and_parts _ _ p.0).1)
    ∙ ap (λ t. is_begun (left r.any_case r.text w) || t) (live_bytes rs w p.1)

-- a longer spelling of the table may be looked for in the bytes of a str
pub table-live : (d : Dialect) (bs : List ℕ) → IsUtf8 bs → live_by (rows_of d fixed) bs ≡ live_by_table d (chars bs)
unfolding live_by_table
table-live d bs u = ap (live_by (rows_of d fixed)) (sym (encodes-chars bs u)) ∙ live_bytes (rows_of d fixed) (chars bs) (rows_low d)

-- a text as long as a spelling does not begin it, and a shorter one that fits so far does
pub left_whole : (b : Bool) (s w : List ℕ) → length s ≤ length w → is_begun (left b s w) ≡ false
left_whole b [] [] l = refl
left_whole b [] (x ∷ w) l = refl
left_whole b (c ∷ s) [] l = absurd (omega arith)
left_whole b (c ∷ s) (x ∷ w) l = go (fits b c x) (left_whole b s w (omega arith))
  where
    go : (t : Bool) → is_begun (left b s w) ≡ false → is_begun (cond t (left b s w) None) ≡ false
    go true e = e
    go false e = refl

-- a spelling that is longer than the text goes on, if it agrees
pub left_begun : (b : Bool) (s w : List ℕ) (n : ℕ) → length w ≤ n → n < length s → is_begun (left b (drop n s) (drop n w)) ≡ true
left_begun b s w n l m = ap (λ x. is_begun (left b (drop n s) x)) (drop_all n w l) ∙ ap is_begun (ap Some (drop_more s n 0 m))

-- three quotes, by bytes and by characters
quotes-begin : (d : Dialect) (w : List ℕ) → three_quotes d w ≡ (is_turtle d && (begins false (34 ∷ 34 ∷ 34 ∷ []) w || begins false (39 ∷ 39 ∷ 39 ∷ []) w))
quotes-begin Lines w = refl
quotes-begin Turtle [] = refl
quotes-begin Turtle (a ∷ []) = no (a == 34) (a == 39)
  where
    no : (s t : Bool) → false ≡ ((s && false) || (t && false))
    no s t = sym (ap (λ x. x || (t && false)) (and_false s) ∙ and_false t)
quotes-begin Turtle (a ∷ b ∷ []) = no (a == 34) (b == 34) (a == 39) (b == 39)
  where
    no : (s t u v : Bool) → false ≡ ((s && (t && false)) || (u && (v && false)))
    no true true true true = refl
    no true true true false = refl
    no true true false v = refl
    no true false true true = refl
    no true false true false = refl
    no true false false v = refl
    no false t true true = refl
    no false t true false = refl
    no false t false v = refl
quotes-begin Turtle (a ∷ b ∷ c ∷ w) = both (a == 34) (b == 34) (c == 34) (a == 39) (b == 39) (c == 39)
  where
    regroup : (s t u : Bool) → ((s && t) && u) ≡ (s && (t && (u && true)))
    regroup true true true = refl
    regroup true true false = refl
    regroup true false u = refl
    regroup false t u = refl

    both : (s t u x y z : Bool) → (((s && t) && u) || ((x && y) && z)) ≡ ((s && (t && (u && true))) || (x && (y && (z && true))))
    both s t u x y z = ap (λ b. b || ((x && y) && z)) (regroup s t u) ∙ ap (λ b. (s && (t && (u && true))) || b) (regroup x y z)

-- three quotes come first in the bytes where they do in the characters
pub quotes-bytes : (d : Dialect) (bs : List ℕ) → IsUtf8 bs → three_quotes d bs ≡ three_quotes d (chars bs)
quotes-bytes d bs u =
    ap (three_quotes d) (sym (encodes-chars bs u)) ∙ (quotes-begin d (encode_utf8_all (chars bs))
    ∙ (ap (λ t. is_turtle d && (t || begins false (39 ∷ 39 ∷ 39 ∷ []) (encode_utf8_all (chars bs)))) (begins_bytes false (34 ∷ 34 ∷ 34 ∷ []) (chars bs) refl)
    ∙ (ap (λ t. is_turtle d && (begins false (34 ∷ 34 ∷ 34 ∷ []) (chars bs) || t)) (begins_bytes false (39 ∷ 39 ∷ 39 ∷ []) (chars bs) refl)
    ∙ sym (quotes-begin d (chars bs)))))

-- no spelling begins with a quote
no_quote : (d : Dialect) (c : ℕ) (w : List ℕ) → (c == 34 || c == 39) ≡ true → kind_by_table d (c ∷ w) ≡ None
unfolding kind_by_table
no_quote d c w e = ⊎_elim (λ h. double d c (eqb-true c 34 h)) (λ h. single d c (eqb-true c 39 h)) (or_cases _ _ e)
  where
    double : (d : Dialect) (c : ℕ) → c ≡ 34 → kind_by (rows_of d fixed) (c ∷ w) ≡ None
    double Lines c e = ap (λ c. kind_by (rows_of Lines fixed) (c ∷ w)) e
    double Turtle c e = ap (λ c. kind_by (rows_of Turtle fixed) (c ∷ w)) e

    single : (d : Dialect) (c : ℕ) → c ≡ 39 → kind_by (rows_of d fixed) (c ∷ w) ≡ None
    single Lines c e = ap (λ c. kind_by (rows_of Lines fixed) (c ∷ w)) e
    single Turtle c e = ap (λ c. kind_by (rows_of Turtle fixed) (c ∷ w)) e

-- three quotes begin with a quote
first_quote : (d : Dialect) (c : ℕ) (w : List ℕ) → three_quotes d (c ∷ w) ≡ true → (c == 34 || c == 39) ≡ true
first_quote Lines c w e = absurd (false≢true e)
first_quote Turtle c [] e = absurd (false≢true e)
first_quote Turtle c (a ∷ []) e = absurd (false≢true e)
first_quote Turtle c (a ∷ b ∷ w) e = ⊎_elim
    (λ h. or_left (c == 34) (c == 39) (and_parts (c == 34) (a == 34) (and_parts (c == 34 && a == 34) (b == 34) h).0).0)
    (λ h. or_right (c == 34) (c == 39) (and_parts (c == 39) (a == 39) (and_parts (c == 39 && a == 39) (b == 39) h).0).0)
    (or_cases (c == 34 && a == 34 && b == 34) (c == 39 && a == 39 && b == 39) e)

-- the rule of three quotes is about the kinds that have states
pub only_long-table : (d : Dialect) (w : List ℕ) (m : ℕ) (k : Option Kind) →
    only_long (three_quotes d w) (or_else (kind_by_table d (take (suc m) w)) k) ≡ or_else (kind_by_table d (take (suc m) w)) (only_long (three_quotes d w) k)
only_long-table d [] m k = quotes_none d
  where
    quotes_none : (d : Dialect) → only_long (three_quotes d []) (or_else (kind_by_table d []) k) ≡ or_else (kind_by_table d [])
        (only_long (three_quotes d []) k)
    quotes_none Lines = refl
    quotes_none Turtle = refl
only_long-table d (c ∷ w) m k = go (three_quotes d (c ∷ w)) (λ e. no_quote d c (take m w) (first_quote d c w e))
  where
    go : (t : Bool) → (t ≡ true → kind_by_table d (c ∷ take m w) ≡ None) →
        only_long t (or_else (kind_by_table d (c ∷ take m w)) k) ≡ or_else (kind_by_table d (c ∷ take m w)) (only_long t k)
    go true h = ap (λ o. only_long true (or_else o k)) (h refl) ∙ sym (ap (λ o. or_else o (only_long true k)) (h refl))
    go false h = refl

-- a spelling that does not begin with a text's first character does not stand at its front
other_first : (b : Bool) (s : List ℕ) (x : ℕ) (w : List ℕ) → begins b (take 1 s) (x ∷ []) ≡ false → begins b s (x ∷ w) ≡ false
other_first b [] x w e = absurd (true≢false e)
other_first b (c ∷ s) x w e = go (fits b c x) e
  where
    go : (t : Bool) → (t && true) ≡ false → (t && begins b s w) ≡ false
    go true e = absurd (true≢false e)
    go false e = refl

-- only those that begin with its first character count
pub front_by-first : (rs : List Row) (x : ℕ) (w : List ℕ) → front_by (at_first x rs) (x ∷ w) ≡ front_by rs (x ∷ w)
front_by-first [] x w = refl
front_by-first (r ∷ rs) x w = go (begins r.any_case (take 1 r.text) (x ∷ [])) refl (front_by-first rs x w)
  where
    go : (t : Bool) → begins r.any_case (take 1 r.text) (x ∷ []) ≡ t → front_by (at_first x rs) (x ∷ w) ≡ front_by rs (x ∷ w) →
        front_by (cond t (r ∷ at_first x rs) (at_first x rs)) (x ∷ w) ≡ longer_front (row_front r (x ∷ w)) (front_by rs (x ∷ w))
    go true e h = ap (longer_front (row_front r (x ∷ w))) h
    go false e h =
        h ∙ sym (ap (λ t. longer_front (cond t (Some (length r.text, r.kind)) None) (front_by rs (x ∷ w))) (other_first r.any_case r.text x w e))

-- only spellings that begin with the first byte need be compared
pub front_by-at : (rs : List Row) (x : ℕ) (w : List ℕ) → Some x ≡ slice_get w 0 → front_by (at_first x rs) w ≡ front_by rs w
front_by-at rs x [] e = absurd cc
front_by-at rs x (y ∷ w) e = let h : x ≡ y = cc in subst (λ y. front_by (at_first x rs) (y ∷ w) ≡ front_by rs (y ∷ w)) h (front_by-first rs x w)

-- of a spelling that begins with another character nothing is left
left_other : (b : Bool) (s : List ℕ) (x : ℕ) (w : List ℕ) → begins b (take 1 s) (x ∷ []) ≡ false → left b s (x ∷ w) ≡ None
left_other b [] x w e = absurd (true≢false e)
left_other b (c ∷ s) x w e = go (fits b c x) e
  where
    go : (t : Bool) → (t && true) ≡ false → cond t (left b s w) None ≡ None
    go true e = absurd (true≢false e)
    go false e = refl

-- only those that begin with its first character can be longer than the text
live_by-first : (rs : List Row) (x : ℕ) (w : List ℕ) → live_by (at_first x rs) (x ∷ w) ≡ live_by rs (x ∷ w)
live_by-first [] x w = refl
live_by-first (r ∷ rs) x w = go (begins r.any_case (take 1 r.text) (x ∷ [])) refl (live_by-first rs x w)
  where
    go : (t : Bool) → begins r.any_case (take 1 r.text) (x ∷ []) ≡ t → live_by (at_first x rs) (x ∷ w) ≡ live_by rs (x ∷ w) →
        live_by (cond t (r ∷ at_first x rs) (at_first x rs)) (x ∷ w) ≡ (is_begun (left r.any_case r.text (x ∷ w)) || live_by rs (x ∷ w))
    go true e h = ap (λ t. is_begun (left r.any_case r.text (x ∷ w)) || t) h
    go false e h = h ∙ sym (ap (λ o. is_begun o || live_by rs (x ∷ w)) (left_other r.any_case r.text x w e))

-- only spellings that begin with the first byte need be looked at for a longer one
pub live_by-at : (rs : List Row) (x : ℕ) (w : List ℕ) → Some x ≡ slice_get w 0 → live_by (at_first x rs) w ≡ live_by rs w
live_by-at rs x [] e = absurd cc
live_by-at rs x (y ∷ w) e = let h : x ≡ y = cc in subst (λ y. live_by (at_first x rs) (y ∷ w) ≡ live_by rs (y ∷ w)) h (live_by-first rs x w)
