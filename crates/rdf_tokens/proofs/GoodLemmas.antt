-- The good text only grows.
use Rattle.rdf_tokens.proofs.Prelude.{◌≡◌, ℕ, zero, suc, ◌+◌, ◌-◌, ◌/◌, ◌%◌, ◌<◌, ◌≤◌, true, false, List, [], ◌∷◌, ◌++◌, ◌⊎◌, inl, inr, refl, sym, ap, ◌∙◌, subst, ⊎_elim, append_assoc, Option, None, length, take, drop, arith, is_some, length-append, length-drop, cases_Bool, cond-true, cond-false, cases_lt, and_parts, nat_tests, take-append-le, take-append-drop, length-take-le, take-take, drop-append-le, drop-take, take_at, nil_from_length, is_utf8-from_IsUtf8, IsUtf8-from_is_utf8, utf8_valid_len_le, chars-append, IsUtf8-drop, IsCharBoundary-from_take, IsUtf8-append, IsUtf8-encode, len_utf8_bounds, length-encode, chars, IsUtf8, is_utf8, utf8_valid_len, utf8_error_len, valid_len_up_to, encode, encodes, scalars, scalar_cases, lt-ltb, le-ltb, good}
use Rattle.std.proofs.Math.Utf8.{scalar}

-- the greatest length is at least that of any front
pub at_least : (bs : List ℕ) (n m : ℕ) → m ≤ n → IsUtf8 (take m bs) → m ≤ valid_len_up_to bs n
at_least bs zero m l u = l
at_least bs (suc n) m l u =
    ⊎_elim
    (λ h. subst (λ x. m ≤ x) (sym (cond-true (is_utf8 (take (suc n) bs)) (suc n) (valid_len_up_to bs n) h)) l)
    (λ h. ⊎_elim
    (λ b. let r = at_least bs n m (omega arith) u in subst (λ x. m ≤ x) (sym (cond-false (is_utf8 (take (suc n) bs)) (suc n) (valid_len_up_to bs n) h)) r)
    (λ b. let e : m ≡ suc n = omega arith in
    absurd (let x : true ≡ false = sym (is_utf8-from_IsUtf8 (take (suc n) bs) (subst (λ k. IsUtf8 (take k bs)) e u)) ∙ h in cc))
    (cases_lt m (suc n)))
    (cases_Bool (is_utf8 (take (suc n) bs)))

-- the longest valid front of n bytes is UTF-8
front_utf8 : (bs : List ℕ) (n : ℕ) → IsUtf8 (take (valid_len_up_to bs n) bs)
front_utf8 bs zero = ([], (refl, refl))
front_utf8 bs (suc n) =
    ⊎_elim
    (λ h. subst (λ x. IsUtf8 (take x bs)) (sym (cond-true (is_utf8 (take (suc n) bs)) (suc n) (valid_len_up_to bs n) h)) (IsUtf8-from_is_utf8 _ h))
    (λ h. subst (λ x. IsUtf8 (take x bs)) (sym (cond-false (is_utf8 (take (suc n) bs)) (suc n) (valid_len_up_to bs n) h)) (front_utf8 bs n))
    (cases_Bool (is_utf8 (take (suc n) bs)))

-- the good text is UTF-8
pub good_front : (bs : List ℕ) → IsUtf8 (take (utf8_valid_len bs) bs)
unfolding utf8_valid_len
good_front bs = front_utf8 bs (length bs)

-- more bytes never make the valid front shorter
pub valid_more : (bs more : List ℕ) → utf8_valid_len bs ≤ utf8_valid_len (bs ++ more)
unfolding utf8_valid_len
valid_more bs more =
    let l = utf8_valid_len_le bs in
    at_least (bs ++ more) (length (bs ++ more)) (utf8_valid_len bs) (omega (arith, length-append bs more))
    (subst IsUtf8 (sym (take-append-le (utf8_valid_len bs) bs more l)) (good_front bs))

-- The good text ends before bytes that begin no whole character, where what comes before them is good.
pub valid_cut : (bs : List ℕ) (n : ℕ) → n ≤ length bs → IsUtf8 (take n bs) → utf8_valid_len (drop n bs) ≡ 0 → utf8_valid_len bs ≡ n
unfolding utf8_valid_len
valid_cut bs n l u z =
    let m = utf8_valid_len bs in
    let lm = utf8_valid_len_le bs in
    let low : n ≤ m = at_least bs (length bs) n l u in
    ⊎_elim
    (λ (h : n < m).
    let t = take m bs in
    let k = m - n in
    let sum : n + k ≡ m = omega arith in
    let size : length t ≡ m = length-take-le m bs lm in
    let front : IsUtf8 (take n t) = subst IsUtf8 (sym (take-take n m bs low)) u in
    let rest : IsUtf8 (drop n t) = IsUtf8-drop t n (good_front bs) (IsCharBoundary-from_take t n (good_front bs) (omega arith) front) in
    let same : drop n t ≡ take k (drop n bs) = ap (λ j. drop n (take j bs)) (sym sum) ∙ drop-take n k bs in
    let part : IsUtf8 (take k (drop n bs)) = subst IsUtf8 same rest in
    let inside : k ≤ length (drop n bs) = omega (arith, length-drop n bs) in
    let more : k ≤ utf8_valid_len (drop n bs) = at_least (drop n bs) (length (drop n bs)) k inside part in
    absurd (omega (arith, more, z)))
    (λ h. omega arith)
    (cases_lt n m)

-- more bytes only lengthen the good text
pub good-more : (bs more : List ℕ) → (v : List ℕ) × (good (bs ++ more) ≡ good bs ++ v)
good-more bs more =
    let n = utf8_valid_len bs in
    let m = utf8_valid_len (bs ++ more) in
    let l = utf8_valid_len_le bs in
    let k : n ≤ m = valid_more bs more in
    let rest = drop n (take m (bs ++ more)) in
    let front : take n (take m (bs ++ more)) ≡ take n bs = take-take n m (bs ++ more) k ∙ take-append-le n bs more l in
    let whole : take m (bs ++ more) ≡ take n bs ++ rest = sym (take-append-drop n (take m (bs ++ more))) ∙ ap (λ x. x ++ rest) front in
    (chars rest, ap chars whole ∙ chars-append (take n bs) rest (good_front bs))

-- a character's beginning is not refused
two_one : (c : ℕ) → 128 ≤ c → c < 2048 → utf8_error_len ((192 + c / 64) ∷ []) ≡ None
unfolding utf8_error_len
two_one c l h = grind (arith, nat_tests)

-- the first byte of three begins a character
three_one : (c : ℕ) → 2048 ≤ c → c < 65536 → utf8_error_len ((224 + c / 4096) ∷ []) ≡ None
unfolding utf8_error_len
three_one c l h = grind (arith, nat_tests)

-- the first two bytes of three begin a character
three_two : (c : ℕ) → 2048 ≤ c → c < 65536 → (c < 55296) ⊎ (57344 ≤ c) → utf8_error_len ((224 + c / 4096) ∷ (128 + (c / 64) % 64) ∷ []) ≡ None
unfolding utf8_error_len
three_two c l h s = grind (arith, nat_tests)

-- the first byte of four begins a character
four_one : (c : ℕ) → 65536 ≤ c → c < 1114112 → utf8_error_len ((240 + c / 262144) ∷ []) ≡ None
unfolding utf8_error_len
four_one c l h = grind (arith, nat_tests)

-- the first two bytes of four begin a character
four_two : (c : ℕ) → 65536 ≤ c → c < 1114112 → utf8_error_len ((240 + c / 262144) ∷ (128 + (c / 4096) % 64) ∷ []) ≡ None
unfolding utf8_error_len
four_two c l h = grind (arith, nat_tests)

-- the first three bytes of four begin a character
four_three : (c : ℕ) → 65536 ≤ c → c < 1114112 → utf8_error_len ((240 + c / 262144) ∷ (128 + (c / 4096) % 64) ∷ (128 + (c / 64) % 64) ∷ []) ≡ None
unfolding utf8_error_len
four_three c l h = grind (arith, nat_tests)

-- a character of two bytes, bit by bit
pub encode_two : (c : ℕ) → 128 ≤ c → c < 2048 → encode c ≡ (192 + c / 64) ∷ (128 + c % 64) ∷ []
unfolding encode
encode_two c l h = rw (le-ltb c 128 l, lt-ltb c 2048 h) refl

-- one of three bytes
pub encode_three : (c : ℕ) → 2048 ≤ c → c < 65536 → encode c ≡ (224 + c / 4096) ∷ (128 + (c / 64) % 64) ∷ (128 + c % 64) ∷ []
unfolding encode
encode_three c l h = rw (le-ltb c 128 (omega arith), le-ltb c 2048 l, lt-ltb c 65536 h) refl

-- one of four bytes
pub encode_four : (c : ℕ) → 65536 ≤ c → encode c ≡ (240 + c / 262144) ∷ (128 + (c / 4096) % 64) ∷ (128 + (c / 64) % 64) ∷ (128 + c % 64) ∷ []
unfolding encode
encode_four c l = rw (le-ltb c 128 (omega arith), le-ltb c 2048 (omega arith), le-ltb c 65536 l) refl

-- one of one byte
pub encode_one : (c : ℕ) → c < 128 → encode c ≡ c ∷ []
unfolding encode
encode_one c l = rw (lt-ltb c 128 l) refl

-- the beginning of a character is refused by no byte of it
starts_none : (c k : ℕ) → scalar c ≡ true → 0 < k → k < length (encode c) → utf8_error_len (take k (encode c)) ≡ None
starts_none c k s p q =
    ⊎_elim
    (λ a. by_one (encode_one c a))
    (λ a. ⊎_elim
    (λ b. by_two (encode_two c a b) (two_one c a b) k p (subst (λ x. k < length x) (encode_two c a b) q))
    (λ b. ⊎_elim
    (λ d. by_three (encode_three c b d) (three_one c b d) (three_two c b d (⊎_elim (λ x. inl x) (λ x. inr x.0) (scalar_cases c s))) k p
    (subst (λ x. k < length x) (encode_three c b d) q))
    (λ d. let h : c < 1114112 = ⊎_elim (λ x. omega arith) (λ x. x.1) (scalar_cases c s) in
    by_four (encode_four c d) (four_one c d h) (four_two c d h) (four_three c d h) k p (subst (λ x. k < length x) (encode_four c d) q))
    (cases_lt c 65536))
    (cases_lt c 2048))
    (cases_lt c 128)
  where
    by_one : encode c ≡ c ∷ [] → utf8_error_len (take k (encode c)) ≡ None
    by_one e = let h : k < length (c ∷ []) = subst (λ x. k < length x) e q in absurd (omega arith)

    by_two : {a b : ℕ} → encode c ≡ a ∷ b ∷ [] → utf8_error_len (a ∷ []) ≡ None → (k : ℕ) → 0 < k → k < length (a ∷ b ∷ []) →
        utf8_error_len (take k (encode c)) ≡ None
    by_two e n zero p q = absurd (omega arith)
    by_two e n (suc zero) p q = ap (λ x. utf8_error_len (take 1 x)) e ∙ n
    by_two e n (suc (suc k)) p q = absurd (omega arith)

    by_three : {a b d : ℕ} → encode c ≡ a ∷ b ∷ d ∷ [] → utf8_error_len (a ∷ []) ≡ None → utf8_error_len (a ∷ b ∷ []) ≡ None → (k : ℕ) →
        0 < k → k < length (a ∷ b ∷ d ∷ []) →
        utf8_error_len (take k (encode c)) ≡ None
    by_three e n m zero p q = absurd (omega arith)
    by_three e n m (suc zero) p q = ap (λ x. utf8_error_len (take 1 x)) e ∙ n
    by_three e n m (suc (suc zero)) p q = ap (λ x. utf8_error_len (take 2 x)) e ∙ m
    by_three e n m (suc (suc (suc k))) p q = absurd (omega arith)

    by_four : {a b d f : ℕ} → encode c ≡ a ∷ b ∷ d ∷ f ∷ [] → utf8_error_len (a ∷ []) ≡ None → utf8_error_len (a ∷ b ∷ []) ≡ None →
        utf8_error_len (a ∷ b ∷ d ∷ []) ≡ None → (k : ℕ) → 0 < k →
        k < length (a ∷ b ∷ d ∷ f ∷ []) → utf8_error_len (take k (encode c)) ≡ None
    by_four e n m o zero p q = absurd (omega arith)
    by_four e n m o (suc zero) p q = ap (λ x. utf8_error_len (take 1 x)) e ∙ n
    by_four e n m o (suc (suc zero)) p q = ap (λ x. utf8_error_len (take 2 x)) e ∙ m
    by_four e n m o (suc (suc (suc zero))) p q = ap (λ x. utf8_error_len (take 3 x)) e ∙ o
    by_four e n m o (suc (suc (suc (suc k)))) p q = absurd (omega arith)

-- no bytes are no error: more may come
pub utf8_error_len-nil : utf8_error_len [] ≡ None
unfolding utf8_error_len
utf8_error_len-nil = refl

-- a character that begins where the good text ends
no_char : (bs more : List ℕ) (c : ℕ) (r : List ℕ) → is_some (utf8_error_len (drop (utf8_valid_len bs) bs)) ≡ true → scalar c ≡ true →
    drop (utf8_valid_len bs) bs ++ more ≡ encode c ++ r → ⊥
unfolding utf8_valid_len
no_char bs more c r e s h =
    let n = utf8_valid_len bs in
    let l = utf8_valid_len_le bs in
    let ds = drop n bs in
    ⊎_elim
    (λ short.
    let part : ds ≡ take (length ds) (encode c) =
    sym (take_at ds more (length ds) refl) ∙ (ap (take (length ds)) h ∙ take-append-le (length ds) (encode c) r (omega arith)) in
    ⊎_elim
    (λ some. none_some (ap utf8_error_len part ∙ starts_none c (length ds) s some short) e)
    (λ none. none_some (ap utf8_error_len (nil_from_length ds (omega arith)) ∙ nil_none) e)
    (cases_lt 0 (length ds)))
    (λ long.
    let part : take (length (encode c)) ds ≡ encode c =
    sym (take-append-le (length (encode c)) ds more long) ∙ (ap (take (length (encode c))) h ∙ take_at (encode c) r (length (encode c)) refl) in
    let whole : take (n + length (encode c)) bs ≡ take n bs ++ encode c =
    sym (take-append-drop n (take (n + length (encode c)) bs))
    ∙ (ap (λ x. x ++ drop n (take (n + length (encode c)) bs)) (take-take n (n + length (encode c)) bs (omega arith))
    ∙ ap (λ x. take n bs ++ x) (drop-take n (length (encode c)) bs ∙ part)) in
    let utf : IsUtf8 (take (n + length (encode c)) bs) = subst IsUtf8 (sym whole) (IsUtf8-append (take n bs) (encode c) (good_front bs) (IsUtf8-encode c s)) in
    let size : length ds ≡ length bs - n = length-drop n bs in
    let a = at_least bs (length bs) (n + length (encode c)) (omega arith) utf in
    let b = len_utf8_bounds c in
    let g = length-encode c in
    absurd (omega arith))
    (cases_lt (length ds) (length (encode c)))
  where
    nil_none : utf8_error_len (let x : List ℕ = [] in x) ≡ None
    nil_none = utf8_error_len-nil

    none_some : {x : Option ℕ} → x ≡ None → is_some x ≡ true → ⊥
    none_some a b = let h : false ≡ true = sym (ap is_some a) ∙ b in cc

-- Where the bytes after the good text cannot begin a character, no more bytes lengthen it.
pub valid_broken : (bs more : List ℕ) → is_some (utf8_error_len (drop (utf8_valid_len bs) bs)) ≡ true → utf8_valid_len (bs ++ more) ≡ utf8_valid_len bs
valid_broken bs more e = ⊎_elim (λ l. absurd (longer l)) (λ l. let k = valid_more bs more in omega arith)
    (cases_lt (utf8_valid_len bs) (utf8_valid_len (bs ++ more)))
  where
    first : (cs rest tail all : List ℕ) → scalars cs ≡ true → encodes cs ≡ rest → rest ++ tail ≡ drop (utf8_valid_len bs) bs ++ more → 0 < length rest → ⊥
    first [] rest tail all s u h l = let z : length rest ≡ 0 = ap length (sym u) in absurd (omega arith)
    first (c ∷ cs) rest tail all s u h l =
        no_char bs more c (encodes cs ++ tail) e (and_parts (scalar c) (scalars cs) s).0
        (sym h ∙ (ap (λ x. x ++ tail) (sym u) ∙ append_assoc (encode c) (encodes cs) tail))

    longer : utf8_valid_len bs < utf8_valid_len (bs ++ more) → ⊥
    longer l =
        let m = utf8_valid_len (bs ++ more) in
        let t = take m (bs ++ more) in
        let lm = utf8_valid_len_le (bs ++ more) in
        let ln = utf8_valid_len_le bs in
        let front : IsUtf8 (take (utf8_valid_len bs) t) =
        subst IsUtf8 (sym (take-take (utf8_valid_len bs) m (bs ++ more) (omega arith) ∙ take-append-le (utf8_valid_len bs) bs more ln)) (good_front bs) in
        let size : length t ≡ m = length-take-le m (bs ++ more) lm in
        let rest : IsUtf8 (drop (utf8_valid_len bs) t) = IsUtf8-drop t (utf8_valid_len bs) (good_front (bs ++ more))
        (IsCharBoundary-from_take t (utf8_valid_len bs) (good_front (bs ++ more)) (omega arith) front) in
        let tail = drop m (bs ++ more) in
        let all : drop (utf8_valid_len bs) t ++ tail ≡ drop (utf8_valid_len bs) bs ++ more =
        sym (drop-append-le (utf8_valid_len bs) t tail (omega arith))
        ∙ (ap (drop (utf8_valid_len bs)) (take-append-drop m (bs ++ more)) ∙ drop-append-le (utf8_valid_len bs) bs more ln) in
        first rest.0 (drop (utf8_valid_len bs) t) tail [] rest.1.0 rest.1.1 all (omega (arith, length-drop (utf8_valid_len bs) t))

-- what cannot begin a character still cannot when more bytes come
pub error_more : (ds more : List ℕ) → is_some (utf8_error_len ds) ≡ true → is_some (utf8_error_len (ds ++ more)) ≡ true
unfolding utf8_error_len
error_more [] more e = absurd (let h : false ≡ true = e in cc)
error_more (a ∷ []) more e = grind (arith, nat_tests)
error_more (a ∷ b ∷ []) more e = grind (arith, nat_tests)
error_more (a ∷ b ∷ c ∷ []) more e = grind (arith, nat_tests)
error_more (a ∷ b ∷ c ∷ d ∷ ds) more e = grind (arith, nat_tests)
