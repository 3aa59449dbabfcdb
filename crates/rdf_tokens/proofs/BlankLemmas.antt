-- White space and comments are taken off a text in any pieces.
use Rattle.rdf_tokens.proofs.Prelude.{◌≡◌, ℕ, suc, ◌+◌, ◌<◌, ◌≤◌, Bool, true, false, cond, List, [], ◌∷◌, ◌++◌, ◌==◌, refl, sym, ap, ◌∙◌, subst, length, get_or, take, drop, arith, Option, Some, None, IsUtf8, encode_utf8, length-append, ⊎_elim, encode_utf8_all, chars, cases_lt, true≢false, nat_tests, append-nil, encode_ascii, inside_one, encodes-chars, length-encode, len_utf8_bounds, Dialect, Lines, Turtle, Place, Tail, past, is_line_end, is_space, blank, is_empty, rest_of, tokens, go_on, comment_step, comment_after, bytes_of}
use Rattle.rdf_tokens.specs.Tokens.{place_of, step}
use Rattle.rdf_tokens.proofs.TokensLemmas.{tokens-step, rest_more}

-- both by the step of the first character
abbrev pub blank_by : Dialect → Option Bool → List ℕ → ℕ
blank_by d None w = 0
blank_by d (Some b) w = suc (blank d b w)

-- whether a comment is open after a text, by what its first character did
abbrev pub comment_by : Dialect → Option Bool → List ℕ → Bool
comment_by d None w = false
comment_by d (Some b) w = comment_after d b w

-- white space and comments, taken off by the step of one character
pub blank-step : (d : Dialect) (b : Bool) (c : ℕ) (w : List ℕ) → blank d b (c ∷ w) ≡ blank_by d (comment_step d b c) w
blank-step d false c w = go (is_space d c) (c == 35)
  where
    go : (s t : Bool) → cond s (suc (blank d false w)) (cond t (suc (blank d true w)) 0) ≡ blank_by d (cond s (Some false) (cond t (Some true) None)) w
    go true t = refl
    go false true = refl
    go false false = refl
blank-step d true c w = go (is_line_end c) (is_space d c)
  where
    go : (s t : Bool) → cond s (cond t (suc (blank d false w)) 0) (suc (blank d true w)) ≡ blank_by d (cond s (cond t (Some false) None) (Some true)) w
    go true true = refl
    go true false = refl
    go false t = refl

-- whether a comment is open, by the step of one character
pub comment-step : (d : Dialect) (b : Bool) (c : ℕ) (w : List ℕ) → comment_after d b (c ∷ w) ≡ comment_by d (comment_step d b c) w
comment-step d false c w = go (is_space d c) (c == 35)
  where
    go : (s t : Bool) → cond s (comment_after d false w) (cond t (comment_after d true w) false) ≡ comment_by d
        (cond s (Some false) (cond t (Some true) None)) w
    go true t = refl
    go false true = refl
    go false false = refl
comment-step d true c w = go (is_line_end c) (is_space d c)
  where
    go : (s t : Bool) → cond s (cond t (comment_after d false w) false) (comment_after d true w) ≡ comment_by d
        (cond s (cond t (Some false) None) (Some true)) w
    go true true = refl
    go true false = refl
    go false t = refl

-- a text that is blank, and what comes after it
pub blank-append : (d : Dialect) (b : Bool) (u v : List ℕ) → blank d b u ≡ length u → blank d b (u ++ v) ≡ length u + blank d (comment_after d b u) v
blank-append d b [] v e = omega arith
blank-append d b (c ∷ u) v e =
    blank-step d b c (u ++ v) ∙ (go (comment_step d b c) (sym (blank-step d b c u) ∙ e) (λ b' h. blank-append d b' u v h)
    ∙ ap (λ x. suc (length u) + blank d x v) (sym (comment-step d b c u)))
  where
    go : (o : Option Bool) → blank_by d o u ≡ suc (length u) →
        ((b' : Bool) → blank d b' u ≡ length u → blank d b' (u ++ v) ≡ length u + blank d (comment_after d b' u) v) →
        blank_by d o (u ++ v) ≡ suc (length u) + blank d (comment_by d o u) v
    go None e h = absurd (omega arith)
    go (Some b') e h = let k = h b' (omega arith) in omega arith

-- the place after two texts is that after the second, counted from after the first
pub past-append : (p : Place) (u v : List ℕ) → past p (u ++ v) ≡ past (past p u) v
past-append p [] v = refl
past-append p (c ∷ u) v = past-append (past p (c ∷ [])) u v

-- a front that is longer than the first text is that text and a front of the second
take-over : (u v : List ℕ) (n : ℕ) → take (length u + n) (u ++ v) ≡ u ++ take n v
take-over [] v n = ap (λ m. take m v) (omega arith)
take-over (c ∷ u) v n = let e : suc (length u) + n ≡ suc (length u + n) = omega arith in ap (λ m. take m (c ∷ (u ++ v))) e ∙ ap (λ x. c ∷ x) (take-over u v n)

-- what is left after such a front is what is left of the second text
drop-over : (u v : List ℕ) (n : ℕ) → drop (length u + n) (u ++ v) ≡ drop n v
drop-over [] v n = ap (λ m. drop m v) (omega arith)
drop-over (c ∷ u) v n = let e : suc (length u) + n ≡ suc (length u + n) = omega arith in ap (λ m. drop m (c ∷ (u ++ v))) e ∙ drop-over u v n

-- Where all of a text is blank, the tokens are those of what comes after it.
pub tokens-blank : (d : Dialect) (limit : ℕ) (t : Tail) (b : Bool) (p : Place) (u v : List ℕ) → blank d b u ≡ length u →
    tokens d limit t b p (u ++ v) ≡ tokens d limit t (comment_after d b u) (past p u) v
tokens-blank d limit t b p u v e =
    let n = blank d (comment_after d b u) v in
    let m : blank d b (u ++ v) ≡ length u + n = blank-append d b u v e in
    let rest : rest_of d b (u ++ v) ≡ rest_of d (comment_after d b u) v = ap (λ m. drop m (u ++ v)) m ∙ drop-over u v n in
    let place : place_of d b p (u ++ v) ≡ place_of d (comment_after d b u) (past p u) v =
    ap (λ m. past p (take m (u ++ v))) m ∙ (ap (past p) (take-over u v n) ∙ past-append p u (take n v)) in
    tokens-step d limit t b p (u ++ v)
    ∙ (ap (λ x. go_on (step d limit t x) (place_of d b p (u ++ v)) x (λ q v. tokens d limit t false q v)) rest
    ∙ (ap (λ x. go_on (step d limit t (rest_of d (comment_after d b u) v)) x (rest_of d (comment_after d b u) v) (λ q v. tokens d limit t false q v)) place
    ∙ sym (tokens-step d limit t (comment_after d b u) (past p u) v)))

-- what stands after the blanks is not blank
ends-no-comment : (c : ℕ) → is_line_end c ≡ true → (c == 35) ≡ false
ends-no-comment c e = grind (arith, nat_tests)

-- a character at which white space or a comment ends is no white space and begins no comment
stays_none : (d : Dialect) (b : Bool) (c : ℕ) → comment_step d b c ≡ None → comment_step d false c ≡ None
stays_none d false c e = e
stays_none d true c e = go (is_line_end c) (is_space d c) (λ h. ends-no-comment c h) e
  where
    go : (s t : Bool) → (s ≡ true → (c == 35) ≡ false) → cond s (cond t (Some false) None) (Some true) ≡ None →
        cond t (Some false) (cond (c == 35) (Some true) None) ≡ None
    go true true h e = e
    go true false h e = ap (λ x. cond x (Some true) None) (h refl)
    go false t h e = absurd (let x : Some true ≡ None = e in cc)

-- once white space and comments are taken off, none is left at the front, whatever comes
pub rest-blank : (d : Dialect) (b : Bool) (u v : List ℕ) → is_empty (rest_of d b u) ≡ false → blank d false (rest_of d b u ++ v) ≡ 0
rest-blank d b [] v e = absurd (true≢false e)
rest-blank d b (c ∷ u) v e =
    let s = blank-step d b c u in
    ap (λ n. blank d false (drop n (c ∷ u) ++ v)) s ∙ go (comment_step d b c) refl (subst (λ n. is_empty (drop n (c ∷ u)) ≡ false) s e)
    (λ b' h. rest-blank d b' u v h)
  where
    go : (o : Option Bool) → comment_step d b c ≡ o → is_empty (drop (blank_by d o u) (c ∷ u)) ≡ false →
        ((b' : Bool) → is_empty (rest_of d b' u) ≡ false → blank d false (rest_of d b' u ++ v) ≡ 0) → blank d false (drop (blank_by d o u) (c ∷ u) ++ v) ≡ 0
    go None x e h = blank-step d false c (u ++ v) ∙ ap (λ o. blank_by d o (u ++ v)) (stays_none d b c x)
    go (Some b') x e h = h b' e

-- Where something stands after the blanks, the tokens are those of a text that begins there.
pub tokens-rest : (d : Dialect) (limit : ℕ) (t : Tail) (b : Bool) (p : Place) (u v : List ℕ) → is_empty (rest_of d b u) ≡ false →
    tokens d limit t b p (u ++ v) ≡ tokens d limit t false (place_of d b p u) (rest_of d b u ++ v)
tokens-rest d limit t b p u v e =
    let r = rest_more d b p u v e in
    let z : blank d false (rest_of d b u ++ v) ≡ 0 = rest-blank d b u v e in
    let rest : rest_of d b (u ++ v) ≡ rest_of d false (rest_of d b u ++ v) = r.0 ∙ sym (ap (λ n. drop n (rest_of d b u ++ v)) z) in
    let place : place_of d b p (u ++ v) ≡ place_of d false (place_of d b p u) (rest_of d b u ++ v) =
    r.1 ∙ sym (ap (λ n. past (place_of d b p u) (take n (rest_of d b u ++ v))) z) in
    tokens-step d limit t b p (u ++ v)
    ∙ (ap (λ x. go_on (step d limit t x) (place_of d b p (u ++ v)) x (λ q v. tokens d limit t false q v)) rest
    ∙ (ap (λ x. go_on (step d limit t (rest_of d false (rest_of d b u ++ v))) x (rest_of d false (rest_of d b u ++ v))
    (λ q v. tokens d limit t false q v)) place
    ∙ sym (tokens-step d limit t false (place_of d b p u) (rest_of d b u ++ v))))

-- a byte from 128 on stands in a comment alone
high_step : (d : Dialect) (b : Bool) (x : ℕ) → 128 ≤ x → comment_step d b x ≡ cond b (Some true) None
high_step Lines true x l = grind (arith, nat_tests)
high_step Turtle true x l = grind (arith, nat_tests)
high_step Lines false x l = grind (arith, nat_tests)
high_step Turtle false x l = grind (arith, nat_tests)

-- all bytes are from 128 on: none is white space, a line end or a `#`
abbrev pub IsHigh : List ℕ → Type 0
IsHigh v = (k : ℕ) → k < length v → 128 ≤ get_or v k 0

-- all bytes of a character from U+0080 on are
pub high-encode : (c : ℕ) → 128 ≤ c → IsHigh (encode_utf8 c)
high-encode c l k h = ⊎_elim
    (λ m. let e : c ≡ get_or (encode_utf8 c) k 0 = inside_one c [] (encode_utf8 c) k (sym (append-nil (encode_utf8 c))) h m in absurd (omega arith))
    (λ m. m)
    (cases_lt (get_or (encode_utf8 c) k 0) 128)

-- all bytes after the first are from 128 on, where all are
high_tail : (x : ℕ) (v : List ℕ) → IsHigh (x ∷ v) → IsHigh v
high_tail x v h k l = h (suc k) (omega arith)

-- in a comment such bytes are taken off
blank-high : (d : Dialect) (v r : List ℕ) → IsHigh v → blank d true (v ++ r) ≡ length v + blank d true r
blank-high d [] r h = omega arith
blank-high d (x ∷ v) r h =
    let i = blank-high d v r (high_tail x v h) in
    blank-step d true x (v ++ r) ∙ (ap (λ o. blank_by d o (v ++ r)) (high_step d true x (h 0 (omega arith))) ∙ (omega arith))

-- in a comment bytes from 128 on leave it open
comment-high : (d : Dialect) (v r : List ℕ) → IsHigh v → comment_after d true (v ++ r) ≡ comment_after d true r
comment-high d [] r h = refl
comment-high d (x ∷ v) r h =
    comment-step d true x (v ++ r) ∙ (ap (λ o. comment_by d o (v ++ r)) (high_step d true x (h 0 (omega arith))) ∙ comment-high d v r (high_tail x v h))

-- outside of a comment they are no white space
high-none : (d : Dialect) (v r : List ℕ) → IsHigh v → 0 < length v → (blank d false (v ++ r) ≡ 0) × (comment_after d false (v ++ r) ≡ false)
high-none d [] r h l = absurd (omega arith)
high-none d (x ∷ v) r h l =
    let e = high_step d false x (h 0 (omega arith)) in (
      blank-step d false x (v ++ r) ∙ ap (λ o. blank_by d o (v ++ r)) e,
      comment-step d false x (v ++ r) ∙ ap (λ o. comment_by d o (v ++ r)) e,
    )

-- the blanks of a text's bytes are the bytes of its blanks
blank-encodes : (d : Dialect) (b : Bool) (w : List ℕ) → blank d b (encode_utf8_all w) ≡ bytes_of (blank d b w) w
blank-encodes d b [] = refl
blank-encodes d b (c ∷ w) = ⊎_elim
    (λ l. ap (λ x. blank d b (x ++ encode_utf8_all w)) (encode_ascii c l) ∙ (blank-step d b c (encode_utf8_all w)
    ∙ (low (comment_step d b c) (encode_ascii c l) (λ b'. blank-encodes d b' w) ∙ ap (λ n. bytes_of n (c ∷ w)) (sym (blank-step d b c w)))))
    (λ l. high b l (blank-encodes d true w))
    (cases_lt c 128)
  where
    low : (o : Option Bool) → encode_utf8 c ≡ c ∷ [] → ((b' : Bool) → blank d b' (encode_utf8_all w) ≡ bytes_of (blank d b' w) w) →
        blank_by d o (encode_utf8_all w) ≡ bytes_of (blank_by d o w) (c ∷ w)
    low None e h = refl
    low (Some b') e h = ap suc (h b') ∙ sym (ap (λ x. length (x ++ encode_utf8_all (take (blank d b' w) w))) e)

    high : (b : Bool) → 128 ≤ c → blank d true (encode_utf8_all w) ≡ bytes_of (blank d true w) w →
        blank d b (encode_utf8 c ++ encode_utf8_all w) ≡ bytes_of (blank d b (c ∷ w)) (c ∷ w)
    high true l h =
        blank-high d (encode_utf8 c) (encode_utf8_all w) (high-encode c l)
        ∙ (omega (arith, h, length-append (encode_utf8 c) (encode_utf8_all (take (blank d true w) w)))
        ∙ sym (ap (λ n. bytes_of n (c ∷ w)) (blank-step d true c w ∙ ap (λ o. blank_by d o w) (high_step d true c l))))
    high false l h =
        (high-none d (encode_utf8 c) (encode_utf8_all w) (high-encode c l) (omega (arith, length-encode c, len_utf8_bounds c))).0
        ∙ sym (ap (λ n. bytes_of n (c ∷ w)) (blank-step d false c w ∙ ap (λ o. blank_by d o w) (high_step d false c l)))

-- whether a comment is open is the same for a text and for its bytes
comment-encodes : (d : Dialect) (b : Bool) (w : List ℕ) → comment_after d b (encode_utf8_all w) ≡ comment_after d b w
comment-encodes d b [] = refl
comment-encodes d b (c ∷ w) = ⊎_elim
    (λ l. ap (λ x. comment_after d b (x ++ encode_utf8_all w)) (encode_ascii c l) ∙ (comment-step d b c (encode_utf8_all w)
    ∙ (low (comment_step d b c) (λ b'. comment-encodes d b' w) ∙ sym (comment-step d b c w))))
    (λ l. high b l (comment-encodes d true w))
    (cases_lt c 128)
  where
    low : (o : Option Bool) → ((b' : Bool) → comment_after d b' (encode_utf8_all w) ≡ comment_after d b' w) →
        comment_by d o (encode_utf8_all w) ≡ comment_by d o w
    low None h = refl
    low (Some b') h = h b'

    high : (b : Bool) → 128 ≤ c → comment_after d true (encode_utf8_all w) ≡ comment_after d true w →
        comment_after d b (encode_utf8 c ++ encode_utf8_all w) ≡ comment_after d b (c ∷ w)
    high true l h =
        comment-high d (encode_utf8 c) (encode_utf8_all w) (high-encode c l)
        ∙ (h ∙ sym (comment-step d true c w ∙ ap (λ o. comment_by d o w) (high_step d true c l)))
    high false l h =
        (high-none d (encode_utf8 c) (encode_utf8_all w) (high-encode c l) (omega (arith, length-encode c, len_utf8_bounds c))).1
        ∙ sym (comment-step d false c w ∙ ap (λ o. comment_by d o w) (high_step d false c l))

-- the code may count white space in bytes: they are those of the characters
pub blank-bytes : (d : Dialect) (b : Bool) (bs : List ℕ) → IsUtf8 bs → blank d b bs ≡ bytes_of (blank d b (chars bs)) (chars bs)
blank-bytes d b bs u = ap (blank d b) (sym (encodes-chars bs u)) ∙ blank-encodes d b (chars bs)

-- the code may look for an open comment in bytes
pub comment-bytes : (d : Dialect) (b : Bool) (bs : List ℕ) → IsUtf8 bs → comment_after d b bs ≡ comment_after d b (chars bs)
comment-bytes d b bs u = ap (comment_after d b) (sym (encodes-chars bs u)) ∙ comment-encodes d b (chars bs)
