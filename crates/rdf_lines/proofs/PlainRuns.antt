-- Texts with no escapes in the plain form, by their bytes.
use Rattle.rdf_lines.proofs.Prelude.{◌≡◌, ◌||◌, ℕ, zero, suc, ◌<◌, ◌≤◌, Bool, true, false, cond, List, [], ◌∷◌, ◌++◌, ◌==◌, refl, sym, ap, ◌∙◌, subst, ⊎_elim, take, get_or, arith, flat_map, AllByRecursion, encode, encodes, cases_Bool, cases_lt, cond-true, cond-false, nat_tests, append-nil, flat_map-append, encodes-append, is_short_byte, encode_one, escaped}
use Rattle.rdf_lines.specs.declared.form.Escapes.TheVariants.{Plain}
use Rattle.rdf_lines.proofs.EncodedLine.{low, high_bytes}

-- in a string " \ LF CR are escaped
abbrev pub is_escaped : ℕ → Bool
is_escaped c = c == 34 || c == 92 || c == 10 || c == 13

-- a character that is not escaped is written as it is
plain : (c : ℕ) → is_escaped c ≡ false → escaped Plain c ≡ c ∷ []
plain c e = grind (arith, nat_tests)

-- a front of characters that are not escaped is written as it is
pub plain_front : (w : List ℕ) (n : ℕ) → ((k : ℕ) → k < n → is_escaped (get_or w k 0) ≡ false) → flat_map (escaped Plain) (take n w) ≡ take n w
plain_front w zero h = refl
plain_front [] (suc n) h = refl
plain_front (c ∷ w) (suc n) h =
    ap (λ x. x ++ flat_map (escaped Plain) (take n w)) (plain c (h 0 (omega arith)))
    ∙ ap (λ x. c ∷ x) (plain_front w n (λ k l. h (suc k) (omega arith)))

-- the bytes that a run goes over stand as they are
pub run_plain : (c : ℕ) → is_short_byte 34 c ≡ true → is_escaped c ≡ false
run_plain c e = grind (arith, nat_tests)

-- no character from U+0080 on is escaped
pub plain_high : (c : ℕ) → 128 ≤ c → escaped Plain c ≡ c ∷ []
plain_high c l = grind (arith, nat_tests)

-- no byte of such a character is escaped
high : (bs : List ℕ) → AllByRecursion (λ b. 128 ≤ b) bs → flat_map (escaped Plain) bs ≡ bs
high [] a = refl
high (b ∷ bs) a = ap (λ x. x ++ flat_map (escaped Plain) bs) (plain_high b a.0) ∙ ap (λ x. b ∷ x) (high bs a.1)

-- an escape is ASCII
escaped_low : (c : ℕ) → c < 128 → encodes (escaped Plain c) ≡ escaped Plain c
unfolding encode
escaped_low c l = test 34 _ _ refl (test 92 _ _ refl (test 10 _ _ refl (test 13 _ _ refl (low c [] l))))
  where
    test : (x : ℕ) (u v : List ℕ) → encodes u ≡ u → encodes v ≡ v → encodes (cond (c == x) u v) ≡ cond (c == x) u v
    test x u v a b =
        ⊎_elim
        (λ e. subst (λ y. encodes y ≡ y) (sym (cond-true (c == x) u v e)) a)
        (λ e. subst (λ y. encodes y ≡ y) (sym (cond-false (c == x) u v e)) b)
        (cases_Bool (c == x))

-- a character is escaped alike before and after it is encoded
escaped_char : (c : ℕ) → encodes (escaped Plain c) ≡ flat_map (escaped Plain) (encode c)
escaped_char c =
    ⊎_elim
    (λ l. escaped_low c l ∙ (sym (append-nil (escaped Plain c)) ∙ ap (flat_map (escaped Plain)) (sym (encode_one c l))))
    (λ l. ap encodes (plain_high c l) ∙ (append-nil (encode c) ∙ sym (high (encode c) (high_bytes c l))))
    (cases_lt c 128)

-- a text is escaped alike before and after it is encoded
pub escaped_text : (cs : List ℕ) → encodes (flat_map (escaped Plain) cs) ≡ flat_map (escaped Plain) (encodes cs)
escaped_text [] = refl
escaped_text (c ∷ cs) =
    encodes-append (escaped Plain c) (flat_map (escaped Plain) cs)
    ∙ (ap (λ x. x ++ encodes (flat_map (escaped Plain) cs)) (escaped_char c)
    ∙ (ap (λ x. flat_map (escaped Plain) (encode c) ++ x) (escaped_text cs)
    ∙ sym (flat_map-append (escaped Plain) (encode c) (encodes cs))))
