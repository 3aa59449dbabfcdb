-- The good text of bytes whose front is good already, or can never be.
use Rattle.rdf_tokens.proofs.Prelude.{◌≡◌, ℕ, ◌+◌, ◌-◌, ◌≤◌, Bool, true, false, cond, List, [], ◌++◌, ◌||◌, ◌==◌, refl, sym, ap, ◌∙◌, subst, is_some, length, take, drop, arith, length-append, take-append-add, drop-append-add, cond-true, cond-false, or_right, eqb-true, false_from_ne_true, false≢true, nat_tests, take-append-le, drop-append-le, take_at, drop_at, drop_all, IsUtf8-append, IsUtf8-drop, IsCharBoundary-from_take, utf8_valid_len_le, chars-append, chars, IsUtf8, utf8_valid_len, utf8_error_len, ended, broken, good, tail_of}
use Rattle.rdf_tokens.specs.Tokens.Tail.{goes_on}
use Rattle.rdf_tokens.proofs.GoodLemmas.{at_least, good_front, valid_broken, error_more, utf8_error_len-nil}

module _ (u y : List ℕ) (text : IsUtf8 u) where
  low : length u + utf8_valid_len y ≤ utf8_valid_len (u ++ y)
  unfolding utf8_valid_len
  low =
      let l = utf8_valid_len_le y in
      at_least (u ++ y) (length (u ++ y)) (length u + utf8_valid_len y) (omega (arith, length-append u y))
      (subst IsUtf8 (sym (take-append-add u y (utf8_valid_len y))) (IsUtf8-append u (take (utf8_valid_len y) y) text (good_front y)))

  high : utf8_valid_len (u ++ y) ≤ length u + utf8_valid_len y
  unfolding utf8_valid_len
  high =
      let m = utf8_valid_len (u ++ y) in
      let k = m - length u in
      let l = low in
      let le = utf8_valid_len_le (u ++ y) in
      let e : length u + k ≡ m = omega arith in
      let whole : take m (u ++ y) ≡ u ++ take k y = ap (λ x. take x (u ++ y)) (sym e) ∙ take-append-add u y k in
      let utf : IsUtf8 (u ++ take k y) = subst IsUtf8 whole (good_front (u ++ y)) in
      let front : IsUtf8 (take (length u) (u ++ take k y)) = subst IsUtf8 (sym (take_at u (take k y) (length u) refl)) text in
      let within : length u ≤ length (u ++ take k y) = omega (arith, length-append u (take k y)) in
      let rest : IsUtf8 (take k y) =
      subst IsUtf8 (drop_at u (take k y) (length u) refl)
      (IsUtf8-drop (u ++ take k y) (length u) utf (IsCharBoundary-from_take (u ++ take k y) (length u) utf within front)) in
      let a = at_least y (length y) k (omega (arith, length-append u y)) rest in
      omega arith

  pub valid_past : utf8_valid_len (u ++ y) ≡ length u + utf8_valid_len y
  valid_past = let a = low in let b = high in omega arith

  -- the good text after a text
  pub good_past : good (u ++ y) ≡ chars u ++ good y
  good_past = ap (λ n. chars (take n (u ++ y))) valid_past
      ∙ (ap chars (take-append-add u y (utf8_valid_len y)) ∙ chars-append u (take (utf8_valid_len y) y) text)

  pub rest_past : drop (utf8_valid_len (u ++ y)) (u ++ y) ≡ drop (utf8_valid_len y) y
  rest_past = ap (λ n. drop n (u ++ y)) valid_past ∙ drop-append-add u y (utf8_valid_len y)

  same_whole : (utf8_valid_len (u ++ y) == length (u ++ y)) ≡ (utf8_valid_len y == length y)
  same_whole = let v = valid_past in let l = length-append u y in grind (arith, nat_tests)

  pub tail_past : (e : Bool) → tail_of (u ++ y) e ≡ tail_of y e
  tail_past e =
      ap (λ b. cond b (cond e ended goes_on) (cond (e || is_some (utf8_error_len (drop (utf8_valid_len (u ++ y)) (u ++ y)))) broken goes_on)) same_whole
      ∙ ap (λ r. cond (utf8_valid_len y == length y) (cond e ended goes_on) (cond (e || is_some (utf8_error_len r)) broken goes_on)) rest_past

-- bytes that begin no character after the good text
abbrev pub IsBroken : List ℕ → Type 0
IsBroken bytes = is_some (utf8_error_len (drop (utf8_valid_len bytes) bytes)) ≡ true

module _ (x y : List ℕ) (bad : IsBroken x) where
  pub good_broken : good (x ++ y) ≡ good x
  good_broken = ap (λ n. chars (take n (x ++ y))) (valid_broken x y bad) ∙ ap chars (take-append-le (utf8_valid_len x) x y (utf8_valid_len_le x))

  pub still_broken : IsBroken (x ++ y)
  still_broken =
      let l = utf8_valid_len_le x in
      subst (λ r. is_some (utf8_error_len r) ≡ true) (sym (ap (λ n. drop n (x ++ y)) (valid_broken x y bad) ∙ drop-append-le (utf8_valid_len x) x y l))
      (error_more (drop (utf8_valid_len x) x) y bad)

-- they begin no character in any case
pub tail_broken : (x : List ℕ) (e : Bool) → IsBroken x → tail_of x e ≡ broken
tail_broken x e bad = cond-false _ _ _ part ∙ cond-true _ _ _ (or_right e _ bad)
  where
    part : (utf8_valid_len x == length x) ≡ false
    part = false_from_ne_true _ (λ h.
        let e : utf8_valid_len x ≡ length x = eqb-true (utf8_valid_len x) (length x) h in
        let none : drop (utf8_valid_len x) x ≡ [] = drop_all (utf8_valid_len x) x (omega arith) in
        false≢true (sym (ap is_some utf8_error_len-nil) ∙ subst (λ r. is_some (utf8_error_len r) ≡ true) none bad))
