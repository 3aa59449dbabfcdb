-- The parts of a name round its first colon, by bytes and by characters.
use Rattle.rdf_trig.proofs.Prelude.{◌≡◌, ◌<◌, ◌+◌, ◌-◌, ℕ, zero, suc, get_or, Bool, true, false, cond, List, [], ◌∷◌, ◌==◌, not, length, drop, Option, Some, None, option_map, refl, sym, ap, ◌∙◌, subst, ⊎_elim, arith, unwrap_or, before_first, after_first, position_or_len, IsCharBoundary, IsUtf8, chars, encode_utf8_all, cases_Bool, cond-true, cond-false, and_parts, and_from, eqb-true, false≢true, position_or_len_is, IsCharBoundary-after_ascii, IsCharBoundary-before_ascii, encodes-chars, chars-encodes, scalars-chars, is_name_byte, is_unescaped, all_have, IsPlainName, KnowsColon, before}
use Rattle.std.proofs.Common.{take}
use lib.Utf8.{scalar, scalars}
use Rattle.rdf_iri.specs.Texts.{after}
use Rattle.rdf_iri.proofs.Encoded.{before-bytes, after-bytes}

-- ':' as a byte, by which the code looks for the end of a prefix
abbrev pub is_colon : ℕ → Bool
is_colon b = b == 58

-- a ':' at the front is at place 0
at_colon : (x : ℕ) (w : List ℕ) → (x == 58) ≡ true → position_or_len is_colon (x ∷ w) ≡ 0
at_colon x w t = ap (λ b. cond (not b) (1 + position_or_len is_colon w) 0) t

-- a front that is no ':' puts the place one further
past_colon : (x : ℕ) (w : List ℕ) → (x == 58) ≡ false → position_or_len is_colon (x ∷ w) ≡ suc (position_or_len is_colon w)
past_colon x w t = let e : position_or_len is_colon (x ∷ w) ≡ 1 + position_or_len is_colon w =
    ap (λ b. cond (not b) (1 + position_or_len is_colon w) 0) t in omega (arith, e)

-- what the code takes as the prefix is what the definition takes
before_is : (w : List ℕ) → before_first is_colon w ≡ before 58 w
before_is [] = refl
before_is (x ∷ w) =
    ⊎_elim
    (λ t. ap (λ n. take n (x ∷ w)) (at_colon x w t) ∙ sym (cond-true (x == 58) [] (x ∷ before 58 w) t))
    (λ f. ap (λ n. take n (x ∷ w)) (past_colon x w f) ∙ (ap (λ v. x ∷ v) (before_is w) ∙ sym (cond-false (x == 58) [] (x ∷ before 58 w) f)))
    (cases_Bool (x == 58))

-- what the code takes as the local part is what the definition takes, where there is a ':'
after_is : (w : List ℕ) → position_or_len is_colon w < length w → after 58 w ≡ Some (after_first is_colon w)
after_is [] h = absurd (omega (arith, h))
after_is (x ∷ w) h =
    ⊎_elim
    (λ t. cond-true (x == 58) (Some w) (after 58 w) t ∙ ap (λ n. Some (drop (n + 1) (x ∷ w))) (sym (at_colon x w t)))
    (λ f.
    let less : position_or_len is_colon w < length w = let e = past_colon x w f in omega (arith, e, h) in
    let n : position_or_len is_colon (x ∷ w) + 1 ≡ suc (position_or_len is_colon w + 1) = let e = past_colon x w f in omega (arith, e) in
    cond-false (x == 58) (Some w) (after 58 w) f ∙ (after_is w less ∙ ap Some (sym (ap (λ m. drop m (x ∷ w)) n))))
    (cases_Bool (x == 58))

-- without ':' all of the text stands before it, and there is no local part
after_none : (w : List ℕ) → position_or_len is_colon w ≡ length w → (before_first is_colon w ≡ w) × (after 58 w ≡ None)
after_none [] h = (refl, refl)
after_none (x ∷ w) h =
    ⊎_elim
    (λ t. absurd (let e = at_colon x w t in omega (arith, e, h)))
    (λ f.
    let same : position_or_len is_colon w ≡ length w = let e = past_colon x w f in omega (arith, e, h) in
    let r = after_none w same in
    (ap (λ n. take n (x ∷ w)) (past_colon x w f) ∙ ap (λ v. x ∷ v) r.0, cond-false (x == 58) (Some w) (after 58 w) f ∙ r.1))
    (cases_Bool (x == 58))

-- the prefix of a text of characters consists of characters, so it may be encoded
scalars-before : (c : ℕ) (w : List ℕ) → scalars w ≡ true → scalars (before c w) ≡ true
scalars-before c [] h = refl
scalars-before c (x ∷ w) h =
    let p = and_parts (scalar x) (scalars w) h in
    ⊎_elim
    (λ t. ap scalars (cond-true (x == c) [] (x ∷ before c w) t))
    (λ f. ap scalars (cond-false (x == c) [] (x ∷ before c w) f) ∙ and_from (scalar x) (scalars (before c w)) p.0 (scalars-before c w p.1))
    (cases_Bool (x == c))

-- the local part of a text of characters consists of characters, so it may be encoded
scalars-after : (c : ℕ) (w v : List ℕ) → scalars w ≡ true → after c w ≡ Some v → scalars v ≡ true
scalars-after c [] v h e = absurd (cc)
scalars-after c (x ∷ w) v h e =
    let p = and_parts (scalar x) (scalars w) h in
    ⊎_elim
    (λ t. let f : Some w ≡ Some v = sym (cond-true (x == c) (Some w) (after c w) t) ∙ e in let g : w ≡ v = cc in subst (λ z. scalars z ≡ true) g p.1)
    (λ f. scalars-after c w v p.1 (sym (cond-false (x == c) (Some w) (after c w) f) ∙ e))
    (cases_Bool (x == c))

-- the part before the colon
pub front_chars : (bs front : List ℕ) → IsUtf8 bs → front ≡ before_first is_colon bs → chars front ≡ before 58 (chars bs)
front_chars bs front u e =
    let cut : before 58 bs ≡ encode_utf8_all (before 58 (chars bs)) =
    ap (before 58) (sym (encodes-chars bs u)) ∙ (before-bytes 58 (chars bs) (omega arith)).0 in
    ap chars (e ∙ (before_is bs ∙ cut)) ∙ chars-encodes (before 58 (chars bs)) (scalars-before 58 (chars bs) (scalars-chars bs u))

-- a cut at ':' is the same in bytes and in characters, since ':' is ASCII
after_chars : (bs : List ℕ) → IsUtf8 bs → after 58 bs ≡ option_map encode_utf8_all (after 58 (chars bs))
after_chars bs u = ap (after 58) (sym (encodes-chars bs u)) ∙ after-bytes 58 (chars bs) (omega arith)

-- and the one after it
pub back_chars : (bs back : List ℕ) → IsUtf8 bs → position_or_len is_colon bs < length bs → back ≡ after_first is_colon bs →
    chars back ≡ unwrap_or (after 58 (chars bs)) []
back_chars bs back u h e = by (after 58 (chars bs)) refl (ap Some e ∙ (sym (after_is bs h) ∙ after_chars bs u))
  where
    by : (o : Option (List ℕ)) → after 58 (chars bs) ≡ o → Some back ≡ option_map encode_utf8_all o → chars back ≡ unwrap_or o []
    by None a b = absurd (cc)
    by (Some w) a b =
        let same : back ≡ encode_utf8_all w = cc in
        ap chars same ∙ chars-encodes w (scalars-after 58 (chars bs) w (scalars-chars bs u) a)

-- where there is no colon
pub no_colon : (bs : List ℕ) → IsUtf8 bs → position_or_len is_colon bs ≡ length bs → (chars bs ≡ before 58 (chars bs)) × (after 58 (chars bs) ≡ None)
no_colon bs u h =
    let r = after_none bs h in
    (front_chars bs bs u (sym r.0), by (after 58 (chars bs)) (sym r.1 ∙ after_chars bs u))
  where
    by : (o : Option (List ℕ)) → None ≡ option_map encode_utf8_all o → o ≡ None
    by None e = refl
    by (Some w) e = absurd (cc)

-- a byte of names is not the colon
no_colon_byte : (b : ℕ) → is_name_byte b ≡ true → is_colon b ≡ false
no_colon_byte b h = ⊎_elim (λ t. absurd (false≢true (sym (ap is_name_byte (eqb-true b 58 t)) ∙ h))) (λ f. f) (cases_Bool (b == 58))

-- where the place after a colon is known, the name is plain
known_colon : (bs : List ℕ) (past : ℕ) → 0 < past → KnowsColon bs past → IsPlainName bs (past - 1)
known_colon bs zero l k = absurd (omega (arith, l))
known_colon bs (suc n) l k = let n_is : n ≡ suc n - 1 = omega arith in subst (IsPlainName bs) n_is k

-- of a plain name the first colon is the one that is known
module _ (bs : List ℕ) (past : ℕ) (u : IsUtf8 bs) (some : 0 < past) (k : KnowsColon bs past) where
  p : IsPlainName bs (past - 1)
  p = known_colon bs past some k

  next : past - 1 + 1 ≡ past
  next = omega (arith, some)

  first : position_or_len is_colon bs ≡ past - 1
  first =
      let w = p.within in
      position_or_len_is is_colon bs (past - 1) 0 (omega arith) (λ k l. no_colon_byte (get_or bs k 0) (p.before k (omega arith) l)) (λ _. ap is_colon p.is)

  -- so the text may be cut before it and after it
  pub plain_cut : IsCharBoundary bs (past - 1)
  plain_cut = IsCharBoundary-before_ascii bs (past - 1) p.within (let e = p.is in omega (arith, e))

  pub plain_cut_after : IsCharBoundary bs past
  plain_cut_after = subst (IsCharBoundary bs) next (IsCharBoundary-after_ascii bs (past - 1) u p.within (let e = p.is in omega (arith, e)))

  -- the parts are those of the definition
  pub plain_front : (front : List ℕ) → front ≡ take (past - 1) bs → chars front ≡ before 58 (chars bs)
  plain_front front e = front_chars bs front u (e ∙ ap (λ n. take n bs) (sym first))

  pub plain_back : (back : List ℕ) → back ≡ drop past bs → chars back ≡ unwrap_or (after 58 (chars bs)) []
  plain_back back e =
      back_chars bs back u (let w = p.within in omega (arith, first, w)) (e ∙ ap (λ n. drop n bs) (sym next ∙ ap (λ n. n + 1) (sym first)))

  -- and the second has no backslash
  pub plain_rest : (back : List ℕ) → back ≡ drop past bs → all_have is_unescaped back ≡ true
  plain_rest back e = ap (all_have is_unescaped) (e ∙ ap (λ n. drop n bs) (sym next)) ∙ p.after
