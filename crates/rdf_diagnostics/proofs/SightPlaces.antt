-- Where the first token stands of the bytes from a place on, by the byte that a scanner tells that has taken a space before them.
use Prim.Native.Char.{code}
use Rattle.rdf_diagnostics.proofs.Prelude.{◌≡◌, ℕ, zero, suc, ◌-◌, ◌≤◌, Bool, true, false, List, [], ◌∷◌, ◌++◌, Option, refl, sym, ap, ◌∙◌, subst, length, take, drop, arith, length-append, encode_utf8, and_parts, drop_at, length-take-le, take-append-drop, IsUtf8-append, IsUtf8-past_char, IsCharBoundary-at_seam, chars-append, chars-encodes, encode_ascii, encodes-append, encodes-chars, scalars-chars, utf8_valid_len_le, MatchOption, IsUtf8, IsCharBoundary, chars, Dialect, Lines, Turtle, Reading, Step, Tail, blank, rest_of, step, tokens, past, bad_escape, first_place, good, mark, tail_of, tokens_of, Unfit, HasBadEscape, reading_from, IsSeen, StandsFrom}
use Rattle.std.proofs.Math.Utf8.{encodes, scalars, scalar}
use Rattle.std.specs.Str.Lossy.{utf8_valid_len}
use Rattle.rdf_tokens.specs.Tokens.{place_of}
use Rattle.rdf_tokens.specs.Tokens.Step.{stop, token}
use Rattle.rdf_tokens.specs.Laws.{IsUnfit, EndsFor}
use Rattle.rdf_tokens.proofs.GoodLemmas.{at_least, good_front}
use Rattle.rdf_tokens.proofs.LawLemmas.{tokens_of-tokens}
use Rattle.rdf_tokens.proofs.OutcomeLemmas.{reasons}
use Rattle.rdf_tokens.proofs.PlaceLemmas.{past-encodes}
use Rattle.rdf_tokens.proofs.TokensLemmas.{at_stop, at_token}
use Rattle.rdf_diagnostics.proofs.SightLemmas.{space_utf8, space_chars}

-- with a space before them one byte more is good
valid_space : (rest : List ℕ) → utf8_valid_len (code " " ∷ rest) ≡ suc (utf8_valid_len rest)
unfolding utf8_valid_len
valid_space rest =
    let bytes = code " " ∷ rest in
    let l = utf8_valid_len_le rest in
    let more = at_least bytes (length bytes) (suc (utf8_valid_len rest)) (omega arith)
    (IsUtf8-append (code " " ∷ []) (take (utf8_valid_len rest) rest) space_utf8 (good_front rest)) in
    let few = at_most (utf8_valid_len bytes) (utf8_valid_len_le bytes) (good_front bytes) in
    omega (arith, more, few)
  where
    at_most : (m : ℕ) → m ≤ length (code " " ∷ rest) → IsUtf8 (take m (code " " ∷ rest)) → m ≤ suc (utf8_valid_len rest)
    at_most zero l u = omega arith
    at_most (suc k) l u =
        let r = at_least rest (length rest) k (omega arith)
        (IsUtf8-past_char (code " " ∷ take k rest) (take k rest) (code " ") u (sym (ap (λ x. x ++ take k rest) (encode_ascii (code " ") (omega arith))))) in
        omega (arith, r)

-- so the good text is that of the bytes after the space
good_space : (rest : List ℕ) → good (code " " ∷ rest) ≡ code " " ∷ good rest
good_space rest =
    ap (λ n. chars (take n (code " " ∷ rest))) (valid_space rest)
    ∙ (chars-append (code " " ∷ []) (take (utf8_valid_len rest) rest) space_utf8 ∙ ap (λ w. w ++ good rest) space_chars)

-- what is left of characters
scalars-drop : (n : ℕ) (w : List ℕ) → scalars w ≡ true → scalars (drop n w) ≡ true
scalars-drop zero w e = e
scalars-drop (suc n) [] e = e
scalars-drop (suc n) (c ∷ w) e = scalars-drop n w (and_parts (scalar c) (scalars w) e).1

-- the space is passed
blank_space : (d : Dialect) (g : List ℕ) → blank d false (code " " ∷ g) ≡ suc (blank d false g)
blank_space Lines g = refl
blank_space Turtle g = refl

-- a reading that stops with the first step
module _ (d : Dialect) (limit : ℕ) (rest : List ℕ) (e : Bool) (n : ℕ) (h : IsSeen (reading_from d limit rest e) (Unfit n)) where
  abbrev bytes : List ℕ
  bytes = code " " ∷ rest

  abbrev g : List ℕ
  g = good rest

  abbrev t : Tail
  t = tail_of (code " " ∷ rest) e

  read : tokens_of d limit bytes e ≡ tokens d limit t false first_place (code " " ∷ g)
  read =
      tokens_of-tokens d limit bytes e
      ∙ ap (λ w. tokens d limit t false (past first_place (take (mark w) w)) (drop (mark w) w)) (good_space rest)

  here : Reading
  here = tokens_of d limit (code " " ∷ rest) e

  place : (s : Step) → step d limit t (rest_of d false (code " " ∷ g)) ≡ s → here.at.offset ≡ (place_of d false first_place (code " " ∷ g)).offset
  unfolding here
  place (stop o) q =
      let r = read ∙ at_stop d limit t false first_place (code " " ∷ g) o q in
      let same : o ≡ bad_escape = sym (ap (λ r. r.outcome) r) ∙ h.0.outcome in
      ap (λ r. r.at.offset) (read ∙ at_stop d limit t false first_place (code " " ∷ g) bad_escape (q ∙ ap (λ o. stop o) same))
  place (token m k) q =
      let r = read ∙ at_token d limit t false first_place (code " " ∷ g) m k q in
      absurd (no_cons (sym (ap (λ r. r.tokens) r) ∙ h.0.tokens))
    where
      no_cons : {A : Type 0} {x : A} {xs : List A} → x ∷ xs ≡ [] → ⊥
      no_cons e = cc

  abbrev front : List ℕ
  front = take (blank d false (good rest)) (good rest)

  abbrev left : List ℕ
  left = rest_of d false (good rest)

  abbrev valid : List ℕ
  valid = take (utf8_valid_len rest) rest

  offset : n ≡ suc (length (encodes front))
  unfolding here
  offset =
      let first : encode_utf8 (code " ") ≡ code " " ∷ [] = encode_ascii (code " ") (omega arith) in
      let p = past-encodes first_place (code " " ∷ front) in
      let o = ap (λ p. p.offset) p in
      let l : length (encodes (code " " ∷ front)) ≡ suc (length (encodes front)) = ap (λ w. length (w ++ encodes front)) first in
      let q : (place_of d false first_place (code " " ∷ g)).offset ≡ (past first_place (code " " ∷ front)).offset =
      ap (λ k. (past first_place (take k (code " " ∷ g))).offset) (blank_space d g) in
      omega (arith, h.1, place (step d limit t (rest_of d false (code " " ∷ g))) refl, q, o, l)

  scalars-good : scalars (good rest) ≡ true
  scalars-good = scalars-chars (take (utf8_valid_len rest) rest) (good_front rest)

  whole : valid ≡ encodes front ++ encodes left
  whole =
      sym (encodes-chars valid (good_front rest))
      ∙ (ap encodes (sym (take-append-drop (blank d false (good rest)) (good rest))) ∙ encodes-append front left)

  before : n - 1 ≡ length (encodes front)
  before = omega (arith, offset)

  from : drop (n - 1) valid ≡ encodes left
  from = ap (drop (n - 1)) whole ∙ drop_at (encodes front) (encodes left) (n - 1) (sym before)

  utf8 : IsUtf8 (encodes left)
  utf8 = (left, (scalars-drop (blank d false (good rest)) (good rest) scalars-good, refl))

  -- the text from there on is what is left after white space and comments
  pub text_is : chars (drop (n - 1) (take (utf8_valid_len rest) rest)) ≡ rest_of d false (good rest)
  text_is = ap chars from ∙ chars-encodes left (scalars-drop (blank d false (good rest)) (good rest) scalars-good)

  -- it is at a character
  pub stands : StandsFrom rest n
  stands =
      let l : length valid ≡ utf8_valid_len rest = length-take-le (utf8_valid_len rest) rest (utf8_valid_len_le rest) in
      record {
        some = omega (arith, offset);
        within = omega (arith, before, l, ap length whole, length-append (encodes front) (encodes left));
        boundary = subst (IsCharBoundary valid) (sym before) (IsCharBoundary-at_seam valid (encodes front) (encodes left) whole utf8);
      }

  -- and it has a first token that is not fit
  pub unfit : IsUnfit d (chars (drop (n - 1) (take (utf8_valid_len rest) rest)))
  unfolding here
  unfit =
      let r : EndsFor d limit bytes e bad_escape here.at = subst (λ o. EndsFor d limit bytes e o here.at) h.0.outcome (reasons d limit bytes e) in
      let same : drop here.at.offset (take (utf8_valid_len bytes) bytes) ≡ drop (n - 1) valid =
      ap (λ k. drop k (take (utf8_valid_len bytes) bytes)) (h.1 ∙ offset)
      ∙ (ap (λ k. drop (suc (length (encodes front))) (take k bytes)) (valid_space rest) ∙ ap (λ k. drop k valid) (sym before)) in
      subst (λ w. IsUnfit d (chars w)) same r

  -- so what is found in that text is found there
  pub found_there : (text : List ℕ) (r : Option ℕ) → text ≡ drop (n - 1) (take (utf8_valid_len rest) rest) →
      ((d : Dialect) → IsUnfit d (chars text) → MatchOption r ⊥ (λ k. HasBadEscape d (chars text) k)) →
      MatchOption r ⊥ (λ k. HasBadEscape d (rest_of d false (good rest)) k)
  found_there text r e f =
      subst (λ w. MatchOption r ⊥ (λ k. HasBadEscape d w k)) (ap chars e ∙ text_is) (f d (subst (λ w. IsUnfit d (chars w)) (sym e) unfit))
