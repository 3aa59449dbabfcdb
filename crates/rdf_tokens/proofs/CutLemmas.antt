-- A text cut after some of its characters.
use Rattle.rdf_tokens.proofs.Prelude.{◌≡◌, ℕ, zero, suc, ◌+◌, ◌<◌, ◌≤◌, Bool, true, false, cond, List, [], ◌∷◌, ◌++◌, ◌==◌, encode_utf8, refl, sym, ap, ◌∙◌, length, take, drop, arith, length-append, ◌&&◌, and_parts, nat_tests, append-nil, take-append-drop, take_at, drop_at, chars-encodes, chars_past_char, length-encode, len_utf8_bounds, encodes-append, encodes-chars, scalars-chars, encodes, scalars, chars, IsUtf8, is_empty, mark, len_utf8, bytes_of}
use Rattle.std.proofs.Math.Utf8.{scalar}

-- so many bytes are so many characters
pub record Cut (bs : List ℕ) (n len : ℕ) : Type 0 where
  pub within : len ≤ length bs
  pub front : chars (take len bs) ≡ take n (chars bs)
  pub rest : chars (drop len bs) ≡ drop n (chars bs)
  pub front_utf8 : IsUtf8 (take len bs)
  pub rest_utf8 : IsUtf8 (drop len bs)

-- a front of a text of characters consists of characters
scalars-take : (n : ℕ) (w : List ℕ) → scalars w ≡ true → scalars (take n w) ≡ true
scalars-take zero w s = refl
scalars-take (suc n) [] s = refl
scalars-take (suc n) (c ∷ w) s =
    let p = and_parts (scalar c) (scalars w) s in ap (λ b. b && scalars (take n w)) p.0 ∙ scalars-take n w p.1

-- what is left of a text of characters consists of characters
scalars-drop : (n : ℕ) (w : List ℕ) → scalars w ≡ true → scalars (drop n w) ≡ true
scalars-drop zero w s = s
scalars-drop (suc n) [] s = s
scalars-drop (suc n) (c ∷ w) s = scalars-drop n w (and_parts (scalar c) (scalars w) s).1

-- a text that is cut after n characters can be sliced at the byte where they end
pub cut : (bs : List ℕ) (n len : ℕ) → IsUtf8 bs → len ≡ bytes_of n (chars bs) → Cut bs n len
cut bs n len u e =
    let w = chars bs in
    let s = scalars-chars bs u in
    let a = encodes (take n w) in
    let b = encodes (drop n w) in
    let sa = scalars-take n w s in
    let sb = scalars-drop n w s in
    let whole : bs ≡ a ++ b = sym (encodes-chars bs u) ∙ (ap encodes (sym (take-append-drop n w)) ∙ encodes-append (take n w) (drop n w)) in
    let front : take len bs ≡ a = ap (take len) whole ∙ take_at a b len (sym e) in
    let rest : drop len bs ≡ b = ap (drop len) whole ∙ drop_at a b len (sym e) in
    record {
      within = omega (arith, ap length whole, length-append a b);
      front = ap chars front ∙ chars-encodes (take n w) sa;
      rest = ap chars rest ∙ chars-encodes (drop n w) sb;
      front_utf8 = (take n w, (sa, sym front));
      rest_utf8 = (drop n w, (sb, sym rest));
    }

-- a text has characters where it has bytes
pub chars-empty : (bs : List ℕ) → IsUtf8 bs → is_empty (chars bs) ≡ (length bs == 0)
chars-empty bs u = at (chars bs) (encodes-chars bs u)
  where
    at : (w : List ℕ) → encodes w ≡ bs → is_empty w ≡ (length bs == 0)
    at [] e = let l : length bs ≡ 0 = ap length (sym e) in grind (arith, nat_tests)
    at (c ∷ w) e =
        let n : length bs ≡ length (encode_utf8 c) + length (encodes w) = ap length (sym e) ∙ length-append (encode_utf8 c) (encodes w) in
        let k = length-encode c in
        let b = len_utf8_bounds c in
        let l : 0 < length bs = omega arith in
        grind (arith, nat_tests)

-- the leading U+FEFF, by its bytes
pub mark_bytes : (bs : List ℕ) (c next : ℕ) → IsUtf8 bs → bs ≡ encode_utf8 c ++ drop next bs →
    bytes_of (mark (chars bs)) (chars bs) ≡ cond (c == 0xFEFF) (len_utf8 c) 0
mark_bytes bs c next u e =
    ap (λ w. bytes_of (mark w) w) (chars_past_char bs (drop next bs) c u e) ∙ at (c == 0xFEFF)
  where
    at : (b : Bool) → bytes_of (cond b 1 0) (c ∷ chars (drop next bs)) ≡ cond b (len_utf8 c) 0
    at true = ap length (append-nil (encode_utf8 c)) ∙ length-encode c
    at false = refl
