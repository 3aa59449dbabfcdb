-- Runs of bytes that leave a state as it is.
use Rattle.rdf_tokens.proofs.Prelude.{◌≡◌, ℕ, zero, suc, ◌+◌, ◌-◌, ◌<◌, ◌≤◌, Bool, true, false, List, [], ◌∷◌, ◌++◌, ⊎_elim, get_or, refl, sym, ap, ◌∙◌, subst, length, length-append, length-drop, drop, arith, encode_utf8, Option, Some, None, IsUtf8, encode_utf8_all, len_utf8, chars, cases_lt, get_or-drop, get_or_append_left, encode_ascii, length-encode, len_utf8_bounds, drop_past_char, IsRun, Dialect, Kind, State, Reached, Rests, Stays, kind_here, with_length, three_quotes, only_long}
use Rattle.rdf_tokens.specs.Machine.{step, kind_at}
use Rattle.rdf_tokens.proofs.BlankLemmas.{high-encode}
use Rattle.rdf_tokens.proofs.StateLemmas.{reached-step}

-- an ASCII character is its own byte
low_byte : (c : ℕ) → c < 128 → get_or (encode_utf8 c) 0 0 ≡ c
low_byte c l = ap (λ w. get_or w 0 0) (encode_ascii c l)

-- The run of bytes that pass a test leaves a state as it is, where each character that begins with one of them does.
module _ (s : State) (p : ℕ → Bool) (bs : List ℕ) (at end : ℕ) (r : IsRun p bs at end)
    (low : (d : Dialect) (c : ℕ) → c < 128 → p c ≡ true → step d s c ≡ s)
    (high : (d : Dialect) (c b : ℕ) → 128 ≤ c → 128 ≤ b → p b ≡ true → step d s c ≡ s)
    (ends : (b x : ℕ) → 128 ≤ b → p b ≡ true → p x ≡ false → x < 128) where
  stays_run : Stays s bs at end
  stays_run = record {
    from = r.from;
    within = r.within;
    stays = λ d k c from to e. ⊎_elim
        (λ (l : c < 128). low d c l (ap p (sym (low_byte c l) ∙ e) ∙ r.pass k from to))
        (λ l. high d c (get_or bs k 0) l (let h = high-encode c l 0 (omega (arith, length-encode c, len_utf8_bounds c)) in
        omega (arith, h, e)) (r.pass k from to))
        (cases_lt c 128);
    whole = λ k from to h inside. ends (get_or bs k 0) (get_or bs end 0) h (r.pass k from to) (r.stops inside);
  }

-- the character at a place before the end
pub first_char : (bs : List ℕ) (at : ℕ) → IsUtf8 (drop at bs) → at < length bs →
    (c : ℕ) × (drop at bs ≡ encode_utf8 c ++ drop (at + len_utf8 c) bs) × (at + len_utf8 c ≤ length bs)
first_char bs at u l = go u.0 u.1.1
  where
    go : (w : List ℕ) → encode_utf8_all w ≡ drop at bs → (c : ℕ) × (drop at bs ≡ encode_utf8 c ++ drop (at + len_utf8 c) bs) × (at + len_utf8 c ≤ length bs)
    go [] e = absurd (omega (arith, ap length e, length-drop at bs))
    go (c ∷ w) e =
        let rest = drop_past_char bs (encode_utf8_all w) at c (sym e) in (
          c,
          sym e ∙ ap (λ x. encode_utf8 c ++ x) (sym rest),
          omega (arith, ap length e, length-append (encode_utf8 c) (encode_utf8_all w), length-encode c, length-drop at bs),
        )

-- The character at a place before the end of some bytes, where a byte of ASCII ends them if a character there is not of ASCII.
module _ (bs : List ℕ) (at end : ℕ) (within : end ≤ length bs) (low : 128 ≤ get_or bs at 0 → end < length bs → get_or bs end 0 < 128)
    (before : at < end) (u : IsUtf8 (drop at bs)) where
  pub char_there : (c : ℕ) × (drop at bs ≡ encode_utf8 c ++ drop (at + len_utf8 c) bs) × (at + len_utf8 c ≤ length bs)
  char_there = first_char bs at u (omega (arith, within))

  abbrev pub the_char : ℕ
  the_char = char_there.0

  pub char_is : drop at bs ≡ encode_utf8 the_char ++ drop (at + len_utf8 the_char) bs
  char_is = char_there.1

  char_byte : (j : ℕ) → j < length (encode_utf8 the_char) → get_or bs (at + j) 0 ≡ get_or (encode_utf8 the_char) j 0
  char_byte j m =
      sym (get_or-drop at bs j 0) ∙ (ap (λ v. get_or v j 0) char_is ∙ get_or_append_left (encode_utf8 the_char) (drop (at + len_utf8 the_char) bs) 0 j m)

  -- it begins with the byte there
  pub char_lead : get_or (encode_utf8 the_char) 0 0 ≡ get_or bs at 0
  char_lead =
      let size = length-encode the_char in
      let bound = len_utf8_bounds the_char in
      sym (char_byte 0 (omega (arith, size, bound))) ∙ ap (λ y. get_or bs y 0) (let z : at + 0 ≡ at = omega arith in z)

  -- and is whole
  pub char_whole : at + len_utf8 the_char ≤ end
  char_whole =
      let c = the_char in
      let size = length-encode c in
      let bound = len_utf8_bounds c in
      ⊎_elim
      (λ (a : c < 128). let len : length (encode_utf8 c) ≡ 1 = ap length (encode_ascii c a) in let b = before in omega (arith, len, size))
      (λ a. ⊎_elim
      (λ (q : end < at + len_utf8 c).
      let b = before in
      let back : at + (end - at) ≡ end = omega arith in
      let inside : end - at < length (encode_utf8 c) = omega (arith, size) in
      let there = char_byte (end - at) inside in
      let wide = high-encode c a (end - at) inside in
      let here = high-encode c a 0 (omega (arith, size, bound)) in
      let ends = low (omega (arith, here, char_lead)) (let y = char_there.2 in omega arith) in
      absurd (omega (arith, there, wide, ends, ap (λ y. get_or bs y 0) back)))
      (λ q. q)
      (cases_lt end (at + len_utf8 c)))
      (cases_lt c 128)

-- a front that was found last replaces one that was found before it
pub with_length-again : (m n : ℕ) (k : Option Kind) (b : Option (ℕ × Kind)) → with_length m k b ≡ with_length m k (with_length n k b)
with_length-again m n None b = refl
with_length-again m n (Some x) b = refl

-- The states over such a run.
module _ (d : Dialect) (bs : List ℕ) (at end : ℕ) (s : State) (k : Option Kind) (b : Option (ℕ × Kind))
    (ek : k ≡ only_long (three_quotes d (chars bs)) (kind_at s)) (h : Stays s bs at end) where
  abbrev Here : ℕ → Type 0
  Here x = Reached d bs x s (with_length x k b)

  -- over one character
  one_on : (x : ℕ) → at ≤ x → x < end → Here x → (y : ℕ) × (x < y) × (y ≤ end) × Here y
  one_on x from l r =
      let u = r.here.utf8 in
      let low = λ (a : 128 ≤ get_or bs x 0) (inside : end < length bs). h.whole x from l a inside in
      let c = the_char bs x end h.within low l u in
      let whole = char_whole bs x end h.within low l u in
      let bound = len_utf8_bounds c in (
        x + len_utf8 c,
        omega (arith, bound),
        whole,
        reached-step d bs x (x + len_utf8 c) c s s k (with_length x k b) (with_length (x + len_utf8 c) k b) r
            (char_is bs x end h.within low l u) refl (omega (arith, whole, h.within))
            (sym (h.stays d x c from l (char_lead bs x end h.within low l u))) ek (with_length-again (x + len_utf8 c) x k b),
      )

  on : (fuel x : ℕ) → at ≤ x → x ≤ end → end ≤ x + fuel → Here x → Here end
  on zero x from to f r = subst Here (let e : x ≡ end = omega arith in e) r
  on (suc fuel) x from to f r = ⊎_elim
      (λ (l : x < end). let n = one_on x from l r in on fuel n.0 (let m = n.1 in omega arith) n.2 (let m = n.1 in omega arith) n.3)
      (λ l. subst Here (let e : x ≡ end = omega arith in e) r)
      (cases_lt x end)

  stays-reached : Here at → Here end
  stays-reached r = let f = h.from in on (end - at) at (omega arith) f (omega arith) r

-- a run that leaves the state as it is leads back to it
stays-rests : (s : State) (bs : List ℕ) (at end : ℕ) → Stays s bs at end → Rests s bs at end
stays-rests s bs at end h = record {
  from = h.from;
  within = h.within;
  on = λ d b r. stays-reached d bs at end s (kind_here d bs s) b refl h r;
}

-- so does one whose bytes pass a test
pub rests_run : (s : State) (p : ℕ → Bool) (bs : List ℕ) (at end : ℕ) → IsRun p bs at end → ((d : Dialect) (c : ℕ) → c < 128 → p c ≡ true → step d s c ≡ s) →
    ((d : Dialect) (c b : ℕ) → 128 ≤ c → 128 ≤ b → p b ≡ true → step d s c ≡ s) → ((b x : ℕ) → 128 ≤ b → p b ≡ true → p x ≡ false → x < 128) → Rests s bs at end
rests_run s p bs at end r low high ends = stays-rests s bs at end (stays_run s p bs at end r low high ends)

-- the states come over such bytes
pub reached-run : (d : Dialect) (bs : List ℕ) (at end : ℕ) (s : State) (k : Option Kind) (b : Option (ℕ × Kind)) → k ≡ kind_here d bs s → Rests s bs at end →
    Reached d bs at s (with_length at k b) → Reached d bs end s (with_length end k b)
reached-run d bs at end s k b e h r =
    subst (λ k. Reached d bs end s (with_length end k b)) (sym e) (h.on d b (subst (λ k. Reached d bs at s (with_length at k b)) e r))

-- two of them in a row
pub rests-more : (s : State) (bs : List ℕ) (at mid end : ℕ) → Rests s bs at mid → Rests s bs mid end → Rests s bs at end
rests-more s bs at mid end a b = record {
  from = omega (arith, a.from, b.from);
  within = b.within;
  on = λ d o r. b.on d o (a.on d o r);
}
