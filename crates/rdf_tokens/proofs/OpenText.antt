-- What leaves the next token open is held.
use Rattle.rdf_tokens.proofs.Prelude.{◌≡◌, ℕ, zero, suc, ◌+◌, ◌<◌, ◌≤◌, Bool, true, false, cond, List, [], ◌∷◌, ◌++◌, ◌||◌, ◌==◌, refl, sym, ap, ◌∙◌, subst, ⊎_elim, is_some, length, take, drop, length-drop, arith, length-append, cond-false, cases_Bool, cases_lt, ne_eqb, false≢true, append-nil, take_all, take-append-le, take-append-drop, length-take-le, encodes-append, encodes-chars, utf8_valid_len_le, get_or-append_seam, encodes, chars, IsUtf8, utf8_valid_len, utf8_error_len, Dialect, Kind, utf8_bytes, Place, past, Tail, Outcome, Reading, Step, blank, is_empty, over, by_tail, rest_of, tokens, with_token, with_tokens, end_tokens, stop_place, broken, undecided, complete, token_too_long, bad_utf8, no_token, bad_escape, is_live, first_place, good, mark, tail_of, tokens_at, tokens_of, is_broken, Unread, Reads, reading_by, unread_bytes, EndsFor, OpenTextIsPending}
use Rattle.rdf_tokens.specs.Tokens.{step, place_of}
use Rattle.rdf_tokens.specs.Tokens.Tail.{goes_on}
use Rattle.rdf_tokens.specs.Tokens.Step.{token, stop}
use Rattle.rdf_tokens.specs.Scans.{reading_of}
use Rattle.rdf_tokens.proofs.GoodLemmas.{at_least, good_front, valid_more}
use Rattle.rdf_tokens.proofs.PastGood.{tail_broken}
use Rattle.rdf_tokens.proofs.PlaceLemmas.{past-encodes}
use Rattle.rdf_tokens.proofs.TokensLemmas.{at_stop, at_token, shorter}
use Rattle.rdf_tokens.proofs.NextLemmas.{left_open}
use Rattle.rdf_tokens.proofs.LawLemmas.{by_steps, tokens_of-tokens}
use Rattle.rdf_tokens.proofs.OutcomeLemmas.{reasons}

-- what waits for more bytes is bad UTF-8 where bytes come that are no character
step_bad : (d : Dialect) (limit : ℕ) (w : List ℕ) → step d limit goes_on w ≡ stop undecided → step d limit broken w ≡ stop bad_utf8
unfolding step
step_bad d limit w e = let h = left_open d limit goes_on w e in cond-false _ _ _ h.within ∙ ap (by_tail d broken w) h.begins

-- a token that more bytes do not change is a token before bytes that are no character too
step_same : (d : Dialect) (limit : ℕ) (w : List ℕ) (n : ℕ) (k : Kind) → step d limit goes_on w ≡ token n k → step d limit broken w ≡ token n k
unfolding step
step_same d limit w n k e = go (over d limit w) (is_empty w || is_live d w) e
  where
    go : (a b : Bool) → cond a (stop token_too_long) (by_tail d goes_on w b) ≡ token n k → cond a (stop token_too_long) (by_tail d broken w b) ≡ token n k
    go true b e = e
    go false true e = absurd (let z : stop undecided ≡ token n k = e in cc)
    go false false e = e

-- a text that waits for more bytes ends in bad UTF-8 where bytes come that are no character
ends_bad : (f : ℕ) (d : Dialect) (limit : ℕ) (b : Bool) (p : Place) (w : List ℕ) → length w < f → (tokens d limit goes_on b p w).outcome ≡ undecided →
    (tokens d limit broken b p w).outcome ≡ bad_utf8
ends_bad zero d limit b p w l e = absurd (omega arith)
ends_bad (suc f) d limit b p w l e = at (step d limit goes_on (rest_of d b w)) refl (λ q v m h. ends_bad f d limit false q v m h)
  where
    at : (s : Step) → step d limit goes_on (rest_of d b w) ≡ s →
        ((q : Place) (v : List ℕ) → length v < f → (tokens d limit goes_on false q v).outcome ≡ undecided →
        (tokens d limit broken false q v).outcome ≡ bad_utf8) →
        (tokens d limit broken b p w).outcome ≡ bad_utf8
    at (token n k) s ih =
        let r = rest_of d b w in
        let m = shorter d limit goes_on b w n k s in
        ap (λ x. x.outcome) (at_token d limit broken b p w n k (step_same d limit r n k s))
        ∙ ih (past (place_of d b p w) (take n r)) (drop n r) (omega arith) (sym (ap (λ x. x.outcome) (at_token d limit goes_on b p w n k s)) ∙ e)
    at (stop o) s ih =
        let u : o ≡ undecided = sym (ap (λ x. x.outcome) (at_stop d limit goes_on b p w o s)) ∙ e in
        ap (λ x. x.outcome) (at_stop d limit broken b p w bad_utf8 (step_bad d limit (rest_of d b w) (s ∙ ap stop u)))

-- the place after a text is as many bytes on as its characters have
past_offset : (p : Place) (w : List ℕ) → (past p w).offset ≡ p.offset + length (encodes w)
past_offset p w = ap (λ q. q.offset) (past-encodes p w)

-- a text has the bytes of its first characters and of the others
bytes_split : (n : ℕ) (w : List ℕ) → length (encodes w) ≡ length (encodes (take n w)) + length (encodes (drop n w))
bytes_split n w =
    ap (λ x. length (encodes x)) (sym (take-append-drop n w))
    ∙ (ap length (encodes-append (take n w) (drop n w)) ∙ length-append (encodes (take n w)) (encodes (drop n w)))

-- a reading ends within its text
abbrev Within : Place → List ℕ → Reading → Type 0
Within p w r = (p.offset ≤ r.at.offset) × (r.at.offset ≤ p.offset + length (encodes w))

module _ (d : Dialect) (limit : ℕ) (t : Tail) where
  stops_within : (b : Bool) (p : Place) (w : List ℕ) (o : Outcome) → step d limit t (rest_of d b w) ≡ stop o →
      Within p w (record { tokens = end_tokens o (place_of d b p w); outcome = o; at = stop_place o (place_of d b p w) (rest_of d b w) })
  stops_within b p w o s = at o
    where
      n : ℕ
      n = blank d b w

      here : ((place_of d b p w).offset ≡ p.offset + length (encodes (take (blank d b w) w)))
          × (length (encodes w) ≡ length (encodes (take (blank d b w) w)) + length (encodes (rest_of d b w)))
      here = (past_offset p (take (blank d b w) w), bytes_split (blank d b w) w)

      at : (o : Outcome) → (p.offset ≤ (stop_place o (place_of d b p w) (rest_of d b w)).offset)
          × ((stop_place o (place_of d b p w) (rest_of d b w)).offset ≤ p.offset + length (encodes w))
      at bad_utf8 = let e = past_offset (place_of d b p w) (rest_of d b w) in let h = here in (omega (arith, h.0, h.1, e), omega (arith, h.0, h.1, e))
      at undecided = let h = here in (omega (arith, h.0, h.1), omega (arith, h.0, h.1))
      at complete = let h = here in (omega (arith, h.0, h.1), omega (arith, h.0, h.1))
      at token_too_long = let h = here in (omega (arith, h.0, h.1), omega (arith, h.0, h.1))
      at no_token = let h = here in (omega (arith, h.0, h.1), omega (arith, h.0, h.1))
      at bad_escape = let h = here in (omega (arith, h.0, h.1), omega (arith, h.0, h.1))

  takes_within : (b : Bool) (p : Place) (w : List ℕ) (n : ℕ) (k : Kind) (r : Reading) → step d limit t (rest_of d b w) ≡ token n k →
      Within (past (place_of d b p w) (take n (rest_of d b w))) (drop n (rest_of d b w)) r →
      Within p w (with_token (record { kind = k; text = take n (rest_of d b w); at = place_of d b p w }) r)
  takes_within b p w n k r s h =
      let a = past_offset p (take (blank d b w) w) in
      let z = past_offset (place_of d b p w) (take n (rest_of d b w)) in
      let x = bytes_split (blank d b w) w in
      let y = bytes_split n (rest_of d b w) in
      let u = h.0 in
      let v = h.1 in
      (omega (arith, a, z, x, y, u, v), omega (arith, a, z, x, y, u, v))

  within : (b : Bool) (p : Place) (w : List ℕ) → Within p w (tokens d limit t b p w)
  within b p w = by_steps d limit t Within stops_within takes_within b p w

  -- the same where a byte order mark may come first
  at_within : (begun comment : Bool) (p : Place) (w : List ℕ) → Within p w (tokens_at d limit t begun comment p w)
  at_within true comment p w = within comment p w
  at_within false comment p w =
      let h = within comment (past p (take (mark w) w)) (drop (mark w) w) in
      let a = past_offset p (take (mark w) w) in
      let x = bytes_split (mark w) w in
      let u = h.0 in
      let v = h.1 in
      (omega (arith, a, x, u, v), omega (arith, a, x, u, v))

-- a number that is no byte, and so ends each valid front
abbrev no_byte : List ℕ
no_byte = 256 ∷ []

-- the valid front ends before it
before_it : (x : List ℕ) → utf8_valid_len (x ++ no_byte) ≤ length x
before_it x = ⊎_elim (λ l. absurd (beyond l)) (λ l. l) (cases_lt (length x) (utf8_valid_len (x ++ no_byte)))
  where
    beyond : length x < utf8_valid_len (x ++ no_byte) → ⊥
    beyond l =
        let m = utf8_valid_len_le (x ++ no_byte) in
        let s = length-append x no_byte in
        let e : take (utf8_valid_len (x ++ no_byte)) (x ++ no_byte) ≡ x ++ no_byte =
        take_all (utf8_valid_len (x ++ no_byte)) (x ++ no_byte) (omega (arith, m, s, l)) in
        let b = utf8_bytes (x ++ no_byte) (subst IsUtf8 e (good_front (x ++ no_byte))) (length x) in
        let g = get_or-append_seam x 256 [] 0 in
        omega (arith, b, g)

-- and it adds nothing to the valid front
same_front : (x : List ℕ) → utf8_valid_len (x ++ no_byte) ≡ utf8_valid_len x
unfolding utf8_valid_len
same_front x =
    let n = utf8_valid_len (x ++ no_byte) in
    let l : n ≤ length x = before_it x in
    let u : IsUtf8 (take n x) = subst IsUtf8 (take-append-le n x no_byte l) (good_front (x ++ no_byte)) in
    let a = at_least x (length x) n l u in
    let b = valid_more x no_byte in
    omega (arith, a, b)

same_good : (x : List ℕ) → good (x ++ no_byte) ≡ good x
same_good x =
    ap (λ n. chars (take n (x ++ no_byte))) (same_front x) ∙ ap chars (take-append-le (utf8_valid_len x) x no_byte (utf8_valid_len_le x))

-- bytes come after it that are no character
bad_tail : (x : List ℕ) → tail_of (x ++ no_byte) true ≡ broken
bad_tail x =
    let l = before_it x in
    let s = length-append x no_byte in
    cond-false _ _ _ (ne_eqb (utf8_valid_len (x ++ no_byte)) (length (x ++ no_byte)) (λ e. absurd (omega (arith, l, s, e))))

-- the good text has as many bytes as the valid front
good_bytes : (x : List ℕ) → length (encodes (good x)) ≡ utf8_valid_len x
good_bytes x = ap length (encodes-chars (take (utf8_valid_len x) x) (good_front x)) ∙ length-take-le (utf8_valid_len x) x (utf8_valid_len_le x)

module _ (d : Dialect) (limit : ℕ) (bytes : List ℕ) where
  -- the text of the bytes, without a byte order mark, before a tail
  abbrev before : Tail → Reading
  before t = tokens d limit t false (past first_place (take (mark (good bytes)) (good bytes))) (drop (mark (good bytes)) (good bytes))

  -- before more comes, the tail is open
  waits : (tokens_of d limit bytes false).outcome ≡ undecided → tail_of bytes false ≡ goes_on
  waits o = ⊎_elim (λ b. absurd (bad b)) (λ b. whole b (utf8_valid_len bytes == length bytes)) (cases_Bool (is_broken bytes))
    where
      whole : is_broken bytes ≡ false → (k : Bool) →
          cond k goes_on (cond (is_some (utf8_error_len (drop (utf8_valid_len bytes) bytes))) broken goes_on) ≡ goes_on
      whole b true = refl
      whole b false = cond-false _ _ _ b

      bad : is_broken bytes ≡ true → ⊥
      bad b =
          let same : tokens_of d limit bytes true ≡ tokens_of d limit bytes false =
          tokens_of-tokens d limit bytes true
          ∙ (ap before (tail_broken bytes true b ∙ sym (tail_broken bytes false b)) ∙ sym (tokens_of-tokens d limit bytes false)) in
          let r = reasons d limit bytes true in
          false≢true (sym (subst (λ x. EndsFor d limit bytes true x (tokens_of d limit bytes true).at) (ap (λ x. x.outcome) same ∙ o) r).0)

  -- with what is no byte after them the bytes end in bad UTF-8, right after their good text
  ends_there : (tokens_of d limit bytes false).outcome ≡ undecided → (tokens_of d limit (bytes ++ no_byte) true).at.offset ≡ utf8_valid_len bytes
  ends_there o =
      let waiting : (before goes_on).outcome ≡ undecided =
      sym (ap (λ t. (before t).outcome) (waits o)) ∙ (sym (ap (λ x. x.outcome) (tokens_of-tokens d limit bytes false)) ∙ o) in
      let bad = ends_bad (suc (length (drop (mark (good bytes)) (good bytes)))) d limit false _ (drop (mark (good bytes)) (good bytes)) (omega arith) waiting in
      let same : tokens_of d limit (bytes ++ no_byte) true ≡ before broken =
      tokens_of-tokens d limit (bytes ++ no_byte) true
      ∙ (ap (λ t. tokens d limit t false (past first_place (take (mark (good (bytes ++ no_byte))) (good (bytes ++ no_byte))))
      (drop (mark (good (bytes ++ no_byte))) (good (bytes ++ no_byte)))) (bad_tail bytes)
      ∙ ap (λ g. tokens d limit broken false (past first_place (take (mark g) g)) (drop (mark g) g)) (same_good bytes)) in
      let r = reasons d limit (bytes ++ no_byte) true in
      (subst (λ x. EndsFor d limit (bytes ++ no_byte) true x (tokens_of d limit (bytes ++ no_byte) true).at)
      (ap (λ x. x.outcome) same ∙ bad) r).0 ∙ same_front bytes

-- what a scanner reads lies between its place and the end of what it holds
held_within : (v : Unread) → (reading_of v no_byte true).at.offset ≤ v.place.offset + unread_bytes v
held_within v = at v.broken
  where
    at : (b : Bool) → (reading_by b v no_byte true).at.offset ≤ v.place.offset + unread_bytes v
    at true = let h = (at_within v.dialect v.limit broken v.begun v.comment v.place v.text).1 in omega (arith, h)
    at false =
        let g = good (v.pending ++ no_byte) in
        let h = (at_within v.dialect v.limit (tail_of (v.pending ++ no_byte) true) v.begun v.comment v.place (v.text ++ g)).1 in
        let s = ap length (encodes-append v.text g) ∙ length-append (encodes v.text) (encodes g) in
        let b = good_bytes (v.pending ++ no_byte) in
        let l = before_it v.pending in
        omega (arith, h, s, b, l)

-- and it begins at its place
not_before : (v : Unread) → v.place.offset ≤ (reading_of v [] false).at.offset
not_before v = at v.broken
  where
    at : (b : Bool) → v.place.offset ≤ (reading_by b v [] false).at.offset
    at true = (at_within v.dialect v.limit broken v.begun v.comment v.place v.text).0
    at false = (at_within v.dialect v.limit (tail_of (v.pending ++ []) false) v.begun v.comment v.place (v.text ++ good (v.pending ++ []))).0

-- the text that leaves the next token open is held
pub open_text_pending : OpenTextIsPending
open_text_pending v bytes ts h s e o =
    let reads : (more : List ℕ) (e : Bool) → tokens_of v.dialect v.limit (bytes ++ more) e ≡ with_tokens ts (reading_of v more e) =
    subst (λ a. Reads false a v bytes ts) e (subst (λ a. Reads a v.ended v bytes ts) s h.reads) in
    let a : (tokens_of v.dialect v.limit bytes false).at.offset ≡ (reading_of v [] false).at.offset =
    ap (λ b. (tokens_of v.dialect v.limit b false).at.offset) (sym (append-nil bytes)) ∙ ap (λ r. r.at.offset) (reads [] false) in
    let z : utf8_valid_len bytes ≡ (reading_of v no_byte true).at.offset =
    sym (ends_there v.dialect v.limit bytes o) ∙ ap (λ r. r.at.offset) (reads no_byte true) in
    let n = not_before v in
    let w = held_within v in
    let l = length-drop (tokens_of v.dialect v.limit bytes false).at.offset (take (utf8_valid_len bytes) bytes) in
    let k = length-take-le (utf8_valid_len bytes) bytes (utf8_valid_len_le bytes) in
    omega (arith, a, z, n, w, l, k)
