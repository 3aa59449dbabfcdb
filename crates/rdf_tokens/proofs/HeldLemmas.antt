-- What holds of a scanner's fields where a piece comes.
use Rattle.rdf_tokens.proofs.Prelude.{take, ◌≡◌, ℕ, ◌+◌, ◌-◌, ◌≤◌, Bool, true, false, cond, List, [], ◌++◌, ◌==◌, refl, sym, ap, ◌∙◌, subst, Option, Some, None, is_some, length, drop, arith, length-append, length-drop, cond-true, cond-false, take-append-drop, length-take-le, drop-drop, count_by-le-length, encode_utf8_all, encodes-chars, IsCharBoundary-start, IsUtf8-drop, IsCharBoundary-from_drop, chars-append, utf8_valid_len_le, count_by, chars, IsUtf8, IsCharBoundary, utf8_valid_len, utf8_error_len, bytes_of, Dialect, Place, past, blank, good, BeginsChar, beyond, good_bytes, rest_of_bytes, is_broken, Held, all_bytes, most_bytes}
use Rattle.rdf_tokens.proofs.GoodLemmas.{good_front}
use Rattle.rdf_tokens.proofs.BlankLemmas.{blank-bytes}
use Rattle.rdf_tokens.proofs.CutLemmas.{Cut, cut}
use Rattle.rdf_tokens.proofs.PlaceLemmas.{feeds-chars, past-chars}
use Rattle.rdf_tokens.proofs.PastGood.{valid_past}
use Rattle.rdf_tokens.proofs.ReadLemmas.{begins_nil}

-- what is left after the good text begins a character
begins_rest : (bytes : List ℕ) → is_broken bytes ≡ false → BeginsChar (rest_of_bytes bytes)
begins_rest bytes b =
    let whole : good_bytes bytes ++ rest_of_bytes bytes ≡ bytes = take-append-drop (utf8_valid_len bytes) bytes in
    let v = valid_past (good_bytes bytes) (rest_of_bytes bytes) (good_front bytes) in
    let n : length (good_bytes bytes) ≡ utf8_valid_len bytes = length-take-le (utf8_valid_len bytes) bytes (utf8_valid_len_le bytes) in
    let e : utf8_valid_len (good_bytes bytes ++ rest_of_bytes bytes) ≡ utf8_valid_len bytes = ap utf8_valid_len whole in
    record { none_whole = omega arith; may_come = none (utf8_error_len (rest_of_bytes bytes)) b }
  where
    none : (o : Option ℕ) → is_some o ≡ false → o ≡ None
    none None e = refl
    none (Some n) e = let h : true ≡ false = e in cc

-- the bytes that a scanner keeps begin a character that has not come whole
pub begins_kept : (bytes pending : List ℕ) → pending ≡ cond (is_broken bytes) [] (rest_of_bytes bytes) → BeginsChar pending
begins_kept bytes pending e = at (is_broken bytes) refl
  where
    at : (b : Bool) → is_broken bytes ≡ b → BeginsChar pending
    at true x = subst BeginsChar (sym (e ∙ cond-true _ _ _ x)) begins_nil
    at false x = subst BeginsChar (sym (e ∙ cond-false _ _ _ x)) (begins_rest bytes x)

-- what is kept is no more than what came
kept_within : (bytes pending : List ℕ) → pending ≡ cond (is_broken bytes) [] (rest_of_bytes bytes) → length (good_bytes bytes) + length pending ≤ length bytes
kept_within bytes pending e = at (is_broken bytes) refl
  where
    n : length (good_bytes bytes) ≡ utf8_valid_len bytes
    n = length-take-le (utf8_valid_len bytes) bytes (utf8_valid_len_le bytes)

    at : (b : Bool) → is_broken bytes ≡ b → length (good_bytes bytes) + length pending ≤ length bytes
    at true x = let l = utf8_valid_len_le bytes in let k : length pending ≡ 0 = ap length (e ∙ cond-true _ _ _ x) in omega (arith, n)
    at false x =
        let l = utf8_valid_len_le bytes in
        let k : length pending ≡ length (rest_of_bytes bytes) = ap length (e ∙ cond-false _ _ _ x) in
        omega (arith, n, length-drop (utf8_valid_len bytes) bytes)

-- a piece after bad bytes is only counted
pub held_counted : (text : List ℕ) (start : ℕ) (pending piece : List ℕ) (place taken : Place) → Held text start pending place taken →
    taken.offset + length piece ≤ most_bytes → Held text start pending place (beyond taken piece)
held_counted text start pending piece place taken h m =
    let l = count_by-le-length (λ b. b == 10) piece in
    let w = h.within in
    let a = h.last in
    record { boundary = h.boundary; begins = h.begins; within = omega arith; most = m; lines = h.lines; last = omega arith }

-- what always holds of the fields holds after a piece was appended
pub held_grown : (text new : List ℕ) (start : ℕ) (pending kept piece : List ℕ) (place taken : Place) → Held text start pending place taken →
    taken.offset + length piece ≤ most_bytes → IsUtf8 new → new ≡ drop start text ++ good_bytes (pending ++ piece) →
    kept ≡ cond (is_broken (pending ++ piece)) [] (rest_of_bytes (pending ++ piece)) → Held new 0 kept place (beyond taken piece)
held_grown text new start pending kept piece place taken h m u e k =
    let l = count_by-le-length (λ b. b == 10) piece in
    let w = h.within in
    let a = h.last in
    let n : length new ≡ length (drop start text) + length (good_bytes (pending ++ piece)) =
    ap length e ∙ length-append (drop start text) (good_bytes (pending ++ piece)) in
    let g = kept_within (pending ++ piece) kept k in
    record {
      boundary = IsCharBoundary-start new u;
      begins = begins_kept (pending ++ piece) kept k;
      within = omega (arith, n, length-drop start text, length-append pending piece);
      most = m;
      lines = h.lines;
      last = omega arith;
    }

-- the characters of the text after a piece are those that were left and the good ones of the piece
pub text_grown : (text new : List ℕ) (start : ℕ) (pending piece : List ℕ) (place taken : Place) → Held text start pending place taken → IsUtf8 text →
    new ≡ drop start text ++ good_bytes (pending ++ piece) → chars new ≡ chars (drop start text) ++ good (pending ++ piece)
text_grown text new start pending piece place taken h u e =
    ap chars e ∙ chars-append (drop start text) (good_bytes (pending ++ piece)) (IsUtf8-drop text start u h.boundary)

-- how many bytes are held then
pub bounded_grown : (text new : List ℕ) (start : ℕ) (pending kept piece : List ℕ) (most : ℕ) → new ≡ drop start text ++ good_bytes (pending ++ piece) →
    kept ≡ cond (is_broken (pending ++ piece)) [] (rest_of_bytes (pending ++ piece)) → length text - start + length pending + length piece ≤ most →
    all_bytes new kept ≤ most
bounded_grown text new start pending kept piece most e k l =
    let n : length new ≡ length (drop start text) + length (good_bytes (pending ++ piece)) =
    ap length e ∙ length-append (drop start text) (good_bytes (pending ++ piece)) in
    let g = kept_within (pending ++ piece) kept k in
    omega (arith, n, length-drop start text, length-append pending piece)

-- the reader moves on over some bytes
module _ (text : List ℕ) (start n len : ℕ) (pending : List ℕ) (place taken : Place) (h : Held text start pending place taken) (u : IsUtf8 text)
    (e : len ≡ bytes_of n (chars (drop start text))) where
  the_cut : Cut (drop start text) n len
  the_cut = cut (drop start text) n len (IsUtf8-drop text start u h.boundary) e

  pub advance_within : start + len ≤ length text
  advance_within = let c = the_cut in let w = c.within in let b = h.boundary.0 in omega (arith, length-drop start text)

  pub text_advanced : chars (drop (start + len) text) ≡ drop n (chars (drop start text))
  text_advanced = ap chars (sym (drop-drop len start text)) ∙ (the_cut).rest

  pub boundary_advanced : IsCharBoundary text (start + len)
  boundary_advanced = let c = the_cut in IsCharBoundary-from_drop text (start + len) advance_within (subst IsUtf8 (drop-drop len start text) c.rest_utf8)

  front : take (start + len - start) (drop start text) ≡ take len (drop start text)
  front = let e : start + len - start ≡ len = omega arith in ap (λ k. take k (drop start text)) e

  pub front_advanced : chars (take (start + len - start) (drop start text)) ≡ take n (chars (drop start text))
  front_advanced = let c = the_cut in ap chars front ∙ c.front

  -- the line feeds among the characters are those among the bytes
  pub feeds_advanced : count_by (λ b. b == 10) (take (start + len - start) (drop start text)) ≡ count_by (λ c. c == 10) (take n (chars (drop start text)))
  feeds_advanced = let c = the_cut in
      ap (count_by (λ b. b == 10)) front ∙ (feeds-chars (take len (drop start text)) c.front_utf8 ∙ ap (count_by (λ b. b == 10)) c.front)

  module _ (feeds : ℕ) (f : feeds ≡ count_by (λ b. b == 10) (take (start + len - start) (drop start text))) where
    pub place_advanced : (let q : Place = record { offset = place.offset + len; line = place.line + feeds } in q) ≡ past place
        (take n (chars (drop start text)))
    place_advanced =
        let c = the_cut in
        let size : length (take len (drop start text)) ≡ len = length-take-le len (drop start text) c.within in
        let lines : feeds ≡ count_by (λ b. b == 10) (take len (drop start text)) = f ∙ ap (count_by (λ b. b == 10)) front in
        let same : (let q : Place = record { offset = place.offset + len; line = place.line + feeds } in q) ≡ beyond place
        (take len (drop start text)) = at_place (sym size) lines in
        same ∙ (sym (past-chars place (take len (drop start text)) c.front_utf8) ∙ ap (past place) c.front)
      where
        at_place : {m k l : ℕ} → len ≡ m → k ≡ l → (let q : Place = record { offset = place.offset + len; line = place.line + k } in q)
            ≡ record { offset = place.offset + m; line = place.line + l }
        at_place a b = cc

    pub held_advanced : Held text (start + len) pending (record { offset = place.offset + len; line = place.line + feeds }) taken
    held_advanced =
        let c = the_cut in
        let size : length (take len (drop start text)) ≡ len = length-take-le len (drop start text) c.within in
        let lines : feeds ≡ count_by (λ b. b == 10) (take len (drop start text)) = f ∙ ap (count_by (λ b. b == 10)) front in
        let few = count_by-le-length (λ b. b == 10) (take len (drop start text)) in
        let w = advance_within in
        let a = h.within in
        let b = h.lines in
        record {
          boundary = boundary_advanced;
          begins = h.begins;
          within = omega arith;
          most = h.most;
          lines = omega arith;
          last = h.last;
        }

-- the line feeds in white space and comments of so many bytes
pub blank_feeds : {n : ℕ} (d : Dialect) (b : Bool) (bs : List ℕ) → IsUtf8 bs → blank d b bs ≡ n →
    count_by (λ c. c == 10) (take (blank d b (chars bs)) (chars bs)) ≡ count_by (λ b. b == 10) (take n bs)
blank_feeds {n} d b bs u e =
    let c = cut bs (blank d b (chars bs)) n u (sym e ∙ blank-bytes d b bs u) in
    sym (feeds-chars (take n bs) c.front_utf8 ∙ ap (count_by (λ b. b == 10)) c.front)

-- the place after all of the text
pub place_after : (text : List ℕ) (start : ℕ) (pending : List ℕ) (place taken : Place) → Held text start pending place taken → IsUtf8 text →
    beyond place (drop start text) ≡ past place (chars (drop start text))
place_after text start pending place taken h u = sym (past-chars place (drop start text) (IsUtf8-drop text start u h.boundary))

-- how many bytes the rest of the text has, by its characters
pub size_of_rest : (text : List ℕ) (start : ℕ) → IsCharBoundary text start → IsUtf8 text →
    length text - start ≡ length (encode_utf8_all (chars (drop start text)))
size_of_rest text start b u = sym (ap length (encodes-chars (drop start text) (IsUtf8-drop text start u b)) ∙ length-drop start text)

pub unread_size : (text : List ℕ) (start : ℕ) (pending : List ℕ) → IsCharBoundary text start → IsUtf8 text →
    length (encode_utf8_all (chars (drop start text))) + length pending ≡ length text - start + length pending
unread_size text start pending b u = sym (ap (λ n. n + length pending) (size_of_rest text start b u))
