-- What the steps of a scanner read.
use Rattle.rdf_tokens.proofs.Prelude.{Option, Some, None, ◌≡◌, ℕ, suc, ◌≤◌, Bool, true, false, cond, List, [], ◌∷◌, ◌++◌, ◌==◌, inl, inr, refl, sym, ap, ◌∙◌, subst, append_assoc, length, take, drop, arith, length-drop, length-append, encode_utf8, encode_utf8_all, length-encode, len_utf8_bounds, append-nil, take_all, take-append-drop, cond-false, Dialect, Kind, Place, past, Tail, Outcome, Token, Reading, is_empty, blank, rest_of, tokens, with_token, with_tokens, end_tokens, stop_place, mark, tokens_at, tokens_of, Unread, HasScanned, MovesBytes, BeginsChar, tail_now, MayCome, moved, Stands, Moves, bytes_of, comment_step, comment_after}
use Rattle.rdf_tokens.specs.Tokens.{place_of, step}
use Rattle.rdf_tokens.specs.Tokens.Tail.{goes_on}
use Rattle.rdf_tokens.specs.Tokens.Step.{token, stop}
use Rattle.rdf_tokens.proofs.BlankLemmas.{blank_by, comment_by, blank-step, comment-step, tokens-blank, tokens-rest, rest-blank}
use Rattle.rdf_tokens.proofs.TokensLemmas.{at_stop, at_token, more_token}
use Rattle.rdf_tokens.proofs.ReadLemmas.{read_now}

-- one move after another
pub moves_both : (a b c : Unread) (ts us : List Token) → Moves a ts b → Moves b us c → Moves a (ts ++ us) c
moves_both a b c ts us m n = joined b.place b.begun b.comment b.text (subst (Moves a ts) m.same m) (subst (λ b. Moves b us c) m.same n)
  where
    joined : (p : Place) (begun comment : Bool) (text : List ℕ) → Moves a ts (moved a p begun comment text) →
        Moves (moved a p begun comment text) us c → Moves a (ts ++ us) c
    joined p begun comment text m n = record {
      same = n.same;
      less = let x = m.less in let y = n.less in omega arith;
      on = λ t x may. m.on t x may
          ∙ (ap (with_tokens ts) (n.on t x may)
          ∙ ap (λ us. record {
            tokens = us;
            outcome = (tokens_at a.dialect a.limit t c.begun c.comment c.place (c.text ++ x)).outcome;
            at = (tokens_at a.dialect a.limit t c.begun c.comment c.place (c.text ++ x)).at;
          })
          (sym (append_assoc ts us (tokens_at a.dialect a.limit t c.begun c.comment c.place (c.text ++ x)).tokens)));
    }

-- the tail while bytes may come
open_tail : (v : Unread) → v.broken ≡ false → v.ended ≡ false → tail_now v ≡ goes_on
open_tail v b e = cond-false _ _ _ b ∙ cond-false _ _ _ e

-- a byte order mark is part of the text
pub mark_within : (w : List ℕ) → mark w ≤ length w
mark_within [] = omega arith
mark_within (c ∷ w) = by_test (c == 0xFEFF)
  where
    by_test : (b : Bool) → cond b 1 0 ≤ length (c ∷ w)
    by_test true = omega arith
    by_test false = omega arith

-- white space and comments
blank_within : (d : Dialect) (b : Bool) (w : List ℕ) → blank d b w ≤ length w
blank_within d b [] = omega arith
blank_within d b (c ∷ w) = subst (λ n. n ≤ length (c ∷ w)) (sym (blank-step d b c w)) (go (comment_step d b c) (λ b. blank_within d b w))
  where
    go : (o : Option Bool) → ((b : Bool) → blank d b w ≤ length w) → blank_by d o w ≤ suc (length w)
    go None h = omega arith
    go (Some b) h = let l = h b in omega arith

-- where something is left after white space and comments, no comment is open
comment-rest : (d : Dialect) (b : Bool) (w : List ℕ) → is_empty (rest_of d b w) ≡ false → comment_after d b w ≡ false
comment-rest d b [] e = let h : true ≡ false = e in cc
comment-rest d b (c ∷ w) e = comment-step d b c w ∙ go (comment_step d b c)
    (subst (λ n. is_empty (drop n (c ∷ w)) ≡ false) (blank-step d b c w) e) (λ b h. comment-rest d b w h)
  where
    go : (o : Option Bool) → is_empty (drop (blank_by d o w) (c ∷ w)) ≡ false →
        ((b : Bool) → is_empty (rest_of d b w) ≡ false → comment_after d b w ≡ false) → comment_by d o w ≡ false
    go None e h = refl
    go (Some b) e h = h b e

-- the reader stands after them
abbrev pub bared : Unread → Unread
bared v = moved v (past v.place (take (blank v.dialect v.comment v.text) v.text)) true (comment_after v.dialect v.comment v.text)
    (rest_of v.dialect v.comment v.text)

-- a text that tests as empty is empty
empty_is : (w : List ℕ) → is_empty w ≡ true → w ≡ []
empty_is [] e = refl
empty_is (c ∷ w) e = let h : false ≡ true = e in cc

module _ (v : Unread) where
  n : ℕ
  n = blank v.dialect v.comment v.text

  all_blank : is_empty (rest_of v.dialect v.comment v.text) ≡ true → n ≡ length v.text
  unfolding n
  all_blank e =
      let r : length (rest_of v.dialect v.comment v.text) ≡ 0 = ap length (empty_is (rest_of v.dialect v.comment v.text) e) in
      let l = blank_within v.dialect v.comment v.text in
      omega (arith, length-drop (blank v.dialect v.comment v.text) v.text)

  pub stands_bared : Stands (bared v)
  unfolding n
  stands_bared = record { begun = refl; bare = at (is_empty (rest_of v.dialect v.comment v.text)) refl }
    where
      rest : List ℕ
      rest = rest_of v.dialect v.comment v.text

      at : (b : Bool) → is_empty rest ≡ b → blank v.dialect (comment_after v.dialect v.comment v.text) rest ≡ 0
      at true e = ap (blank v.dialect (comment_after v.dialect v.comment v.text)) (empty_is rest e)
      at false e =
          ap (λ b. blank v.dialect b rest) (comment-rest v.dialect v.comment v.text e)
          ∙ (ap (blank v.dialect false) (sym (append-nil rest)) ∙ rest-blank v.dialect v.comment v.text [] e)

  pub moves_bared : v.begun ≡ true → Moves v [] (bared v)
  unfolding n
  moves_bared b = record {
    same = refl;
    less = omega (arith, length-drop n v.text);
    on = λ t x m. ap (λ b. tokens_at v.dialect v.limit t b v.comment v.place (v.text ++ x)) b ∙ at (is_empty rest) refl t x;
  }
    where
      rest : List ℕ
      rest = rest_of v.dialect v.comment v.text

      at : (b : Bool) → is_empty rest ≡ b → (t : Tail) (x : List ℕ) → tokens v.dialect v.limit t v.comment v.place (v.text ++ x)
          ≡ tokens v.dialect v.limit t (comment_after v.dialect v.comment v.text) (past v.place (take n v.text)) (rest ++ x)
      at true e t x =
          let l = all_blank e in
          tokens-blank v.dialect v.limit t v.comment v.place v.text x l
          ∙ (ap (λ w. tokens v.dialect v.limit t (comment_after v.dialect v.comment v.text) (past v.place w) x) (sym (take_all n v.text (omega arith)))
          ∙ ap (λ w. tokens v.dialect v.limit t (comment_after v.dialect v.comment v.text) (past v.place (take n v.text)) (w ++ x)) (sym (empty_is rest e)))
      at false e t x =
          tokens-rest v.dialect v.limit t v.comment v.place v.text x e
          ∙ ap (λ b. tokens v.dialect v.limit t b (past v.place (take n v.text)) (rest ++ x)) (sym (comment-rest v.dialect v.comment v.text e))

-- the same by bytes
pub bared_is : (v new : Unread) (rest : List ℕ) (len : ℕ) (comment : Bool) →
    ((n : ℕ) → len ≡ bytes_of n v.text → new ≡ moved v (past v.place (take n v.text)) v.begun comment (drop n v.text)) → rest ≡ v.text → v.begun ≡ true →
    len ≡ bytes_of (blank v.dialect v.comment rest) rest → comment ≡ comment_after v.dialect v.comment rest → new ≡ bared v
bared_is v new rest len comment h r b l k =
    let n : ℕ = blank v.dialect v.comment v.text in
    h n (l ∙ ap (λ w. bytes_of (blank v.dialect v.comment w) w) r)
    ∙ (ap (λ b. moved v (past v.place (take n v.text)) b comment (drop n v.text)) b
    ∙ ap (λ k. moved v (past v.place (take n v.text)) true k (drop n v.text)) (k ∙ ap (comment_after v.dialect v.comment) r))

-- the same where so many bytes of it stand there, and a comment is open as it was, or none
pub one_bared : {len : ℕ} {open_as : Bool} (v new : Unread) (rest : List ℕ) → MovesBytes v len new → rest ≡ v.text →
    v.begun ≡ true → v.comment ≡ open_as → bytes_of (blank v.dialect open_as rest) rest ≡ len → comment_after v.dialect open_as rest ≡ open_as → new ≡ bared v
one_bared {len} v new rest h r b c l k =
    bared_is v new rest len v.comment h r b (sym l ∙ ap (λ k. bytes_of (blank v.dialect k rest) rest) (sym c))
    (c ∙ (sym k ∙ ap (λ k. comment_after v.dialect k rest) (sym c)))

-- where no white space comes first
module _ (v : Unread) (s : Stands v) where
  rest : rest_of v.dialect v.comment v.text ≡ v.text
  rest = ap (λ n. drop n v.text) s.bare

  place : place_of v.dialect v.comment v.place v.text ≡ v.place
  place = ap (λ n. past v.place (take n v.text)) s.bare

  -- a token is read
  pub moves_token : (n : ℕ) (k : Kind) → step v.dialect v.limit (tail_now v) v.text ≡ token n k →
      Moves v (record { kind = k; text = take n v.text; at = v.place } ∷ []) (moved v (past v.place (take n v.text)) true false (drop n v.text))
  moves_token n k e = record {
    same = refl;
    less = omega (arith, length-drop n v.text);
    on = λ t x m. ap (λ b. tokens_at v.dialect v.limit t b v.comment v.place (v.text ++ x)) s.begun ∙ read t x m;
  }
    where
      after : Tail → List ℕ → Place → List ℕ → Reading
      after t x p w = with_token (record { kind = k; text = take n w; at = p }) (tokens v.dialect v.limit t false (past p (take n w)) (drop n w ++ x))

      there : (t : Tail) (x : List ℕ) → after t x (place_of v.dialect v.comment v.place v.text) (rest_of v.dialect v.comment v.text) ≡ after t x v.place v.text
      there t x = ap (λ p. after t x p (rest_of v.dialect v.comment v.text)) place ∙ ap (after t x v.place) rest

      read : (t : Tail) (x : List ℕ) → MayCome v t x → tokens v.dialect v.limit t v.comment v.place (v.text ++ x) ≡ after t x v.place v.text
      read t x (inr m) =
          more_token v.dialect v.limit v.comment v.place v.text n k
          (ap (step v.dialect v.limit goes_on) rest ∙ (ap (λ t. step v.dialect v.limit t v.text) (sym (open_tail v m.0 m.1)) ∙ e)) t x
          ∙ there t x
      read t x (inl m) =
          ap (tokens v.dialect v.limit t v.comment v.place) (ap (λ x. v.text ++ x) m.1 ∙ append-nil v.text)
          ∙ (at_token v.dialect v.limit t v.comment v.place v.text n k
          (ap (step v.dialect v.limit t) rest ∙ (ap (λ t. step v.dialect v.limit t v.text) m.0 ∙ e))
          ∙ (ap (λ w. with_token (record { kind = k; text = take n (rest_of v.dialect v.comment v.text); at = place_of v.dialect v.comment v.place v.text })
          (tokens v.dialect v.limit t false (past (place_of v.dialect v.comment v.place v.text) (take n (rest_of v.dialect v.comment v.text))) w))
          (sym (ap (λ x. drop n (rest_of v.dialect v.comment v.text) ++ x) m.1 ∙ append-nil (drop n (rest_of v.dialect v.comment v.text))))
          ∙ there t x))

  -- there is no next token
  pub read_stop : (bytes : List ℕ) (ts : List Token) (o : Outcome) → v.stopped ≡ false → BeginsChar v.pending → HasScanned v bytes ts →
      step v.dialect v.limit (tail_now v) v.text ≡ stop o →
      tokens_of v.dialect v.limit bytes v.ended ≡ record { tokens = ts ++ end_tokens o v.place; outcome = o; at = stop_place o v.place v.text }
  read_stop bytes ts o p b r e =
      read_now v bytes ts p b r
      ∙ (ap (λ b. with_tokens ts (tokens_at v.dialect v.limit (tail_now v) b v.comment v.place v.text)) s.begun
      ∙ (ap (with_tokens ts) (at_stop v.dialect v.limit (tail_now v) v.comment v.place v.text o (ap (step v.dialect v.limit (tail_now v)) rest ∙ e))
      ∙ (ap (λ q. record { tokens = ts ++ end_tokens o q; outcome = o; at = stop_place o q (rest_of v.dialect v.comment v.text) }) place
      ∙ ap (λ w. record { tokens = ts ++ end_tokens o v.place; outcome = o; at = stop_place o v.place w }) rest)))

-- no bytes are those of no characters
none_taken : (u : List ℕ) → length (encode_utf8_all u) ≡ 0 → u ≡ []
none_taken [] e = refl
none_taken (c ∷ u) e = absurd (omega (arith, e, length-append (encode_utf8 c) (encode_utf8_all u), length-encode c, len_utf8_bounds c))

-- to move over no characters is to stay
pub moved-none : (v : Unread) (n : ℕ) → bytes_of n v.text ≡ 0 → v ≡ moved v (past v.place (take n v.text)) v.begun v.comment (drop n v.text)
moved-none v n e =
    let none : take n v.text ≡ [] = none_taken (take n v.text) e in
    let all : drop n v.text ≡ v.text = sym (ap (λ x. x ++ drop n v.text) none) ∙ take-append-drop n v.text in
    sym (ap (λ u. moved v (past v.place u) v.begun v.comment (drop n v.text)) none ∙ ap (moved v v.place v.begun v.comment) all)
