-- White space and comments, a run at a time.
use Rattle.rdf_tokens.proofs.Prelude.{◌≡◌, ℕ, zero, suc, ◌+◌, ◌-◌, ◌<◌, ◌≤◌, Bool, true, false, cond, List, [], ◌∷◌, ◌&&◌, ◌==◌, not, refl, sym, ap, ◌∙◌, subst, length, get_or, nat_lt, take, drop, count_by, is_some, arith, lt-ltb, ⊎_elim, Option, Some, None, and_parts, cases_lt, eqb-true, false≢true, ltb-true, nat_tests, drop_more, drop_all, Dialect, Lines, Turtle, IsRun, PassBetween, is_comment_byte, is_line_end, is_space, blank, comment_after, comment_step, is_bare, is_cut, is_hash, stands_at}
use Rattle.memchr.specs.Find.{IsFirstByte, is_byte2}
use Rattle.rdf_terms.specs.Runs.{is_space as is_space_byte}
use Rattle.rdf_tokens.specs.Blank.{goes_on}
use Rattle.rdf_tokens.proofs.BlankLemmas.{blank_by, blank-step, comment_by, comment-step}
use Rattle.rdf_tokens.proofs.PlaceLemmas.{feeds-append}

-- A text begins with so many characters of white space and comments. What comes after them is taken on as if a comment were open there, or none.
pub record Goes (d : Dialect) (b : Bool) (w : List ℕ) (n : ℕ) (b' : Bool) (v : List ℕ) : Type 0 where
  pub len : blank d b w ≡ n + blank d b' v
  pub comment : comment_after d b w ≡ comment_after d b' v

-- one front and then another are a front
and_then : (d : Dialect) (b b' b'' : Bool) (w v u : List ℕ) (m n : ℕ) → Goes d b w m b' v → Goes d b' v n b'' u → Goes d b w (m + n) b'' u
and_then d b b' b'' w v u m n p q = let i = p.len in let j = q.len in record { len = omega (arith, i, j); comment = p.comment ∙ q.comment }

-- what is false is not true
is_false : (t : Bool) → not t ≡ true → t ≡ false
is_false true e = absurd (false≢true e)
is_false false e = refl

-- an open comment goes on with what ends no line
comment_on : (d : Dialect) (c : ℕ) (w : List ℕ) → goes_on true c ≡ true → Goes d true (c ∷ w) 1 true w
comment_on d c w e =
    let f : is_line_end c ≡ false = is_false (is_line_end c) e in
    let len : blank d true (c ∷ w) ≡ suc (blank d true w) =
    ap (λ t. cond t (cond (is_space d c) (suc (blank d false w)) 0) (suc (blank d true w))) f in record {
      len = omega (arith, len);
      comment = ap (λ t. cond t (cond (is_space d c) (comment_after d false w) false) (comment_after d true w)) f;
    }

-- white space goes on
white_on : (d : Dialect) (c : ℕ) (w : List ℕ) → is_space d c ≡ true → Goes d false (c ∷ w) 1 false w
white_on d c w e =
    let len : blank d false (c ∷ w) ≡ suc (blank d false w) = ap (λ t. cond t (suc (blank d false w)) (cond (c == 35) (suc (blank d true w)) 0)) e in record {
      len = omega (arith, len);
      comment = ap (λ t. cond t (comment_after d false w) (cond (c == 35) (comment_after d true w) false)) e;
    }

-- Bytes that each go on, and leave a comment open or closed as it was, are taken off together.
bytes_on : (d : Dialect) (b : Bool) (p : ℕ → Bool) → ((c : ℕ) (w : List ℕ) → p c ≡ true → Goes d b (c ∷ w) 1 b w) →
    (bs : List ℕ) (n at : ℕ) → at + n ≤ length bs → PassBetween p bs at (at + n) → Goes d b (drop at bs) n b (drop (at + n) bs)
bytes_on d b p one bs zero at l pass =
    let e : at ≡ at + 0 = omega arith in
    let len : blank d b (drop at bs) ≡ blank d b (drop (at + 0) bs) = ap (λ k. blank d b (drop k bs)) e in
    record { len = omega (arith, len); comment = ap (λ k. comment_after d b (drop k bs)) e }
bytes_on d b p one bs (suc n) at l pass =
    let c = get_or bs at 0 in
    let first = subst (λ w. Goes d b w 1 b (drop (at + 1) bs)) (sym (drop_more bs at 0 (omega arith)))
    (one c (drop (at + 1) bs) (pass at (omega arith) (omega arith))) in
    let rest = bytes_on d b p one bs n (at + 1) (omega arith) (λ k x y. pass k (omega arith) (omega arith)) in
    let e : at + 1 + n ≡ at + suc n = omega arith in
    let m : 1 + n ≡ suc n = omega arith in
    subst (λ m. Goes d b (drop at bs) m b (drop (at + suc n) bs)) m
    (subst (λ k. Goes d b (drop at bs) (1 + n) b (drop k bs)) e (and_then d b b b (drop at bs) (drop (at + 1) bs) (drop (at + 1 + n) bs) 1 n first rest))

-- the same of a run
run_on : (d : Dialect) (b : Bool) (p : ℕ → Bool) → ((c : ℕ) (w : List ℕ) → p c ≡ true → Goes d b (c ∷ w) 1 b w) →
    (bs : List ℕ) (at end : ℕ) → IsRun p bs at end → Goes d b (drop at bs) (end - at) b (drop end bs)
run_on d b p one bs at end r =
    let from = r.from in
    let within = r.within in
    let e : at + (end - at) ≡ end = omega arith in
    subst (λ k. Goes d b (drop at bs) (end - at) b (drop k bs)) e (bytes_on d b p one bs (end - at) at (omega arith) (λ k x y. r.pass k x (omega arith)))

-- a line end closes a comment
line_end_closes : (d : Dialect) (c : ℕ) (w : List ℕ) → is_line_end c ≡ true → (c == 35) ≡ false → Goes d true (c ∷ w) 0 false (c ∷ w)
line_end_closes d c w e h =
    let len : blank d true (c ∷ w) ≡ blank d false (c ∷ w) = ap (λ t. cond t (cond (is_space d c) (suc (blank d false w)) 0) (suc (blank d true w))) e
    ∙ sym (ap (λ t. cond (is_space d c) (suc (blank d false w)) (cond t (suc (blank d true w)) 0)) h) in record {
      len = omega (arith, len);
      comment = ap (λ t. cond t (cond (is_space d c) (comment_after d false w) false) (comment_after d true w)) e
          ∙ sym (ap (λ t. cond (is_space d c) (comment_after d false w) (cond t (comment_after d true w) false)) h);
    }

-- a line end is no '#'
no_hash : (c : ℕ) → is_line_end c ≡ true → (c == 35) ≡ false
no_hash c e = grind (arith, nat_tests)

-- what is not open does not go on
none_on : (d : Dialect) (c : ℕ) (w : List ℕ) → goes_on false c ≡ true → Goes d false (c ∷ w) 1 false w
none_on d c w e = absurd (false≢true e)

-- Past a comment that ends within the text no comment is open.
past_comment : (d : Dialect) (b : Bool) (bs : List ℕ) (at end : ℕ) → IsRun (goes_on b) bs at end → is_cut b bs end ≡ false →
    Goes d b (drop at bs) (end - at) false (drop end bs)
past_comment d false bs at end r e = run_on d false (goes_on false) (none_on d) bs at end r
past_comment d true bs at end r e =
    let within = r.within in
    let inside : end < length bs = grind (arith, nat_tests) in
    let c = get_or bs end 0 in
    let ends : is_line_end c ≡ true = is_true (is_line_end c) (r.stops inside) in
    let closed = subst (λ w. Goes d true w 0 false w) (sym (drop_more bs end 0 inside)) (line_end_closes d c (drop (end + 1) bs) ends (no_hash c ends)) in
    let all = and_then d true true false (drop at bs) (drop end bs) (drop end bs) (end - at) 0
    (run_on d true (goes_on true) (comment_on d) bs at end r) closed in
    let z : end - at + 0 ≡ end - at = omega arith in
    subst (λ n. Goes d true (drop at bs) n false (drop end bs)) z all
  where
    is_true : (t : Bool) → not t ≡ false → t ≡ true
    is_true true e = refl
    is_true false e = absurd (false≢true (sym e))

-- a comment that is open, and the white space after it
pub part_on : (d : Dialect) (b : Bool) (bs : List ℕ) (at end white : ℕ) → IsRun (goes_on b) bs at end → is_cut b bs end ≡ false →
    IsRun (is_space d) bs end white →
    Goes d b (drop at bs) (white - at) false (drop white bs)
part_on d b bs at end white r e s =
    let from = r.from in
    let more = s.from in
    let n : (end - at) + (white - end) ≡ white - at = omega arith in
    subst (λ n. Goes d b (drop at bs) n false (drop white bs)) n (and_then d b false false (drop at bs) (drop end bs) (drop white bs) (end - at) (white - end)
    (past_comment d b bs at end r e) (run_on d false (is_space d) (white_on d) bs end white s))

-- a comment that goes on up to the end of the text
pub cut_on : (d : Dialect) (b : Bool) (bs : List ℕ) (at end : ℕ) → IsRun (goes_on b) bs at end → is_cut b bs end ≡ true →
    (blank d b (drop at bs) ≡ end - at) × (comment_after d b (drop at bs) ≡ true)
cut_on d false bs at end r e = absurd (false≢true e)
cut_on d true bs at end r e =
    let g = run_on d true (goes_on true) (comment_on d) bs at end r in
    let z : drop end bs ≡ [] = drop_all end bs (omega (arith, eqb-true end (length bs) e)) in
    let len = g.len in
    let none : blank d true (drop end bs) ≡ 0 = ap (blank d true) z in
    (omega arith, g.comment ∙ ap (comment_after d true) z)

-- white space ends where neither more of it nor a comment comes
pub ends_there : (d : Dialect) (bs : List ℕ) (at white : ℕ) → IsRun (is_space d) bs at white → is_hash bs white ≡ false →
    (blank d false (drop white bs) ≡ 0) × (comment_after d false (drop white bs) ≡ false)
ends_there d bs at white r e = ⊎_elim
    (λ l.
    let c = get_or bs white 0 in
    let h : (c == 35) ≡ false = sym (ap (λ t. t && c == 35) (lt-ltb white (length bs) l)) ∙ e in
    let more = drop_more bs white 0 l in
    let w = drop (white + 1) bs in
    let none = r.stops l in (
      ap (blank d false) more ∙ (ap (λ t. cond t (suc (blank d false w)) (cond (c == 35) (suc (blank d true w)) 0)) none
          ∙ ap (λ t. cond t (suc (blank d true w)) 0) h),
      ap (comment_after d false) more ∙ (ap (λ t. cond t (comment_after d false w) (cond (c == 35) (comment_after d true w) false)) none
          ∙ ap (λ t. cond t (comment_after d true w) false) h),
    ))
    (λ m. let z : drop white bs ≡ [] = drop_all white bs m in (ap (blank d false) z, ap (comment_after d false) z))
    (cases_lt white (length bs))

-- a '#' opens a comment, which goes on with it
pub hash_opens : (d : Dialect) (bs : List ℕ) (at : ℕ) → is_hash bs at ≡ true → Goes d false (drop at bs) 0 true (drop at bs)
hash_opens d bs at e =
    let p = and_parts _ _ e in
    let more = drop_more bs at 0 (ltb-true at (length bs) p.0) in
    let w = drop (at + 1) bs in
    subst (λ v. Goes d false v 0 true v) (sym (more ∙ ap (λ c. c ∷ w) (eqb-true (get_or bs at 0) 35 p.1))) (opens d w)
  where
    opens : (d : Dialect) (w : List ℕ) → Goes d false (35 ∷ w) 0 true (35 ∷ w)
    opens Lines w = let len : blank Lines false (35 ∷ w) ≡ blank Lines true (35 ∷ w) = refl in record { len = omega (arith, len); comment = refl }
    opens Turtle w = let len : blank Turtle false (35 ∷ w) ≡ blank Turtle true (35 ∷ w) = refl in record { len = omega (arith, len); comment = refl }

-- bytes of which none is a line feed have none
no_feeds : (p : ℕ → Bool) → ((c : ℕ) → p c ≡ true → (c == 10) ≡ false) → (bs : List ℕ) (n at : ℕ) → at + n ≤ length bs → PassBetween p bs at (at + n) →
    count_by (λ b. b == 10) (take n (drop at bs)) ≡ 0
no_feeds p flat bs zero at l pass = refl
no_feeds p flat bs (suc n) at l pass =
    let c = get_or bs at 0 in
    let f = flat c (pass at (omega arith) (omega arith)) in
    let rest = no_feeds p flat bs n (at + 1) (omega arith) (λ k x y. pass k (omega arith) (omega arith)) in
    let all = feeds-append (c ∷ []) (take n (drop (at + 1) bs)) in
    let one : count_by (λ b. b == 10) (c ∷ []) ≡ 0 = ap (λ b. 0 + cond b 1 0) f in
    let same = ap (λ w. count_by (λ b. b == 10) (take (suc n) w)) (drop_more bs at 0 (omega arith)) in
    omega (arith, rest, all, one, same)

-- where no byte ends a line, a comment goes over all
pub no_line_end : (bs : List ℕ) (r : Option ℕ) (b : Bool) → IsFirstByte (is_byte2 10 13) bs r → is_some r ≡ not b → b ≡ true →
    IsRun is_comment_byte bs 0 (length bs)
no_line_end bs None b h s e = record {
  from = omega arith;
  within = omega arith;
  pass = λ k l m. not_true (is_byte2 10 13 (get_or bs k 0)) (h k l m);
  stops = λ l. absurd (omega (arith, l));
}
  where
    not_true : (t : Bool) → ¬ (t ≡ true) → not t ≡ true
    not_true true n = absurd (n refl)
    not_true false n = refl
no_line_end bs (Some k) b h s e = absurd (false≢true (sym (s ∙ ap not e)))

-- what such a text is to an open comment
module _ (bs : List ℕ) (r : IsRun is_comment_byte bs 0 (length bs)) where
  pub in_comment : (d : Dialect) → (blank d true bs ≡ length bs) × (comment_after d true bs ≡ true)
  in_comment d =
      let same : is_cut true bs (length bs) ≡ true = grind (arith, nat_tests) in
      let c = cut_on d true bs 0 (length bs) (record { from = r.from; within = r.within; pass = r.pass; stops = r.stops }) same in
      let len = c.0 in
      (omega (arith, len), c.1)

  pub flat_comment : count_by (λ b. b == 10) (take (length bs) bs) ≡ 0
  flat_comment = no_feeds is_comment_byte flat bs (length bs) 0 (omega arith) (λ k l m. r.pass k l (omega arith))
    where
      flat : (c : ℕ) → is_comment_byte c ≡ true → (c == 10) ≡ false
      flat c e = grind (arith, nat_tests)

-- A line feed, a run of spaces and tabs, and no more white space: so much comes first, and no comment is open.
module _ (bs : List ℕ) (end : ℕ) (z : stands_at 10 bs 0 ≡ true) (r : IsRun is_space_byte bs 1 end) (b : is_bare bs end ≡ true) where
  feed : (0 < length bs) × (get_or bs 0 0 ≡ 10)
  feed = let p = and_parts (nat_lt 0 (length bs)) (get_or bs 0 0 == 10) z in (ltb-true 0 (length bs) p.0, eqb-true (get_or bs 0 0) 10 p.1)

  -- what comes after them
  past_end : (blank Turtle false (drop end bs) ≡ 0) × (comment_after Turtle false (drop end bs) ≡ false)
  past_end =
      let p = and_parts (nat_lt end (length bs)) _ b in
      let c = get_or bs end 0 in
      let w = drop (end + 1) bs in
      let none = is_none (comment_step Turtle false c) p.1 in
      let more = drop_more bs end 0 (ltb-true end (length bs) p.0) in (
        ap (blank Turtle false) more ∙ (blank-step Turtle false c w ∙ ap (λ o. blank_by Turtle o w) none),
        ap (comment_after Turtle false) more ∙ (comment-step Turtle false c w ∙ ap (λ o. comment_by Turtle o w) none),
      )
    where
      is_none : (o : Option Bool) → not (is_some o) ≡ true → o ≡ None
      is_none None e = refl
      is_none (Some x) e = absurd (false≢true e)

  goes : Goes Turtle false bs end false (drop end bs)
  goes =
      let from = r.from in
      let n : 1 + (end - 1) ≡ end = omega arith in
      let first : Goes Turtle false bs 1 false (drop 1 bs) =
      subst (λ w. Goes Turtle false w 1 false (drop 1 bs)) (sym (drop_more bs 0 0 feed.0))
      (white_on Turtle (get_or bs 0 0) (drop 1 bs) (ap (is_space Turtle) feed.1)) in
      subst (λ n. Goes Turtle false bs n false (drop end bs)) n
      (and_then Turtle false false false bs (drop 1 bs) (drop end bs) 1 (end - 1) first (run_on Turtle false is_space_byte spaces bs 1 end r))
    where
      spaces : (c : ℕ) (w : List ℕ) → is_space_byte c ≡ true → Goes Turtle false (c ∷ w) 1 false w
      spaces c w e = white_on Turtle c w (grind (arith, nat_tests))

  pub indented : (blank Turtle false bs ≡ end) × (comment_after Turtle false bs ≡ false)
  indented = let g = goes.len in let p = past_end.0 in (omega (arith, g, p), goes.comment ∙ past_end.1)

  -- one line feed is among them
  pub one_feed : count_by (λ b. b == 10) (take end bs) ≡ 1
  one_feed =
      let from = r.from in
      let within = r.within in
      let n : suc (end - 1) ≡ end = omega arith in
      let cut : take end bs ≡ 10 ∷ take (end - 1) (drop 1 bs) =
      ap (λ k. take k bs) (sym n) ∙ (ap (take (suc (end - 1))) (drop_more bs 0 0 feed.0) ∙ ap (λ c. c ∷ take (end - 1) (drop 1 bs)) feed.1) in
      let rest = no_feeds is_space_byte flat bs (end - 1) 1 (omega arith) (λ k l m. r.pass k l (omega arith)) in
      let all = feeds-append (10 ∷ []) (take (end - 1) (drop 1 bs)) in
      let one : count_by (λ b. b == 10) (10 ∷ []) ≡ 1 = refl in
      let same = ap (count_by (λ b. b == 10)) cut in
      omega (arith, rest, all, one, same)
    where
      flat : (c : ℕ) → is_space_byte c ≡ true → (c == 10) ≡ false
      flat c e = grind (arith, nat_tests)
