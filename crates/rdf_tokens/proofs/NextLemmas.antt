-- What the next token is, after white space and comments.
use Rattle.rdf_tokens.proofs.Prelude.{◌≡◌, ◌≢◌, inl, inr, not, ℕ, ◌+◌, ◌<◌, ◌≤◌, Bool, true, false, cond, List, [], ◌∷◌, ◌++◌, ◌||◌, ◌&&◌, is_some, refl, sym, ap, ◌∙◌, subst, ⊎_elim, length, take, drop, arith, length-drop, Option, Some, None, append-nil, le-ltb, or_parts, cases_Bool, cond-true, cond-false, Dialect, Kind, End, Shape, kind_of, is_live, is_fit, Place, past, Tail, Outcome, Token, is_empty, over, chosen, decided, longest, by_tail, end_tokens, stop_place, with_tokens, ended, broken, undecided, complete, token_too_long, bad_utf8, no_token, bad_escape, tokens_at, tokens_of, Unread, HasScanned, IsOpen, SameScan, GivesToken, Waits, Stops, StopsFor, is_end, IsEndGiven, GivesBytes, BeginsChar, tail_now, is_settled, fault_place, moved, Stands, Moves, Reason, BadUtf8, NoToken, BadEscape, TokenTooLong, Stop, IsLook}
use Rattle.rdf_tokens.specs.Tokens.{step, place_of}
use Rattle.rdf_tokens.specs.Tokens.Tail.{goes_on}
use Rattle.rdf_tokens.specs.Tokens.Step.{token, stop}
use Rattle.rdf_tokens.specs.Scans.{IsToken, left}
use Rattle.rdf_tokens.specs.declared.look.Look.TheVariants as Look
use Rattle.rdf_tokens.proofs.StepLemmas.{step-token}
use Rattle.rdf_tokens.proofs.TokensLemmas.{at_stop, step_token}
use Rattle.rdf_tokens.proofs.ReadLemmas.{read_now, read_on}
use Rattle.rdf_tokens.proofs.RoomLemmas.{open_few, few_unread}
use Rattle.rdf_tokens.proofs.MoveLemmas.{moves_token, read_stop}

-- what is decided is no step that is undecided
other : {P : Type 0} (o : Outcome) → o ≢ undecided → stop o ≡ stop undecided → P
other o n e = absurd (n (let h : stop o ≡ stop undecided = e in cc))

taken : {P : Type 0} (w : List ℕ) (o : Option (ℕ × Kind)) → chosen w o ≡ stop undecided → P
taken w None e = other no_token (λ x. let h : no_token ≡ undecided = x in cc) e
taken w (Some x) e =
    ⊎_elim
    (λ f. let h : token x.0 x.1 ≡ stop undecided = sym (cond-true _ _ _ f) ∙ e in cc)
    (λ f. other bad_escape (λ x. let h : bad_escape ≡ undecided = x in cc) (sym (cond-false _ _ _ f) ∙ e))
    (cases_Bool (is_fit x.1 (take x.0 w)))

made : {P : Type 0} (d : Dialect) (w : List ℕ) → decided d w ≡ stop undecided → P
made d [] e = other complete (λ x. let h : complete ≡ undecided = x in cc) e
made d (c ∷ w) e = taken (c ∷ w) (longest d (c ∷ w) (length (c ∷ w))) e

-- only where more may come is a step undecided, and then the text is the beginning of a token within the limit
pub record IsLeftOpen (d : Dialect) (limit : ℕ) (t : Tail) (w : List ℕ) : Type 0 where
  pub goes : t ≡ goes_on
  pub within : over d limit w ≡ false
  pub begins : (is_empty w || is_live d w) ≡ true

pub left_open : (d : Dialect) (limit : ℕ) (t : Tail) (w : List ℕ) → step d limit t w ≡ stop undecided → IsLeftOpen d limit t w
unfolding step
left_open d limit t w e =
    ⊎_elim
    (λ o. other token_too_long (λ x. let h : token_too_long ≡ undecided = x in cc) (sym (cond-true _ _ _ o) ∙ e))
    (λ o. let h = tail t (is_empty w || is_live d w) (sym (cond-false _ _ _ o) ∙ e) in record { goes = h.0; within = o; begins = h.1 })
    (cases_Bool (over d limit w))
  where
    tail : (t : Tail) (b : Bool) → by_tail d t w b ≡ stop undecided → (t ≡ goes_on) × (b ≡ true)
    tail goes_on true e = (refl, refl)
    tail goes_on false e = made d w e
    tail broken true e = other bad_utf8 (λ x. let h : bad_utf8 ≡ undecided = x in cc) e
    tail broken false e = made d w e
    tail ended true e = made d w e
    tail ended false e = made d w e

undecided_open : (d : Dialect) (limit : ℕ) (t : Tail) (w : List ℕ) → step d limit t w ≡ stop undecided → t ≡ goes_on
undecided_open d limit t w e = (left_open d limit t w e).goes

undecided_few : (d : Dialect) (limit : ℕ) (t : Tail) (w : List ℕ) → step d limit t w ≡ stop undecided → length w ≤ limit
undecided_few d limit t w e = let h = left_open d limit t w e in open_few d limit w h.within h.begins

-- where more may come, the end was not told
open_now : (v : Unread) → tail_now v ≡ goes_on → v.ended ≡ false
open_now v e = by_flags v.broken v.ended (is_empty v.pending) e
  where
    by_flags : (b e p : Bool) → cond b broken (cond e (cond p ended broken) goes_on) ≡ goes_on → e ≡ false
    by_flags true e p h = let g : broken ≡ goes_on = h in cc
    by_flags false true true h = let g : ended ≡ goes_on = h in cc
    by_flags false true false h = let g : broken ≡ goes_on = h in cc
    by_flags false false p h = refl

-- what is not the kind of the end does not test as it
pub not_end : (k : Kind) → k ≢ End → is_end k ≡ false
not_end End n = absurd (n refl)
not_end k n = refl

module _ (old mid : Unread) (m : Moves old [] mid) (p : old.stopped ≡ false) (b : BeginsChar old.pending) (s : Stands mid) where
  running : mid.stopped ≡ false
  running = ap (λ v. v.stopped) m.same ∙ p

  begins : BeginsChar mid.pending
  begins = subst (λ v. BeginsChar v.pending) (sym m.same) b

  same : SameScan old mid
  same = record { dialect = ap (λ v. v.dialect) m.same; limit = ap (λ v. v.limit) m.same }

  read_mid : (bytes : List ℕ) (ts : List Token) → HasScanned old bytes ts → HasScanned mid bytes ts
  read_mid bytes ts r = subst (HasScanned mid bytes) (append-nil ts) (read_on old mid bytes ts [] p b m r)

  -- a token
  pub gives_token : (n : ℕ) (k : Kind) → step mid.dialect mid.limit (tail_now mid) mid.text ≡ token n k →
      IsToken old.dialect (record { kind = k; text = take n mid.text; at = mid.place }) → is_end k ≡ false →
      GivesToken old (record { kind = k; text = take n mid.text; at = mid.place }) (moved mid (past mid.place (take n mid.text)) true false (drop n mid.text))
  gives_token n k e t f =
      let l = step_token mid.dialect mid.limit (tail_now mid) mid.text n k e in
      let less = m.less in
      let q : mid.stopped ≡ old.stopped = ap (λ v. v.stopped) m.same in
      record {
        same = record { dialect = same.dialect; limit = same.limit };
        before = p;
        ended = ap (λ v. v.ended) m.same;
        token = t;
        less = subst (λ x. length (drop n mid.text) + cond x 0 1 < left old) (sym running)
            (subst (λ x. length (drop n mid.text) + 1 < length old.text + cond x 0 1) (sym p) (omega (arith, length-drop n mid.text)));
        stops = running ∙ sym (cond-false _ _ _ f);
        read = λ bytes ts r. read_on mid _ bytes ts _ running begins (moves_token mid s n k e) (read_mid bytes ts r);
      }

  -- the end
  pub gives_end : step mid.dialect mid.limit (tail_now mid) mid.text ≡ stop complete →
      GivesToken old (record { kind = End; text = []; at = mid.place }) (record mid { stopped = true })
  gives_end e =
      let less = m.less in
      record {
        same = record { dialect = same.dialect; limit = same.limit };
        before = p;
        ended = ap (λ v. v.ended) m.same;
        token = inl (refl, refl);
        less = subst (λ x. length mid.text + 0 < length old.text + cond x 0 1) (sym p) (omega arith);
        stops = refl;
        read = λ bytes ts r.
            let h = read_mid bytes ts r in
            let a = read_stop mid s bytes ts complete running begins h e in
            record {
              taken = h.taken;
              reads = (ap (λ x. x.tokens) a, λ u. let c : complete ≡ undecided = sym (ap (λ x. x.outcome) a) ∙ u in cc);
            };
      }

  -- nothing yet
  pub waits : step mid.dialect mid.limit (tail_now mid) mid.text ≡ stop undecided → Waits old mid
  waits e =
      let n : mid.ended ≡ false = open_now mid (undecided_open mid.dialect mid.limit (tail_now mid) mid.text e) in
      let x : mid.ended ≡ old.ended = ap (λ v. v.ended) m.same in
      record {
        same = record { dialect = same.dialect; limit = same.limit };
        before = record { running = p; more = sym x ∙ n };
        after = record { running = running; more = n; few = few_unread mid (undecided_few mid.dialect mid.limit (tail_now mid) mid.text e) begins };
        read = λ bytes ts r.
            let h = read_mid bytes ts r in
            let a = subst (λ v. tokens_of v.dialect v.limit bytes v.ended ≡ record { tokens = ts ++ []; outcome = undecided; at = mid.place }) m.same
            (read_stop mid s bytes ts undecided running begins h e) in
            let c : tokens_of old.dialect old.limit bytes false ≡ record { tokens = ts ++ []; outcome = undecided; at = mid.place } =
            subst (λ e. tokens_of old.dialect old.limit bytes e ≡ record { tokens = ts ++ []; outcome = undecided; at = mid.place }) (sym x ∙ n) a in
            (h, ap (λ x. x.tokens) c ∙ append-nil ts, ap (λ x. x.outcome) c);
      }

  -- no token stands here
  pub stops : (o : Outcome) → o ≢ undecided → end_tokens o mid.place ≡ [] → step mid.dialect mid.limit (tail_now mid) mid.text ≡ stop o →
      Stops old o (stop_place o mid.place mid.text) (record mid { stopped = true })
  stops o u n e = record {
    same = record { dialect = same.dialect; limit = same.limit };
    before = p;
    after = refl;
    ended = ap (λ v. v.ended) m.same;
    read = λ bytes ts r.
        let h = read_mid bytes ts r in
        let a = read_stop mid s bytes ts o running begins h e
        ∙ ap (λ x. record { tokens = x; outcome = o; at = stop_place o mid.place mid.text }) (ap (λ x. ts ++ x) n ∙ append-nil ts) in
        let c = subst (λ v. tokens_of v.dialect v.limit bytes v.ended ≡ record { tokens = ts; outcome = o; at = stop_place o mid.place mid.text }) m.same a in (
          record { taken = h.taken; reads = (ap (λ x. x.tokens) a, λ x. u (sym (ap (λ x. x.outcome) a) ∙ x)) },
          c,
        );
  }

  -- why no token stands here
  pub stops_for : (r : Reason) → IsLook (Stop r) (step mid.dialect mid.limit (tail_now mid) mid.text) mid.text →
      StopsFor r old (fault_place r mid.place mid.text) (record mid { stopped = true })
  stops_for TokenTooLong e = stops token_too_long (λ x. let h : token_too_long ≡ undecided = x in cc) refl e
  stops_for BadUtf8 e = stops bad_utf8 (λ x. let h : bad_utf8 ≡ undecided = x in cc) refl e
  stops_for NoToken e = stops no_token (λ x. let h : no_token ≡ undecided = x in cc) refl e
  stops_for BadEscape e = stops bad_escape (λ x. let h : bad_escape ≡ undecided = x in cc) refl e
  stops_for r e = absurd e

  pub stops_at : {r s : Reason} {p : Place} {new : Unread} → s ≡ r → p ≡ fault_place r mid.place mid.text → new ≡ record mid { stopped = true } →
      IsLook (Stop r) (step mid.dialect mid.limit (tail_now mid) mid.text) mid.text → StopsFor s old p new
  stops_at {r} {s} {p} {new} e f h l =
      subst (λ s. StopsFor s old p new) (sym e) (subst (λ p. StopsFor r old p new) (sym f)
      (subst (λ n. StopsFor r old (fault_place r mid.place mid.text) n) (sym h) (stops_for r l)))

  pub ends_at : {t : Token} {new : Unread} → IsEndGiven mid t new →
      step mid.dialect mid.limit (tail_now mid) mid.text ≡ stop complete → GivesToken old t new
  ends_at {t} {new} h e = subst (λ n. GivesToken old t n) (sym h.stopped)
      (subst (λ t. GivesToken old t (record mid { stopped = true })) (sym h.token) (gives_end e))

  -- a token of some bytes
  pub gives_look : (len : ℕ) (k : Kind) (t : Token) (new : Unread) → IsLook (Look.Token len k) (step mid.dialect mid.limit (tail_now mid) mid.text) mid.text →
      GivesBytes mid k len t new → GivesToken old t new
  gives_look len k t new l h =
      let n = l.0 in
      let g = h n l.3 in
      let q = step-token mid.dialect mid.limit (tail_now mid) mid.text n k l.1 in
      let d : mid.dialect ≡ old.dialect = ap (λ v. v.dialect) m.same in
      let is : IsToken old.dialect (record { kind = k; text = take n mid.text; at = mid.place }) = inr (subst (λ d. Shape d k (take n mid.text)) d q.0, q.1) in
      let new_is : new ≡ moved mid (past mid.place (take n mid.text)) true false (drop n mid.text) =
      g.moved_on ∙ ap (λ b. moved mid (past mid.place (take n mid.text)) b false (drop n mid.text)) s.begun in
      subst (λ n. GivesToken old t n) (sym new_is)
      (subst (λ t. GivesToken old t (moved mid (past mid.place (take n mid.text)) true false (drop n mid.text))) (sym g.token)
      (gives_token n k l.1 is (not_end k q.2)))

-- at the end of the text that has come
pub open_step : (d : Dialect) (limit : ℕ) → step d limit goes_on [] ≡ stop undecided
unfolding step
open_step d limit =
    let none : over d limit [] ≡ false =
    ap (λ b. b && (is_some (kind_of d (take (limit + 1) [])) || is_live d (take (limit + 1) []))) (le-ltb limit 0 (omega arith)) in
    cond-false _ _ _ none

-- nothing to look at
pub dry : (v : Unread) → is_settled v ≡ false → v.stopped ≡ false → BeginsChar v.pending → Waits v v
dry v d s b =
    let p = or_parts (not (is_empty v.text)) (v.broken || v.ended) d in
    let q = or_parts v.broken v.ended p.1 in
    let open_now : IsOpen v = record { running = s; more = q.1 } in
    record {
      same = record { dialect = refl; limit = refl };
      before = open_now;
      after = record { running = s; more = q.1; few = few_unread v (let z : length v.text ≡ 0 = ap length (none v.text p.0) in omega arith) b };
      read = λ bytes ts r.
          let a = read_now v bytes ts s b r in
          let t : tail_now v ≡ goes_on = cond-false _ _ _ q.0 ∙ cond-false _ _ _ q.1 in
          let e : tokens_of v.dialect v.limit bytes false ≡ with_tokens ts (tokens_at v.dialect v.limit goes_on v.begun v.comment v.place []) =
          ap (tokens_of v.dialect v.limit bytes) (sym q.1) ∙ (a ∙ (ap (λ t. with_tokens ts (tokens_at v.dialect v.limit t v.begun v.comment v.place v.text)) t
          ∙ ap (λ w. with_tokens ts (tokens_at v.dialect v.limit goes_on v.begun v.comment v.place w)) (none v.text p.0))) in
          let c = e ∙ ap (with_tokens ts) (nothing v.dialect v.limit v.begun v.comment v.place) in
          (r, ap (λ x. x.tokens) c ∙ append-nil ts, ap (λ x. x.outcome) c);
    }
  where
    none : (w : List ℕ) → not (is_empty w) ≡ false → w ≡ []
    none [] e = refl
    none (c ∷ w) e = let h : true ≡ false = e in cc

    nothing : (d : Dialect) (limit : ℕ) (begun comment : Bool) (p : Place) →
        tokens_at d limit goes_on begun comment p [] ≡ record { tokens = []; outcome = undecided; at = place_of d comment p [] }
    nothing d limit true comment p = at_stop d limit goes_on comment p [] undecided (open_step d limit)
    nothing d limit false comment p = at_stop d limit goes_on comment p [] undecided (open_step d limit)
