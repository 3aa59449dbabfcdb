-- A token that is seen before it is taken: the white space before it, and that it is the next step.
use Rattle.rdf_tokens.proofs.Prelude.{◌≡◌, ℕ, zero, suc, ◌+◌, ◌-◌, ◌≤◌, ◌==◌, Bool, true, false, cond, not, nat_lt, List, [], ◌∷◌, ◌++◌, ◌<◌, refl, sym, ap, ◌∙◌, subst, length, length-append, length-drop, get_or, take, drop, count_by, arith, Option, Some, None, IsUtf8, ⊎_elim, ◌&&◌, IfSome, encode_utf8_all, chars, IsCharBoundary, and_parts, cases_Bool, eqb-true, ltb-true, or_left, true≢false, append-nil, drop-take, get_or-take, length-take-le, take-append-drop, encodes-append, encodes-chars, IsCharBoundary-after_ascii, IsCharBoundary-start, is_turtle, IsRun, PassBetween, is_name_byte, is_unescaped, Dialect, Lines, Turtle, comment_after, bytes_of, IsLook, BeginsChar, GivesWithColon, MovesBytes, Moves, Stands, moved, tail_now, IsBare, IsPeeked, IsSeen, MayPeek, Sees, TakesSeen, is_local, one_space, is_colon, is_name_end, stands_at, HasScanned, IsPlainName, PassesBlank, KnowsColon, is_end, token_of, Place, Tail, blank, over, past, rest_of, Unread}
use Rattle.rdf_terms.specs.Classes.{is_letter}
use Rattle.rdf_terms.specs.Terms.{all_have}
use Rattle.rdf_terms.proofs.EscapesLemmas.{slice_passes}
use Rattle.rdf_tokens.specs.Peek.{is_running}
use Rattle.rdf_tokens.specs.Quick.{IsToken}
use Rattle.rdf_tokens.specs.Scans.{left}
use Rattle.rdf_tokens.specs.Tokens.{step}
use Rattle.rdf_tokens.specs.declared.look.Look.TheVariants.{Token as IsAt}
use Rattle.rdf_tokens.specs.declared.peek.Peeked.{Peeked}
use Rattle.rdf_tokens.specs.declared.token.Token.{Token as Given}
use Rattle.rdf_tokens.proofs.BlankLemmas.{blank_by, blank-bytes, blank-step, comment_by, comment-bytes, comment-step}
use Rattle.rdf_tokens.proofs.ByteLemmas.{Cut, cut}
use Rattle.rdf_tokens.proofs.LookLemmas.{token-look}
use Rattle.rdf_tokens.proofs.MoveLemmas.{bared, bared_is, moves_bared, one_bared, stands_bared}
use Rattle.rdf_tokens.proofs.NextLemmas.{gives_look, not_end}
use Rattle.rdf_tokens.proofs.OverLemmas.{over-short}
use Rattle.rdf_tokens.proofs.PlaceLemmas.{feeds-chars}
use Rattle.rdf_tokens.proofs.QuickLemmas.{not_true}
use Rattle.rdf_tokens.proofs.ReadLemmas.{read_on}
use Rattle.rdf_tokens.proofs.StepLemmas.{step-token}

-- what a local part is that was seen
pub record IsLocal (bs : List ℕ) (from end : ℕ) : Type 0 where
  pub ends : is_name_end bs end ≡ true
  pub some : end ≡ from → ⊥
  pub no_hyphen : get_or bs from 0 ≡ 45 → ⊥

-- the test of it tells all three
pub local_is : (bs : List ℕ) (from end : ℕ) → is_local bs from end ≡ true → IsLocal bs from end
local_is bs from end e =
    let p = and_parts (is_name_end bs end) _ e in
    let q = and_parts (nat_lt from end) _ p.1 in
    let l = ltb-true from end q.0 in
    record {
      ends = p.0;
      some = λ z. omega (arith, z, l);
      no_hyphen = λ z. let h : not (get_or bs from 0 == 45) ≡ false =
          ap (λ b. not (b == 45)) z in absurd (true≢false (sym q.1 ∙ h));
    }

-- a byte of names is no backslash
unescaped_byte : (b : ℕ) → is_name_byte b ≡ true → is_unescaped b ≡ true
unescaped_byte b h = ⊎_elim (λ t. absurd (true≢false (sym h ∙ ap is_name_byte (eqb-true b 92 t)))) (λ f. ap not f) (cases_Bool (b == 92))

-- the place after the colon of a plain name may be told
knows : (bs : List ℕ) (n m : ℕ) → m ≡ n + 1 → IsPlainName bs n → KnowsColon bs m
knows bs n zero e p = absurd (omega (arith, e))
knows bs n (suc m) e p = let same : n ≡ m = omega (arith, e) in subst (IsPlainName bs) same p

-- a letter and a run of such bytes are a prefix
pub prefix_bytes : (bs : List ℕ) (colon : ℕ) → is_letter (get_or bs 0 0) ≡ true → IsRun is_name_byte bs 1 colon → PassBetween is_name_byte bs 0 colon
prefix_bytes bs colon letter run zero from to = or_left _ _ (or_left _ _ (or_left _ _ letter))
prefix_bytes bs colon letter run (suc k) from to = run.pass (suc k) (omega arith) to

-- a name of so many bytes is plain if its prefix is, and no backslash comes after its colon
pub known_past : (bs : List ℕ) (colon len : ℕ) → colon < len → len ≤ length bs → is_colon bs colon ≡ true → PassBetween is_name_byte bs 0 colon →
    all_have is_unescaped (take (len - (colon + 1)) (drop (colon + 1) bs)) ≡ true → KnowsColon (take len bs) (colon + 1)
known_past bs colon len l w is before after =
    let n : length (take len bs) ≡ len = length-take-le len bs w in
    let m : len ≡ colon + 1 + (len - (colon + 1)) = omega (arith, l) in
    knows (take len bs) colon (colon + 1) refl (record {
      within = omega (arith, n, l);
      is = get_or-take len bs colon 0 l ∙ eqb-true _ 58 (and_parts (nat_lt colon (length bs)) _ is).1;
      before = λ k from to. ap is_name_byte (get_or-take len bs k 0 (omega (arith, l, to))) ∙ before k from to;
      after = ap (all_have is_unescaped) (ap (λ k. drop (colon + 1) (take k bs)) m ∙ drop-take (colon + 1) (len - (colon + 1)) bs) ∙ after;
    })

-- so is a name whose local part is a run, which may be empty
pub run_past : (bs : List ℕ) (colon end : ℕ) → PassBetween is_name_byte bs 0 colon → is_colon bs colon ≡ true → IsRun is_name_byte bs (colon + 1) end →
    KnowsColon (take end bs) (colon + 1)
run_past bs colon end before is run =
    let from = run.from in
    let within = run.within in
    let n : colon + 1 + (end - (colon + 1)) ≡ end = omega (arith, from) in
    known_past bs colon end (omega (arith, from)) within is before
    (slice_passes is_unescaped bs (colon + 1) (end - (colon + 1)) (omega (arith, n, within)) (λ k a b. unescaped_byte _ (run.pass k a (omega (arith, n, b)))))

-- there is no white space before such a byte, and no comment
bare_front : (bs : List ℕ) → IsBare bs → (blank Turtle false bs ≡ 0) × (comment_after Turtle false bs ≡ false)
bare_front [] b = absurd (let l = b.some in omega arith)
bare_front (c ∷ w) b =
    (blank-step Turtle false c w ∙ ap (λ o. blank_by Turtle o w) b.first, comment-step Turtle false c w ∙ ap (λ o. comment_by Turtle o w) b.first)

-- a token that is seen after one space or none
pub seen_after : (bs : List ℕ) (n : ℕ) (o : Option Peeked) → n ≡ one_space bs → Sees (drop n bs) n o → IfSome o (λ p. IsBare (drop n bs)) → IfSome o (IsSeen bs)
seen_after bs n None e s b = tt
seen_after bs n (Some p) e s b = by_space bs p (subst (λ n. Sees (drop n bs) n (Some p)) e s) (subst (λ n. IsBare (drop n bs)) e b)
  where
    none : (bs : List ℕ) (p : Peeked) → Sees bs 0 (Some p) → IsBare bs → IsSeen bs p
    none bs p s b =
        let f = bare_front bs b in
        let z = sym s.0 in
        record {
          space = f.0 ∙ z;
          closed = f.1;
          flat = ap (λ n. count_by (λ b. b == 10) (take n bs)) s.0;
          token = subst (λ n. IsToken Turtle (drop n bs) p.len p.kind) z s.1;
          colon = subst (λ n. KnowsColon (take p.len (drop n bs)) p.colon) z s.2;
        }

    one : (w : List ℕ) (p : Peeked) → Sees w 1 (Some p) → IsBare w → IsSeen (32 ∷ w) p
    one w p s b =
        let f = bare_front w b in
        let z = sym s.0 in
        record {
          space = ap suc f.0 ∙ z;
          closed = f.1;
          flat = ap (λ n. count_by (λ b. b == 10) (take n (32 ∷ w))) s.0;
          token = subst (λ n. IsToken Turtle (drop n (32 ∷ w)) p.len p.kind) z s.1;
          colon = subst (λ n. KnowsColon (take p.len (drop n (32 ∷ w))) p.colon) z s.2;
        }

    by_space : (bs : List ℕ) (p : Peeked) → Sees (drop (one_space bs) bs) (one_space bs) (Some p) → IsBare (drop (one_space bs) bs) → IsSeen bs p
    by_space [] p s b = none [] p s b
    by_space (c ∷ w) p s b = go (stands_at 32 (c ∷ w) 0) refl s b
      where
        go : (t : Bool) → stands_at 32 (c ∷ w) 0 ≡ t → Sees (drop (cond t 1 0) (c ∷ w)) (cond t 1 0) (Some p) →
            IsBare (drop (cond t 1 0) (c ∷ w)) → IsSeen (c ∷ w) p
        go true e s b = subst (λ c. IsSeen (c ∷ w) p) (sym (eqb-true c 32 (and_parts (nat_lt 0 (length (c ∷ w))) _ e).1)) (one w p s b)
        go false e s b = none (c ∷ w) p s b

-- the text can be cut after the space
pub space_cut : (bs : List ℕ) → IsUtf8 bs → IsCharBoundary bs (one_space bs)
space_cut bs u = go (stands_at 32 bs 0) refl
  where
    go : (t : Bool) → stands_at 32 bs 0 ≡ t → IsCharBoundary bs (cond t 1 0)
    go true e =
        let p = and_parts (nat_lt 0 (length bs)) _ e in
        IsCharBoundary-after_ascii bs 0 u (ltb-true 0 (length bs) p.0) (let b = eqb-true (get_or bs 0 0) 32 p.1 in omega (arith, b))
    go false e = IsCharBoundary-start bs u

-- the parts of the test
record IsPlain (v : Unread) : Type 0 where
  dialect : v.dialect ≡ Turtle
  begun : v.begun ≡ true
  running : v.stopped ≡ false
  outside : v.comment ≡ false

plain_is : (v : Unread) → is_running v ≡ true → IsPlain v
plain_is v e =
    let p = and_parts (is_turtle v.dialect) _ e in
    let q = and_parts v.begun _ p.1 in
    let r = and_parts (not v.stopped) _ q.1 in
    record { dialect = turtle v.dialect p.0; begun = q.0; running = not_true _ r.0; outside = not_true _ r.1 }
  where
    turtle : (d : Dialect) → is_turtle d ≡ true → d ≡ Turtle
    turtle Turtle e = refl
    turtle Lines e = absurd (true≢false (sym e))

-- What is seen in the bytes of the text is the next step.
module _ (v : Unread) (bs : List ℕ) (p : Peeked) (u : IsUtf8 bs) (e : chars bs ≡ v.text) (m : MayPeek v) (s : IsSeen bs p) where
  space : p.blank ≡ bytes_of (blank Turtle false (chars bs)) (chars bs)
  space = sym s.space ∙ blank-bytes Turtle false bs u

  c : Cut bs p.blank (blank Turtle false (chars bs))
  c = cut bs p.blank (blank Turtle false (chars bs)) u space

  plain : IsPlain v
  plain = plain_is v m.plain

  there : (P : Dialect → List ℕ → Type 0) → P Turtle (chars bs) → P v.dialect v.text
  there P x = subst (λ d. P d v.text) (sym plain.dialect) (subst (P Turtle) e x)

  short : over Turtle v.limit (chars (drop p.blank bs)) ≡ false
  short =
      let l : length bs ≤ v.limit = subst (λ n. n ≤ v.limit) (ap (λ w. length (encode_utf8_all w)) (sym e) ∙ ap length (encodes-chars bs u)) m.short in
      over-short Turtle v.limit (drop p.blank bs) c.rest_utf8 (omega (arith, l, length-drop p.blank bs))

  no_feeds : count_by (λ c. c == 10) (take (blank Turtle false (chars bs)) (chars bs)) ≡ 0
  no_feeds = ap (count_by (λ c. c == 10)) (sym c.front) ∙ (sym (feeds-chars (take p.blank bs) c.front_utf8) ∙ s.flat)

  next : (t : Tail) → IsLook (IsAt p.len p.kind) (step Turtle v.limit t (rest_of Turtle false (chars bs))) (rest_of Turtle false (chars bs))
  next t =
      subst (λ w. IsLook (IsAt p.len p.kind) (step Turtle v.limit t w) w) c.rest
      (token-look Turtle v.limit t (drop p.blank bs) p.len p.kind c.rest_utf8 short s.token)

  colon : KnowsColon (take p.len (encode_utf8_all (rest_of Turtle false (chars bs)))) p.colon
  colon =
      subst (λ w. KnowsColon (take p.len (encode_utf8_all w)) p.colon) c.rest
      (subst (λ w. KnowsColon (take p.len w) p.colon) (sym (encodes-chars (drop p.blank bs) c.rest_utf8)) s.colon)

  pub is_peeked : IsPeeked v p
  is_peeked = record {
    may = m;
    space = there (λ d w. p.blank ≡ bytes_of (blank d false w) w) space;
    closed = there (λ d w. comment_after d false w ≡ false) (sym (comment-bytes Turtle false bs u) ∙ s.closed);
    flat = there (λ d w. count_by (λ c. c == 10) (take (blank d false w) w) ≡ 0) no_feeds;
    look = λ t. there (λ d w. IsLook (IsAt p.len p.kind) (step d v.limit t (rest_of d false w)) (rest_of d false w)) (next t);
    colon = there (λ d w. KnowsColon (take p.len (encode_utf8_all (rest_of d false w))) p.colon) colon;
  }

-- the same of what may be seen
pub peeked_now : (v : Unread) (bs : List ℕ) (o : Option Peeked) → IsUtf8 bs → chars bs ≡ v.text → MayPeek v → IfSome o (IsSeen bs) → IfSome o (IsPeeked v)
peeked_now v bs None u e m s = tt
peeked_now v bs (Some p) u e m s = is_peeked v bs p u e m s

-- After some characters outside of a comment `peek` can be asked again.
may_on : (v : Unread) (p : Place) (n : ℕ) → MayPeek v → MayPeek (moved v p v.begun false (drop n v.text))
may_on v p n m =
    let front = encode_utf8_all (take n v.text) in
    let rest = encode_utf8_all (drop n v.text) in
    let whole : encode_utf8_all v.text ≡ front ++ rest =
    ap encode_utf8_all (sym (take-append-drop n v.text)) ∙ encodes-append (take n v.text) (drop n v.text) in
    let short = m.short in
    record {
      plain = subst (λ b. is_turtle v.dialect && (v.begun && (not v.stopped && not b)) ≡ true) (plain_is v m.plain).outside m.plain;
      begins = m.begins;
      short = omega (arith, ap length whole, length-append front rest, short);
    }

-- So it can after white space, where no comment is open.
pub may_bared : (v : Unread) → MayPeek v → comment_after v.dialect v.comment v.text ≡ false → MayPeek (bared v)
may_bared v m e =
    let n = blank v.dialect v.comment v.text in
    let p = past v.place (take n v.text) in
    subst (λ c. MayPeek (moved v p true c (drop n v.text))) (sym e)
    (subst (λ b. MayPeek (moved v p b false (drop n v.text))) (plain_is v m.plain).begun (may_on v p n m))

-- A token that is seen is taken: the scanner moves over the white space before it.
module _ (v mid : Unread) (p : Peeked) (s : IsPeeked v p) (h : MovesBytes v p.blank mid) where
  known : IsPlain v
  known = plain_is v s.may.plain

  none_open : comment_after v.dialect v.comment v.text ≡ false
  none_open = ap (λ b. comment_after v.dialect b v.text) known.outside ∙ s.closed

  pub bared_peeked : mid ≡ bared v
  bared_peeked =
      bared_is v mid v.text p.blank v.comment h refl known.begun (s.space ∙ ap (λ b. bytes_of (blank v.dialect b v.text) v.text) (sym known.outside))
      (known.outside ∙ sym none_open)

  -- and the token is the step there
  pub look_peeked : IsLook (IsAt p.len p.kind) (step mid.dialect mid.limit (tail_now mid) mid.text) mid.text
  look_peeked =
      subst (λ m. IsLook (IsAt p.len p.kind) (step m.dialect m.limit (tail_now m) m.text) m.text) (sym bared_peeked)
      (subst (λ b. IsLook (IsAt p.len p.kind) (step v.dialect v.limit (tail_now v) (rest_of v.dialect b v.text))
      (rest_of v.dialect b v.text)) (sym known.outside) (s.look (tail_now v)))

  -- whose colon is right
  pub colon_peeked : KnowsColon (take p.len (encode_utf8_all mid.text)) p.colon
  colon_peeked =
      subst (λ m. KnowsColon (take p.len (encode_utf8_all m.text)) p.colon) (sym bared_peeked)
      (subst (λ b. KnowsColon (take p.len (encode_utf8_all (rest_of v.dialect b v.text))) p.colon) (sym known.outside) s.colon)

  -- so it is given
  pub takes_seen : {t : Given} {new : Unread} → GivesWithColon mid p.kind p.len t new → TakesSeen v p t new
  takes_seen {t} {new} g =
      let l = look_peeked in
      let is = g.0 l.0 l.3 in
      let k = ap (λ t. t.kind) is.token in
      record {
        given = gives_look v mid (subst (Moves v []) (sym bared_peeked) (moves_bared v known.begun)) known.running s.may.begins
            (subst Stands (sym bared_peeked) (stands_bared v)) p.len p.kind (token_of t) new l g.0;
        colon = g.1;
        kind = k;
        goes_on = ap is_end k ∙ not_end p.kind (step-token mid.dialect mid.limit (tail_now mid) mid.text l.0 p.kind l.1).2;
        again = subst MayPeek (sym is.moved_on)
            (may_on mid (past mid.place (take l.0 mid.text)) l.0 (subst MayPeek (sym bared_peeked) (may_bared v s.may none_open)));
      }

-- where tokens are given, the document has begun
pub plain_begun : (v : Unread) → is_running v ≡ true → v.begun ≡ true
plain_begun v p = (plain_is v p).begun

-- what may be seen, by the bytes of the text
pub may_see : (v : Unread) (bs : List ℕ) → IsUtf8 bs → chars bs ≡ v.text → BeginsChar v.pending → is_running v ≡ true → length bs ≤ v.limit → MayPeek v
may_see v bs u e b p l =
    record { plain = p; begins = b; short = subst (λ n. n ≤ v.limit) (ap length (sym (encodes-chars bs u)) ∙ ap (λ w. length (encode_utf8_all w)) e) l }

-- White space is passed before a token: what was read stays as it is.
pub passes_bared : (v new : Unread) → MayPeek v → new ≡ bared v → PassesBlank v new
passes_bared v new may is =
    let q = plain_is v may.plain in
    let m : Moves v [] new = subst (Moves v []) (sym is) (moves_bared v q.begun) in
    let stopped : new.stopped ≡ v.stopped = ap (λ v. v.stopped) m.same in
    let less = m.less in
    record {
      same = record { dialect = ap (λ v. v.dialect) m.same; limit = ap (λ v. v.limit) m.same };
      ended = ap (λ v. v.ended) m.same;
      stopped = stopped;
      less = subst (λ x. length new.text + cond x 0 1 ≤ length v.text + cond v.stopped 0 1) (sym stopped) (omega arith);
      read = λ bytes ts s. subst (HasScanned new bytes) (append-nil ts) (read_on v new bytes ts [] q.running may.begins m s);
    }

-- So many bytes of it are passed, and no comment is open.
pub one_passed : {len : ℕ} (v new : Unread) (rest : List ℕ) → MayPeek v → MovesBytes v len new → rest ≡ v.text → bytes_of (blank Turtle false rest) rest ≡ len →
    comment_after Turtle false rest ≡ false → (new ≡ bared v) × (comment_after v.dialect v.comment v.text ≡ false)
one_passed v new rest m h r l k =
    let q = plain_is v m.plain in
    let closed = ap (λ d. comment_after d false rest) q.dialect ∙ k in (
      one_bared v new rest h r q.begun q.outside (ap (λ d. bytes_of (blank d false rest) rest) q.dialect ∙ l) closed,
      ap (λ b. comment_after v.dialect b v.text) q.outside ∙ (ap (comment_after v.dialect false) (sym r) ∙ closed),
    )

-- what comes after some characters is shorter
shorter : (u w x : List ℕ) → u ++ w ≡ x → (u ≡ [] → ⊥) → length w < length x
shorter [] w x e h = absurd (h refl)
shorter (c ∷ u) w x e h = subst (λ x. length w < length x) e (let l = length-append (c ∷ u) w in omega (arith, l))

-- Where it has some bytes, less is left.
pub bared_less : (v : Unread) (rest : List ℕ) (len : ℕ) → rest ≡ v.text → len ≡ bytes_of (blank v.dialect v.comment rest) rest →
    (len ≡ 0 → ⊥) → left (bared v) < left v
bared_less v rest len r l some =
    let n = blank v.dialect v.comment v.text in
    let none : take n v.text ≡ [] → ⊥ = λ e. some (l ∙ (ap (λ w. bytes_of (blank v.dialect v.comment w) w) r ∙ ap (λ u. length (encode_utf8_all u)) e)) in
    let less = shorter (take n v.text) (drop n v.text) v.text (take-append-drop n v.text) none in
    omega (arith, less)

-- White space was passed of so many bytes, where the scanner is u inside.
module _ {u v new : Unread} {rest : List ℕ} {len : ℕ} {comment : Bool} (m : MayPeek v) (same : u ≡ v) (r : rest ≡ v.text)
    (h : (n : ℕ) → len ≡ bytes_of n u.text → new ≡ moved u (past u.place (take n u.text)) u.begun comment (drop n u.text))
    (l : len ≡ bytes_of (blank u.dialect u.comment rest) rest) (k : comment ≡ comment_after u.dialect u.comment rest) where
  pub blanks_bared : new ≡ bared v
  blanks_bared = bared_is u new rest len comment h (r ∙ ap (λ v. v.text) (sym same)) (ap (λ v. v.begun) same ∙ plain_begun v m.plain) l k ∙ ap bared same

  -- where it was some, less is left
  pub blanks_less : (len ≡ 0 → ⊥) → left new < left v
  blanks_less some =
      subst (λ x. left x < left v) (sym blanks_bared) (bared_less v rest len r (l ∙ ap (λ v. bytes_of (blank v.dialect v.comment rest) rest) same) some)

  -- and outside of a comment `peek` can be asked again
  pub blanks_again : not comment ≡ true → MayPeek new
  blanks_again e =
      let closed = ap (comment_after v.dialect v.comment) (sym r) ∙ (ap (λ v. comment_after v.dialect v.comment rest) (sym same) ∙ (sym k ∙ not_true _ e)) in
      subst MayPeek (sym blanks_bared) (may_bared v m closed)
