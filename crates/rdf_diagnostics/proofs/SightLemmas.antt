-- What the bytes from a place on begin with, and what more of them can change.
use Prim.Native.Char.{code}
use Rattle.rdf_diagnostics.proofs.Prelude.{Some, None, Ok, Err, ◌≡◌, ◌≢◌, ℕ, ◌+◌, ◌≤◌, Bool, true, false, List, [], ◌∷◌, ◌++◌, refl, sym, ap, ◌∙◌, subst, length, take, drop, arith, ⊎_elim, encode_utf8_all, cond, is_some, ◌==◌, append-nil, take-append-drop, take-take, take_all, drop-take, length-take, length-take-le, cases_lt, IsUtf8-nil, IsUtf8-take, IsCharBoundary-from_take, chars-encodes, encode_ascii, utf8_valid_len_le, utf8_valid_len-IsUtf8, IsUtf8, IsCharBoundary, chars, Dialect, Lines, Turtle, Outcome, Reading, Place, rest_of, step, undecided, complete, token_too_long, bad_utf8, no_token, bad_escape, first_place, tokens_at, tokens_of, HasScanned, IsWaiting, SameScan, TakesBytes, Gives, Stops, StopsFor, token_of, Open, First, Nothing, Unfit, Other, reading_from, HasNone, IsOpen, IsLongestOpen, IsOther, IsSeen, IsSeenOf, seen_for, Sees, SeesEnd, SeesPart, HasTaken}
use Rattle.std.specs.Str.Lossy.{utf8_valid_len, utf8_error_len}
use Rattle.rdf_terms.specs.declared.reason.Reason.{Reason}
use Rattle.rdf_terms.specs.declared.reason.Reason.TheVariants.{BadUtf8, NoToken, BadEscape, TokenTooLong, Ended}
use Rattle.rdf_tokens.specs.declared.token.Token.{Token as Given}
use Rattle.rdf_tokens.specs.declared.token.Fault.{Fault}
use Rattle.rdf_tokens.specs.Tokens.{Token as Read}
use Rattle.rdf_tokens.specs.Tokens.Step.{stop}
use Rattle.rdf_tokens.specs.Tokens.Tail.{goes_on, broken}
use Rattle.rdf_tokens.specs.Unread.{Unread}
use Rattle.rdf_tokens.specs.Scans.{place_of}
use Rattle.rdf_tokens.proofs.LawLemmas.{lengthens, next_given}
use Rattle.rdf_tokens.proofs.NextLemmas.{open_step}
use Rattle.rdf_tokens.proofs.TokensLemmas.{at_stop}
use Rattle.rdf_tokens.proofs.GoodLemmas.{at_least, good_front}
use Rattle.rdf_diagnostics.specs.declared.sight.Seen.{Seen}

-- Bytes that leave a token open do so too where fewer have come.
pub shorter : (d : Dialect) (limit : ℕ) (front more : List ℕ) → HasNone (reading_from d limit (front ++ more) false) undecided →
    HasNone (reading_from d limit front false) undecided
shorter d limit front more h =
    let l = lengthens d limit (code " " ∷ front) more false in
    record {
      tokens = none (reading_from d limit front false).tokens l.0.0 (sym l.0.1 ∙ h.tokens);
      outcome = at (reading_from d limit front false).outcome refl;
    }
  where
    none : (ts us : List Read) → ts ++ us ≡ [] → ts ≡ []
    none [] us e = refl
    none (t ∷ ts) us e = absurd (cc)

    decided : (o : Outcome) → (reading_from d limit front false).outcome ≡ o → o ≢ undecided → o ≡ undecided
    decided o e n =
        let l = lengthens d limit (code " " ∷ front) more false in
        sym e ∙ (sym (ap (λ r. r.outcome) (l.1 (λ u. n (sym e ∙ u)))) ∙ h.outcome)

    at : (o : Outcome) → (reading_from d limit front false).outcome ≡ o → (reading_from d limit front false).outcome ≡ undecided
    at undecided e = e
    at complete e = e ∙ decided complete e (λ u. (cc))
    at token_too_long e = e ∙ decided token_too_long e (λ u. (cc))
    at bad_utf8 e = e ∙ decided bad_utf8 e (λ u. (cc))
    at no_token e = e ∙ decided no_token e (λ u. (cc))
    at bad_escape e = e ∙ decided bad_escape e (λ u. (cc))

-- What bytes begin with, where it is decided, they begin with when more have come.
pub longer : (d : Dialect) (limit : ℕ) (front more : List ℕ) (e : Bool) (s : Seen) → IsSeen (reading_from d limit front false) s →
    s ≢ Open → IsSeen (reading_from d limit (front ++ more) e) s
longer d limit front more e Open h n = absurd (n refl)
longer d limit front more e (First k len) h n =
    let l = lengthens d limit (code " " ∷ front) more e in
    record { first = h.first; others = h.others ++ l.0.0; tokens = l.0.1 ∙ ap (λ ts. ts ++ l.0.0) h.tokens; kind = h.kind; text = h.text; bytes = h.bytes }
longer d limit front more e Nothing h n =
    let l = lengthens d limit (code " " ∷ front) more e in
    let same = l.1 (λ u. let z : no_token ≡ undecided = sym h.outcome ∙ u in cc) in
    record { tokens = ap (λ r. r.tokens) same ∙ h.tokens; outcome = ap (λ r. r.outcome) same ∙ h.outcome }
longer d limit front more e (Unfit k) h n =
    let l = lengthens d limit (code " " ∷ front) more e in
    let same = l.1 (λ u. let z : bad_escape ≡ undecided = sym h.0.outcome ∙ u in cc) in (
      record { tokens = ap (λ r. r.tokens) same ∙ h.0.tokens; outcome = ap (λ r. r.outcome) same ∙ h.0.outcome },
      ap (λ r. r.at.offset) same ∙ h.1,
    )
longer d limit front more e Other h n = at (reading_from d limit front false).tokens refl h
  where
    at : (ts : List Read) → (reading_from d limit front false).tokens ≡ ts → IsOther ts (reading_from d limit front false).outcome →
        IsOther (reading_from d limit (front ++ more) e).tokens (reading_from d limit (front ++ more) e).outcome
    at [] t o =
        let l = lengthens d limit (code " " ∷ front) more e in
        subst (λ r. IsOther r.tokens r.outcome) (sym (l.1 o.1)) (subst (λ ts. IsOther ts (reading_from d limit front false).outcome) (sym t) o)
    at (u ∷ ts) t o =
        let l = lengthens d limit (code " " ∷ front) more e in
        subst (λ us. IsOther us (reading_from d limit (front ++ more) e).outcome) (sym (l.0.1 ∙ ap (λ us. us ++ l.0.0) t)) o

-- A reading that is open begins with nothing else.
pub only_open : (r : Reading) (s : Seen) → IsSeen r s → HasNone r undecided → s ≡ Open
only_open r Open h o = refl
only_open r (First k n) h o = absurd (let z : h.first ∷ h.others ≡ [] = sym h.tokens ∙ o.tokens in cc)
only_open r Nothing h o = absurd (let z : no_token ≡ undecided = sym h.outcome ∙ o.outcome in cc)
only_open r (Unfit n) h o = absurd (let z : bad_escape ≡ undecided = sym h.0.outcome ∙ o.outcome in cc)
only_open r Other h o = absurd ((subst (λ ts. IsOther ts r.outcome) o.tokens h).1 o.outcome)

-- a scanner that stops
pub sees_stop : (old new : Unread) (f : Fault) → old.stopped ≡ false → Gives old (Err f) new → Sees old (seen_for f.reason f.offset) new
sees_stop old new f run g = by f.reason (place_of f) g
  where
    stop : (o : Outcome) (at : Place) (s : Seen) → Stops old o at new → IsSeen (record { tokens = []; outcome = o; at = at }) s → s ≢ Open → Sees old s new
    stop o at s x h n = record {
      same = x.same;
      is = λ bytes b. subst (λ r. IsSeen r s) (sym (x.read bytes [] b).1) h;
      waits = λ e. absurd (n e);
      read = λ e. absurd (n e);
    }

    other : Other ≢ Open
    other e = (cc)

    by : (r : Reason) (at : Place) → StopsFor r old at new → Sees old (seen_for r at.offset) new
    by BadUtf8 at x = stop bad_utf8 at Other x ((λ e. (cc)), (λ e. (cc)), (λ e. (cc))) other
    by NoToken at x = stop no_token at Nothing x (record { tokens = refl; outcome = refl }) (λ e. (cc))
    by BadEscape at x = stop bad_escape at (Unfit at.offset) x (record { tokens = refl; outcome = refl }, refl) (λ e. (cc))
    by TokenTooLong at x = stop token_too_long at Other x ((λ e. (cc)), (λ e. (cc)), (λ e. (cc))) other
    by Ended at x = absurd (let z : true ≡ false = sym x.0 ∙ run in cc)
    by r at x = absurd x

-- one that waits
pub sees_none : (old new : Unread) → Gives old (Ok None) new → Sees old Open new
sees_none old new g = record {
  same = g.same;
  is = λ bytes b. let x = g.read bytes [] b in
      subst (λ e. HasNone (tokens_of old.dialect old.limit bytes e) undecided) (sym g.before.more) (record { tokens = x.1; outcome = x.2 });
  waits = λ e. g.after;
  read = λ e bytes b. (g.read bytes [] b).0;
}

-- one that gives a token
pub sees_token : (old new : Unread) (t : Given) (s : Seen) → Gives old (Ok (Some t)) new → IsSeenOf (token_of t) s → Sees old s new
sees_token old new t (First k n) g h = record {
  same = g.0.same;
  is = λ bytes b. let x = next_given old new bytes [] (Ok (Some t)) b g in
      record { first = token_of t; others = x.0; tokens = x.1; kind = h.0; text = h.1; bytes = h.2 };
  waits = λ e. absurd (cc);
  read = λ e. absurd (cc);
}
sees_token old new t Other g h = record {
  same = g.0.same;
  is = λ bytes b. let x = next_given old new bytes [] (Ok (Some t)) b g in
      subst (λ us. IsOther us (tokens_of old.dialect old.limit bytes old.ended).outcome) (sym x.1) h;
  waits = λ e. absurd (cc);
  read = λ e. absurd (cc);
}
sees_token old new t s g h = absurd h

-- one that took a part of a piece before
pub sees_part : (old mid new : Unread) (piece : List ℕ) (n : ℕ) (s : Seen) → IsWaiting old → TakesBytes old piece n mid → Sees mid s new →
    SeesPart old piece n s new
sees_part old mid new piece n s w t x = record {
  same = record { dialect = x.same.dialect ∙ t.same.dialect; limit = x.same.limit ∙ t.same.limit };
  within = t.within;
  forward = t.progress (let few = w.few in omega arith);
  is = λ bytes b.
      subst (λ d. IsSeen (tokens_of d old.limit (bytes ++ take n piece) false) s) t.same.dialect
      (subst (λ l. IsSeen (tokens_of mid.dialect l (bytes ++ take n piece) false) s) t.same.limit
      (subst (λ e. IsSeen (tokens_of mid.dialect mid.limit (bytes ++ take n piece) e) s) t.after.more (x.is (bytes ++ take n piece) (t.read bytes [] b))));
  waits = x.waits;
  read = λ e bytes b. x.read e (bytes ++ take n piece) (t.read bytes [] b);
}

-- ---- the first bytes from a place on

-- a space is one byte
space_byte : encode_utf8_all (code " " ∷ []) ≡ code " " ∷ []
space_byte = ap (λ x. x ++ []) (encode_ascii (code " ") (omega arith))

-- and it is UTF-8
pub space_utf8 : IsUtf8 (code " " ∷ [])
space_utf8 = (code " " ∷ [], (refl, space_byte))

-- of one character
pub space_chars : chars (code " " ∷ []) ≡ code " " ∷ []
space_chars = ap chars (sym space_byte) ∙ chars-encodes (code " " ∷ []) refl

-- after a space more bytes decide
after_space : (d : Dialect) (limit : ℕ) → step d limit goes_on (rest_of d false (code " " ∷ [])) ≡ stop undecided
after_space Lines limit = open_step Lines limit
after_space Turtle limit = open_step Turtle limit

-- before any bytes have come all is open
pub nothing_yet : (d : Dialect) (limit : ℕ) → HasNone (reading_from d limit [] false) undecided
unfolding tokens_of
nothing_yet d limit =
    let bytes : List ℕ = code " " ∷ [] in
    let e = ap
    (λ n. tokens_at d limit (cond (n == 1) goes_on (cond (is_some (utf8_error_len (drop n bytes))) broken goes_on)) false false first_place
    (chars (take n bytes)))
    (utf8_valid_len-IsUtf8 bytes space_utf8)
    ∙ (ap (tokens_at d limit goes_on false false first_place) space_chars
    ∙ at_stop d limit goes_on false first_place bytes undecided (after_space d limit)) in
    record { tokens = ap (λ r. r.tokens) e; outcome = ap (λ r. r.outcome) e }

-- a scanner that has taken the space
pub took_space : (v w : Unread) (n : ℕ) (s : Seen) (bytes : List ℕ) → HasScanned v [] [] → SeesPart v (code " " ∷ []) n s w → HasTaken w bytes 0
took_space v w n s bytes b p =
    let one : n ≡ 1 = let within = p.within in let forward = p.forward (omega arith) in omega arith in
    let h : IsSeen (reading_from v.dialect v.limit [] false) s =
    subst (λ k. IsSeen (tokens_of v.dialect v.limit (take k (code " " ∷ [])) false) s) one (p.is [] b) in
    let waits : s ≡ Open = only_open (reading_from v.dialect v.limit [] false) s h (nothing_yet v.dialect v.limit) in
    record {
      front = record { within = omega arith; none = nothing_yet w.dialect w.limit };
      waiting = p.waits waits;
      scanned = subst (λ k. HasScanned w (take k (code " " ∷ [])) []) one (p.read waits [] b);
    }

-- what holds by a dialect and a limit holds by equal ones
pub by_equal : (d e : Dialect) (l m : ℕ) (P : Dialect → ℕ → Type 0) → e ≡ d → m ≡ l → P e m → P d l
by_equal d e l m P s t p = subst (λ x. P x l) s (subst (λ x. P e x) t p)

-- what holds by those after a step holds by those before it
pub by_scan : (old new : Unread) (P : Dialect → ℕ → Type 0) → SameScan old new → P new.dialect new.limit → P old.dialect old.limit
by_scan old new P s p = by_equal old.dialect new.dialect old.limit new.limit P s.dialect s.limit p

-- fewer bytes and those after them
front_rest : (rest : List ℕ) (m n : ℕ) → m ≤ n → take m rest ++ drop m (take n rest) ≡ take n rest
front_rest rest m n l = ap (λ x. x ++ drop m (take n rest)) (sym (take-take m n rest l)) ∙ take-append-drop m (take n rest)

-- the bytes taken before, and a part of a piece after them
joined : (rest piece : List ℕ) (k most n : ℕ) → piece ≡ take most (drop k rest) → n ≤ length piece → take k rest ++ take n piece ≡ take (k + n) rest
joined rest piece k most n e l =
    let few : n ≤ most = omega (arith, ap length e ∙ length-take most (drop k rest)) in
    ap (λ x. take k rest ++ x) (ap (take n) e ∙ (take-take n most (drop k rest) few ∙ sym (drop-take k n rest)))
    ∙ front_rest rest k (k + n) (omega arith)

-- fewer bytes leave open what more leave open
pub open_before : (d : Dialect) (limit : ℕ) (rest : List ℕ) (m n : ℕ) → m ≤ n → HasNone (reading_from d limit (take n rest) false) undecided →
    HasNone (reading_from d limit (take m rest) false) undecided
open_before d limit rest m n l h =
    shorter d limit (take m rest) (drop m (take n rest)) (subst (λ x. HasNone (reading_from d limit x false) undecided) (sym (front_rest rest m n l)) h)

-- a part that decides nothing
pub took : (v w : Unread) (rest piece : List ℕ) (k most n : ℕ) → piece ≡ take most (drop k rest) → k + most ≤ length rest →
    HasTaken v rest k → SeesPart v piece n Open w →
    HasTaken w rest (k + n)
took v w rest piece k most n e l h p =
    let j = joined rest piece k most n e p.within in
    let within = p.within in
    let few : n ≤ most = omega (arith, ap length e ∙ length-take most (drop k rest)) in
    record {
      front = record {
        within = omega arith;
        none = subst (λ x. HasNone (reading_from w.dialect w.limit x false) undecided) j
            (subst (λ d. HasNone (tokens_of d w.limit (code " " ∷ (take k rest ++ take n piece)) false) undecided) (sym p.same.dialect)
            (subst (λ m. HasNone (tokens_of v.dialect m (code " " ∷ (take k rest ++ take n piece)) false) undecided) (sym p.same.limit)
            (p.is (code " " ∷ take k rest) h.scanned)));
      };
      waiting = p.waits refl;
      scanned = subst (λ x. HasScanned w (code " " ∷ x) []) j (p.read refl (code " " ∷ take k rest) h.scanned);
    }

-- a part that decides
pub decided : (v w : Unread) (rest piece : List ℕ) (k most n end : ℕ) (s : Seen) → piece ≡ take most (drop k rest) → k + most ≤ end →
    HasTaken v rest k → SeesPart v piece n s w →
    s ≢ Open → IsSeen (reading_from v.dialect v.limit (take end rest) false) s
decided v w rest piece k most n end s e l h p o =
    let within = p.within in
    let few : n ≤ most = omega (arith, ap length e ∙ length-take most (drop k rest)) in
    let f : IsSeen (reading_from v.dialect v.limit (take (k + n) rest) false) s =
    subst (λ x. IsSeen (reading_from v.dialect v.limit x false) s) (joined rest piece k most n e p.within) (p.is (code " " ∷ take k rest) h.scanned) in
    subst (λ x. IsSeen (reading_from v.dialect v.limit x false) s) (front_rest rest (k + n) end (omega arith))
    (longer v.dialect v.limit (take (k + n) rest) (drop (k + n) (take end rest)) false s f o)

-- what all bytes decide they decide whether more come or not
pub seen_all : (d : Dialect) (limit : ℕ) (rest : List ℕ) (e : Bool) (s : Seen) → IsSeen (reading_from d limit (take (length rest) rest) false) s → s ≢ Open →
    IsSeen (reading_from d limit rest e) s
seen_all d limit rest e s h o =
    subst (λ x. IsSeen (reading_from d limit x e) s) (append-nil rest)
    (longer d limit rest [] e s (subst (λ x. IsSeen (reading_from d limit x false) s) (take_all (length rest) rest (omega arith)) h) o)

-- after all bytes a scanner is told whether more come
pub seen_end : (old v : Unread) (rest : List ℕ) (n : ℕ) (e : Bool) (s : Seen) → SameScan old v → HasTaken v rest n → length rest ≤ n → SeesEnd v e s →
    IsSeen (reading_from old.dialect old.limit rest e) s
seen_end old v rest n e s same h l x =
    let all = take_all n rest l in
    by_scan old v (λ d m. IsSeen (reading_from d m rest e) s) same
    (subst (λ w. IsSeen (reading_from v.dialect v.limit w e) s) all (x (code " " ∷ take n rest) h.scanned h.front.none))

-- ---- the longest front that leaves a token open

-- of the fronts of at most i bytes
pub record IsLongestTo (d : Dialect) (limit : ℕ) (rest : List ℕ) (i n : ℕ) : Type 0 where
  pub opens : IsOpen d limit rest n
  pub longest : (m : ℕ) → IsOpen d limit rest m → m ≤ i → m ≤ n

-- none is shorter than that of no bytes
pub longest_none : (d : Dialect) (limit : ℕ) (rest : List ℕ) → IsLongestTo d limit rest 0 0
longest_none d limit rest = record {
  opens = record { front = record { within = omega arith; none = nothing_yet d limit }; characters = IsUtf8-nil };
  longest = λ m o l. l;
}

-- a longer one
pub longest_next : (d : Dialect) (limit : ℕ) (rest text : List ℕ) (i : ℕ) → text ≡ take (utf8_valid_len rest) rest → i ≤ length text → IsCharBoundary text i →
    HasNone (reading_from d limit (take i rest) false) undecided → IsLongestTo d limit rest i i
longest_next d limit rest text i e l b h =
    let le = utf8_valid_len_le rest in
    let size : length text ≡ utf8_valid_len rest = ap length e ∙ length-take-le (utf8_valid_len rest) rest le in
    record {
      opens = record {
        front = record { within = omega arith; none = h };
        characters = subst IsUtf8 (ap (take i) e ∙ take-take i (utf8_valid_len rest) rest (omega arith))
            (IsUtf8-take text i (subst IsUtf8 (sym e) (good_front rest)) b);
      };
      longest = λ m o k. k;
    }

-- a character goes on after i bytes
pub longest_within : (d : Dialect) (limit : ℕ) (rest text : List ℕ) (i n : ℕ) → text ≡ take (utf8_valid_len rest) rest →
    i + 1 ≤ length text → (IsCharBoundary text (i + 1) → ⊥) →
    IsLongestTo d limit rest i n → IsLongestTo d limit rest (i + 1) n
longest_within d limit rest text i n e l b h = record {
  opens = h.opens;
  longest = λ m o k. ⊎_elim (λ s. h.longest m o (omega arith)) (λ s. absurd (none m o (omega arith))) (cases_lt m (i + 1));
}
  where
    none : (m : ℕ) → IsOpen d limit rest m → m ≡ i + 1 → ⊥
    none m o q =
        let le = utf8_valid_len_le rest in
        let size : length text ≡ utf8_valid_len rest = ap length e ∙ length-take-le (utf8_valid_len rest) rest le in
        let same : take (i + 1) text ≡ take (i + 1) rest = ap (take (i + 1)) e ∙ take-take (i + 1) (utf8_valid_len rest) rest (omega arith) in
        b (IsCharBoundary-from_take text (i + 1) (subst IsUtf8 (sym e) (good_front rest)) l
        (subst IsUtf8 (sym same) (subst (λ x. IsUtf8 (take x rest)) q o.characters)))

-- more bytes settle it
pub longest_settled : (d : Dialect) (limit : ℕ) (rest : List ℕ) (i n : ℕ) (s : Seen) → IsSeen (reading_from d limit (take (i + 1) rest) false) s → s ≢ Open →
    IsLongestTo d limit rest i n → IsLongestOpen d limit rest n
longest_settled d limit rest i n s h o l = record {
  opens = l.opens;
  longest = λ m x. ⊎_elim (λ k. l.longest m x (omega arith))
      (λ k. absurd (o (only_open (reading_from d limit (take (i + 1) rest) false) s h (open_before d limit rest (i + 1) m k x.front.none))))
      (cases_lt m (i + 1));
}

-- there are no more characters
pub longest_all : (d : Dialect) (limit : ℕ) (rest text : List ℕ) (n : ℕ) → text ≡ take (utf8_valid_len rest) rest →
    IsLongestTo d limit rest (length text) n → IsLongestOpen d limit rest n
unfolding utf8_valid_len
longest_all d limit rest text n e l = record {
  opens = l.opens;
  longest = λ m x.
      let le = utf8_valid_len_le rest in
      let size : length text ≡ utf8_valid_len rest = ap length e ∙ length-take-le (utf8_valid_len rest) rest le in
      let most = at_least rest (length rest) m x.front.within x.characters in
      l.longest m x (omega arith);
}
