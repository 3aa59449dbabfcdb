-- A token is longer than the limit by the states or by a spelling.
use Rattle.rdf_tokens.proofs.Prelude.{◌≡◌, ℕ, zero, suc, ◌+◌, ◌-◌, ◌<◌, ◌≤◌, Bool, true, false, cond, nat_lt, List, [], ◌∷◌, ◌&&◌, ◌||◌, ◌⊎◌, inl, inr, refl, sym, ap, ◌∙◌, ⊎_elim, length, take, get_or, nat_le, arith, Option, Some, None, is_some, IsUtf8, and_parts, and_from, cases_lt, lt-ltb, le-ltb, ltb-true, false≢true, nat_tests, length-take-le, encodes-chars, length-le-encodes, encode_utf8_all, chars, Kind, Dialect, fixed, kind_of, is_live, or_else, State, over, IsChars, Row, fits, is_done, is_begun, kind_by, live_by, rows_of, kind_by_table, live_by_table, IsAt, begins, state_of, NoNames, HasNoNames, Ends, ends_within, shaped_over, row_over, fixed_over, HasCome}
use Rattle.rdf_terms.specs.Classes.{is_letter}
use Rattle.rdf_tokens.specs.Machine.{kind_at, goes_on}
use Rattle.rdf_tokens.specs.Fixed.{left}
use Rattle.rdf_tokens.specs.declared.over.Begun.{Begun}
use Rattle.rdf_tokens.proofs.ByteLemmas.{at-end, chars_take, is-chars}
use Rattle.rdf_tokens.proofs.MachineLemmas.{whole-kind, whole-live}
use Rattle.rdf_tokens.proofs.SpellingLemmas.{short, is_low, all_low, rows_low, begins_bytes}
use Rattle.rdf_tokens.proofs.StateLemmas.{longer_state}

-- a text has no more characters than bytes
pub few : (bs : List ℕ) (at n : ℕ) → IsAt bs at n → n ≤ at
few bs at n h =
    let t = take n (chars bs) in
    let c = h.count in
    omega (arith, h.bytes, length-le-encodes t, length-take-le n (chars bs) c)

-- a text has no more characters than bytes
pub fewer : (bs : List ℕ) → IsUtf8 bs → length (chars bs) ≤ length bs
fewer bs u = omega (arith, length-le-encodes (chars bs), ap length (encodes-chars bs u))

-- a test and one that fails are false
and_false : (b : Bool) → (b && false) ≡ false
and_false true = refl
and_false false = refl

-- where the states end before the limit, nothing is over it
none_over : (d : Dialect) (limit : ℕ) (w : List ℕ) → kind_at (state_of d (take (limit + 1) w)) ≡ None →
    goes_on d (state_of d (take (limit + 1) w)) ≡ false → shaped_over d limit w ≡ false
none_over d limit w k g =
    ap (λ o. nat_lt limit (length w) && (is_some o || goes_on d (state_of d (take (limit + 1) w)))) k
    ∙ (ap (λ b. nat_lt limit (length w) && b) g ∙ and_false (nat_lt limit (length w)))

-- where the states end within the limit, or the text does, nothing is over it
pub ends-within : (d : Dialect) (limit : ℕ) (w : List ℕ) → Ends d w limit → shaped_over d limit w ≡ false
ends-within d limit w e = ⊎_elim
    no_more
    (λ f. ⊎_elim
    (λ m.
    let one : limit + suc 0 ≡ limit + 1 = omega arith in
    let k = longer_state d w limit 0 (omega arith) f in
    none_over d limit w (ap (λ i. kind_at (state_of d (take i w))) (sym one) ∙ k.1) (ap (λ i. goes_on d (state_of d (take i w))) (sym one) ∙ k.0))
    no_more
    (cases_lt limit (length w)))
    e
  where
    no_more : length w ≤ limit → shaped_over d limit w ≡ false
    no_more m = ap (λ b. b && (is_some (kind_at (state_of d (take (limit + 1) w))) || goes_on d (state_of d (take (limit + 1) w)))) (le-ltb _ _ m)

-- what is kept of a run without names tells that
pub names-within : (d : Dialect) (limit : ℕ) (bs : List ℕ) (b : Option NoNames) → HasNoNames d bs b → ends_within limit bs b ≡ true →
    shaped_over d limit (chars bs) ≡ false
names-within d limit bs None h e = absurd (false≢true e)
names-within d limit bs (Some b) h e =
    let p = and_parts (nat_lt b.left (length bs)) (nat_le (length bs - limit) b.out && is_letter (get_or bs 0 0)) e in
    let q = and_parts (nat_le (length bs - limit) b.out) (is_letter (get_or bs 0 0)) p.1 in
    let few : length bs - limit ≤ b.out = le-true (length bs - limit) b.out q.0 in
    let left : b.left < length bs = ltb-true b.left (length bs) p.0 in
    ends-within d limit (chars bs) ((h 0 (omega arith) q.1).1 limit (omega arith))
  where
    le-true : (m n : ℕ) → nat_le m n ≡ true → m ≤ n
    le-true m n e = grind (arith, nat_tests)

-- where the states stop, they have ended, or the text has
pub come-end : (d : Dialect) (bs : List ℕ) (b : Begun) → HasCome d bs b →
    (length bs < b.count) ⊎ ((length bs ≤ b.at) ⊎ (goes_on d b.state ≡ false)) → Ends d (chars bs) b.count
come-end d bs b h e =
    let i = h.here.inside in
    ⊎_elim
    (λ (l : length bs < b.count). absurd (omega (arith, few bs b.at b.count h.here, i)))
    (λ x. ⊎_elim (λ l. inl (let y = at-end bs b.at b.count h.here l in omega arith)) (λ f. inr (ap (goes_on d) (sym h.state) ∙ f)) x)
    e

-- a token of the states that has ended within the limit is not too long
pub ends-early : (d : Dialect) (bs : List ℕ) (at n limit : ℕ) (s : State) → IsAt bs at n → s ≡ state_of d (take n (chars bs)) → n ≤ limit →
    (length bs ≤ at) ⊎ (goes_on d s ≡ false) → shaped_over d limit (chars bs) ≡ false
ends-early d bs at n limit s h es l e = ⊎_elim
    (λ a. let x = at-end bs at n h a in no_more (omega arith))
    (λ f. ⊎_elim
    (λ m.
    let w = chars bs in
    let len : n + suc (limit - n) ≡ limit + 1 = omega arith in
    let k = longer_state d w n (limit - n) (omega arith) (ap (goes_on d) (sym es) ∙ f) in
    none_over d limit w (ap (λ i. kind_at (state_of d (take i w))) (sym len) ∙ k.1) (ap (λ i. goes_on d (state_of d (take i w))) (sym len) ∙ k.0))
    no_more
    (cases_lt limit (length (chars bs))))
    e
  where
    no_more : length (chars bs) ≤ limit → shaped_over d limit (chars bs) ≡ false
    no_more m = ap (λ b. b && (is_some (kind_at (state_of d (take (limit + 1) (chars bs)))) || goes_on d
        (state_of d (take (limit + 1) (chars bs))))) (le-ltb _ _ m)

-- whether the limit is passed, by the state after one character more than it
pub by_state : (d : Dialect) (limit n : ℕ) (w : List ℕ) (s : State) → n ≡ limit + 1 → n ≤ length w → s ≡ state_of d (take n w) →
    shaped_over d limit w ≡ (is_some (kind_at s) || goes_on d s)
by_state d limit n w s e l h =
    let there : state_of d (take (limit + 1) w) ≡ s = sym (h ∙ ap (λ i. state_of d (take i w)) e) in
    ap (λ b. b && (is_some (kind_at (state_of d (take (limit + 1) w))) || goes_on d (state_of d (take (limit + 1) w)))) (lt-ltb limit (length w) (omega arith))
    ∙ ap (λ x. is_some (kind_at x) || goes_on d x) there

-- some of a spelling is left after a front of n characters
same_tests : (i j : ℕ) → nat_lt (suc i) (suc j) ≡ nat_lt i j
same_tests i j = grind (arith, nat_tests)

-- a front begins a spelling, or is it, exactly where the characters agree
left-some : (b : Bool) (s w : List ℕ) (n : ℕ) → n ≤ length w → is_some (left b s (take n w)) ≡ cond (nat_lt (length s) n) false (begins b (take n s) w)
left-some b s w zero l = sym (ap (λ t. cond t false true) (le-ltb (length s) zero (omega arith)))
left-some b s [] (suc n) l = absurd (omega arith)
left-some b [] (x ∷ w) (suc n) l = sym (ap (λ t. cond t false true) (lt-ltb zero (suc n) (omega arith)))
left-some b (c ∷ s) (x ∷ w) (suc n) l =
    go (fits b c x) (left-some b s w n (omega arith)) ∙ sym (ap (λ t. cond t false (fits b c x && begins b (take n s) w)) (same_tests (length s) n))
  where
    nothing : (u : Bool) → false ≡ cond u false false
    nothing true = refl
    nothing false = refl

    go : (t : Bool) → is_some (left b s (take n w)) ≡ cond (nat_lt (length s) n) false (begins b (take n s) w) →
        is_some (cond t (left b s (take n w)) None) ≡ cond (nat_lt (length s) n) false (t && begins b (take n s) w)
    go true e = e
    go false e = nothing (nat_lt (length s) n)

-- something or nothing is left of a spelling where it agrees
done_or_begun : (o : Option (List ℕ)) → (is_done o || is_begun o) ≡ is_some o
done_or_begun None = refl
done_or_begun (Some []) = refl
done_or_begun (Some (c ∷ s)) = refl

-- a spelling is too long exactly where the text begins it or is it, one character past the limit
row-over : (r : Row) (limit : ℕ) (w : List ℕ) → limit < length w →
    (is_done (left r.any_case r.text (take (limit + 1) w)) || is_begun (left r.any_case r.text (take (limit + 1) w))) ≡ row_over r limit w
row-over r limit w l =
    done_or_begun (left r.any_case r.text (take (limit + 1) w)) ∙ (left-some r.any_case r.text w (limit + 1) (omega arith)
    ∙ turn (length r.text) (begins r.any_case (take (limit + 1) r.text) w))
  where
    turn : (n : ℕ) (b : Bool) → cond (nat_lt n (limit + 1)) false b ≡ (nat_lt limit n && b)
    turn n b = ⊎_elim
        (λ h. ap (λ t. cond t false b) (le-ltb n (limit + 1) (omega arith)) ∙ sym (ap (λ t. t && b) (lt-ltb limit n h)))
        (λ h. ap (λ t. cond t false b) (lt-ltb n (limit + 1) (omega arith)) ∙ sym (ap (λ t. t && b) (le-ltb limit n h)))
        (cases_lt limit n)

-- some spelling is too long exactly where the text begins one or is one, one character past the limit
rows-over : (rs : List Row) (limit : ℕ) (w : List ℕ) → limit < length w →
    (is_some (kind_by rs (take (limit + 1) w)) || live_by rs (take (limit + 1) w)) ≡ fixed_over rs limit w
rows-over [] limit w l = refl
rows-over (r ∷ rs) limit w l =
    let o = left r.any_case r.text (take (limit + 1) w) in
    regroup (is_done o) (is_begun o) (kind_by rs (take (limit + 1) w)) (live_by rs (take (limit + 1) w))
    ∙ (ap (λ b. b || (is_some (kind_by rs (take (limit + 1) w)) || live_by rs (take (limit + 1) w))) (row-over r limit w l)
    ∙ ap (λ b. row_over r limit w || b) (rows-over rs limit w l))
  where
    regroup : (a b : Bool) (k : Option Kind) (v : Bool) → (is_some (cond a (Some r.kind) k) || (b || v)) ≡ ((a || b) || (is_some k || v))
    regroup true b k v = refl
    regroup false true None v = refl
    regroup false true (Some k) v = refl
    regroup false false None v = refl
    regroup false false (Some k) v = refl

-- a spelling of more characters than the text does not begin it
row-short : (r : Row) (limit : ℕ) (w : List ℕ) → length w ≤ limit → row_over r limit w ≡ false
row-short r limit w l = ⊎_elim
    (λ h. ap (λ b. nat_lt limit (length r.text) && b)
    (short r.any_case (take (limit + 1) r.text) w (omega (arith, length-take-le (limit + 1) r.text (omega arith)))) ∙ and_false _)
    (λ h. ap (λ b. b && begins r.any_case (take (limit + 1) r.text) w) (le-ltb limit (length r.text) h))
    (cases_lt limit (length r.text))

-- a text within the limit has no spelling that is too long
rows-short : (rs : List Row) (limit : ℕ) (w : List ℕ) → length w ≤ limit → fixed_over rs limit w ≡ false
rows-short [] limit w l = refl
rows-short (r ∷ rs) limit w l = ap (λ b. b || fixed_over rs limit w) (row-short r limit w l) ∙ rows-short rs limit w l

-- both together
pub over-split : (d : Dialect) (limit : ℕ) (w : List ℕ) → IsChars w → over d limit w ≡ (shaped_over d limit w || fixed_over (rows_of d fixed) limit w)
unfolding kind_by_table live_by_table
over-split d limit w h = ⊎_elim
    (λ l.
    let u = take (limit + 1) w in
    let t = lt-ltb limit (length w) l in
    let c = chars_take (limit + 1) w h in
    ap (λ b. b && (is_some (kind_of d u) || is_live d u)) t
    ∙ (ap (λ k. is_some k || is_live d u) (whole-kind d u c)
    ∙ (ap (λ b. is_some (or_else (kind_by_table d u) (kind_at (state_of d u))) || b) (whole-live d u c)
    ∙ (regroup (kind_by_table d u) (kind_at (state_of d u)) (goes_on d (state_of d u)) (live_by_table d u)
    ∙ (ap (λ b. (is_some (kind_at (state_of d u)) || goes_on d (state_of d u)) || b) (rows-over (rows_of d fixed) limit w l)
    ∙ sym (ap (λ b. (b && (is_some (kind_at (state_of d u)) || goes_on d (state_of d u))) || fixed_over (rows_of d fixed) limit w) t))))))
    (λ l.
    let t = le-ltb limit (length w) l in
    ap (λ b. b && (is_some (kind_of d (take (limit + 1) w)) || is_live d (take (limit + 1) w))) t
    ∙ (sym (rows-short (rows_of d fixed) limit w l)
    ∙ sym (ap (λ b. (b && (is_some (kind_at (state_of d (take (limit + 1) w))) || goes_on d (state_of d (take (limit + 1) w))))
    || fixed_over (rows_of d fixed) limit w) t)))
    (cases_lt limit (length w))
  where
    regroup : (a b : Option Kind) (g l : Bool) → (is_some (or_else a b) || (g || l)) ≡ ((is_some b || g) || (is_some a || l))
    regroup None None true l = refl
    regroup None None false l = refl
    regroup None (Some k) g l = refl
    regroup (Some k) None true l = refl
    regroup (Some k) None false l = refl
    regroup (Some k) (Some m) g l = refl

-- the spellings by the bytes of a text
low_take : (b : Bool) (n : ℕ) (s : List ℕ) → is_low b s ≡ true → is_low b (take n s) ≡ true
low_take b zero s e = refl
low_take b (suc n) [] e = refl
low_take b (suc n) (a ∷ s) e = let p = and_parts _ _ e in and_from _ _ p.0 (low_take b n s p.1)

-- spellings are ASCII, so they may be compared with the bytes
over-encodes : (rs : List Row) (limit : ℕ) (w : List ℕ) → all_low rs ≡ true → fixed_over rs limit (encode_utf8_all w) ≡ fixed_over rs limit w
over-encodes [] limit w e = refl
over-encodes (r ∷ rs) limit w e =
    let p = and_parts _ _ e in
    ap (λ b. (nat_lt limit (length r.text) && b) || fixed_over rs limit (encode_utf8_all w))
    (begins_bytes r.any_case (take (limit + 1) r.text) w (low_take r.any_case (limit + 1) r.text (and_parts _ _ p.0).1))
    ∙ ap (λ b. row_over r limit w || b) (over-encodes rs limit w p.1)

-- the test of the limit may be made on the bytes of a text
pub over-bytes : (d : Dialect) (limit : ℕ) (bs : List ℕ) → IsUtf8 bs →
    over d limit (chars bs) ≡ (shaped_over d limit (chars bs) || fixed_over (rows_of d fixed) limit bs)
over-bytes d limit bs u =
    over-split d limit (chars bs) (is-chars bs u)
    ∙ ap (λ b. shaped_over d limit (chars bs) || b)
    (sym (over-encodes (rows_of d fixed) limit (chars bs) (rows_low d)) ∙ ap (fixed_over (rows_of d fixed) limit) (encodes-chars bs u))

-- no token of a text is too long if the text is within the limit
pub over-short : (d : Dialect) (limit : ℕ) (bs : List ℕ) → IsUtf8 bs → length bs ≤ limit → over d limit (chars bs) ≡ false
over-short d limit bs u l =
    ap (λ b. b && (is_some (kind_of d (take (limit + 1) (chars bs))) || is_live d (take (limit + 1) (chars bs))))
    (le-ltb limit (length (chars bs)) (omega (arith, fewer bs u)))
