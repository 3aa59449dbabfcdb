-- What the loop over a text's states keeps.
use Rattle.rdf_tokens.proofs.Prelude.{◌≡◌, ℕ, zero, suc, ◌+◌, ◌-◌, ◌<◌, ◌≤◌, Bool, true, false, List, [], ◌∷◌, ◌++◌, ◌||◌, ◌⊎◌, ⊎_elim, ◌&&◌, cond, get_or, refl, sym, ap, ◌∙◌, subst, length, take, drop, arith, encode_utf8, Option, Some, None, is_some, add-one, IsUtf8, true≢false, cond-false, take_all, drop_more, take-add, chars, len_utf8, Kind, Dialect, Lines, Turtle, is_live, kind_of, or_else, fixed, State, longest, with_length, three_quotes, only_long, Reached, bytes_of, in_bytes, longest_by, longer_front, front_by, state_of, kind_by_states, kind_here, open_state, kind_by_table, rows_of, live_by, run, IsChars, sort_by, closes}
use Rattle.rdf_tokens.specs.declared.states.machine.State.TheVariants.{Start, Iri, Label, Text, Tag, Number, Name, Dead}
use Rattle.rdf_tokens.specs.declared.states.iri.Iri.TheVariants as iri_state
use Rattle.rdf_tokens.specs.declared.states.label.Label.TheVariants as label_state
use Rattle.rdf_tokens.specs.declared.states.text.Text.TheVariants as text_state
use Rattle.rdf_tokens.specs.declared.states.tag.Tag.TheVariants as tag_state
use Rattle.rdf_tokens.specs.declared.states.number.Number.TheVariants as number_state
use Rattle.rdf_tokens.specs.declared.states.name.Name.TheVariants as name_state
use Rattle.rdf_tokens.specs.Text.{ascii, high}
use Rattle.rdf_tokens.specs.Machine.{step, kind_at, goes_on}
use Rattle.rdf_tokens.proofs.ByteLemmas.{at-start, char-step, at-end, run-append, run-more, chars_take, is-chars}
use Rattle.rdf_tokens.proofs.FrontLemmas.{longest-by, longest_by-same, longest_by-or, longest_by-at_most, in_bytes-longer}
use Rattle.rdf_tokens.proofs.SpellingLemmas.{only_long-table, table-front, table-live}
use Rattle.rdf_tokens.proofs.MachineLemmas.{whole-kind, whole-live}

-- no shape comes after a state that does not go on
abbrev pub Stuck : Dialect → State → Type 0
Stuck d s = (goes_on d s ≡ false) × (kind_at s ≡ None)

-- a state that does not go on is stuck after one character more
stuck_one : (d : Dialect) (s : State) (c : ℕ) → goes_on d s ≡ false → Stuck d (step d s c)
stuck_one d Start c e = absurd (true≢false e)
stuck_one d Dead c e = (refl, refl)
stuck_one d (Iri iri_state.Whole) c e = (refl, refl)
stuck_one d (Iri iri_state.Dead) c e = (refl, refl)
stuck_one d (Iri s) c e = absurd (true≢false e)
stuck_one d (Label label_state.Dead) c e = (refl, refl)
stuck_one d (Label s) c e = absurd (true≢false e)
stuck_one d (Text text_state.ShortWhole) c e = (refl, refl)
stuck_one d (Text text_state.LongWhole) c e = (refl, refl)
stuck_one d (Text text_state.Dead) c e = (refl, refl)
stuck_one Turtle (Text (text_state.Empty q)) c e = absurd (true≢false e)
stuck_one Lines (Text (text_state.Empty q)) c e = go (closes q (sort_by ascii high c))
  where
    go : (t : Bool) → Stuck Lines (Text (cond (t && false) (text_state.Long q) text_state.Dead))
    go true = (refl, refl)
    go false = (refl, refl)
stuck_one d (Text s) c e = absurd (true≢false e)
stuck_one d (Tag tag_state.Dead) c e = (refl, refl)
stuck_one d (Tag s) c e = absurd (true≢false e)
stuck_one Lines (Number number_state.Start) c e = (refl, refl)
stuck_one Turtle (Number number_state.Start) c e = absurd (true≢false e)
stuck_one d (Number number_state.Dead) c e = (refl, refl)
stuck_one d (Number s) c e = absurd (true≢false e)
stuck_one Lines (Name name_state.Start) c e = (refl, refl)
stuck_one Turtle (Name name_state.Start) c e = absurd (true≢false e)
stuck_one d (Name name_state.Dead) c e = (refl, refl)
stuck_one d (Name s) c e = absurd (true≢false e)

-- a state that does not go on is stuck after any more characters
stuck_run : (d : Dialect) (s : State) (c : ℕ) (v : List ℕ) → goes_on d s ≡ false → Stuck d (run (step d) s (c ∷ v))
stuck_run d s c [] e = stuck_one d s c e
stuck_run d s c (x ∷ v) e = stuck_run d (step d s c) x v (stuck_one d s c e).0

-- the state after a longer front
pub longer_state : (d : Dialect) (w : List ℕ) (n k : ℕ) → n + k < length w → goes_on d (state_of d (take n w)) ≡ false →
    Stuck d (state_of d (take (n + suc k) w))
longer_state d w n k l e =
    let more : take (suc k) (drop n w) ≡ get_or w n 0 ∷ take k (drop (n + 1) w) = ap (take (suc k)) (drop_more w n 0 (omega arith)) in
    let parts : state_of d (take (n + suc k) w) ≡ run (step d) (state_of d (take n w)) (get_or w n 0 ∷ take k (drop (n + 1) w)) =
    ap (state_of d) (take-add n (suc k) w ∙ ap (λ x. take n w ++ x) more) ∙ run-append (step d) Start (take n w) (get_or w n 0 ∷ take k (drop (n + 1) w)) in
    subst (Stuck d) (sym parts) (stuck_run d (state_of d (take n w)) (get_or w n 0) (take k (drop (n + 1) w)) e)

-- a front without a kind has none after three quotes either
no_long : (t : Bool) → only_long t None ≡ None
no_long true = refl
no_long false = refl

-- where the states do not go on, the longest front has been found
longest-done : (d : Dialect) (w : List ℕ) (n k : ℕ) → n + k ≤ length w → goes_on d (state_of d (take n w)) ≡ false →
    longest_by (kind_by_states d w) w (k + n) ≡ longest_by (kind_by_states d w) w n
longest-done d w n zero l e = ap (longest_by (kind_by_states d w) w) (omega arith)
longest-done d w n (suc k) l e =
    let sum : suc k + n ≡ suc (k + n) = omega arith in
    let len : suc (k + n) ≡ n + suc k = omega arith in
    let h = longer_state d w n k (omega arith) e in
    let none : kind_by_states d w (take (suc (k + n)) w) ≡ None =
    ap (λ m. kind_by_states d w (take m w)) len ∙ (ap (only_long (three_quotes d w)) h.1 ∙ no_long (three_quotes d w)) in
    ap (longest_by (kind_by_states d w) w) sum
    ∙ (ap (λ x. with_length (suc (k + n)) x (longest_by (kind_by_states d w) w (k + n))) none ∙ longest-done d w n k (omega arith) e)

-- the loop begins before the first byte, in the first state, with no front
pub reached-start : (d : Dialect) (bs : List ℕ) → IsUtf8 bs → Reached d bs 0 Start None
reached-start d bs u = record { n = 0; here = at-start bs u; state = refl; front = refl }

-- a front that is found is found in bytes
with_bytes : (w : List ℕ) (n m : ℕ) (k : Option Kind) (o : Option (ℕ × Kind)) → m ≡ bytes_of n w →
    with_length m k (in_bytes w o) ≡ in_bytes w (with_length n k o)
with_bytes w n m None o e = refl
with_bytes w n m (Some k) o e = ap (λ m. Some (m, k)) e

-- one character more: the state after it, and the longest front so far
front-more : (d : Dialect) (w : List ℕ) (n m : ℕ) (s : State) (k : Option Kind) (b b' : Option (ℕ × Kind)) →
    s ≡ state_of d (take (n + 1) w) → m ≡ bytes_of (n + 1) w → k ≡ only_long (three_quotes d w) (kind_at s) →
    b ≡ in_bytes w (longest_by (kind_by_states d w) w n) → b' ≡ with_length m k b → b' ≡ in_bytes w (longest_by (kind_by_states d w) w (n + 1))
front-more d w n m s k b b' es em ek eb eb' =
    let f = kind_by_states d w in
    let kind : k ≡ f (take (n + 1) w) = ek ∙ ap (λ s. only_long (three_quotes d w) (kind_at s)) es in
    eb' ∙ (ap (λ x. with_length m x b) kind ∙ (ap (with_length m (f (take (n + 1) w))) eb
    ∙ (with_bytes w (n + 1) m (f (take (n + 1) w)) (longest_by f w n) em ∙ ap (in_bytes w) (longest_one f w n))))
  where
    longest_one : (f : List ℕ → Option Kind) (w : List ℕ) (n : ℕ) → with_length (n + 1) (f (take (n + 1) w)) (longest_by f w n) ≡ longest_by f w (n + 1)
    longest_one f w n = rw add-one refl

-- what the loop keeps holds after one character more
pub reached-step : (d : Dialect) (bs : List ℕ) (at next c : ℕ) (s s' : State) (k : Option Kind) (b b' : Option (ℕ × Kind)) → Reached d bs at s b →
    drop at bs ≡ encode_utf8 c ++ drop next bs → next ≡ at + len_utf8 c → next ≤ length bs →
    s' ≡ step d s c → k ≡ only_long (three_quotes d (chars bs)) (kind_at s') → b' ≡ with_length next k b → Reached d bs next s' b'
reached-step d bs at next c s s' k b b' r e en l es ek eb =
    let p = char-step bs at r.n c next r.here e en l in
    let st : s' ≡ state_of d (take (r.n + 1) (chars bs)) = es ∙ run-more (step d) Start s (chars bs) _ r.n c p.0 r.state in
    record { n = r.n + 1; here = p.1; state = st; front = front-more d (chars bs) r.n next s' k b b' st p.1.bytes ek r.front eb }

-- after the first character
pub reached-first : (d : Dialect) (bs : List ℕ) (at c : ℕ) (s : State) → IsUtf8 bs → bs ≡ encode_utf8 c ++ drop at bs → at ≡ 0 + len_utf8 c → at ≤ length bs →
    s ≡ step d Start c → Reached d bs at s (with_length at (kind_here d bs s) None)
reached-first d bs at c s u e en l es =
    reached-step d bs 0 at c Start s (kind_here d bs s) None (with_length at (kind_here d bs s) None) (reached-start d bs u) e en l es refl refl

-- a first character that begins no family
pub reached-none : (d : Dialect) (bs : List ℕ) (at c : ℕ) → IsUtf8 bs → bs ≡ encode_utf8 c ++ drop at bs → at ≡ 0 + len_utf8 c → at ≤ length bs →
    Dead ≡ step d Start c → Reached d bs at Dead None
reached-none d bs at c u e en l es =
    reached-step d bs 0 at c Start Dead None None None (reached-start d bs u) e en l es (sym (no_long (three_quotes d (chars bs)))) refl

-- the front that ends where the states are is given twice
pub reached-again : (d : Dialect) (bs : List ℕ) (at : ℕ) (s : State) (b : Option (ℕ × Kind)) → 0 < at → Reached d bs at s b →
    Reached d bs at s (with_length at (kind_here d bs s) b)
reached-again d bs at s b l r = record { n = r.n; here = r.here; state = r.state; front = go r.n refl }
  where
    w : List ℕ
    w = chars bs

    told : (n : ℕ) (k : Option Kind) (o : Option (ℕ × Kind)) → at ≡ bytes_of n w → b ≡ in_bytes w (with_length n k o) →
        with_length at k b ≡ in_bytes w (with_length n k o)
    told n None o e f = f
    told n (Some x) o e f = ap (λ m. Some (m, x)) e

    go : (n : ℕ) → r.n ≡ n → with_length at (kind_here d bs s) b ≡ in_bytes w (longest_by (kind_by_states d w) w r.n)
    go zero e = let z : at ≡ 0 = r.here.bytes ∙ ap (λ i. bytes_of i w) e in absurd (omega arith)
    go (suc m) e =
        let kind : kind_here d bs s ≡ kind_by_states d w (take (suc m) w) =
        ap (λ s. only_long (three_quotes d w) (kind_at s)) (r.state ∙ ap (λ i. state_of d (take i w)) e) in
        let front = r.front ∙ ap (λ i. in_bytes w (longest_by (kind_by_states d w) w i)) e in
        ap (λ k. with_length at k b) kind
        ∙ (told (suc m) (kind_by_states d w (take (suc m) w)) (longest_by (kind_by_states d w) w m) (r.here.bytes ∙ ap (λ i. bytes_of i w) e) front
        ∙ sym (ap (λ i. in_bytes w (longest_by (kind_by_states d w) w i)) e))

-- what is known where the states do not go on
pub reached-dead : (d : Dialect) (bs : List ℕ) (at : ℕ) (s : State) (b : Option (ℕ × Kind)) → Reached d bs at s b → goes_on d s ≡ false →
    (b ≡ in_bytes (chars bs) (longest_by (kind_by_states d (chars bs)) (chars bs) (length (chars bs)))) × (false ≡ goes_on d (state_of d (chars bs)))
reached-dead d bs at s b r e =
    let w = chars bs in
    let n = r.n in
    let l : n ≤ length w = r.here.count in
    let f : goes_on d (state_of d (take n w)) ≡ false = ap (goes_on d) (sym r.state) ∙ e in
    let len : length w - n + n ≡ length w = omega arith in (
      r.front ∙ ap (in_bytes w) (sym (longest-done d w n (length w - n) (omega arith) f) ∙ ap (longest_by (kind_by_states d w) w) len),
      sym (at_end (length w - n) (omega arith) f),
    )
  where
    at_end : (k : ℕ) → r.n + k ≡ length (chars bs) → goes_on d (state_of d (take r.n (chars bs))) ≡ false → goes_on d (state_of d (chars bs)) ≡ false
    at_end zero x f = ap (λ u. goes_on d (state_of d u)) (sym (take_all r.n (chars bs) (omega arith))) ∙ f
    at_end (suc k) x f =
        ap (λ u. goes_on d (state_of d u)) (sym (take_all (r.n + suc k) (chars bs) (omega arith))) ∙ (longer_state d (chars bs) r.n k (omega arith) f).0

-- and where the text ends
reached-end : (d : Dialect) (bs : List ℕ) (at : ℕ) (s : State) (b : Option (ℕ × Kind)) → Reached d bs at s b → length bs ≤ at →
    (b ≡ in_bytes (chars bs) (longest_by (kind_by_states d (chars bs)) (chars bs) (length (chars bs)))) × (s ≡ state_of d (chars bs))
reached-end d bs at s b r l =
    let w = chars bs in
    let e : r.n ≡ length w = at-end bs at r.n r.here l in (
      r.front ∙ ap (λ n. in_bytes w (longest_by (kind_by_states d w) w n)) e,
      r.state ∙ ap (state_of d) (take_all r.n w (omega arith)),
    )

-- what is known after the loop
pub reached-out : (d : Dialect) (bs : List ℕ) (at : ℕ) (s : State) (b : Option (ℕ × Kind)) → Reached d bs at s b → (length bs ≤ at) ⊎ (goes_on d s ≡ false) →
    (b ≡ in_bytes (chars bs) (longest_by (kind_by_states d (chars bs)) (chars bs) (length (chars bs))))
    × (open_state d s ≡ open_state d (state_of d (chars bs)))
reached-out d bs at s b r h = ⊎_elim
    (λ l. let p = reached-end d bs at s b r l in (p.0, ap (open_state d) p.1))
    (λ e. let p = reached-dead d bs at s b r e in (p.0, cond-false _ _ _ e ∙ sym (cond-false _ _ _ (sym p.1))))
    h

-- whether the state is open
pub open-live : (d : Dialect) (s : State) → is_some (open_state d s) ≡ goes_on d s
open-live d s = go (goes_on d s)
  where
    go : (t : Bool) → is_some (cond t (Some s) None) ≡ t
    go true = refl
    go false = refl

-- the longest token by the table and the states
pub front-best : (d : Dialect) (w : List ℕ) → IsChars w → in_bytes w (longest d w (length w))
    ≡ longer_front (in_bytes w (longest_by (kind_by_table d) w (length w))) (in_bytes w (longest_by (kind_by_states d w) w (length w)))
front-best d w h =
    let t = three_quotes d w in
    ap (in_bytes w)
    (longest-by d w (length w)
    ∙ (longest_by-same (λ u. only_long t (kind_of d u)) (λ u. or_else (kind_by_table d u) (kind_by_states d w u)) w
    (λ m. ap (only_long t) (whole-kind d (take (suc m) w) (chars_take (suc m) w h)) ∙ only_long-table d w m (kind_at (state_of d (take (suc m) w)))) (length w)
    ∙ longest_by-or (kind_by_table d) (kind_by_states d w) w (length w)))
    ∙ in_bytes-longer w (longest_by (kind_by_table d) w (length w)) (longest_by (kind_by_states d w) w (length w))
    (longest_by-at_most (kind_by_table d) w (length w)) (longest_by-at_most (kind_by_states d w) w (length w))

-- the longest token, and whether a longer one begins so, by the bytes and the states
pub front-bytes : (d : Dialect) (bs : List ℕ) (f b o : Option (ℕ × Kind)) → IsUtf8 bs → f ≡ front_by (rows_of d fixed) bs →
    b ≡ in_bytes (chars bs) (longest_by (kind_by_states d (chars bs)) (chars bs) (length (chars bs))) → o ≡ longer_front f b →
    o ≡ in_bytes (chars bs) (longest d (chars bs) (length (chars bs)))
front-bytes d bs f b o u ef eb eo =
    eo ∙ (ap (λ x. longer_front x b) (ef ∙ table-front d bs u)
    ∙ (ap (longer_front (in_bytes (chars bs) (longest_by (kind_by_table d) (chars bs) (length (chars bs))))) eb
    ∙ sym (front-best d (chars bs) (is-chars bs u))))

-- the states and the table together tell whether the text begins a longer token
pub live-bytes : (d : Dialect) (bs : List ℕ) → IsUtf8 bs → (goes_on d (state_of d (chars bs)) || live_by (rows_of d fixed) bs) ≡ is_live d (chars bs)
live-bytes d bs u =
    ap (λ t. goes_on d (state_of d (chars bs)) || t) (table-live d bs u) ∙ sym (whole-live d (chars bs) (is-chars bs u))
