-- A text that begins no name begins none at a later letter of its first run either: the states after both letters are the same.
use Rattle.rdf_tokens.proofs.Prelude.{◌≡◌, ℕ, zero, suc, ◌+◌, ◌-◌, ◌<◌, Bool, true, false, List, [], ◌∷◌, ◌++◌, ◌&&◌, ◌||◌, ◌==◌, ◌≤◌, inl, inr, not, refl, sym, ap, ◌∙◌, subst, ⊎_elim, length, take, drop, get_or, arith, length-append, length-drop, Option, Some, None, IsUtf8, agree_below_at, and_parts, true≢false, cases_lt, nat_tests, get_or-drop, drop-drop, take-append-drop, length-take-le, encode_ascii, length-encode, chars, len_utf8, Kind, Dialect, Turtle, IsRun, State, NoNames, with_length, three_quotes, only_long, run, IsAt, bytes_of, in_bytes, longest_by, state_of, kind_by_states, open_state, is_prefix_byte, BeginsNoName, HasNoNames, Ends}
use Rattle.rdf_terms.specs.Classes.{is_letter}
use Rattle.rdf_tokens.specs.declared.states.machine.State.TheVariants.{Start, Name}
use Rattle.rdf_tokens.specs.declared.states.name.Name.TheVariants as name
use Rattle.rdf_tokens.specs.Machine.{step, kind_at, goes_on}
use Rattle.rdf_tokens.proofs.ByteLemmas.{at-start, char-step, ascii_first, run-append, run-more}
use Rattle.rdf_tokens.proofs.StateLemmas.{longer_state}

-- a state within a prefix
abbrev in_prefix : State → Bool
in_prefix (Name name.Prefix) = true
in_prefix (Name name.PrefixDots) = true
in_prefix s = false

-- a state after a letter of a prefix
abbrev at_letter : State → Bool
at_letter (Name name.Prefix) = true
at_letter s = false

-- after an ASCII letter alone the states stand in a prefix
letter_state : (s : State) → at_letter s ≡ true → s ≡ Name name.Prefix
letter_state (Name name.Prefix) e = refl
letter_state s e = absurd (true≢false (sym e))

-- each byte of ASCII: a letter leads to that state from the start and from within a prefix
abbrev letter_tests : ℕ → Bool
letter_tests c =
    not (is_letter c) || (at_letter (step Turtle Start c) && (at_letter (step Turtle (Name name.Prefix) c) && at_letter (step Turtle (Name name.PrefixDots) c)))

-- and a byte of a prefix leads from within one into it again
abbrev prefix_tests : ℕ → Bool
prefix_tests c = not (is_prefix_byte c) || (in_prefix (step Turtle (Name name.Prefix) c) && in_prefix (step Turtle (Name name.PrefixDots) c))

-- an implication between truth values, from its test
pub implied : (a b : Bool) → (not a || b) ≡ true → a ≡ true → b ≡ true
implied true b e h = e
implied false b e h = absurd (true≢false (sym h))

-- letters that the code looks for are ASCII
pub low-letter : (c : ℕ) → is_letter c ≡ true → c < 128
low-letter c e = grind (arith, nat_tests)

-- the bytes of a run without names are ASCII
low-prefix : (c : ℕ) → is_prefix_byte c ≡ true → c < 128
low-prefix c e = grind (arith, nat_tests)

-- a letter leads into a prefix from the start, within a prefix and after its dots
pub letter_steps : (c : ℕ) → is_letter c ≡ true →
    (step Turtle Start c ≡ Name name.Prefix)
    × ((step Turtle (Name name.Prefix) c ≡ Name name.Prefix) × (step Turtle (Name name.PrefixDots) c ≡ Name name.Prefix))
letter_steps c e =
    let all = implied (is_letter c) _ (agree_below_at letter_tests (λ c. true) 128 c refl (low-letter c e)) e in
    let p = and_parts _ _ all in
    let q = and_parts _ _ p.1 in
    (letter_state _ p.0, (letter_state _ q.0, letter_state _ q.1))

-- a letter after a prefix leads where it leads alone
letter_within : (s : State) (c : ℕ) → in_prefix s ≡ true → is_letter c ≡ true → step Turtle s c ≡ step Turtle Start c
letter_within (Name name.Prefix) c h e = let p = letter_steps c e in p.1.0 ∙ sym p.0
letter_within (Name name.PrefixDots) c h e = let p = letter_steps c e in p.1.1 ∙ sym p.0
letter_within s c h e = absurd (true≢false (sym h))

-- a byte of the run leads on within a prefix
prefix_within : (s : State) (c : ℕ) → in_prefix s ≡ true → is_prefix_byte c ≡ true → in_prefix (step Turtle s c) ≡ true
prefix_within s c h e = go s h (and_parts _ _ (implied (is_prefix_byte c) _ (agree_below_at prefix_tests (λ c. true) 128 c refl (low-prefix c e)) e))
  where
    go : (s : State) → in_prefix s ≡ true → (in_prefix (step Turtle (Name name.Prefix) c) ≡ true) × (in_prefix (step Turtle (Name name.PrefixDots) c) ≡ true) →
        in_prefix (step Turtle s c) ≡ true
    go (Name name.Prefix) h p = p.0
    go (Name name.PrefixDots) h p = p.1
    go s h p = absurd (true≢false (sym h))

-- where no front is found, none has a kind, and the other way round
none_parts : (n : ℕ) (k : Option Kind) (o : Option (ℕ × Kind)) → with_length n k o ≡ None → (k ≡ None) × (o ≡ None)
none_parts n None o e = (refl, e)
none_parts n (Some k) o e = absurd (let h : Some (n, k) ≡ None = e in cc)

-- where no front has a kind, each single one has none
none_each : (f : List ℕ → Option Kind) (w : List ℕ) (n m : ℕ) → longest_by f w n ≡ None → m < n → f (take (suc m) w) ≡ None
none_each f w zero m e l = absurd (omega arith)
none_each f w (suc n) m e l =
    let p = none_parts (suc n) (f (take (suc n) w)) (longest_by f w n) e in
    ⊎_elim (λ i. none_each f w n m p.1 i) (λ i. let e : m ≡ n = omega arith in ap (λ j. f (take (suc j) w)) e ∙ p.0) (cases_lt m n)

-- where no single front has a kind, there is no longest one
none_all : (f : List ℕ → Option Kind) (w : List ℕ) (n : ℕ) → ((m : ℕ) → m < n → f (take (suc m) w) ≡ None) → longest_by f w n ≡ None
none_all f w zero h = refl
none_all f w (suc n) h =
    ap (λ k. with_length (suc n) k (longest_by f w n)) (h n (omega arith)) ∙ none_all f w n (λ m l. h m (omega arith))

-- a front without a kind has none after three quotes either
pub no_long : (t : Bool) → only_long t None ≡ None
no_long true = refl
no_long false = refl

-- three quotes do not begin with a letter
pub no_quotes : (c : ℕ) (w : List ℕ) → is_letter c ≡ true → three_quotes Turtle (c ∷ w) ≡ false
no_quotes c [] e = refl
no_quotes c (a ∷ []) e = refl
no_quotes c (a ∷ b ∷ w) e =
    let p : (c == 34) ≡ false = grind (arith, nat_tests) in
    let q : (c == 39) ≡ false = grind (arith, nat_tests) in
    ap (λ t. ((t && a == 34) && b == 34) || ((c == 39 && a == 39) && b == 39)) p ∙ ap (λ t. (t && a == 39) && b == 39) q

-- the state after a letter and what follows it, from within a prefix and alone
same_state : (u v : List ℕ) (c : ℕ) → in_prefix (state_of Turtle u) ≡ true → is_letter c ≡ true → state_of Turtle (u ++ c ∷ v) ≡ state_of Turtle (c ∷ v)
same_state u v c h e = run-append (step Turtle) Start u (c ∷ v) ∙ ap (λ s. run (step Turtle) s v) (letter_within (state_of Turtle u) c h e)

-- a front that is longer than the first text is that text and a front of the second
take_over : (u v : List ℕ) (n : ℕ) → take (length u + n) (u ++ v) ≡ u ++ take n v
take_over [] v n = ap (λ m. take m v) (omega arith)
take_over (c ∷ u) v n = let e : suc (length u) + n ≡ suc (length u + n) = omega arith in ap (λ m. take m (c ∷ (u ++ v))) e ∙ ap (λ x. c ∷ x) (take_over u v n)

-- what is known after a prefix holds from its next letter on
none_after : (u v : List ℕ) (c : ℕ) (s : Option State) → three_quotes Turtle (u ++ c ∷ v) ≡ false → in_prefix (state_of Turtle u) ≡ true → is_letter c ≡ true →
    BeginsNoName Turtle (u ++ c ∷ v) s → BeginsNoName Turtle (c ∷ v) s
none_after u v c s t h e b = record {
  none = none_all (kind_by_states Turtle (c ∷ v)) (c ∷ v) (length (c ∷ v)) each;
  state = b.state ∙ ap (open_state Turtle) (same_state u v c h e);
}
  where
    each : (m : ℕ) → m < length (c ∷ v) → kind_by_states Turtle (c ∷ v) (take (suc m) (c ∷ v)) ≡ None
    each m l =
        let w = u ++ c ∷ v in
        let n : suc (length u + m) ≡ length u + suc m = omega arith in
        let front : take (suc (length u + m)) w ≡ u ++ c ∷ take m v = ap (λ k. take k w) n ∙ take_over u (c ∷ v) (suc m) in
        let same : state_of Turtle (take (suc (length u + m)) w) ≡ state_of Turtle (c ∷ take m v) =
        ap (state_of Turtle) front ∙ same_state u (take m v) c h e in
        let none = none_each (kind_by_states Turtle w) w (length w) (length u + m) b.none (omega (arith, length-append u (c ∷ v))) in
        let kind : kind_at (state_of Turtle (c ∷ take m v)) ≡ None =
        ap kind_at (sym same) ∙ (ap (λ x. only_long x (kind_at (state_of Turtle (take (suc (length u + m)) w)))) (sym t) ∙ none) in
        ap (only_long (three_quotes Turtle (c ∷ v))) kind ∙ no_long (three_quotes Turtle (c ∷ v))

-- the states go on within a prefix
prefix_live : (s : State) → in_prefix s ≡ true → goes_on Turtle s ≡ true
prefix_live (Name name.Prefix) h = refl
prefix_live (Name name.PrefixDots) h = refl
prefix_live s h = absurd (true≢false (sym h))

-- where the states have ended they have after more characters
pub ends_more : (d : Dialect) (w : List ℕ) (m n : ℕ) → m ≤ n → Ends d w m → Ends d w n
ends_more d w m n l e = ⊎_elim
    (λ (a : length w ≤ m). inl (omega arith))
    (λ f. ⊎_elim (λ (i : n < length w). inr (go (n - m) f i (omega arith))) (λ i. inl i) (cases_lt n (length w)))
    e
  where
    go : (k : ℕ) → goes_on d (state_of d (take m w)) ≡ false → n < length w → m + k ≡ n → goes_on d (state_of d (take n w)) ≡ false
    go zero f i x = subst (λ j. goes_on d (state_of d (take j w)) ≡ false) (let y : m ≡ n = omega arith in y) f
    go (suc k) f i x = subst (λ j. goes_on d (state_of d (take j w)) ≡ false) x (longer_state d w m k (omega arith) f).0

-- the states end at the same place from a later letter on
ends_after : (u v : List ℕ) (c n : ℕ) → in_prefix (state_of Turtle u) ≡ true → is_letter c ≡ true →
    Ends Turtle (u ++ c ∷ v) (length u + n) → Ends Turtle (c ∷ v) n
ends_after u v c n h e x = ⊎_elim (λ (a : length (u ++ c ∷ v) ≤ length u + n). inl (omega (arith, length-append u (c ∷ v)))) (λ f. inr (go n f)) x
  where
    go : (n : ℕ) → goes_on Turtle (state_of Turtle (take (length u + n) (u ++ c ∷ v))) ≡ false → goes_on Turtle (state_of Turtle (take n (c ∷ v))) ≡ false
    go zero f =
        let same : state_of Turtle (take (length u + 0) (u ++ c ∷ v)) ≡ state_of Turtle u =
        ap (state_of Turtle) (take_over u (c ∷ v) 0) ∙ run-append (step Turtle) Start u [] in
        absurd (true≢false (sym (prefix_live (state_of Turtle u) h) ∙ (sym (ap (goes_on Turtle) same) ∙ f)))
    go (suc n) f = ap (goes_on Turtle) (sym (ap (state_of Turtle) (take_over u (c ∷ v) (suc n)) ∙ same_state u (take n v) c h e)) ∙ f

-- one byte of ASCII on
pub one_on : (bs : List ℕ) (p : ℕ) → IsAt bs p p → p < length bs → get_or bs p 0 < 128 →
    (drop p (chars bs) ≡ get_or bs p 0 ∷ drop (p + 1) (chars bs)) × IsAt bs (suc p) (suc p)
one_on bs p h l a =
    let c = get_or bs p 0 in
    let next : p + 1 ≡ p + len_utf8 c = omega (arith, ap length (encode_ascii c a), length-encode c) in
    let x = char-step bs p p c (p + 1) h (ascii_first bs p l a) next (omega arith) in
    let one : p + 1 ≡ suc p = omega arith in
    (x.0, subst (λ n. IsAt bs n n) one x.1)

-- the states stay within a prefix over its bytes
prefixed : (bs : List ℕ) (end : ℕ) → IsUtf8 bs → IsRun is_prefix_byte bs 0 end → is_letter (get_or bs 0 0) ≡ true → (p : ℕ) → p < end →
    IsAt bs (suc p) (suc p) × (in_prefix (state_of Turtle (take (suc p) (chars bs))) ≡ true)
prefixed bs end u r e zero l =
    let c = get_or bs 0 0 in
    let x = one_on bs 0 (at-start bs u) (omega (arith, r.within)) (low-letter c e) in
    let state : state_of Turtle (take 1 (chars bs)) ≡ Name name.Prefix =
    sym (run-more (step Turtle) Start Start (chars bs) _ 0 c x.0 refl) ∙ (letter_steps c e).0 in
    (x.1, ap in_prefix state)
prefixed bs end u r e (suc p) l =
    let h = prefixed bs end u r e p (omega arith) in
    let c = get_or bs (suc p) 0 in
    let w = chars bs in
    let no_names : is_prefix_byte c ≡ true = r.pass (suc p) (omega arith) l in
    let x = one_on bs (suc p) h.0 (omega (arith, r.within)) (low-prefix c no_names) in
    let one : suc p + 1 ≡ suc (suc p) = omega arith in
    let state : step Turtle (state_of Turtle (take (suc p) w)) c ≡ state_of Turtle (take (suc (suc p)) w) =
    run-more (step Turtle) Start (state_of Turtle (take (suc p) w)) w _ (suc p) c x.0 refl ∙ ap (λ n. state_of Turtle (take n w)) one in
    (x.1, ap in_prefix (sym state) ∙ prefix_within (state_of Turtle (take (suc p) w)) c h.1 no_names)

-- what is known from a letter on is so up to the end of its run
pub none_in : (bs : List ℕ) (end left states out : ℕ) (s : Option State) → IsUtf8 bs → is_letter (get_or bs 0 0) ≡ true →
    IsRun is_prefix_byte bs 0 end → BeginsNoName Turtle (chars bs) s →
    Ends Turtle (chars bs) states → left ≡ length bs - end → out + states ≡ length bs →
    HasNoNames Turtle bs (Some (record { left = left; state = s; out = out }))
none_in bs end left states out s u e r b x k o = at
  where
    at : (p : ℕ) → p + left < length bs → is_letter (get_or bs p 0) ≡ true →
        BeginsNoName Turtle (chars (drop p bs)) s × ((n : ℕ) → length bs ≤ n + (p + out) → Ends Turtle (chars (drop p bs)) n)
    at zero l f = (b, λ n m. ends_more Turtle (chars bs) states n (omega arith) x)
    at (suc p) l f =
        let w = chars bs in
        let within = r.within in
        let few : p < end = omega (arith, k, within) in
        let h = prefixed bs end u r e p few in
        let c = get_or bs (suc p) 0 in
        let on = one_on bs (suc p) h.0 (omega arith) (low-letter c f) in
        let v = drop (suc p + 1) w in
        let first = one_on bs 0 (at-start bs u) (omega arith) (low-letter (get_or bs 0 0) e) in
        let whole : w ≡ take (suc p) w ++ c ∷ v = sym (take-append-drop (suc p) w) ∙ ap (λ y. take (suc p) w ++ y) on.0 in
        let quotes : three_quotes Turtle (take (suc p) w ++ c ∷ v) ≡ false =
        ap (three_quotes Turtle) (sym whole ∙ first.0) ∙ no_quotes (get_or bs 0 0) (drop 1 w) e in
        let size = length-take-le (suc p) w h.0.count in (
          subst (λ y. BeginsNoName Turtle y s) (sym on.0 ∙ h.0.left)
              (none_after (take (suc p) w) v c s quotes h.1 f (subst (λ y. BeginsNoName Turtle y s) whole b)),
          λ n m. subst (λ y. Ends Turtle y n) (sym on.0 ∙ h.0.left)
              (ends_after (take (suc p) w) v c n h.1 f (subst (λ y. Ends Turtle y (length (take (suc p) w) + n)) whole
              (ends_more Turtle w states (length (take (suc p) w) + n) (omega (arith, size)) x))),
        )

-- no front in bytes is no front
no_bytes : (w : List ℕ) (o : Option (ℕ × Kind)) → None ≡ in_bytes w o → o ≡ None
no_bytes w None e = refl
no_bytes w (Some x) e = absurd (let h : None ≡ Some (bytes_of x.0 w, x.1) = e in cc)

-- after some bytes the same is known
none_dropped : (d : Dialect) (bs : List ℕ) (n : ℕ) (b : Option NoNames) → HasNoNames d bs b → HasNoNames d (drop n bs) b
none_dropped d bs n None h = tt
none_dropped d bs n (Some b) h = λ p l e.
    let x = h (n + p) (omega (arith, l, length-drop n bs)) (ap is_letter (sym (get_or-drop n bs p 0)) ∙ e) in (
      subst (λ y. BeginsNoName d (chars y) b.state) (sym (drop-drop p n bs)) x.0,
      λ m k. subst (λ y. Ends d (chars y) m) (sym (drop-drop p n bs)) (x.1 m (omega (arith, l, k, length-drop n bs))),
    )

-- what is known of a text is known of what is left of it when a token was given
pub none_advanced : (d : Dialect) (text : List ℕ) (start len : ℕ) (b : Option NoNames) → HasNoNames d (drop start text) b →
    HasNoNames d (drop (start + len) text) b
none_advanced d text start len b h = subst (λ y. HasNoNames d y b) (drop-drop len start text) (none_dropped d (drop start text) len b h)
