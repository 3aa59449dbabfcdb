-- Tokens that the first bytes of a text settle: the states end after them, and no spelling is longer or begins so.
use Rattle.rdf_tokens.proofs.Prelude.{◌≡◌, ℕ, zero, suc, ◌+◌, ◌<◌, ◌≤◌, Bool, true, false, cond, nat_lt, List, [], ◌∷◌, ◌&&◌, ◌||◌, ◌==◌, not, refl, sym, ap, ◌∙◌, subst, length, get_or, take, drop, inl, inr, arith, Option, Some, None, IsUtf8, lt-ltb, agree_below_at, and_parts, false≢true, eqb-true, ltb-true, nat_tests, encode_ascii, length-encode, chars, Kind, A, Carets, LineEnd, Semicolon, Comma, OpenBracket, CloseBracket, OpenParen, CloseParen, OpenBrace, CloseBrace, PnameNs, PnameLn, Dialect, Lines, Turtle, is_digit, fixed, IsRun, is_name_byte, is_fit, NoNames, State, with_length, three_quotes, only_long, Row, fits, is_begun, live_by, rows_of, Reached, kind_here, longer_front, begins, row_front, front_by, state_of, LeadsIn, RestsInLocal, IsQuick, single, is_sought, is_named, IsPrefix, is_colon, ends_name, is_name_end, is_a, is_dot, BeginsNumber, begins_number, begins_signed, is_sign, are_carets, stands_at, is_over, is_last, ends_local}
use Rattle.rdf_terms.specs.declared.kind.Kind.TheVariants.{Dot}
use Rattle.rdf_terms.specs.Classes.{is_letter}
use Rattle.rdf_tokens.specs.declared.states.machine.State.TheVariants.{Start, Name, Number}
use Rattle.rdf_tokens.specs.declared.states.name.Name.TheVariants as name
use Rattle.rdf_tokens.specs.declared.states.number.Number.TheVariants as number
use Rattle.rdf_tokens.specs.Fixed.{left}
use Rattle.rdf_tokens.specs.Machine.{step, kind_at, goes_on}
use Rattle.rdf_tokens.specs.Quick.{IsToken}
use Rattle.rdf_tokens.proofs.ByteLemmas.{at-start, ascii_first}
use Rattle.rdf_tokens.proofs.NoNamesLemmas.{implied, low-letter, letter_steps, no_long, no_quotes, one_on}
use Rattle.rdf_tokens.proofs.RestLemmas.{reached-run}
use Rattle.rdf_tokens.proofs.RestStates.{rests_prefix}
use Rattle.rdf_tokens.proofs.StateLemmas.{front-bytes, live-bytes, reached-first, reached-step, reached-dead}

-- where the states have ended and no spelling goes on, the longest front so far is the token
pub settled : (d : Dialect) (bs : List ℕ) (at : ℕ) (s : State) (b f : Option (ℕ × Kind)) (n : ℕ) (k : Kind) → IsUtf8 bs →
    Reached d bs at s b → goes_on d s ≡ false →
    f ≡ front_by (rows_of d fixed) bs → live_by (rows_of d fixed) bs ≡ false → longer_front f b ≡ Some (n, k) →
    is_fit k (chars (take n bs)) ≡ true → IsToken d bs n k
settled d bs at s b f n k u r g ef l e t =
    let p = reached-dead d bs at s b r g in
    record {
      best = sym (front-bytes d bs f b (longer_front f b) u ef p.0 refl) ∙ e;
      closed = sym (live-bytes d bs u) ∙ (ap (λ t. goes_on d (state_of d (chars bs)) || t) l ∙ ap (λ t. t || false) (sym p.1));
      fit = t;
    }

-- A byte of ASCII after which the states end without a kind, and which is a spelling and the beginning of no other.
record IsSingle (d : Dialect) (c : ℕ) (k : Kind) : Type 0 where
  low : c < 128
  out : goes_on d (step d Start c) ≡ false
  none : kind_at (step d Start c) ≡ None
  front : (t : List ℕ) → front_by (rows_of d fixed) (c ∷ t) ≡ Some (1, k)
  closed : (t : List ℕ) → live_by (rows_of d fixed) (c ∷ t) ≡ false
  fit : (w : List ℕ) → is_fit k w ≡ true

-- a test fails on every list if it fails on the empty one and on the others
on_both : (f : List ℕ → Bool) → f [] ≡ false → ((x : ℕ) (t : List ℕ) → f (x ∷ t) ≡ false) → (t : List ℕ) → f t ≡ false
on_both f a b [] = a
on_both f a b (x ∷ t) = b x t

-- a kind that a table of characters gives is that of its first row, or of the others
by_row : (P : ℕ → Kind → Type 0) (c n : ℕ) (k j : Kind) (o : Option Kind) → P n k → (o ≡ Some j → P c j) → cond (c == n) (Some k) o ≡ Some j → P c j
by_row P c n k j o p h e = go (c == n) refl e
  where
    same : Some k ≡ Some j → k ≡ j
    same e = cc

    go : (t : Bool) → (c == n) ≡ t → cond t (Some k) o ≡ Some j → P c j
    go true x y = subst (λ i. P i j) (sym (eqb-true c n x)) (subst (P n) (same y) p)
    go false x y = h y

-- no row is left
no_row : (P : Type 0) (j : Kind) → None ≡ Some j → P
no_row P j e = absurd (let h : None ≡ Some j = e in cc)

-- the single bytes of the line formats
single-lines : (c : ℕ) (k : Kind) → single Lines c ≡ Some k → IsSingle Lines c k
unfolding is_fit
single-lines c k e =
    by_row (IsSingle Lines) c 46 Dot k _
    (record {
      low = omega arith;
      out = refl;
      none = refl;
      front = λ t. refl;
      closed = on_both (λ t. live_by (rows_of Lines fixed) (46 ∷ t)) refl (λ x t. refl);
      fit = λ w. refl;
    }) (λ e.
    by_row (IsSingle Lines) c 13 LineEnd k _
    (record {
      low = omega arith;
      out = refl;
      none = refl;
      front = λ t. refl;
      closed = on_both (λ t. live_by (rows_of Lines fixed) (13 ∷ t)) refl (λ x t. refl);
      fit = λ w. refl;
    }) (λ e.
    by_row (IsSingle Lines) c 10 LineEnd k _
    (record {
      low = omega arith;
      out = refl;
      none = refl;
      front = λ t. refl;
      closed = on_both (λ t. live_by (rows_of Lines fixed) (10 ∷ t)) refl (λ x t. refl);
      fit = λ w. refl;
    })
    (no_row _ k) e) e) e

-- the single bytes of Turtle and TriG
single-turtle : (c : ℕ) (k : Kind) → single Turtle c ≡ Some k → IsSingle Turtle c k
unfolding is_fit
single-turtle c k e =
    by_row (IsSingle Turtle) c 59 Semicolon k _
    (record {
      low = omega arith;
      out = refl;
      none = refl;
      front = λ t. refl;
      closed = on_both (λ t. live_by (rows_of Turtle fixed) (59 ∷ t)) refl (λ x t. refl);
      fit = λ w. refl;
    }) (λ e.
    by_row (IsSingle Turtle) c 44 Comma k _
    (record {
      low = omega arith;
      out = refl;
      none = refl;
      front = λ t. refl;
      closed = on_both (λ t. live_by (rows_of Turtle fixed) (44 ∷ t)) refl (λ x t. refl);
      fit = λ w. refl;
    }) (λ e.
    by_row (IsSingle Turtle) c 91 OpenBracket k _
    (record {
      low = omega arith;
      out = refl;
      none = refl;
      front = λ t. refl;
      closed = on_both (λ t. live_by (rows_of Turtle fixed) (91 ∷ t)) refl (λ x t. refl);
      fit = λ w. refl;
    }) (λ e.
    by_row (IsSingle Turtle) c 93 CloseBracket k _
    (record {
      low = omega arith;
      out = refl;
      none = refl;
      front = λ t. refl;
      closed = on_both (λ t. live_by (rows_of Turtle fixed) (93 ∷ t)) refl (λ x t. refl);
      fit = λ w. refl;
    }) (λ e.
    by_row (IsSingle Turtle) c 40 OpenParen k _
    (record {
      low = omega arith;
      out = refl;
      none = refl;
      front = λ t. refl;
      closed = on_both (λ t. live_by (rows_of Turtle fixed) (40 ∷ t)) refl (λ x t. refl);
      fit = λ w. refl;
    }) (λ e.
    by_row (IsSingle Turtle) c 41 CloseParen k _
    (record {
      low = omega arith;
      out = refl;
      none = refl;
      front = λ t. refl;
      closed = on_both (λ t. live_by (rows_of Turtle fixed) (41 ∷ t)) refl (λ x t. refl);
      fit = λ w. refl;
    }) (λ e.
    by_row (IsSingle Turtle) c 123 OpenBrace k _
    (record {
      low = omega arith;
      out = refl;
      none = refl;
      front = λ t. refl;
      closed = on_both (λ t. live_by (rows_of Turtle fixed) (123 ∷ t)) refl (λ x t. refl);
      fit = λ w. refl;
    }) (λ e.
    by_row (IsSingle Turtle) c 125 CloseBrace k _
    (record {
      low = omega arith;
      out = refl;
      none = refl;
      front = λ t. refl;
      closed = on_both (λ t. live_by (rows_of Turtle fixed) (125 ∷ t)) refl (λ x t. refl);
      fit = λ w. refl;
    })
    (no_row _ k) e) e) e) e) e) e) e) e

-- those of both
single-is : (d : Dialect) (c : ℕ) (k : Kind) → single d c ≡ Some k → IsSingle d c k
single-is Lines c k e = single-lines c k e
single-is Turtle c k e = single-turtle c k e

-- the states after the first byte of a text that does not begin with three quotes
pub first-kind : (d : Dialect) (bs : List ℕ) (s : State) (k : Option Kind) → IsUtf8 bs → 0 < length bs → get_or bs 0 0 < 128 →
    s ≡ step d Start (get_or bs 0 0) →
    three_quotes d (chars bs) ≡ false → k ≡ kind_at s → Reached d bs 1 s (with_length 1 k None)
first-kind d bs s k u l a es q ek =
    let c = get_or bs 0 0 in
    let kind : with_length 1 (only_long (three_quotes d (chars bs)) (kind_at s)) None ≡ with_length 1 k None =
    ap (λ x. with_length 1 (only_long x (kind_at s)) None) q ∙ ap (λ k. with_length 1 k None) (sym ek) in
    subst (Reached d bs 1 s) kind
    (reached-first d bs 1 c s u (ascii_first bs 0 l a) (omega (arith, ap length (encode_ascii c a), length-encode c)) (omega arith) es)

-- those that have no kind, whatever comes after
pub first-none : (d : Dialect) (bs : List ℕ) (s : State) → IsUtf8 bs → 0 < length bs → get_or bs 0 0 < 128 →
    s ≡ step d Start (get_or bs 0 0) → kind_at s ≡ None → Reached d bs 1 s None
first-none d bs s u l a es k =
    let c = get_or bs 0 0 in
    let t = three_quotes d (chars bs) in
    let none : with_length 1 (only_long t (kind_at s)) None ≡ None =
    ap (λ k. with_length 1 (only_long t k) None) k ∙ ap (λ k. with_length 1 k None) (no_long t) in
    subst (Reached d bs 1 s) none
    (reached-first d bs 1 c s u (ascii_first bs 0 l a) (omega (arith, ap length (encode_ascii c a), length-encode c)) (omega arith) es)

-- a byte that is a token by itself is the token
pub quick_single : (d : Dialect) (bs : List ℕ) (k : Kind) → IsUtf8 bs → 0 < length bs → single d (get_or bs 0 0) ≡ Some k → IsToken d bs 1 k
quick_single d [] k u l e = absurd (omega arith)
quick_single d (c ∷ t) k u l e =
    let p = single-is d c k e in
    settled d (c ∷ t) 1 (step d Start c) None (Some (1, k)) 1 k u (first-none d (c ∷ t) (step d Start c) u l p.low refl p.none) p.out
    (sym (p.front t)) (p.closed t) refl (p.fit _)

-- two carets are a token
pub quick_carets : (d : Dialect) (bs : List ℕ) → IsUtf8 bs → are_carets bs ≡ true → IsToken d bs 2 Carets
unfolding is_fit
quick_carets d [] u e = absurd (false≢true e)
quick_carets d (c ∷ []) u e = absurd (false≢true (and_parts (stands_at 94 (c ∷ []) 0) _ e).1)
quick_carets d (c ∷ x ∷ t) u e =
    let bs = c ∷ x ∷ t in
    let p = and_parts (stands_at 94 bs 0) (stands_at 94 bs 1) e in
    let first : c ≡ 94 = eqb-true c 94 (and_parts (nat_lt 0 (length bs)) (c == 94) p.0).1 in
    let second : x ≡ 94 = eqb-true x 94 (and_parts (nat_lt 1 (length bs)) (x == 94) p.1).1 in
    subst (λ c. IsUtf8 (c ∷ x ∷ t) → IsToken d (c ∷ x ∷ t) 2 Carets) (sym first)
    (λ u. subst (λ x. IsUtf8 (94 ∷ x ∷ t) → IsToken d (94 ∷ x ∷ t) 2 Carets) (sym second) (λ u. both d t u) u) u
  where
    both : (d : Dialect) (t : List ℕ) → IsUtf8 (94 ∷ 94 ∷ t) → IsToken d (94 ∷ 94 ∷ t) 2 Carets
    both Lines t u =
        settled Lines (94 ∷ 94 ∷ t) 1 (step Lines Start 94) None (Some (2, Carets)) 2 Carets u
        (first-none Lines (94 ∷ 94 ∷ t) (step Lines Start 94) u (omega arith) (omega arith) refl refl) refl refl
        (on_both (λ t. live_by (rows_of Lines fixed) (94 ∷ 94 ∷ t)) refl (λ x t. refl) t) refl refl
    both Turtle t u =
        settled Turtle (94 ∷ 94 ∷ t) 1 (step Turtle Start 94) None (Some (2, Carets)) 2 Carets u
        (first-none Turtle (94 ∷ 94 ∷ t) (step Turtle Start 94) u (omega arith) (omega arith) refl refl) refl refl
        (on_both (λ t. live_by (rows_of Turtle fixed) (94 ∷ 94 ∷ t)) refl (λ x t. refl) t) refl refl

-- no character of a spelling is ':'
abbrev no_colon : Bool → List ℕ → Bool
no_colon b [] = true
no_colon b (c ∷ s) = not (fits b c 58) && no_colon b s

-- the same of several spellings
abbrev no_colons : List Row → Bool
no_colons [] = true
no_colons (r ∷ rs) = no_colon r.any_case r.text && no_colons rs

-- what is not true is false
pub not_true : (t : Bool) → not t ≡ true → t ≡ false
not_true true e = absurd (false≢true e)
not_true false e = refl

-- a spelling at the front of a text ends before a ':'
begins-short : (b : Bool) (s w : List ℕ) (p : ℕ) → no_colon b s ≡ true → get_or w p 0 ≡ 58 → begins b s w ≡ true → length s ≤ p
begins-short b [] w p n g e = omega arith
begins-short b (c ∷ s) [] p n g e = absurd (false≢true e)
begins-short b (c ∷ s) (x ∷ w) zero n g e =
    let f : fits b c 58 ≡ true = ap (fits b c) (sym g) ∙ (and_parts _ _ e).0 in
    absurd (false≢true (sym (not_true _ (and_parts _ _ n).0) ∙ f))
begins-short b (c ∷ s) (x ∷ w) (suc p) n g e = let h =
    begins-short b s w p (and_parts (not (fits b c 58)) (no_colon b s) n).1 g (and_parts (fits b c x) (begins b s w) e).1 in omega arith

-- a text with a ':' begins no spelling
left-none : (b : Bool) (s w : List ℕ) (p : ℕ) → no_colon b s ≡ true → p < length w → get_or w p 0 ≡ 58 → is_begun (left b s w) ≡ false
left-none b s [] p n l g = absurd (omega arith)
left-none b [] (x ∷ w) p n l g = refl
left-none b (c ∷ s) (x ∷ w) zero n l g =
    let f : fits b c x ≡ false = ap (fits b c) g ∙ not_true _ (and_parts _ _ n).0 in ap (λ t. is_begun (cond t (left b s w) None)) f
left-none b (c ∷ s) (x ∷ w) (suc p) n l g = go (fits b c x) (left-none b s w p (and_parts _ _ n).1 (omega arith) g)
  where
    go : (t : Bool) → is_begun (left b s w) ≡ false → is_begun (cond t (left b s w) None) ≡ false
    go true h = h
    go false h = refl

-- a front has at most p characters
abbrev AtMost : ℕ → Option (ℕ × Kind) → Type 0
AtMost p None = Unit {0}
AtMost p (Some x) = x.0 ≤ p

-- the longer of two such fronts is one
longer-at_most : (p : ℕ) (a b : Option (ℕ × Kind)) → AtMost p a → AtMost p b → AtMost p (longer_front a b)
longer-at_most p None b h i = i
longer-at_most p (Some x) None h i = h
longer-at_most p (Some x) (Some y) h i = go (nat_lt x.0 y.0)
  where
    go : (t : Bool) → AtMost p (cond t (Some y) (Some x))
    go true = i
    go false = h

-- the longest spelling at the front ends before a ':'
rows-short : (rs : List Row) (w : List ℕ) (p : ℕ) → no_colons rs ≡ true → get_or w p 0 ≡ 58 → AtMost p (front_by rs w)
rows-short [] w p n g = tt
rows-short (r ∷ rs) w p n g =
    let a = and_parts _ _ n in
    longer-at_most p (row_front r w) (front_by rs w) (go (begins r.any_case r.text w) (begins-short r.any_case r.text w p a.0 g)) (rows-short rs w p a.1 g)
  where
    go : (t : Bool) → (t ≡ true → length r.text ≤ p) → AtMost p (cond t (Some (length r.text, r.kind)) None)
    go true h = h refl
    go false h = tt

-- a text with a ':' begins none of several spellings
rows-none : (rs : List Row) (w : List ℕ) (p : ℕ) → no_colons rs ≡ true → p < length w → get_or w p 0 ≡ 58 → live_by rs w ≡ false
rows-none [] w p n l g = refl
rows-none (r ∷ rs) w p n l g =
    let a = and_parts _ _ n in ap (λ t. t || live_by rs w) (left-none r.any_case r.text w p a.0 l g) ∙ rows-none rs w p a.1 l g

-- a longer front is the longer one
longer-second : (f : Option (ℕ × Kind)) (p n : ℕ) (k : Kind) → AtMost p f → p < n → longer_front f (Some (n, k)) ≡ Some (n, k)
longer-second None p n k h l = refl
longer-second (Some x) p n k h l = let i : x.0 ≤ p = h in ap (λ t. cond t (Some (n, k)) (Some x)) (lt-ltb x.0 n (omega arith))

-- a state after a character of a local part
abbrev pub at_local : State → Bool
at_local (Name name.Local) = true
at_local s = false

-- such a state
pub local-state : (s : State) → at_local s ≡ true → s ≡ Name name.Local
local-state (Name name.Local) e = refl
local-state s e = absurd (false≢true e)

-- the state after what is no name
abbrev at_dead : State → Bool
at_dead (Name name.Dead) = true
at_dead s = false

-- that state
dead-state : (s : State) → at_dead s ≡ true → s ≡ Name name.Dead
dead-state (Name name.Dead) e = refl
dead-state s e = absurd (false≢true e)

-- each byte of ASCII: one that ends a name leads to no state, from after the colon
abbrev end_tests : ℕ → Bool
end_tests c = not (ends_name c) || (is_name_byte c || at_dead (step Turtle (Name name.Colon) c))

-- the bytes of a run of names are ASCII
pub low-name : (c : ℕ) → is_name_byte c ≡ true → c < 128
low-name c e = grind (arith, nat_tests)

-- one of two holds that does not fail
pub other : (a b : Bool) → (a || b) ≡ true → a ≡ false → b ≡ true
other true b e h = absurd (false≢true (sym h))
other false b e h = e

-- another byte than '-'
pub no_hyphen : (c : ℕ) → (c ≡ 45 → ⊥) → (c == 45) ≡ false
no_hyphen c n = go (c == 45) refl
  where
    go : (t : Bool) → (c == 45) ≡ t → (c == 45) ≡ false
    go true x = absurd (n (eqb-true c 45 x))
    go false x = x

-- a byte that ends a name
end-step : (c : ℕ) → ends_name c ≡ true → is_name_byte c ≡ false → step Turtle (Name name.Colon) c ≡ Name name.Dead
end-step c e h =
    let low : c < 128 = ltb-true c 128 (and_parts _ _ e).0 in
    dead-state _ (other (is_name_byte c) _ (implied (ends_name c) _ (agree_below_at end_tests (λ c. true) 128 c refl low) e) h)

-- each byte of ASCII: one with which no name goes on leads to no state, from within a local part and from after a dot in it
abbrev over_tests : ℕ → Bool
over_tests c = not (is_over c) || (at_dead (step Turtle (Name name.Local) c) && at_dead (step Turtle (Name name.LocalDots) c))

-- so it does
over-steps : (c : ℕ) → is_over c ≡ true → (step Turtle (Name name.Local) c ≡ Name name.Dead) × (step Turtle (Name name.LocalDots) c ≡ Name name.Dead)
over-steps c e =
    let low : c < 128 = ltb-true c 128 (and_parts (nat_lt c 128) _ (and_parts (ends_name c) _ e).0).0 in
    let p = and_parts _ _ (implied (is_over c) _ (agree_below_at over_tests (λ c. true) 128 c refl low) e) in
    (dead-state _ p.0, dead-state _ p.1)

-- no escape of a name is bad
name-fit : (w : List ℕ) → (is_fit PnameNs w ≡ true) × (is_fit PnameLn w ≡ true)
unfolding is_fit
name-fit w = (refl, refl)

-- no three quotes come first where a colon does
colon-quotes : (w : List ℕ) → three_quotes Turtle (58 ∷ w) ≡ false
colon-quotes [] = refl
colon-quotes (a ∷ []) = refl
colon-quotes (a ∷ b ∷ w) = refl

-- A prefix, which may be empty, a colon, and a run of name bytes after it that ends before the text does.
module _ (bs : List ℕ) (colon end : ℕ) (u : IsUtf8 bs) (p : IsPrefix bs colon) (m : is_colon bs colon ≡ true) (q : IsRun is_name_byte bs (colon + 1) end) where
  inside : colon < length bs
  inside = ltb-true colon (length bs) (and_parts _ _ m).0

  is_58 : get_or bs colon 0 ≡ 58
  is_58 = eqb-true (get_or bs colon 0) 58 (and_parts _ _ m).1

  some : 0 < length bs
  some = let i = inside in omega arith

  -- where the prefix is empty, the colon comes first
  first_58 : colon ≡ 0 → get_or bs 0 0 ≡ 58
  first_58 x = subst (λ n. get_or bs n 0 ≡ 58) x is_58

  -- such a text does not begin with three quotes
  quotes : three_quotes Turtle (chars bs) ≡ false
  quotes = by_prefix p
    where
      by_prefix : IsPrefix bs colon → three_quotes Turtle (chars bs) ≡ false
      by_prefix (inl x) =
          let f = first_58 x in
          ap (three_quotes Turtle) ((one_on bs 0 (at-start bs u) some (omega (arith, f))).0 ∙ ap (λ c. c ∷ drop 1 (chars bs)) f)
          ∙ colon-quotes (drop 1 (chars bs))
      by_prefix (inr h) =
          let c = get_or bs 0 0 in
          ap (three_quotes Turtle) (one_on bs 0 (at-start bs u) some (low-letter c h.0)).0 ∙ no_quotes c _ h.0

  -- one byte of ASCII on
  byte_on : (at : ℕ) (s t : State) (k : Option Kind) (b : Option (ℕ × Kind)) → at < length bs → get_or bs at 0 < 128 → Reached Turtle bs at s b →
      t ≡ step Turtle s (get_or bs at 0) → k ≡ kind_at t → Reached Turtle bs (at + 1) t (with_length (at + 1) k b)
  byte_on at s t k b i a h es ek =
      let c = get_or bs at 0 in
      reached-step Turtle bs at (at + 1) c s t k b (with_length (at + 1) k b) h (ascii_first bs at i a)
      (omega (arith, ap length (encode_ascii c a), length-encode c)) (omega arith) es
      (ek ∙ sym (ap (λ x. only_long x (kind_at t)) quotes)) refl

  -- the states after the colon
  after : Reached Turtle bs (colon + 1) (Name name.Colon) (Some (colon + 1, PnameNs))
  after = by_prefix p
    where
      by_prefix : IsPrefix bs colon → Reached Turtle bs (colon + 1) (Name name.Colon) (Some (colon + 1, PnameNs))
      by_prefix (inl x) =
          let f = first_58 x in
          subst (λ n. Reached Turtle bs (n + 1) (Name name.Colon) (Some (n + 1, PnameNs))) (sym x)
          (first-kind Turtle bs (Name name.Colon) (Some PnameNs) u some (omega (arith, f)) (sym (ap (step Turtle Start) f)) quotes refl)
      by_prefix (inr h) =
          let c = get_or bs 0 0 in
          let none = sym (no_long (three_quotes Turtle (chars bs))) in
          let first = first-none Turtle bs (Name name.Prefix) u some (low-letter c h.0) (sym (letter_steps c h.0).0) refl in
          let prefix = reached-run Turtle bs 1 colon (Name name.Prefix) None None none (rests_prefix bs 1 colon h.1) first in
          let i = inside in
          byte_on colon (Name name.Prefix) (Name name.Colon) (Some PnameNs) None i (omega (arith, is_58)) prefix
          (ap (step Turtle (Name name.Prefix)) (sym is_58)) refl

  -- nothing stands after the colon, and the token is a namespace
  pub quick_namespace : is_name_end bs end ≡ true → end ≡ colon + 1 → IsToken Turtle bs end PnameNs
  quick_namespace z x =
      let c = get_or bs end 0 in
      let p = and_parts (nat_lt end (length bs)) (ends_name c) z in
      let i = inside in
      let from = q.from in
      let f = front_by (rows_of Turtle fixed) bs in
      let low : c < 128 = ltb-true c 128 (and_parts _ _ p.1).0 in
      let within : end < length bs = ltb-true end (length bs) p.0 in
      let here = subst (λ n. Reached Turtle bs n (Name name.Colon) (Some (n, PnameNs))) (sym x) after in
      settled Turtle bs (end + 1) (Name name.Dead) (Some (end, PnameNs)) f end PnameNs u
      (byte_on end (Name name.Colon) (Name name.Dead) None (Some (end, PnameNs)) within low here (sym (end-step c p.1 (q.stops within))) refl) refl refl
      (rows-none (rows_of Turtle fixed) bs colon refl i is_58)
      (longer-second f colon end PnameNs (rows-short (rows_of Turtle fixed) bs colon refl is_58) (omega arith)) (name-fit _).0

  -- A local part begins up to one place, and goes on up to another, where it ends.
  module _ (front last : ℕ) (l : LeadsIn (Name name.Colon) bs (colon + 1) front) (r : RestsInLocal bs front last) where
    last_on : Reached Turtle bs last (Name name.Local) (Some (last, PnameLn))
    last_on =
        let kind : kind_here Turtle bs (Name name.Local) ≡ Some PnameLn = ap (λ x. only_long x (Some PnameLn)) quotes in
        subst (λ k. Reached Turtle bs last (Name name.Local) (with_length last k (Some (colon + 1, PnameNs)))) kind
        (r.on Turtle (Some (colon + 1, PnameNs)) (l.on Turtle (Some (colon + 1, PnameNs)) after))

    -- the states end after a byte
    last_at : (at : ℕ) (s : State) → Reached Turtle bs at s (Some (last, PnameLn)) → is_last bs at ≡ true →
        (is_over (get_or bs at 0) ≡ true → step Turtle s (get_or bs at 0) ≡ Name name.Dead) → IsToken Turtle bs last PnameLn
    last_at at s k z x =
        let c = get_or bs at 0 in
        let p = and_parts (nat_lt at (length bs)) _ z in
        let o = and_parts (ends_name c) _ p.1 in
        let i = inside in
        let from = l.from in
        let more = r.from in
        let f = front_by (rows_of Turtle fixed) bs in
        let low : c < 128 = ltb-true c 128 (and_parts (nat_lt c 128) _ o.0).0 in
        settled Turtle bs (at + 1) (Name name.Dead) (Some (last, PnameLn)) f last PnameLn u
        (byte_on at s (Name name.Dead) None (Some (last, PnameLn)) (ltb-true at (length bs) p.0) low k (sym (x p.1)) refl) refl refl
        (rows-none (rows_of Turtle fixed) bs colon refl i is_58)
        (longer-second f colon last PnameLn (rows-short (rows_of Turtle fixed) bs colon refl is_58) (omega arith)) (name-fit _).1

    pub quick_far : ends_local bs last ≡ true → IsToken Turtle bs last PnameLn
    quick_far e = by_end (is_last bs last) refl e
      where
        by_end : (t : Bool) → is_last bs last ≡ t → (t || (stands_at 46 bs last && is_last bs (last + 1))) ≡ true → IsToken Turtle bs last PnameLn
        by_end true z e = last_at last (Name name.Local) last_on z (λ o. (over-steps (get_or bs last 0) o).0)
        by_end false z e =
            let p = and_parts (stands_at 46 bs last) _ e in
            let d = and_parts (nat_lt last (length bs)) (get_or bs last 0 == 46) p.0 in
            let dot : get_or bs last 0 ≡ 46 = eqb-true (get_or bs last 0) 46 d.1 in
            last_at (last + 1) (Name name.LocalDots)
            (byte_on last (Name name.Local) (Name name.LocalDots) None (Some (last, PnameLn)) (ltb-true last (length bs) d.0) (omega (arith, dot)) last_on
            (sym (ap (step Turtle (Name name.Local)) dot)) refl)
            p.1 (λ o. (over-steps (get_or bs (last + 1) 0) o).1)

-- what is told of the first byte is a token
pub quick_kind : (d : Dialect) (bs : List ℕ) (o : Option Kind) → IsUtf8 bs → 0 < length bs → o ≡ single d (get_or bs 0 0) → IsQuick d bs 1 o
quick_kind d bs None u l e = tt
quick_kind d bs (Some k) u l e = quick_single d bs k u l (sym e)

-- a length that is not 0
pub some-bytes : (n : ℕ) → (n == 0) ≡ false → 0 < n
some-bytes n e = grind (arith, nat_tests)

-- where a colon comes first
pub named : (d : Dialect) (bs : List ℕ) → is_named d bs ≡ true → (d ≡ Turtle) × (is_colon bs 0 ≡ true)
named Lines bs e = absurd (false≢true e)
named Turtle bs e = (refl, e)

-- where a name is sought
pub sought : (d : Dialect) (bs : List ℕ) (b : Option NoNames) → is_sought d bs b ≡ true → (d ≡ Turtle) × (is_letter (get_or bs 0 0) ≡ true)
sought Lines bs b e = absurd (false≢true (and_parts _ _ e).1)
sought Turtle bs b e = (refl, (and_parts _ _ e).1)

-- Two bytes of ASCII: after the first the states have no kind, after the second they have ended, and the first is a spelling and
-- the beginning of no longer one that goes on with the second.
record IsFirst (c x : ℕ) (k : Kind) : Type 0 where
  low : c < 128
  low_next : x < 128
  none : kind_at (step Turtle Start c) ≡ None
  none_next : kind_at (step Turtle (step Turtle Start c) x) ≡ None
  out : goes_on Turtle (step Turtle (step Turtle Start c) x) ≡ false
  front : (t : List ℕ) → front_by (rows_of Turtle fixed) (c ∷ x ∷ t) ≡ Some (1, k)
  closed : (t : List ℕ) → live_by (rows_of Turtle fixed) (c ∷ x ∷ t) ≡ false
  fit : (w : List ℕ) → is_fit k w ≡ true

-- the first of two such bytes is the token
quick_first : (c x : ℕ) (t : List ℕ) (k : Kind) → IsUtf8 (c ∷ x ∷ t) → IsFirst c x k → IsToken Turtle (c ∷ x ∷ t) 1 k
quick_first c x t k u p =
    let bs = c ∷ x ∷ t in
    let s = step Turtle Start c in
    let s' = step Turtle s x in
    let first = first-none Turtle bs s u (omega arith) p.low refl p.none in
    let none : None ≡ only_long (three_quotes Turtle (chars bs)) (kind_at s') =
    sym (ap (only_long (three_quotes Turtle (chars bs))) p.none_next ∙ no_long (three_quotes Turtle (chars bs))) in
    let next = reached-step Turtle bs 1 2 x s s' None None None first (ascii_first bs 1 (omega arith) p.low_next)
    (omega (arith, ap length (encode_ascii x p.low_next), length-encode x)) (omega arith) refl none refl in
    settled Turtle bs 2 s' None (Some (1, k)) 1 k u next p.out (sym (p.front t)) (p.closed t) refl (p.fit _)

-- a state of no name and of no number
abbrev pub at_ended : State → Bool
at_ended (Name name.Dead) = true
at_ended (Number number.Dead) = true
at_ended s = false

-- such a state has no kind and goes on with nothing
pub ended-state : (s : State) → at_ended s ≡ true → (kind_at s ≡ None) × (goes_on Turtle s ≡ false)
ended-state (Name name.Dead) e = (refl, refl)
ended-state (Number number.Dead) e = (refl, refl)
ended-state s e = absurd (false≢true e)

-- each byte of ASCII: one with which no name goes on ends the word `a`
abbrev pub word_tests : ℕ → Bool
word_tests x = not (ends_name x) || (is_name_byte x || at_ended (step Turtle (step Turtle Start 97) x))

-- and one that is no digit ends what begins with a dot
abbrev dot_tests : ℕ → Bool
dot_tests x = is_digit x || at_ended (step Turtle (step Turtle Start 46) x)

-- the word `a` before a byte with which no name goes on
word-first : (x : ℕ) → ends_name x ≡ true → is_name_byte x ≡ false → IsFirst 97 x A
unfolding is_fit
word-first x e h =
    let low : x < 128 = ltb-true x 128 (and_parts _ _ e).0 in
    let p = ended-state (step Turtle (step Turtle Start 97) x)
    (other (is_name_byte x) _ (implied (ends_name x) _ (agree_below_at word_tests (λ c. true) 128 x refl low) e) h) in
    record { low = omega arith; low_next = low; none = refl; none_next = p.0; out = p.1; front = λ t. refl; closed = λ t. refl; fit = λ w. refl }

-- a dot before no digit
dot-first : (x : ℕ) → x < 128 → is_digit x ≡ false → IsFirst 46 x Dot
unfolding is_fit
dot-first x low h =
    let p = ended-state (step Turtle (step Turtle Start 46) x) (other (is_digit x) _ (agree_below_at dot_tests (λ c. true) 128 x refl low) h) in
    record { low = omega arith; low_next = low; none = refl; none_next = p.0; out = p.1; front = λ t. refl; closed = λ t. refl; fit = λ w. refl }

-- the word `a` is the token, where its run ends at a byte with which no name goes on
pub quick_a : (bs : List ℕ) (end : ℕ) → IsUtf8 bs → IsRun is_name_byte bs 1 end → is_a bs end ≡ true → IsToken Turtle bs 1 A
quick_a bs end u r e =
    let p = and_parts _ _ e in
    let q = and_parts _ _ p.1 in
    let one : end ≡ 1 = eqb-true end 1 p.0 in
    let z : is_name_end bs 1 ≡ true = subst (λ n. is_name_end bs n ≡ true) one q.1 in
    go bs u (eqb-true (get_or bs 0 0) 97 q.0) z (λ l. subst (λ n. is_name_byte (get_or bs n 0) ≡ false) one (r.stops (subst (λ n. n < length bs) (sym one) l)))
  where
    go : (bs : List ℕ) → IsUtf8 bs → get_or bs 0 0 ≡ 97 → is_name_end bs 1 ≡ true → (1 < length bs → is_name_byte (get_or bs 1 0) ≡ false) →
        IsToken Turtle bs 1 A
    go [] u c z h = absurd (false≢true z)
    go (c ∷ []) u a z h = absurd (false≢true z)
    go (c ∷ x ∷ t) u a z h =
        let e : ends_name x ≡ true = (and_parts (nat_lt 1 (length (c ∷ x ∷ t))) (ends_name x) z).1 in
        subst (λ c. IsUtf8 (c ∷ x ∷ t) → IsToken Turtle (c ∷ x ∷ t) 1 A) (sym a) (λ u. quick_first 97 x t A u (word-first x e (h (omega arith)))) u

-- a dot is the token before a byte that is no digit
pub quick_dot : (d : Dialect) (bs : List ℕ) → IsUtf8 bs → is_dot d bs ≡ true → IsToken d bs 1 Dot
quick_dot Lines bs u e = absurd (false≢true e)
quick_dot Turtle [] u e = absurd (false≢true e)
quick_dot Turtle (c ∷ []) u e = absurd (false≢true e)
quick_dot Turtle (c ∷ x ∷ t) u e =
    let p = and_parts (c == 46) _ (and_parts _ _ e).1 in
    let q = and_parts _ _ p.1 in
    subst (λ c. IsUtf8 (c ∷ x ∷ t) → IsToken Turtle (c ∷ x ∷ t) 1 Dot) (sym (eqb-true c 46 p.0))
    (λ u. quick_first 46 x t Dot u (dot-first x (ltb-true x 128 q.0) (not_true _ q.1))) u

-- where a number is sought
pub numbered : (d : Dialect) (bs : List ℕ) → begins_number d bs ≡ true → (d ≡ Turtle) × BeginsNumber bs 0
numbered Lines bs e = absurd (false≢true e)
numbered Turtle [] e = absurd (false≢true e)
numbered Turtle (c ∷ t) e = (refl, record { inside = omega arith; digit = e; sign = inl refl })

-- and one with a sign
pub signed : (d : Dialect) (bs : List ℕ) → begins_signed d bs ≡ true → (d ≡ Turtle) × BeginsNumber bs 1
signed Lines bs e = absurd (false≢true e)
signed Turtle bs e =
    let p = and_parts (nat_lt 1 (length bs)) (is_sign (get_or bs 0 0) && is_digit (get_or bs 1 0)) e in
    let o = and_parts (is_sign (get_or bs 0 0)) (is_digit (get_or bs 1 0)) p.1 in
    (refl, record { inside = ltb-true 1 (length bs) p.0; digit = o.1; sign = inr (refl, o.0) })
