-- A machine that moves as the derivatives do tells which shapes a text has, and which begin so.
use Rattle.rdf_tokens.proofs.Prelude.{◌≡◌, ◌↔◌, ℕ, Bool, true, false, cond, List, [], ◌∷◌, ◌++◌, ◌&&◌, ◌||◌, ◌==◌, inl, inr, refl, sym, ap, ◌∙◌, subst, ⊎_elim, Option, Some, None, map, zero, suc, ◌⊎◌, append_assoc, AllByRecursion, append-nil, and_parts, or_cases, false≢true, eqb-true, Kind, Dialect, Lines, Turtle, Wide, Class, has, the, digit, hex_digit, letter, letter_or_digit, iri_char, local_escape, escape_letter, plain_double, plain_single, long_double, long_single, pn_base, pn_u, pn_char, Regex, Matches, nullable, after, after_all, possible, longer, nothing, empty, one, ◌·◌, ◌∣◌, many, sort_by, run, IsChars, shape, any_shape, first_kind, hex}
use Rattle.rdf_terms.specs.Classes.{scalar}
use Rattle.rdf_terms.proofs.RegexLemmas.{after-matches, matches-after, nullable-matches, matches-nullable, longer-matches, matches-longer}
use Rattle.rdf_tokens.proofs.SortLemmas.{Alike, sorts_agree, all_alike}

-- the derivative, tidied up
abbrev pub seq : Regex → Regex → Regex
seq nothing s = nothing
seq empty s = s
seq r s = r · s

-- a choice, without a side that matches nothing
abbrev pub alt : Regex → Regex → Regex
alt nothing s = s
alt r nothing = r
alt empty empty = empty
alt r empty = empty ∣ r
alt r s = r ∣ s

-- the derivative of an expression, kept small, so that it can be compared with a table
abbrev pub next : Regex → ℕ → Regex
next nothing c = nothing
next empty c = nothing
next (one k) c = cond (has k c) empty nothing
next (r · s) c = cond (nullable r) (alt (seq (next r c) s) (next s c)) (seq (next r c) s)
next (r ∣ s) c = alt (next r c) (next s c)
next (many r) c = seq (next r c) (many r)

-- two expressions match the same texts
pub Same : Regex → Regex → Type 0
Same r s = (w : List ℕ) → Matches r w ↔ Matches s w

-- a sequence that was made smaller matches what the sequence does
seq-to : (r s : Regex) (w : List ℕ) → Matches (seq r s) w → Matches (r · s) w
seq-to nothing s w m = absurd m
seq-to empty s w m = ([], w, refl, m, refl)
seq-to r s w m = m

-- a sequence that was made smaller has lost no texts
seq-from : (r s : Regex) (w : List ℕ) → Matches (r · s) w → Matches (seq r s) w
seq-from nothing s w m = m.2
seq-from empty s w m = subst (Matches s) (sym (m.4 ∙ ap (λ u. u ++ m.1) m.2)) m.3
seq-from r s w m = m

-- a choice that was made smaller matches what the choice does
alt-to : (r s : Regex) (w : List ℕ) → Matches (alt r s) w → Matches (r ∣ s) w
alt-to nothing s w m = inr m
alt-to r nothing w m = inl m
alt-to empty empty w m = inl m
alt-to r empty w m = ⊎_elim (λ x. inr x) (λ x. inl x) m
alt-to r s w m = m

-- a choice that was made smaller has lost no texts
alt-from : (r s : Regex) (w : List ℕ) → Matches (r ∣ s) w → Matches (alt r s) w
alt-from nothing s w m = ⊎_elim (λ x. absurd x) (λ x. x) m
alt-from r nothing w m = ⊎_elim (λ x. x) (λ x. absurd x) m
alt-from empty empty w m = ⊎_elim (λ x. x) (λ x. x) m
alt-from r empty w m = ⊎_elim (λ x. inr x) (λ x. inl x) m
alt-from r s w m = m

-- two tests with matching sides match
on_cond : (b : Bool) (x y x' y' : Regex) (w : List ℕ) → (Matches x w → Matches x' w) → (Matches y w → Matches y' w) →
    Matches (cond b x y) w → Matches (cond b x' y') w
on_cond true x y x' y' w f g m = f m
on_cond false x y x' y' w f g m = g m

-- the small derivative matches what the derivative does
next-to : (r : Regex) (c : ℕ) (w : List ℕ) → Matches (next r c) w → Matches (after r c) w
next-to nothing c w m = m
next-to empty c w m = m
next-to (one k) c w m = m
next-to (r · s) c w m =
    let head : Matches (seq (next r c) s) w → Matches (after r c · s) w = λ m.
    let p = seq-to (next r c) s w m in (p.0, p.1, next-to r c p.0 p.2, p.3, p.4) in
    on_cond (nullable r) _ _ _ _ w
    (λ m. ⊎_elim (λ x. inl (head x)) (λ x. inr (next-to s c w x)) (alt-to (seq (next r c) s) (next s c) w m))
    head m
next-to (r ∣ s) c w m = ⊎_elim (λ x. inl (next-to r c w x)) (λ x. inr (next-to s c w x)) (alt-to (next r c) (next s c) w m)
next-to (many r) c w m = let p = seq-to (next r c) (many r) w m in (p.0, p.1, next-to r c p.0 p.2, p.3, p.4)

-- the small derivative has lost no texts
next-from : (r : Regex) (c : ℕ) (w : List ℕ) → Matches (after r c) w → Matches (next r c) w
next-from nothing c w m = m
next-from empty c w m = m
next-from (one k) c w m = m
next-from (r · s) c w m =
    let head : Matches (after r c · s) w → Matches (seq (next r c) s) w = λ p.
    seq-from (next r c) s w (p.0, p.1, next-from r c p.0 p.2, p.3, p.4) in
    on_cond (nullable r) _ _ _ _ w
    (λ m. alt-from (seq (next r c) s) (next s c) w (⊎_elim (λ x. inl (head x)) (λ x. inr (next-from s c w x)) m))
    head m
next-from (r ∣ s) c w m = alt-from (next r c) (next s c) w (⊎_elim (λ x. inl (next-from r c w x)) (λ x. inr (next-from s c w x)) m)
next-from (many r) c w p = seq-from (next r c) (many r) w (p.0, p.1, next-from r c p.0 p.2, p.3, p.4)

-- whether a list has a class, and whether it has all classes of an expression
abbrev pub same_class : Class → Class → Bool
same_class (the x) (the y) = x == y
same_class digit digit = true
same_class hex_digit hex_digit = true
same_class letter letter = true
same_class letter_or_digit letter_or_digit = true
same_class iri_char iri_char = true
same_class local_escape local_escape = true
same_class escape_letter escape_letter = true
same_class plain_double plain_double = true
same_class plain_single plain_single = true
same_class long_double long_double = true
same_class long_single long_single = true
same_class pn_base pn_base = true
same_class (pn_u Lines) (pn_u Lines) = true
same_class (pn_u Turtle) (pn_u Turtle) = true
same_class (pn_char Lines) (pn_char Lines) = true
same_class (pn_char Turtle) (pn_char Turtle) = true
same_class k l = false

-- classes that the test takes for equal are equal
same_class-eq : (k l : Class) → same_class k l ≡ true → k ≡ l
same_class-eq (the x) (the y) e = ap the (eqb-true x y e)
same_class-eq digit digit e = refl
same_class-eq hex_digit hex_digit e = refl
same_class-eq letter letter e = refl
same_class-eq letter_or_digit letter_or_digit e = refl
same_class-eq iri_char iri_char e = refl
same_class-eq local_escape local_escape e = refl
same_class-eq escape_letter escape_letter e = refl
same_class-eq plain_double plain_double e = refl
same_class-eq plain_single plain_single e = refl
same_class-eq long_double long_double e = refl
same_class-eq long_single long_single e = refl
same_class-eq pn_base pn_base e = refl
same_class-eq (pn_u Lines) (pn_u Lines) e = refl
same_class-eq (pn_u Turtle) (pn_u Turtle) e = refl
same_class-eq (pn_char Lines) (pn_char Lines) e = refl
same_class-eq (pn_char Turtle) (pn_char Turtle) e = refl
same_class-eq k l e = absurd (false≢true e)

-- the class is in the list
abbrev pub is_among : List Class → Class → Bool
is_among [] k = false
is_among (x ∷ xs) k = same_class x k || is_among xs k

-- all classes of the expression are in the list
abbrev pub covers : List Class → Regex → Bool
covers ks nothing = true
covers ks empty = true
covers ks (one k) = is_among ks k
covers ks (r · s) = covers ks r && covers ks s
covers ks (r ∣ s) = covers ks r && covers ks s
covers ks (many r) = covers ks r

-- all classes of several expressions are in the list
abbrev pub covers_all : List Class → List Regex → Bool
covers_all ks [] = true
covers_all ks (r ∷ rs) = covers ks r && covers_all ks rs

-- what holds of all classes of a list holds of each
found : (P : Class → Type 0) (ks : List Class) (k : Class) → AllByRecursion P ks → is_among ks k ≡ true → P k
found P [] k a e = absurd (false≢true e)
found P (x ∷ xs) k a e = ⊎_elim (λ h. subst P (same_class-eq x k h) a.0) (λ h. found P xs k a.1 h) (or_cases (same_class x k) (is_among xs k) e)

-- the derivative depends on the sort alone
next_alike : (canon : ℕ → ℕ) (ks : List Class) → AllByRecursion (Alike canon) ks → (r : Regex) → covers ks r ≡ true → (c : ℕ) →
    scalar c ≡ true → next r c ≡ next r (canon c)
next_alike canon ks a nothing e c s = refl
next_alike canon ks a empty e c s = refl
next_alike canon ks a (one k) e c s = ap (λ b. cond b empty nothing) (found (Alike canon) ks k a e c s)
next_alike canon ks a (r · t) e c s =
    let p = and_parts (covers ks r) (covers ks t) e in
    ap (λ z. cond (nullable r) (alt (seq z t) (next t c)) (seq z t)) (next_alike canon ks a r p.0 c s)
    ∙ ap (λ z. cond (nullable r) (alt (seq (next r (canon c)) t) z) (seq (next r (canon c)) t)) (next_alike canon ks a t p.1 c s)
next_alike canon ks a (r ∣ t) e c s =
    let p = and_parts (covers ks r) (covers ks t) e in
    ap (λ z. alt z (next t c)) (next_alike canon ks a r p.0 c s) ∙ ap (λ z. alt (next r (canon c)) z) (next_alike canon ks a t p.1 c s)
next_alike canon ks a (many r) e c s = ap (λ z. seq z (many r)) (next_alike canon ks a r e c s)

-- characters that the classes cannot tell apart leave the same to match of several expressions
all_next_alike : (canon : ℕ → ℕ) (ks : List Class) → AllByRecursion (Alike canon) ks → (rs : List Regex) → covers_all ks rs ≡ true → (c : ℕ) → scalar c ≡ true →
    map (λ r. next r c) rs ≡ map (λ r. next r (canon c)) rs
all_next_alike canon ks a [] e c s = refl
all_next_alike canon ks a (r ∷ rs) e c s =
    let p = and_parts (covers ks r) (covers_all ks rs) e in
    ap (λ x. x ∷ map (λ r. next r c) rs) (next_alike canon ks a r p.0 c s) ∙ ap (λ x. next r (canon c) ∷ x) (all_next_alike canon ks a rs p.1 c s)

-- expressions with the same texts, one by one
abbrev pub AllSame : List Regex → List Regex → Type 0
AllSame [] [] = Unit {0}
AllSame (r ∷ rs) (t ∷ ts) = Same r t × AllSame rs ts
AllSame [] (t ∷ ts) = ⊥
AllSame (r ∷ rs) [] = ⊥

-- derivatives of the same expressions are the same
pub all_next : (rs ts : List Regex) (c : ℕ) → AllSame rs ts → AllSame (map (λ r. after r c) rs) (map (λ r. next r c) ts)
unfolding Same
all_next [] [] c a = tt
all_next (r ∷ rs) (t ∷ ts) c a = (
  λ w. (
    λ m. next-from t c w (matches-after t c w ((a.0 (c ∷ w)).0 (after-matches r c w m))),
    λ m. matches-after r c w ((a.0 (c ∷ w)).1 (after-matches t c w (next-to t c w m))),
  ),
  all_next rs ts c a.1,
)
all_next [] (t ∷ ts) c a = absurd a
all_next (r ∷ rs) [] c a = absurd a

-- the kind and the test of a list of expressions
abbrev pub kind_in : List Kind → List Regex → Option Kind
kind_in [] rs = None
kind_in (k ∷ ks) [] = None
kind_in (k ∷ ks) (r ∷ rs) = cond (nullable r) (Some k) (kind_in ks rs)

-- one of the expressions matches some longer text
abbrev pub longer_in : List Regex → Bool
longer_in [] = false
longer_in (r ∷ rs) = longer r || longer_in rs

-- A move is the derivative of each shape, as it is written or by its texts.
abbrev pub Moves : {S X : Type 0} → (X → ℕ) → (S → X → S) → (S → List Regex) → S → X → Type 0
Moves rep move meaning s x =
    (map (λ r. next r (rep x)) (meaning s) ≡ meaning (move s x)) ⊎ AllSame (map (λ r. next r (rep x)) (meaning s)) (meaning (move s x))

-- A family of shapes: its states, its sorts of characters, what is left to match in each state, and what the code tells of a state.
pub record Family (S X : Type 0) : Type 0 where
  pub dialect : Dialect
  pub kinds : List Kind
  pub ascii : ℕ → X
  pub high : Wide → X
  pub rep : X → ℕ
  pub start : S
  pub move : S → X → S
  pub kind_at : S → Option Kind
  pub goes_on : S → Bool
  pub meaning : S → List Regex
  pub classes : List Class
  pub sorts : sorts_agree ascii high rep classes ≡ true
  pub covered : (s : S) → covers_all classes (meaning s) ≡ true
  pub moves : (s : S) (x : X) → Moves rep move meaning s x
  pub starts : meaning start ≡ map (shape dialect) kinds
  pub kind_of_state : (s : S) → kind_in kinds (meaning s) ≡ kind_at s
  pub live_state : (s : S) → longer_in (meaning s) ≡ goes_on s

-- the step of a family: the sort of a character, and where it leads
abbrev pub step_of : {S X : Type 0} → Family S X → S → ℕ → S
step_of f s c = f.move s (sort_by f.ascii f.high c)

-- after the empty text nothing has changed
map_same : (rs : List Regex) → map (λ r. after_all r (let x : List ℕ = [] in x)) rs ≡ rs
map_same [] = refl
map_same (r ∷ rs) = ap (λ x. r ∷ x) (map_same rs)

-- after a character and a text, by both in a row
map_map : (rs : List Regex) (c : ℕ) (w : List ℕ) → map (λ r. after_all r w) (map (λ r. after r c) rs) ≡ map (λ r. after_all r (c ∷ w)) rs
map_map [] c w = refl
map_map (r ∷ rs) c w = ap (λ x. after_all r (c ∷ w) ∷ x) (map_map rs c w)

-- expressions that match the same as a third match the same
same_trans : (rs ts us : List Regex) → AllSame rs ts → AllSame ts us → AllSame rs us
unfolding Same
same_trans [] [] [] a b = tt
same_trans (r ∷ rs) (t ∷ ts) (u ∷ us) a b = ((λ w. (λ m. (b.0 w).0 ((a.0 w).0 m), λ m. (a.0 w).1 ((b.0 w).1 m))), same_trans rs ts us a.1 b.1)
same_trans [] [] (u ∷ us) a b = absurd b
same_trans [] (t ∷ ts) us a b = absurd a
same_trans (r ∷ rs) [] us a b = absurd a
same_trans (r ∷ rs) (t ∷ ts) [] a b = absurd b

-- what is left to match after a text is what the state after it means
after_run : {S X : Type 0} → (f : Family S X) (rs : List Regex) (s : S) (w : List ℕ) → IsChars w → AllSame rs (f.meaning s) →
    AllSame (map (λ r. after_all r w) rs) (f.meaning (run (step_of f) s w))
after_run f rs s [] b a = subst (λ x. AllSame x (f.meaning s)) (sym (map_same rs)) a
after_run f rs s (c ∷ w) b a =
    let canon : ℕ → ℕ = λ c. f.rep (sort_by f.ascii f.high c) in
    let n : map (λ r. next r c) (f.meaning s) ≡ map (λ r. next r (canon c)) (f.meaning s) =
    all_next_alike canon f.classes (all_alike f.ascii f.high f.rep f.classes f.sorts) (f.meaning s) (f.covered s) c b.0 in
    let d : AllSame (map (λ r. after r c) rs) (map (λ r. next r (canon c)) (f.meaning s)) =
    subst (AllSame (map (λ r. after r c) rs)) n (all_next rs (f.meaning s) c a) in
    let e : AllSame (map (λ r. after r c) rs) (f.meaning (step_of f s c)) =
    ⊎_elim (λ m. subst (AllSame (map (λ r. after r c) rs)) m d) (λ m. same_trans _ _ _ d m) (f.moves s (sort_by f.ascii f.high c)) in
    let h = after_run f (map (λ r. after r c) rs) (step_of f s c) w b.1 e in
    subst (λ x. AllSame x (f.meaning (run (step_of f) (step_of f s c) w))) (map_map rs c w) h

-- expressions match the same as themselves
same_refl : (rs : List Regex) → AllSame rs rs
unfolding Same
same_refl [] = tt
same_refl (r ∷ rs) = ((λ w. (λ m. m, λ m. m)), same_refl rs)

-- truth values that imply each other are equal
both : (a b : Bool) → (a ≡ true → b ≡ true) → (b ≡ true → a ≡ true) → a ≡ b
both true b f g = sym (f refl)
both false true f g = g refl
both false false f g = refl

-- expressions that match the same match the empty text alike
pub same_nullable : (r t : Regex) → Same r t → nullable r ≡ nullable t
unfolding Same
same_nullable r t s =
    both _ _ (λ e. matches-nullable t ((s []).0 (nullable-matches r e))) (λ e. matches-nullable r ((s []).1 (nullable-matches t e)))

-- expressions that match the same go on to longer texts alike
pub same_longer : (r t : Regex) → Same r t → longer r ≡ longer t
unfolding Same
same_longer r t s =
    both _ _
    (λ e. let l = longer-matches r e in matches-longer t l.0 l.1 ((s (l.0 ∷ l.1)).0 l.2))
    (λ e. let l = longer-matches t e in matches-longer r l.0 l.1 ((s (l.0 ∷ l.1)).1 l.2))

-- so they give the same kind
kind_same : (ks : List Kind) (rs ts : List Regex) → AllSame rs ts → kind_in ks rs ≡ kind_in ks ts
kind_same [] rs ts a = refl
kind_same (k ∷ ks) [] [] a = refl
kind_same (k ∷ ks) (r ∷ rs) (t ∷ ts) a =
    ap (λ b. cond b (Some k) (kind_in ks rs)) (same_nullable r t a.0) ∙ ap (cond (nullable t) (Some k)) (kind_same ks rs ts a.1)
kind_same (k ∷ ks) [] (t ∷ ts) a = absurd a
kind_same (k ∷ ks) (r ∷ rs) [] a = absurd a

-- expressions that match the same go on alike
longer_same : (rs ts : List Regex) → AllSame rs ts → longer_in rs ≡ longer_in ts
longer_same [] [] a = refl
longer_same (r ∷ rs) (t ∷ ts) a = ap (λ b. b || longer_in rs) (same_longer r t a.0) ∙ ap (λ b. longer t || b) (longer_same rs ts a.1)
longer_same [] (t ∷ ts) a = absurd a
longer_same (r ∷ rs) [] a = absurd a

-- the first kind of a text, by what is left to match of each shape
pub first_is : (d : Dialect) (ks : List Kind) (w : List ℕ) → first_kind d ks w ≡ kind_in ks (map (λ r. after_all r w) (map (shape d) ks))
first_is d [] w = refl
first_is d (k ∷ ks) w = ap (cond (nullable (after_all (shape d k) w)) (Some k)) (first_is d ks w)

-- what is left of a choice is a choice of what is left
pub after_or : (r t : Regex) (w : List ℕ) → after_all (r ∣ t) w ≡ (after_all r w ∣ after_all t w)
after_or r t [] = refl
after_or r t (c ∷ w) = after_or (after r c) (after t c) w

-- nothing is left to match of an expression without texts
pub after_nothing : (w : List ℕ) → after_all nothing w ≡ nothing
after_nothing [] = refl
after_nothing (c ∷ w) = after_nothing w

-- whether a longer shape begins so, by what is left to match of each
pub live_is : (d : Dialect) (ks : List Kind) (w : List ℕ) → longer (after_all (any_shape d ks) w) ≡ longer_in (map (λ r. after_all r w) (map (shape d) ks))
live_is d [] w = ap longer (after_nothing w)
live_is d (k ∷ ks) w = ap longer (after_or (shape d k) (any_shape d ks) w) ∙ ap (λ b. longer (after_all (shape d k) w) || b) (live_is d ks w)

-- an expression matches the same as itself
pub same : (r : Regex) → Same r r
unfolding Same
same r w = (λ m. m, λ m. m)

-- a front that stands before an optional end
pub factored : (x m a : Regex) → Same ((x · m) · a ∣ x) (x · (empty ∣ m · a))
unfolding Same
factored x m a w = (
  λ p. ⊎_elim
      (λ q. (q.2.0, q.2.1 ++ q.1, q.2.2, inr (q.2.1, q.1, q.2.3, q.3, refl), q.4 ∙ (ap (λ u. u ++ q.1) q.2.4 ∙ append_assoc q.2.0 q.2.1 q.1)))
      (λ q. (w, [], q, inl refl, sym (append-nil w)))
      p,
  λ p. ⊎_elim
      (λ q. inr (subst (Matches x) (sym (p.4 ∙ (ap (λ v. p.0 ++ v) q ∙ append-nil p.0))) p.2))
      (λ q. inl (p.0 ++ q.0, q.1, (p.0, q.0, p.2, q.2, refl), q.3, p.4 ∙ (ap (λ v. p.0 ++ v) q.4 ∙ sym (append_assoc p.0 q.0 q.1))))
      p.3,
)

-- one hex digit and n more
abbrev pub hexes : ℕ → Regex
hexes zero = hex
hexes (suc n) = hex · hexes n

-- some digits match, whatever their number
pub possible-hexes : (n : ℕ) → possible (hexes n) ≡ true
unfolding has
possible-hexes zero = refl
possible-hexes (suc n) = possible-hexes n

-- what is left of a family's shapes after a text is what its state then means
after_start : {S X : Type 0} → (f : Family S X) (w : List ℕ) → IsChars w →
    AllSame (map (λ r. after_all r w) (map (shape f.dialect) f.kinds)) (f.meaning (run (step_of f) f.start w))
after_start f w b =
    let shapes : List Regex = map (shape f.dialect) f.kinds in
    after_run f shapes f.start w b (subst (AllSame shapes) (sym f.starts) (same_refl shapes))

-- the law of a family: its state after a text tells which of its kinds the text is
pub family-kind : {S X : Type 0} → (f : Family S X) (w : List ℕ) → IsChars w →
    first_kind f.dialect f.kinds w ≡ f.kind_at (run (step_of f) f.start w)
family-kind f w b = first_is f.dialect f.kinds w ∙ (kind_same f.kinds _ _ (after_start f w b) ∙ f.kind_of_state (run (step_of f) f.start w))

-- its state after a text tells whether a longer token of it begins so
pub family-live : {S X : Type 0} → (f : Family S X) (w : List ℕ) → IsChars w →
    longer (after_all (any_shape f.dialect f.kinds) w) ≡ f.goes_on (run (step_of f) f.start w)
family-live f w b = live_is f.dialect f.kinds w ∙ (longer_same _ _ (after_start f w b) ∙ f.live_state (run (step_of f) f.start w))
