-- The states of all families, and the table of spellings, against all shapes.
use Rattle.rdf_tokens.proofs.Prelude.{◌≡◌, ℕ, Bool, true, false, cond, List, [], ◌∷◌, ◌++◌, ◌&&◌, ◌||◌, ◌==◌, nat_lt, refl, sym, ap, ◌∙◌, ⊎_elim, Option, Some, None, agree_below, agree_below_at, and_parts, cases_lt, lt-ltb, le-ltb, eqb-true, false≢true, Kind, Dialect, Lines, Turtle, Wide, State, has, longer, after_all, nullable, shape, any_shape, first_kind, kind_of, is_live, fixed, shaped, or_else, sort_by, wide_of, run, IsChars, begin, kind_by_table, live_by_table}
use Rattle.rdf_tokens.specs.declared.states.wide.Wide.TheVariants as wide
use Rattle.rdf_tokens.specs.declared.states.family.Family as first
use Rattle.rdf_tokens.specs.declared.states.family.Family.TheVariants as family
use Rattle.rdf_tokens.specs.declared.states.machine.State.TheVariants.{Start, Iri, Label, Text, Tag, Number, Name, Dead}
use Rattle.rdf_tokens.specs.declared.states.iri.Iri.TheVariants as iri_state
use Rattle.rdf_tokens.specs.declared.states.label.Label.TheVariants as label_state
use Rattle.rdf_tokens.specs.declared.states.text.Text.TheVariants as text_state
use Rattle.rdf_tokens.specs.declared.states.tag.Tag.TheVariants as tag_state
use Rattle.rdf_tokens.specs.declared.states.number.Number.TheVariants as number_state
use Rattle.rdf_tokens.specs.declared.states.name.Name.TheVariants as name_state
use Rattle.rdf_tokens.specs.Machine.{ascii, high, step, kind_at, goes_on}
use Rattle.rdf_tokens.proofs.FamilyLemmas.{Family, step_of, family-kind, family-live, after_or, after_nothing}
use Rattle.rdf_tokens.proofs.FamilySorts.{place, same_place}
use Rattle.rdf_tokens.proofs.FixedLemmas.{fixed-kind, fixed-live}
use Rattle.rdf_tokens.proofs.IriLemmas as iri
use Rattle.rdf_tokens.proofs.LabelLemmas as label
use Rattle.rdf_tokens.proofs.TextLemmas as text
use Rattle.rdf_tokens.proofs.TagLemmas as tag
use Rattle.rdf_tokens.proofs.NumberLemmas as number
use Rattle.rdf_tokens.proofs.NameLemmas as name

-- a test of two sorts of one character holds, if it does below 128 and at each width
both_sorts : {X Y : Type 0} → (a : ℕ → X) (h : Wide → X) (b : ℕ → Y) (k : Wide → Y) (test : X → Y → Bool) →
    agree_below (λ c. test (a c) (b c)) (λ c. true) 128 ≡ true →
    ((v : Wide) → test (h v) (k v) ≡ true) → (c : ℕ) → test (sort_by a h c) (sort_by b k c) ≡ true
both_sorts a h b k test low widths c =
    ⊎_elim
    (λ l. go true (lt-ltb c 128 l) (λ e. agree_below_at (λ c. test (a c) (b c)) (λ c. true) 128 c low l) (λ e. widths (wide_of c)))
    (λ l. go false (le-ltb c 128 l) (λ e. absurd (false≢true e)) (λ e. widths (wide_of c)))
    (cases_lt c 128)
  where
    go : (t : Bool) → nat_lt c 128 ≡ t → (t ≡ true → test (a c) (b c) ≡ true) → (t ≡ false → test (h (wide_of c)) (k (wide_of c)) ≡ true) →
        test (sort_by a h c) (sort_by b k c) ≡ true
    go true e x y = rw e (x refl)
    go false e x y = rw e (y refl)

-- a part of a state that moves by itself can be run by itself
project : {S T : Type 0} → (p : S → T) (f : S → ℕ → S) (g : T → ℕ → T) → ((s : S) (c : ℕ) → p (f s c) ≡ g (p s) c) → (s : S) (w : List ℕ) →
    p (run f s w) ≡ run g (p s) w
project p f g h s [] = refl
project p f g h s (c ∷ w) = project p f g h (f s c) w ∙ ap (λ t. run g t w) (h s c)

-- the family of the token that a character begins
abbrev first_of : ℕ → first.Family
first_of c = sort_by ascii high c

-- no token comes after this state
abbrev is_dead : State → Bool
is_dead (Iri iri_state.Dead) = true
is_dead (Label label_state.Dead) = true
is_dead (Text text_state.Dead) = true
is_dead (Tag tag_state.Dead) = true
is_dead (Number number_state.Dead) = true
is_dead (Name name_state.Dead) = true
is_dead Dead = true
is_dead s = false

-- a dead state: no character changes it, it has no kind, and it does not go on
abbrev Ended : Dialect → State → Type 0
Ended d s = ((c : ℕ) → step d s c ≡ s) × kind_at s ≡ None × goes_on d s ≡ false

-- a state that no character changes is the same after any text
stays : (d : Dialect) (s : State) → ((c : ℕ) → step d s c ≡ s) → (w : List ℕ) → run (step d) s w ≡ s
stays d s h [] = refl
stays d s h (c ∷ w) = ap (λ t. run (step d) t w) (h c) ∙ stays d s h w

-- what the test finds is a dead state
dead-ended : (d : Dialect) (s : State) → is_dead s ≡ true → Ended d s
dead-ended d (Iri iri_state.Dead) e = (λ c. refl, refl, refl)
dead-ended d (Label label_state.Dead) e = (λ c. refl, refl, refl)
dead-ended d (Text text_state.Dead) e = (λ c. refl, refl, refl)
dead-ended d (Tag tag_state.Dead) e = (λ c. refl, refl, refl)
dead-ended d (Number number_state.Dead) e = (λ c. refl, refl, refl)
dead-ended d (Name name_state.Dead) e = (λ c. refl, refl, refl)
dead-ended d Dead e = (λ c. refl, refl, refl)
dead-ended d s e = absurd (false≢true e)

-- a character of this sort begins a token of the family, or leads it to a dead state
abbrev apart : {T X : Type 0} → Family T X → first.Family → (T → State) → first.Family → X → Bool
apart f mine put g x = place mine == place g || is_dead (put (f.move f.start x))

-- the same for all characters, by a test of each ASCII character and each width
abbrev all_apart : {T X : Type 0} → Family T X → first.Family → (T → State) → Bool
all_apart f mine put =
    agree_below (λ c. apart f mine put (ascii c) (f.ascii c)) (λ c. true) 128 && apart f mine put (high wide.Letter) (f.high wide.Letter)
    && apart f mine put (high wide.Mark) (f.high wide.Mark) && apart f mine put (high wide.Other) (f.high wide.Other)

-- How a family stands among the states of all: each of its own is put there, and moves, begins, has a kind and goes on there as by itself.
record Part (T X : Type 0) : Type 0 where
  own : Family T X
  mine : first.Family
  put : T → State
  follows : (t : T) (c : ℕ) → put (step_of own t c) ≡ step own.dialect (put t) c × put (step_of own own.start c) ≡ begin own.dialect mine c
      × own.kind_at t ≡ kind_at (put t) × own.goes_on t ≡ goes_on own.dialect (put t)
  alone : all_apart own mine put ≡ true

-- each character begins a token of the family, or leads it to a dead state
begins_or_dead : {T X : Type 0} → (p : Part T X) (c : ℕ) → apart p.own p.mine p.put (first_of c) (sort_by p.own.ascii p.own.high c) ≡ true
begins_or_dead p c =
    let a = and_parts _ _ p.alone in
    let b = and_parts _ _ a.0 in
    let l = and_parts _ _ b.0 in
    both_sorts ascii high p.own.ascii p.own.high (apart p.own p.mine p.put) l.0
    (λ v. elim v as (λ v. apart p.own p.mine p.put (high v) (p.own.high v) ≡ true)
    [ wide.Letter ↦ l.1 | wide.Mark ↦ b.1 | wide.Other ↦ a.1 ]) c

-- What a family tells of a text by the common state: its kinds, if the text begins as its tokens do, and none else.
record Told (d : Dialect) : Type 0 where
  kinds : List Kind
  mine : first.Family
  kind : (c : ℕ) (w : List ℕ) → IsChars (c ∷ w) → first_kind d kinds (c ∷ w)
      ≡ cond (place mine == place (first_of c)) (kind_at (run (step d) Start (c ∷ w))) None
  live : (c : ℕ) (w : List ℕ) → IsChars (c ∷ w) → longer (after_all (any_shape d kinds) (c ∷ w))
      ≡ cond (place mine == place (first_of c)) (goes_on d (run (step d) Start (c ∷ w))) false

-- if a text begins as the family's tokens do, its own state tells what the common one does; else its own is a dead one and tells nothing
own_state : {T X : Type 0} → (p : Part T X) {Y : Type 0} (of : State → Y) (none : Y) → ((s : State) → Ended p.own.dialect s → of s ≡ none) →
    (c : ℕ) (w : List ℕ) → of (p.put (run (step_of p.own) p.own.start (c ∷ w)))
    ≡ cond (place p.mine == place (first_of c)) (of (run (step p.own.dialect) Start (c ∷ w))) none
own_state p of none h c w =
    ap of (project p.put (step_of p.own) (step p.own.dialect) (λ t c. (p.follows t c).0) (step_of p.own p.own.start c) w)
    ∙ go (place p.mine == place (first_of c)) refl (begins_or_dead p c)
  where
    d : Dialect
    d = p.own.dialect

    s : State
    s = p.put (step_of p.own p.own.start c)

    go : (t : Bool) → (place p.mine == place (first_of c)) ≡ t → (t || is_dead s) ≡ true → of (run (step d) s w)
        ≡ cond t (of (run (step d) Start (c ∷ w))) none
    go true e x = ap (λ s. of (run (step d) s w)) ((p.follows p.own.start c).1 ∙ ap (λ f. begin d f c) (same_place _ _ (eqb-true _ _ e)))
    go false e x = let z = dead-ended d s x in ap of (stays d s z.0 w) ∙ h s z

-- what a family tells by its own state, told by the common one
abbrev told : {T X : Type 0} → (p : Part T X) → Told p.own.dialect
told p = record {
  kinds = p.own.kinds;
  mine = p.mine;
  kind = λ c w h. family-kind p.own (c ∷ w) h ∙ ((p.follows _ c).2 ∙ own_state p kind_at None (λ s e. e.1) c w);
  live = λ c w h. family-live p.own (c ∷ w) h ∙ ((p.follows _ c).3 ∙ own_state p (goes_on p.own.dialect) false (λ s e. e.2) c w);
}

-- no first character of another family begins a number
number_alone : (d : Dialect) → all_apart (number.family d) family.Number Number ≡ true
number_alone Lines = refl
number_alone Turtle = refl

-- no first character of another family begins a prefixed name
name_alone : (d : Dialect) → all_apart (name.family d) family.Name Name ≡ true
name_alone Lines = refl
name_alone Turtle = refl

-- what the six families tell
abbrev parts : (d : Dialect) → List (Told d)
parts d =
    told (record { own = iri.family d; mine = family.Iri; put = Iri; follows = λ t c. (refl, refl, refl, refl); alone = refl }) ∷
    told (record { own = label.family d; mine = family.Label; put = Label; follows = λ t c. (refl, refl, refl, refl); alone = refl }) ∷
    told (record { own = text.family d; mine = family.Text; put = Text; follows = λ t c. (refl, refl, refl, refl); alone = refl }) ∷
    told (record { own = tag.family d; mine = family.Tag; put = Tag; follows = λ t c. (refl, refl, refl, refl); alone = refl }) ∷
    told (record { own = number.family d; mine = family.Number; put = Number; follows = λ t c. (refl, refl, refl, refl); alone = number_alone d }) ∷
    told (record { own = name.family d; mine = family.Name; put = Name; follows = λ t c. (refl, refl, refl, refl); alone = name_alone d }) ∷ []

-- the first kind of two lists is that of the first, or else that of the second
first_kind-append : (d : Dialect) (a b : List Kind) (w : List ℕ) → first_kind d (a ++ b) w ≡ or_else (first_kind d a w) (first_kind d b w)
first_kind-append d [] b w = refl
first_kind-append d (k ∷ a) b w = ap (cond (nullable (after_all (shape d k) w)) (Some k)) (first_kind-append d a b w) ∙ go (nullable (after_all (shape d k) w))
  where
    go : (t : Bool) → cond t (Some k) (or_else (first_kind d a w) (first_kind d b w)) ≡ or_else (cond t (Some k) (first_kind d a w)) (first_kind d b w)
    go true = refl
    go false = refl

-- a longer shape of two lists is one of either
live-append : (d : Dialect) (a b : List Kind) (w : List ℕ) → longer (after_all (any_shape d (a ++ b)) w)
    ≡ (longer (after_all (any_shape d a) w) || longer (after_all (any_shape d b) w))
live-append d [] b w = sym (ap (λ r. longer r || longer (after_all (any_shape d b) w)) (after_nothing w))
live-append d (k ∷ a) b w =
    ap longer (after_or (shape d k) (any_shape d (a ++ b)) w)
    ∙ (ap (λ t. longer (after_all (shape d k) w) || t) (live-append d a b w)
    ∙ (go (longer (after_all (shape d k) w)) ∙ sym (ap (λ r. longer r || longer (after_all (any_shape d b) w)) (after_or (shape d k) (any_shape d a) w))))
  where
    go : (t : Bool) → (t || (longer (after_all (any_shape d a) w) || longer (after_all (any_shape d b) w)))
        ≡ ((t || longer (after_all (any_shape d a) w)) || longer (after_all (any_shape d b) w))
    go true = refl
    go false = refl

-- the kinds of several families
abbrev all_kinds : {d : Dialect} → List (Told d) → List Kind
all_kinds [] = []
all_kinds (p ∷ ps) = p.kinds ++ all_kinds ps

-- one of them has tokens that begin so
abbrev any_mine : {d : Dialect} → List (Told d) → first.Family → Bool
any_mine [] f = false
any_mine (p ∷ ps) f = place p.mine == place f || any_mine ps f

-- several families tell the kind of a text by the common state
parts-kind : (d : Dialect) (ps : List (Told d)) (c : ℕ) (w : List ℕ) → IsChars (c ∷ w) → first_kind d (all_kinds ps) (c ∷ w)
    ≡ cond (any_mine ps (first_of c)) (kind_at (run (step d) Start (c ∷ w))) None
parts-kind d [] c w h = refl
parts-kind d (p ∷ ps) c w h =
    first_kind-append d p.kinds (all_kinds ps) (c ∷ w) ∙ (ap (λ o. or_else o (first_kind d (all_kinds ps) (c ∷ w))) (p.kind c w h)
    ∙ (ap (or_else _) (parts-kind d ps c w h) ∙ go (place p.mine == place (first_of c)) (any_mine ps (first_of c)) _))
  where
    go : (a b : Bool) (k : Option Kind) → or_else (cond a k None) (cond b k None) ≡ cond (a || b) k None
    go false b k = refl
    go true b (Some k) = refl
    go true true None = refl
    go true false None = refl

-- several families tell whether a longer token begins so
parts-live : (d : Dialect) (ps : List (Told d)) (c : ℕ) (w : List ℕ) → IsChars (c ∷ w) → longer (after_all (any_shape d (all_kinds ps)) (c ∷ w))
    ≡ cond (any_mine ps (first_of c)) (goes_on d (run (step d) Start (c ∷ w))) false
parts-live d [] c w h = ap longer (after_nothing (c ∷ w))
parts-live d (p ∷ ps) c w h =
    live-append d p.kinds (all_kinds ps) (c ∷ w) ∙ (ap (λ o. o || longer (after_all (any_shape d (all_kinds ps)) (c ∷ w))) (p.live c w h)
    ∙ (ap (λ o. cond (place p.mine == place (first_of c)) (goes_on d (run (step d) Start (c ∷ w))) false || o) (parts-live d ps c w h)
    ∙ go (place p.mine == place (first_of c)) (any_mine ps (first_of c)) _))
  where
    go : (a b t : Bool) → (cond a t false || cond b t false) ≡ cond (a || b) t false
    go false b t = refl
    go true b true = refl
    go true true false = refl
    go true false false = refl

-- the states tell the kind of a text, for all kinds that have no fixed spelling
pub shaped-kind : (d : Dialect) (w : List ℕ) → IsChars w → first_kind d shaped w ≡ kind_at (run (step d) Start w)
unfolding shape
shaped-kind Lines [] h = refl
shaped-kind Turtle [] h = refl
shaped-kind d (c ∷ w) h = parts-kind d (parts d) c w h ∙ go (first_of c)
  where
    go : (f : first.Family) → cond (any_mine (parts d) f) (kind_at (run (step d) (begin d f c) w)) None ≡ kind_at (run (step d) (begin d f c) w)
    go family.Other = sym (ap kind_at (stays d Dead (λ c. refl) w))
    go f = refl

-- the states tell whether a longer token begins so, for all kinds that have no fixed spelling
pub shaped-live : (d : Dialect) (w : List ℕ) → IsChars w → longer (after_all (any_shape d shaped) w) ≡ goes_on d (run (step d) Start w)
unfolding shape has
shaped-live Lines [] h = refl
shaped-live Turtle [] h = refl
shaped-live d (c ∷ w) h = parts-live d (parts d) c w h ∙ go (first_of c)
  where
    go : (f : first.Family) → cond (any_mine (parts d) f) (goes_on d (run (step d) (begin d f c) w)) false ≡ goes_on d (run (step d) (begin d f c) w)
    go family.Other = sym (ap (goes_on d) (stays d Dead (λ c. refl) w))
    go f = refl

-- the laws of the whole table: the kind of a text, and whether a longer shape begins so
pub whole-kind : (d : Dialect) (w : List ℕ) → IsChars w → kind_of d w ≡ or_else (kind_by_table d w) (kind_at (run (step d) Start w))
unfolding kind_of
whole-kind d w h =
    first_kind-append d fixed shaped w
    ∙ (ap (λ o. or_else o (first_kind d shaped w)) (fixed-kind d w h) ∙ ap (or_else (kind_by_table d w)) (shaped-kind d w h))

-- or in the other order
or_swap : (a b : Bool) → (a || b) ≡ (b || a)
or_swap true true = refl
or_swap true false = refl
or_swap false true = refl
or_swap false false = refl

-- a text begins a longer token exactly where the states go on or a longer spelling begins so
pub whole-live : (d : Dialect) (w : List ℕ) → IsChars w → is_live d w ≡ (goes_on d (run (step d) Start w) || live_by_table d w)
unfolding is_live
whole-live d w h =
    live-append d fixed shaped w
    ∙ (ap (λ o. o || longer (after_all (any_shape d shaped) w)) (fixed-live d w h)
    ∙ (ap (λ o. live_by_table d w || o) (shaped-live d w h) ∙ or_swap (live_by_table d w) (goes_on d (run (step d) Start w))))
