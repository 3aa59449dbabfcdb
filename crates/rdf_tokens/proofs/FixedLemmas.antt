-- The table of spellings against the shapes.
use Rattle.rdf_tokens.proofs.Prelude.{◌≡◌, ℕ, Bool, true, false, cond, List, [], ◌∷◌, ◌++◌, ◌&&◌, ◌||◌, ◌==◌, ◌+◌, refl, sym, ap, ◌∙◌, subst, Option, Some, None, AllByRecursion, and_parts, and_from, or_left, eq-eqb, Kind, Dialect, Lines, Turtle, has, the, Regex, nullable, after, after_all, possible, longer, nothing, empty, ◌∣◌, shape, any_shape, first_kind, word, any_case, fixed, Row, spellings, rows_of, fits, is_done, is_begun, kind_by, live_by, kind_by_table, live_by_table, IsChars}
use Rattle.rdf_terms.specs.Classes.{scalar}
use Rattle.rdf_tokens.specs.Fixed.{left}
use Rattle.rdf_tokens.proofs.FamilyLemmas.{next, seq, alt, all_next, Same, same, same_nullable, same_longer, after_or, after_nothing}

-- the expression of a spelling, as it stands or in any case
abbrev spelled : Bool → List ℕ → Regex
spelled false s = word s
spelled true s = any_case s

-- what is left to match of a spelling of which some is left
abbrev rest : Bool → Option (List ℕ) → Regex
rest b (Some s) = spelled b s
rest b None = nothing

-- what is left after one character more
abbrev less : Bool → Option (List ℕ) → ℕ → Option (List ℕ)
less b (Some (c ∷ s)) x = cond (fits b c x) (Some s) None
less b o x = None

-- what is left of a spelling after several characters
abbrev less_all : Bool → Option (List ℕ) → List ℕ → Option (List ℕ)
less_all b o [] = o
less_all b o (x ∷ w) = less_all b (less b o x) w

-- what has not begun a spelling does not begin it later
none_left : (b : Bool) (w : List ℕ) → less_all b None w ≡ None
none_left b [] = refl
none_left b (x ∷ w) = none_left b w

-- what is left, character by character
left-less : (b : Bool) (s w : List ℕ) → left b s w ≡ less_all b (Some s) w
left-less b s [] = refl
left-less b [] (x ∷ w) = sym (none_left b w)
left-less b (c ∷ s) (x ∷ w) = go (fits b c x) (left-less b s w)
  where
    go : (t : Bool) → left b s w ≡ less_all b (Some s) w → cond t (left b s w) None ≡ less_all b (cond t (Some s) None) w
    go true e = e
    go false e = sym (none_left b w)

-- the derivative of a spelling is what is left of it
next_rest : (b : Bool) (o : Option (List ℕ)) (x : ℕ) → scalar x ≡ true → next (rest b o) x ≡ rest b (less b o x)
unfolding has
next_rest b None x e = refl
next_rest false (Some []) x e = refl
next_rest true (Some []) x e = refl
next_rest false (Some (c ∷ s)) x e = ap (λ t. seq (cond (t && x == c) empty nothing) (word s)) e ∙ go (x == c)
  where
    go : (t : Bool) → seq (cond t empty nothing) (word s) ≡ rest false (cond t (Some s) None)
    go true = refl
    go false = refl
next_rest true (Some (c ∷ s)) x e =
    ap (λ t. seq (alt (cond (t && x == c) empty nothing) (cond (t && x == c + 32) empty nothing)) (any_case s)) e ∙ go (x == c) (x == c + 32)
  where
    go : (t u : Bool) → seq (alt (cond t empty nothing) (cond u empty nothing)) (any_case s) ≡ rest true (cond (t || u) (Some s) None)
    go true true = refl
    go true false = refl
    go false true = refl
    go false false = refl

-- after any text what is left to match of a spelling is what is left of it
after_left : (b : Bool) (r : Regex) (o : Option (List ℕ)) (w : List ℕ) → IsChars w → Same r (rest b o) → Same (after_all r w) (rest b (less_all b o w))
after_left b r o [] h m = m
after_left b r o (x ∷ w) h m =
    let n : Same (after r x) (next (rest b o) x) = (all_next (r ∷ []) (rest b o ∷ []) x (m, tt)).0 in
    after_left b (after r x) (less b o x) w h.1 (subst (Same (after r x)) (next_rest b o x h.0) n)

-- what is left to match of a spelling is the spelling of what is left
spelled-left : (b : Bool) (s w : List ℕ) → IsChars w → Same (after_all (spelled b s) w) (rest b (left b s w))
spelled-left b s w h = subst (λ o. Same (after_all (spelled b s) w) (rest b o)) (sym (left-less b s w))
    (after_left b (spelled b s) (Some s) w h (same (spelled b s)))

-- a spelling is complete where nothing of it is left
nullable-rest : (b : Bool) (o : Option (List ℕ)) → nullable (rest b o) ≡ is_done o
nullable-rest b None = refl
nullable-rest false (Some []) = refl
nullable-rest true (Some []) = refl
nullable-rest false (Some (c ∷ s)) = refl
nullable-rest true (Some (c ∷ s)) = refl

-- a character is in its own class
has_itself : (c : ℕ) → scalar c ≡ true → has (the c) c ≡ true
unfolding has
has_itself c e = and_from _ _ e (eq-eqb c c refl)

-- a spelling of characters matches some text
possible-spelled : (b : Bool) (s : List ℕ) → IsChars s → possible (spelled b s) ≡ true
possible-spelled false [] h = refl
possible-spelled true [] h = refl
possible-spelled false (c ∷ s) h = and_from _ _ (has_itself c h.0) (possible-spelled false s h.1)
possible-spelled true (c ∷ s) h = and_from _ _ (or_left _ _ (has_itself c h.0)) (possible-spelled true s h.1)

-- a longer text matches exactly where something of the spelling is left
longer-rest : (b : Bool) (o : Option (List ℕ)) → ((s : List ℕ) → o ≡ Some s → IsChars s) → longer (rest b o) ≡ is_begun o
longer-rest b None h = refl
longer-rest false (Some []) h = refl
longer-rest true (Some []) h = refl
longer-rest false (Some (c ∷ s)) h =
    let i = h (c ∷ s) refl in
    and_from _ _ (and_from _ _ (has_itself c i.0) (possible-spelled false s i.1)) (or_left _ _ (has_itself c i.0))
longer-rest true (Some (c ∷ s)) h =
    let i = h (c ∷ s) refl in
    and_from _ _ (and_from _ _ (or_left _ _ (has_itself c i.0)) (possible-spelled true s i.1)) (or_left _ _ (or_left _ _ (has_itself c i.0)))

-- what is left of a spelling consists of characters
chars_left : (b : Bool) (s w t : List ℕ) → IsChars s → left b s w ≡ Some t → IsChars t
chars_left b s [] t h e = let k : s ≡ t = cc in subst IsChars k h
chars_left b [] (x ∷ w) t h e = absurd (let k : None ≡ Some t = e in cc)
chars_left b (c ∷ s) (x ∷ w) t h e = go (fits b c x) (λ e. chars_left b s w t h.1 e) e
  where
    go : (f : Bool) → (left b s w ≡ Some t → IsChars t) → cond f (left b s w) None ≡ Some t → IsChars t
    go true f e = f e
    go false f e = absurd (let k : None ≡ Some t = e in cc)

-- one spelling
pub spelled-kind : (b : Bool) (s w : List ℕ) → IsChars w → nullable (after_all (spelled b s) w) ≡ is_done (left b s w)
spelled-kind b s w h = same_nullable _ _ (spelled-left b s w h) ∙ nullable-rest b (left b s w)

-- a text begins a longer spelling exactly where something is left of it
pub spelled-live : (b : Bool) (s w : List ℕ) → IsChars s → IsChars w → longer (after_all (spelled b s) w) ≡ is_begun (left b s w)
spelled-live b s w i h = same_longer _ _ (spelled-left b s w h) ∙ longer-rest b (left b s w) (λ t e. chars_left b s w t i e)

-- the expression of some spellings
abbrev spelled_by : List Row → Regex
spelled_by [] = nothing
spelled_by (r ∷ []) = spelled r.any_case r.text
spelled_by (r ∷ s ∷ rs) = spelled r.any_case r.text ∣ spelled_by (s ∷ rs)

-- the text is one of the spellings
abbrev any_done : List Row → List ℕ → Bool
any_done [] w = false
any_done (r ∷ rs) w = is_done (left r.any_case r.text w) || any_done rs w

-- the text begins one of the spellings and is shorter
abbrev any_begun : List Row → List ℕ → Bool
any_begun [] w = false
any_begun (r ∷ rs) w = is_begun (left r.any_case r.text w) || any_begun rs w

-- each character of a spelling is a scalar value, as a test
abbrev all_scalar : List ℕ → Bool
all_scalar [] = true
all_scalar (c ∷ s) = scalar c && all_scalar s

-- a spelling that passes it consists of characters
chars_of : (s : List ℕ) → all_scalar s ≡ true → IsChars s
chars_of [] e = tt
chars_of (c ∷ s) e = let p = and_parts (scalar c) (all_scalar s) e in (p.0, chars_of s p.1)

-- the rows are spellings of one kind
abbrev OfKind : Kind → List Row → Type 0
OfKind k rs = AllByRecursion (λ r. (r.kind ≡ k) × (all_scalar r.text ≡ true)) rs

-- or false changes nothing
or_end : (b : Bool) → b ≡ (b || false)
or_end true = refl
or_end false = refl

-- the shape of a kind with these spellings is that the text is one of them
rows-kind : (k : Kind) (rs : List Row) (w : List ℕ) → IsChars w → nullable (after_all (spelled_by rs) w) ≡ any_done rs w
rows-kind k [] w h = ap nullable (after_nothing w)
rows-kind k (r ∷ []) w h = spelled-kind r.any_case r.text w h ∙ or_end _
rows-kind k (r ∷ s ∷ rs) w h =
    ap nullable (after_or (spelled r.any_case r.text) (spelled_by (s ∷ rs)) w)
    ∙ (ap (λ b. b || nullable (after_all (spelled_by (s ∷ rs)) w)) (spelled-kind r.any_case r.text w h)
    ∙ ap (λ b. is_done (left r.any_case r.text w) || b) (rows-kind k (s ∷ rs) w h))

-- a longer shape of such a kind begins so where a longer spelling does
rows-live : (k : Kind) (rs : List Row) (w : List ℕ) → OfKind k rs → IsChars w → longer (after_all (spelled_by rs) w) ≡ any_begun rs w
rows-live k [] w o h = ap longer (after_nothing w)
rows-live k (r ∷ []) w o h = spelled-live r.any_case r.text w (chars_of r.text o.0.1) h ∙ or_end _
rows-live k (r ∷ s ∷ rs) w o h =
    ap longer (after_or (spelled r.any_case r.text) (spelled_by (s ∷ rs)) w)
    ∙ (ap (λ b. b || longer (after_all (spelled_by (s ∷ rs)) w)) (spelled-live r.any_case r.text w (chars_of r.text o.0.1) h)
    ∙ ap (λ b. is_begun (left r.any_case r.text w) || b) (rows-live k (s ∷ rs) w o.1 h))

-- the kind by two tables is that by the first, or else that by the second
kind_by-append : (k : Kind) (rs more : List Row) (w : List ℕ) → OfKind k rs → kind_by (rs ++ more) w ≡ cond (any_done rs w) (Some k) (kind_by more w)
kind_by-append k [] more w o = refl
kind_by-append k (r ∷ rs) more w o =
    ap (cond (is_done (left r.any_case r.text w)) (Some r.kind)) (kind_by-append k rs more w o.1) ∙ go (is_done (left r.any_case r.text w))
  where
    go : (b : Bool) → cond b (Some r.kind) (cond (any_done rs w) (Some k) (kind_by more w)) ≡ cond (b || any_done rs w) (Some k) (kind_by more w)
    go true = ap Some o.0.0
    go false = refl

-- a longer spelling of two tables is one of either
live_by-append : (rs more : List Row) (w : List ℕ) → live_by (rs ++ more) w ≡ (any_begun rs w || live_by more w)
live_by-append [] more w = refl
live_by-append (r ∷ rs) more w = ap (λ b. is_begun (left r.any_case r.text w) || b) (live_by-append rs more w) ∙ go (is_begun (left r.any_case r.text w))
  where
    go : (b : Bool) → (b || (any_begun rs w || live_by more w)) ≡ ((b || any_begun rs w) || live_by more w)
    go true = refl
    go false = refl

-- each fixed kind's shape is that of its spellings
abbrev Agrees : Dialect → Kind → Type 0
Agrees d k = (shape d k ≡ spelled_by (spellings d k)) × OfKind k (spellings d k)

-- the table has the spellings of each kind as its shape has them, in both dialects
all_agree : (d : Dialect) → AllByRecursion (Agrees d) fixed
unfolding shape
all_agree Lines = (
  (refl, tt),
  (
    (refl, tt),
    (
      (refl, ((refl, refl), tt)),
      (
        (refl, ((refl, refl), tt)),
        (
          (refl, ((refl, refl), ((refl, refl), tt))),
          (
            (refl, tt),
            (
              (refl, tt),
              (
                (refl, tt),
                (
                  (refl, tt),
                  (
                    (refl, tt),
                    (
                      (refl, tt),
                      (
                        (refl, tt),
                        ((refl, tt), ((refl, tt), ((refl, tt), ((refl, tt), ((refl, tt), ((refl, tt), ((refl, tt), tt))))))),
                      ),
                    ),
                  ),
                ),
              ),
            ),
          ),
        ),
      ),
    ),
  ),
)
all_agree Turtle = (
  (refl, ((refl, refl), tt)),
  (
    (refl, ((refl, refl), tt)),
    (
      (refl, ((refl, refl), tt)),
      (
        (refl, ((refl, refl), tt)),
        (
          (refl, tt),
          (
            (refl, ((refl, refl), tt)),
            (
              (refl, ((refl, refl), tt)),
              (
                (refl, ((refl, refl), tt)),
                (
                  (refl, ((refl, refl), tt)),
                  (
                    (refl, ((refl, refl), tt)),
                    (
                      (refl, ((refl, refl), tt)),
                      (
                        (refl, ((refl, refl), tt)),
                        (
                          (refl, ((refl, refl), tt)),
                          (
                            (refl, ((refl, refl), tt)),
                            (
                              (refl, ((refl, refl), tt)),
                              (
                                (refl, ((refl, refl), tt)),
                                (
                                  (refl, ((refl, refl), tt)),
                                  ((refl, ((refl, refl), tt)), ((refl, ((refl, refl), tt)), tt)),
                                ),
                              ),
                            ),
                          ),
                        ),
                      ),
                    ),
                  ),
                ),
              ),
            ),
          ),
        ),
      ),
    ),
  ),
)

-- so the first kind by shapes is that by the table
kinds-rows : (d : Dialect) (ks : List Kind) (w : List ℕ) → AllByRecursion (Agrees d) ks → IsChars w → first_kind d ks w ≡ kind_by (rows_of d ks) w
kinds-rows d [] w a h = refl
kinds-rows d (k ∷ ks) w a h =
    ap (λ b. cond b (Some k) (first_kind d ks w)) (ap (λ r. nullable (after_all r w)) a.0.0 ∙ rows-kind k (spellings d k) w h)
    ∙ (ap (cond (any_done (spellings d k) w) (Some k)) (kinds-rows d ks w a.1 h)
    ∙ sym (kind_by-append k (spellings d k) (rows_of d ks) w a.0.1))

-- a longer shape of some kinds begins so where a longer spelling of theirs does
live-rows : (d : Dialect) (ks : List Kind) (w : List ℕ) → AllByRecursion (Agrees d) ks → IsChars w →
    longer (after_all (any_shape d ks) w) ≡ live_by (rows_of d ks) w
live-rows d [] w a h = ap longer (after_nothing w)
live-rows d (k ∷ ks) w a h =
    ap longer (after_or (shape d k) (any_shape d ks) w)
    ∙ (ap (λ b. b || longer (after_all (any_shape d ks) w)) (ap (λ r. longer (after_all r w)) a.0.0 ∙ rows-live k (spellings d k) w a.0.1 h)
    ∙ (ap (λ b. any_begun (spellings d k) w || b) (live-rows d ks w a.1 h)
    ∙ sym (live_by-append (spellings d k) (rows_of d ks) w)))

-- the law of the table
pub fixed-kind : (d : Dialect) (w : List ℕ) → IsChars w → first_kind d fixed w ≡ kind_by_table d w
unfolding kind_by_table
fixed-kind d w h = kinds-rows d fixed w (all_agree d) h

-- a text begins a longer token with a fixed spelling exactly where the table says so
pub fixed-live : (d : Dialect) (w : List ℕ) → IsChars w → longer (after_all (any_shape d fixed) w) ≡ live_by_table d w
unfolding live_by_table
fixed-live d w h = live-rows d fixed w (all_agree d) h
