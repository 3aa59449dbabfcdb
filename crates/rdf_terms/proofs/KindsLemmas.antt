-- No text has the shapes of two kinds, so the test for the first kind finds the only one.
use Rattle.rdf_terms.proofs.Prelude.{◌≡◌, ◌≢◌, ℕ, zero, suc, ◌+◌, ◌<◌, ◌≤◌, Bool, true, false, cond, List, [], ◌∷◌, ◌++◌, ◌&&◌, ◌||◌, ◌==◌, ◌⊎◌, inl, inr, refl, sym, ap, ◌∙◌, subst, ⊎_elim, Option, Some, length, get_or, arith, not, nat_lt, codes, and_parts, or_cases, cases_Bool, false≢true, not-true, eqb-true, eq-eqb, ne_eqb, ltb-true, cases_lt, or_left, has, one_of, the, Dialect, Lines, Turtle, Kind, IriRef, LabelNode, ShortString, LongString, LangTag, Carets, Dot, LineEnd, Integer, Decimal, Double, True, False, A, AtPrefix, AtBase, Prefix, Base, Graph, PnameNs, PnameLn, Semicolon, Comma, OpenBracket, CloseBracket, OpenParen, CloseParen, OpenBrace, CloseBrace, End, Regex, Matches, nullable, after, after_all, longer, ◌∣◌, Shape, Live, shape, kinds, any_shape, kind_of, is_live, optional, pn_prefix, pn_local}
use Rattle.rdf_terms.specs.Classes.{scalar}
use Rattle.rdf_terms.proofs.RegexLemmas.{matches-nullable, matches-longer, matches-after, matches-after_all}
use Rattle.rdf_terms.proofs.ShapesLemmas.{matches-form, first_kind-matches, matches-first_kind, live-matches, matches-live}
use Rattle.rdf_terms.proofs.Disjoint.{class_in, class_out, in-sound, starts, starts-first, within, meets, parted_by, none-met, parted_by-apart, begins-apart}

-- the place of a kind in the list of all kinds
abbrev number : Kind → ℕ
number AtPrefix = 0
number AtBase = 1
number Carets = 2
number Dot = 3
number LineEnd = 4
number True = 5
number False = 6
number A = 7
number Prefix = 8
number Base = 9
number Graph = 10
number Semicolon = 11
number Comma = 12
number OpenBracket = 13
number CloseBracket = 14
number OpenParen = 15
number CloseParen = 16
number OpenBrace = 17
number CloseBrace = 18
number IriRef = 19
number LabelNode = 20
number ShortString = 21
number LongString = 22
number LangTag = 23
number Integer = 24
number Decimal = 25
number Double = 26
number PnameNs = 27
number PnameLn = 28
number End = 29

-- the numbers are right
at_number : (k : Kind) → get_or kinds (number k) End ≡ k
at_number AtPrefix = refl
at_number AtBase = refl
at_number Carets = refl
at_number Dot = refl
at_number LineEnd = refl
at_number True = refl
at_number False = refl
at_number A = refl
at_number Prefix = refl
at_number Base = refl
at_number Graph = refl
at_number Semicolon = refl
at_number Comma = refl
at_number OpenBracket = refl
at_number CloseBracket = refl
at_number OpenParen = refl
at_number CloseParen = refl
at_number OpenBrace = refl
at_number CloseBrace = refl
at_number IriRef = refl
at_number LabelNode = refl
at_number ShortString = refl
at_number LongString = refl
at_number LangTag = refl
at_number Integer = refl
at_number Decimal = refl
at_number Double = refl
at_number PnameNs = refl
at_number PnameLn = refl
at_number End = refl

-- no two kinds have the same number
same_number : (j k : Kind) → number j ≡ number k → j ≡ k
same_number j k e = sym (at_number j) ∙ (ap (λ n. get_or kinds n End) e ∙ at_number k)

-- the characters that the kind's texts begin with, where they are few: by a number, and their list; 0 stands for the kinds that begin with letters
abbrev group : Kind → ℕ
group IriRef = 1
group LabelNode = 2
group ShortString = 3
group LongString = 3
group LangTag = 4
group AtPrefix = 4
group AtBase = 4
group Carets = 5
group Dot = 6
group Integer = 6
group Decimal = 6
group Double = 6
group LineEnd = 7
group Semicolon = 8
group Comma = 9
group OpenBracket = 10
group CloseBracket = 11
group OpenParen = 12
group CloseParen = 13
group OpenBrace = 14
group CloseBrace = 15
group k = 0

-- the characters that tokens of a group begin with, for each group that is known by them
abbrev fronts : List (List ℕ)
fronts = codes "<" ∷ codes "_" ∷ codes "\"'" ∷ codes "@" ∷ codes "^" ∷ codes "+-.0123456789" ∷ (13 ∷ 10 ∷ []) ∷ codes ";" ∷ codes "," ∷ codes "[" ∷ codes "]"
    ∷ codes "(" ∷ codes ")" ∷ codes "{" ∷ codes "}" ∷ []

-- the pairs of kinds that neither their first characters nor the marks tell apart
abbrev hard : Kind → Kind → Bool
hard ShortString LongString = true
hard LongString ShortString = true
hard LangTag AtPrefix = true
hard LangTag AtBase = true
hard AtPrefix LangTag = true
hard AtBase LangTag = true
hard PnameNs PnameLn = true
hard PnameLn PnameNs = true
hard j k = false

-- characters that the texts of one kind have and those of another have not
abbrev marks : List (List ℕ)
marks = codes ":" ∷ codes "u" ∷ codes "l" ∷ codes "pP" ∷ codes "bB" ∷ codes "gG" ∷ codes "eE" ∷ codes "." ∷ codes "0123456789" ∷ []

-- a test of each kind of a list
abbrev every : (Kind → Bool) → List Kind → Bool
every test [] = true
every test (k ∷ ks) = test k && every test ks

-- the texts of the group's kinds begin with its characters, and no others do
abbrev front_fits : Dialect → List ℕ → Kind → Bool → Bool
front_fits d xs k true = starts (class_in xs) (shape d k) && not (nullable (shape d k))
front_fits d xs k false = starts (class_out xs) (shape d k)

-- each kind begins with the characters of its group, as a test
abbrev fronts_fit : Dialect → ℕ → List (List ℕ) → Bool
fronts_fit d g [] = true
fronts_fit d g (xs ∷ more) = every (λ k. front_fits d xs k (group k == g)) kinds && fronts_fit d (g + 1) more

-- two kinds of one group are the same, a hard pair, or have marks
abbrev set_apart : Dialect → Kind → Kind → Bool → Bool
set_apart d j k true = true
set_apart d j k false = parted_by marks (shape d j) (shape d k)

-- two kinds of one group are set apart by what they need and cannot have, as a test
abbrev pair_fits : Dialect → Kind → Kind → Bool
pair_fits d j k = set_apart d j k ((number j == number k) || (not (group j == group k) || hard j k))

-- the groups pass their test
fronts_all : (d : Dialect) → fronts_fit d 1 fronts ≡ true
unfolding shape has
fronts_all Lines = refl
fronts_all Turtle = refl

-- all pairs of kinds of one group pass their test
pairs_all : (d : Dialect) → every (λ j. every (pair_fits d j) kinds) kinds ≡ true
unfolding shape has
pairs_all Lines = refl
pairs_all Turtle = refl

-- there are no more groups than the test goes through
groups_all : every (λ k. nat_lt (group k) 16) kinds ≡ true
groups_all = refl

-- what was tested of all kinds holds of each but the end
every-at : (test : Kind → Bool) (ks : List Kind) (n : ℕ) → every test ks ≡ true → n < length ks → test (get_or ks n End) ≡ true
every-at test [] n e l = absurd (omega arith)
every-at test (k ∷ ks) zero e l = (and_parts (test k) (every test ks) e).0
every-at test (k ∷ ks) (suc n) e l = every-at test ks n (and_parts (test k) (every test ks) e).1 (omega arith)

-- each kind but the end has a number below that of the end
small : (k : Kind) → k ≢ End → number k < 29
small End n = absurd (n refl)
small k n = omega arith

-- what holds of all kinds by a test holds of each
of_kind : (test : Kind → Bool) → every test kinds ≡ true → (k : Kind) → k ≢ End → test k ≡ true
of_kind test e k n = subst (λ j. test j ≡ true) (at_number k) (every-at test kinds (number k) e (small k n))

-- so two kinds are set apart, or hard to set apart
of_pair : (d : Dialect) (j k : Kind) → j ≢ End → k ≢ End → pair_fits d j k ≡ true
of_pair d j k m n = of_kind (pair_fits d j) (of_kind (λ j. every (pair_fits d j) kinds) (pairs_all d) j m) k n

-- kinds whose texts begin otherwise
fronts-apart : (d : Dialect) (j k : Kind) (w : List ℕ) → j ≢ End → k ≢ End → group j ≢ group k → Matches (shape d j) w → Matches (shape d k) w →
    (g : ℕ) (more : List (List ℕ)) → fronts_fit d g more ≡ true → g ≤ group j → group j < g + length more → ⊥
fronts-apart d j k w m n u x y g [] e l h = omega arith
fronts-apart d j k w m n u x y g (xs ∷ more) e l h =
    let p = and_parts (every (λ k. front_fits d xs k (group k == g)) kinds) (fronts_fit d (g + 1) more) e in
    ⊎_elim
    (λ (t : (group j == g) ≡ true).
    let same = eqb-true (group j) g t in
    let other : (group k == g) ≡ false = ne_eqb (group k) g (λ f. u (same ∙ sym f)) in
    let a = and_parts (starts (class_in xs) (shape d j)) (not (nullable (shape d j)))
    (ap (front_fits d xs j) (sym t) ∙ of_kind (λ k. front_fits d xs k (group k == g)) p.0 j m) in
    let b = ap (front_fits d xs k) (sym other) ∙ of_kind (λ k. front_fits d xs k (group k == g)) p.0 k n in
    begins-apart xs (shape d j) (shape d k) w (not-true _ a.1) a.0 b x y)
    (λ (f : (group j == g) ≡ false).
    let o : group j ≢ g = λ z. false≢true (sym f ∙ eq-eqb (group j) g z) in
    fronts-apart d j k w m n u x y (g + 1) more p.1 (let q = le_ne g (group j) l (λ z. o (sym z)) in omega arith) (omega arith))
    (cases_Bool (group j == g))
  where
    le_ne : (a b : ℕ) → a ≤ b → a ≢ b → a < b
    le_ne a b l n = ⊎_elim (λ h. h) (λ h. absurd (n (omega arith))) (cases_lt a b)

-- the group of a kind is one that is tested
group_small : (k : Kind) → k ≢ End → group k < 16
group_small k n = ltb-true (group k) 16 (of_kind (λ k. nat_lt (group k) 16) groups_all k n)

-- kinds of different groups have no text in common
groups-apart : (d : Dialect) (j k : Kind) (w : List ℕ) → j ≢ End → k ≢ End → group j ≢ group k → Matches (shape d j) w → Matches (shape d k) w → ⊥
groups-apart d j k w m n u x y =
    let a = group_small j m in
    let b = group_small k n in
    ⊎_elim
    (λ (h : 0 < group j). fronts-apart d j k w m n u x y 1 fronts (fronts_all d) (omega arith) (omega arith))
    (λ (h : group j ≤ 0). fronts-apart d k j w n m (λ e. u (sym e)) y x 1 fronts (fronts_all d) (some_group (group j) (group k) h u) (omega arith))
    (cases_lt 0 (group j))
  where
    some_group : (a b : ℕ) → a ≤ 0 → a ≢ b → 1 ≤ b
    some_group a b l n = ⊎_elim (λ h. omega arith) (λ h. absurd (n (omega arith))) (cases_lt 0 b)

-- a short string that begins with two quotes ends there, and a long one does not
strings-apart : (q : ℕ) (short long : Regex) (w : List ℕ) → nullable (after long q) ≡ false → starts (class_in (q ∷ [])) (after long q) ≡ true →
    nullable (after_all long (q ∷ q ∷ [])) ≡ false → longer (after_all short (q ∷ q ∷ [])) ≡ false → Matches short (q ∷ w) → Matches long (q ∷ w) → ⊥
strings-apart q short long [] z i e f m n = false≢true (sym z ∙ matches-nullable (after long q) (matches-after long q [] n))
strings-apart q short long (c ∷ w) z i e f m n =
    let t : (c == q || false) ≡ true = starts-first (λ c. one_of (q ∷ []) c ≡ true) (class_in (q ∷ [])) (in-sound (q ∷ []))
    (after long q) c w i (matches-after long q (c ∷ w) n) in
    let same : c ≡ q = ⊎_elim (λ h. eqb-true c q h) (λ h. absurd (false≢true h)) (or_cases (c == q) false t) in
    ends w (matches-after_all (q ∷ q ∷ []) w short (subst (λ x. Matches short (q ∷ x ∷ w)) same m))
    (matches-after_all (q ∷ q ∷ []) w long (subst (λ x. Matches long (q ∷ x ∷ w)) same n))
  where
    ends : (w : List ℕ) → Matches (after_all short (q ∷ q ∷ [])) w → Matches (after_all long (q ∷ q ∷ [])) w → ⊥
    ends [] m n = false≢true (sym e ∙ matches-nullable (after_all long (q ∷ q ∷ [])) n)
    ends (c ∷ w) m n = false≢true (sym f ∙ matches-longer (after_all short (q ∷ q ∷ [])) c w m)

-- no text is a string with one quote and one with three
strings : (d : Dialect) (w : List ℕ) → Matches (shape d ShortString) w → Matches (shape d LongString) w → ⊥
unfolding shape has
strings Lines w m n = n
strings Turtle [] m n = false≢true (matches-nullable (shape Turtle LongString) n)
strings Turtle (c ∷ w) m n =
    let t : one_of (codes "\"'") c ≡ true =
    starts-first (λ c. one_of (codes "\"'") c ≡ true) (class_in (codes "\"'")) (in-sound (codes "\"'")) (shape Turtle LongString) c w refl n in
    ⊎_elim
    (λ (h : (c == 34) ≡ true).
    let e = eqb-true c 34 h in
    strings-apart 34 (shape Turtle ShortString) (shape Turtle LongString) w refl refl refl refl
    (subst (λ x. Matches (shape Turtle ShortString) (x ∷ w)) e m) (subst (λ x. Matches (shape Turtle LongString) (x ∷ w)) e n))
    (λ (h : (c == 39 || false) ≡ true).
    let e = ⊎_elim (λ h. eqb-true c 39 h) (λ h. absurd (false≢true h)) (or_cases (c == 39) false h) in
    strings-apart 39 (shape Turtle ShortString) (shape Turtle LongString) w refl refl refl refl
    (subst (λ x. Matches (shape Turtle ShortString) (x ∷ w)) e m) (subst (λ x. Matches (shape Turtle LongString) (x ∷ w)) e n))
    (or_cases (c == 34) (c == 39 || false) t)

-- what stands after the first x
after_first : (x : ℕ) (u v a b : List ℕ) → meets (x ∷ []) u ≡ false → meets (x ∷ []) v ≡ false → u ++ x ∷ a ≡ v ++ x ∷ b → a ≡ b
after_first x [] [] a b m n e = cc
after_first x [] (d ∷ v) a b m n e = absurd (false≢true (sym n ∙ met x d v (let h : x ≡ d = cc in h)))
  where
    met : (x d : ℕ) (v : List ℕ) → x ≡ d → meets (x ∷ []) (d ∷ v) ≡ true
    met x d v h = or_left _ _ (or_left (d == x) false (eq-eqb d x (sym h)))
after_first x (c ∷ u) [] a b m n e = absurd (false≢true (sym m ∙ met x c u (let h : c ≡ x = cc in sym h)))
  where
    met : (x d : ℕ) (v : List ℕ) → x ≡ d → meets (x ∷ []) (d ∷ v) ≡ true
    met x d v h = or_left _ _ (or_left (d == x) false (eq-eqb d x (sym h)))
after_first x (c ∷ u) (d ∷ v) a b m n e = after_first x u v a b (rest c u m) (rest d v n) (let h : u ++ x ∷ a ≡ v ++ x ∷ b = cc in h)
  where
    rest : (c : ℕ) (u : List ℕ) → meets (x ∷ []) (c ∷ u) ≡ false → meets (x ∷ []) u ≡ false
    rest c u m = by (one_of (x ∷ []) c) m
      where
        by : (t : Bool) → (t || meets (x ∷ []) u) ≡ false → meets (x ∷ []) u ≡ false
        by true m = absurd (false≢true (sym m))
        by false m = m

-- the class of ":" has ":" alone
colon_is : (c : ℕ) → has (the 58) c ≡ true → c ≡ 58
unfolding has
colon_is c h = eqb-true c 58 (and_parts (scalar c) (c == 58) h).1

-- a prefix has no ":"
no_colon : within (class_out (58 ∷ [])) (optional pn_prefix) ≡ true
unfolding has
no_colon = refl

-- a name without a local part ends after its first colon, and one with it does not
names : (d : Dialect) (w : List ℕ) → Matches (shape d PnameNs) w → Matches (shape d PnameLn) w → ⊥
unfolding shape
names Lines w m n = n
names Turtle w m n =
    let l = n.3 in
    let a : w ≡ m.0 ++ 58 ∷ [] = m.4 ∙ ap (λ x. m.0 ++ x) (m.3.2 ∙ ap (λ c. c ∷ []) (colon_is m.3.0 m.3.1)) in
    let b : w ≡ n.0 ++ 58 ∷ l.1 = n.4 ∙ ap (λ x. n.0 ++ x) (l.4 ∙ ap (λ u. u ++ l.1) (l.2.2 ∙ ap (λ c. c ∷ []) (colon_is l.2.0 l.2.1))) in
    let none : [] ≡ l.1 = after_first 58 m.0 n.0 [] l.1 (none-met (58 ∷ []) (optional pn_prefix) m.0 no_colon m.2)
    (none-met (58 ∷ []) (optional pn_prefix) n.0 no_colon n.2) (sym a ∙ b) in
    false≢true (matches-nullable pn_local (subst (Matches pn_local) (sym none) l.3))

-- the expression of a shape
matches_of : (d : Dialect) (k : Kind) (w : List ℕ) → Shape d k w → Matches (shape d k) w
matches_of d LangTag w m = m.0
matches_of d k w m = m

-- so the pairs that no test sets apart have no text in common either
hard-apart : (d : Dialect) (j k : Kind) (w : List ℕ) → hard j k ≡ true → Shape d j w → Shape d k w → ⊥
hard-apart d ShortString LongString w e m n = strings d w m n
hard-apart d LongString ShortString w e m n = strings d w n m
hard-apart d LangTag AtPrefix w e m n = m.1 (inl n)
hard-apart d LangTag AtBase w e m n = m.1 (inr n)
hard-apart d AtPrefix LangTag w e m n = n.1 (inl m)
hard-apart d AtBase LangTag w e m n = n.1 (inr m)
hard-apart d PnameNs PnameLn w e m n = names d w m n
hard-apart d PnameLn PnameNs w e m n = names d w n m
hard-apart d j k w e m n = false≢true e

-- no text has the shape of the end
no_end : (d : Dialect) (w : List ℕ) (k : Kind) → Shape d k w → k ≢ End
unfolding shape
no_end d w End m e = m
no_end d w k m e = cc

-- no text has the shapes of two kinds
pub one_kind : (d : Dialect) (j k : Kind) (w : List ℕ) → Shape d j w → Shape d k w → j ≡ k
one_kind d j k w m n =
    ⊎_elim
    (λ t. same_number j k (eqb-true (number j) (number k) t))
    (λ t. ⊎_elim
    (λ g. ⊎_elim
    (λ h. absurd (hard-apart d j k w h m n))
    (λ h. absurd (parted_by-apart marks (shape d j) (shape d k) w (apart t g h) (matches_of d j w m) (matches_of d k w n)))
    (cases_Bool (hard j k)))
    (λ g. absurd (groups-apart d j k w (no_end d w j m) (no_end d w k n) (λ e. false≢true (sym g ∙ eq-eqb (group j) (group k) e))
    (matches_of d j w m) (matches_of d k w n)))
    (cases_Bool (group j == group k)))
    (cases_Bool (number j == number k))
  where
    apart : (number j == number k) ≡ false → (group j == group k) ≡ true → hard j k ≡ false → parted_by marks (shape d j) (shape d k) ≡ true
    apart t g h =
        ap (set_apart d j k) (sym (ap (λ a. a || (not (group j == group k) || hard j k)) t ∙ (ap (λ a. not a || hard j k) g ∙ h)))
        ∙ of_pair d j k (no_end d w j m) (no_end d w k n)

-- the kind that the test finds is that of the shape
keyword_first : (d : Dialect) (w : List ℕ) → Matches (shape d AtPrefix ∣ shape d AtBase) w → kind_of d w ≢ Some LangTag
unfolding kind_of
keyword_first d w m e = go _ (nullable (after_all (shape d AtPrefix) w)) (nullable (after_all (shape d AtBase) w))
    (⊎_elim (λ x. inl (matches-form _ w x)) (λ x. inr (matches-form _ w x)) m) e
  where
    go : (o : Option Kind) (a b : Bool) → (a ≡ true) ⊎ (b ≡ true) → cond a (Some AtPrefix) (cond b (Some AtBase) o) ≡ Some LangTag → ⊥
    go o true b h e = let x : Some AtPrefix ≡ Some LangTag = e in cc
    go o false true h e = let x : Some AtBase ≡ Some LangTag = e in cc
    go o false false h e = ⊎_elim (λ x. let y : false ≡ true = x in cc) (λ x. let y : false ≡ true = x in cc) h

-- what matches the expression of a kind has its shape, unless it is a keyword read as a tag
to_shape : (d : Dialect) (w : List ℕ) (k : Kind) → Matches (shape d k) w → (k ≡ LangTag → Matches (shape d AtPrefix ∣ shape d AtBase) w → ⊥) → Shape d k w
to_shape d w LangTag m h = (m, h refl)
to_shape d w k m h = m

-- the kind that is computed is one whose shape the text has
pub kind-shape : (d : Dialect) (w : List ℕ) (k : Kind) → kind_of d w ≡ Some k → Shape d k w
unfolding kind_of
kind-shape d w k e = to_shape d w k (first_kind-matches d kinds w k e).0 (λ x n. keyword_first d w n (e ∙ ap Some x))

-- each shape is among all of them
any-at : (d : Dialect) (ks : List Kind) (n : ℕ) (w : List ℕ) → n < length ks → Matches (shape d (get_or ks n End)) w → Matches (any_shape d ks) w
any-at d [] n w l m = absurd (omega arith)
any-at d (k ∷ ks) zero w l m = inl m
any-at d (k ∷ ks) (suc n) w l m = inr (any-at d ks n w (omega arith) m)

-- a shape of one kind is one of all
pub shape-any : (d : Dialect) (k : Kind) (w : List ℕ) → Shape d k w → Matches (any_shape d kinds) w
shape-any d k w m =
    any-at d kinds (number k) w (small k (no_end d w k m)) (subst (λ j. Matches (shape d j) w) (sym (at_number k)) (matches_of d k w m))

-- a text with a shape has its kind by the computation
pub shape-kind : (d : Dialect) (w : List ℕ) (k : Kind) → Shape d k w → kind_of d w ≡ Some k
unfolding kind_of
shape-kind d w k m =
    let f = matches-first_kind d kinds w (shape-any d k w m) in
    f.1 ∙ ap Some (one_kind d f.0 k w (kind-shape d w f.0 f.1) m)

-- the test on beginnings
pub live-shape : (d : Dialect) (w : List ℕ) → is_live d w ≡ true → Live d w
unfolding kind_of
live-shape d w e =
    let l = live-matches d w e in
    let f = matches-first_kind d kinds (w ++ l.0 ∷ l.1) l.2 in
    (f.0, l.0, l.1, kind-shape d (w ++ l.0 ∷ l.1) f.0 f.1)

-- a beginning of a longer shape computes as one
pub shape-live : (d : Dialect) (w : List ℕ) → Live d w → is_live d w ≡ true
shape-live d w l = matches-live d w l.1 l.2 (shape-any d l.0 (w ++ l.1 ∷ l.2) l.3)
