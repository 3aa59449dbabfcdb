-- The lines of a file of bindings: where their parts stand, and that a line says one thing.
use Rattle.rdf_iri.proofs.Prelude.{◌≡◌, ℕ, suc, ◌+◌, ◌<◌, true, false, cond, List, [], ◌∷◌, ◌++◌, ◌==◌, ◌||◌, ◌⊎◌, length, drop, Some, inl, inr, refl, sym, ap, ◌∙◌, subst, ⊎_elim, append_assoc, arith, codes, map, nat_lt, ⊤, to_ascii_lowercase, AllByRecursion, chars, IsUtf8, drop-append_seam, cases_Bool, cond-true, cond-false, and_parts, and_from, or_cases, eqb-true, ne_eqb, lt-ltb, false≢true, append-nil, append_cancel_left, append_cancel_right, Turtle, PnameNs, Prefix, has, the, iri_char, IsIri, all_have, past, Lacks, before, after, is_blank, AreBlanks, Begins, BeginsBlank, SaysNothing, IsPlain, IsPrefixId, IsSparqlPrefix, IsBinding, NameThen, IriThen, PairThen, EndsAtDot, Declares, IsDeclaration, IsIn}
use Rattle.rdf_terms.specs.Classes.{scalar}
use Rattle.rdf_terms.specs.Regex.{Matches}
use Rattle.rdf_terms.specs.Regex.Regex.{one, ◌∣◌}
use Rattle.rdf_terms.specs.Shapes.{shape, Shape, optional, pn_prefix, any_case}
use Rattle.rdf_terms.proofs.UsedCharacters.{uses, not_used}
use Rattle.rdf_iri.proofs.TextsLemmas.{cut_suffix}
use Rattle.rdf_iri.proofs.Encoded.{are_ascii}

-- blanks at the beginning are passed
pub past-front : (b w : List ℕ) → AreBlanks b → past is_blank (b ++ w) ≡ past is_blank w
past-front [] w a = refl
past-front (c ∷ b) w a =
    let p = and_parts (is_blank c) (all_have is_blank b) a in
    cond-true (is_blank c) (past is_blank (b ++ w)) (c ∷ (b ++ w)) p.0 ∙ past-front b w p.1

-- another character is not
pub past-stays : (c : ℕ) (w : List ℕ) → is_blank c ≡ false → past is_blank (c ∷ w) ≡ c ∷ w
past-stays c w f = cond-false (is_blank c) (past is_blank w) (c ∷ w) f

-- blanks alone leave nothing
pub past-blanks : (w : List ℕ) → AreBlanks w → past is_blank w ≡ []
past-blanks w a = ap (past is_blank) (sym (append-nil w)) ∙ past-front w [] a

-- a text that begins with no blank is left as it is
pub past-same : (w : List ℕ) → ((c : ℕ) (v : List ℕ) → w ≡ c ∷ v → is_blank c ≡ false) → past is_blank w ≡ w
past-same [] f = refl
past-same (c ∷ w) f = past-stays c w (f c w refl)

-- what is left begins with no blank
pub past-first : (w : List ℕ) (c : ℕ) (v : List ℕ) → past is_blank w ≡ c ∷ v → is_blank c ≡ false
past-first [] c v e = absurd (cc)
past-first (d ∷ w) c v e =
    ⊎_elim
    (λ t. past-first w c v (sym (cond-true (is_blank d) (past is_blank w) (d ∷ w) t) ∙ e))
    (λ f. let k : d ∷ w ≡ c ∷ v = sym (past-stays d w f) ∙ e in let s : d ≡ c = cc in subst (λ x. is_blank x ≡ false) s f)
    (cases_Bool (is_blank d))

-- a text, parted behind its blanks
pub record Parted (w : List ℕ) : Type 0 where
  pub blanks : List ℕ
  pub are_blanks : AreBlanks blanks
  pub whole : w ≡ blanks ++ past is_blank w

-- each text is parted so
pub parted : (w : List ℕ) → Parted w
parted [] = record { blanks = []; are_blanks = refl; whole = refl }
parted (c ∷ w) =
    ⊎_elim
    (λ t. let p = parted w in
    record {
      blanks = c ∷ p.blanks;
      are_blanks = and_from (is_blank c) (all_have is_blank p.blanks) t p.are_blanks;
      whole = ap (λ x. c ∷ x) p.whole ∙ ap (λ x. c ∷ (p.blanks ++ x)) (sym (cond-true (is_blank c) (past is_blank w) (c ∷ w) t));
    })
    (λ f. record { blanks = []; are_blanks = refl; whole = sym (past-stays c w f) })
    (cases_Bool (is_blank c))

-- a token that begins with no blank stands where the blanks end
pub token_there : (w : List ℕ) (c : ℕ) (t rest : List ℕ) → is_blank c ≡ false → Begins w (c ∷ t) rest → past is_blank w ≡ c ∷ (t ++ rest)
token_there w c t rest f b = ap (past is_blank) b.parts ∙ (past-front b.blanks ((c ∷ t) ++ rest) b.are_blanks ∙ past-stays c (t ++ rest) f)

-- and what stands there is a token and the rest
pub begins_there : (w token rest : List ℕ) → past is_blank w ≡ token ++ rest → Begins w token rest
begins_there w token rest e = let p = parted w in record { blanks = p.blanks; parts = p.whole ∙ ap (λ x. p.blanks ++ x) e; are_blanks = p.are_blanks }

-- a blank is one of two characters
blank_cases : (c : ℕ) → is_blank c ≡ true → (c ≡ 32) ⊎ (c ≡ 9)
blank_cases c h = ⊎_elim (λ t. inl (eqb-true c 32 t)) (λ t. inr (eqb-true c 9 t)) (or_cases (c == 32) (c == 9) h)

-- and no other
pub not_blank : (c : ℕ) → (c ≡ 32 → ⊥) → (c ≡ 9 → ⊥) → is_blank c ≡ false
not_blank c m n = ap (λ b. b || c == 9) (ne_eqb c 32 m) ∙ ne_eqb c 9 n

-- a blank is ASCII
pub blank_ascii : (c : ℕ) → is_blank c ≡ true → c < 128
blank_ascii c h = ⊎_elim (λ (e : c ≡ 32). omega (arith, e)) (λ (e : c ≡ 9). omega (arith, e)) (blank_cases c h)

-- a line that says nothing, by what stands behind its blanks
pub nothing_there : (w : List ℕ) → SaysNothing w → (past is_blank w ≡ []) ⊎ ((comment : List ℕ) × (past is_blank w ≡ 35 ∷ comment) × Lacks 13 comment)
nothing_there w s = ⊎_elim (λ a. inl (past-blanks w a)) (λ b. inr (b.0, token_there w 35 [] b.0 refl b.1, b.2)) s

-- nothing behind the blanks
pub blanks_alone : (w : List ℕ) → past is_blank w ≡ [] → AreBlanks w
blanks_alone w e = let p = parted w in subst AreBlanks (sym (p.whole ∙ (ap (λ x. p.blanks ++ x) e ∙ append-nil p.blanks))) p.are_blanks

-- a character that no split of the text has
pub Lacks-from_splits : (c : ℕ) (w : List ℕ) → ((u v : List ℕ) → w ≡ u ++ c ∷ v → ⊥) → Lacks c w
Lacks-from_splits c [] h = tt
Lacks-from_splits c (d ∷ w) h = (λ e. h [] w (ap (λ x. x ∷ w) e), Lacks-from_splits c w (λ u v e. h (d ∷ u) v (ap (λ x. d ∷ x) e)))

-- a character of a text is not lacking
pub Lacks-there : (c : ℕ) (u v : List ℕ) → Lacks c (u ++ c ∷ v) → ⊥
Lacks-there c [] v l = l.0 refl
Lacks-there c (d ∷ u) v l = Lacks-there c u v l.1

-- a PNAME_NS has no blank and no "#"
unused : (uses (shape Turtle PnameNs) 32 ≡ false) × (uses (shape Turtle PnameNs) 9 ≡ false) × (uses (shape Turtle PnameNs) 35 ≡ false)
unfolding shape has
unused = (refl, refl, refl)

-- what its expression does not use it lacks
name_lacks : (c : ℕ) (w : List ℕ) → uses (shape Turtle PnameNs) c ≡ false → Shape Turtle PnameNs w → Lacks c w
name_lacks c w f m = Lacks-from_splits c w (λ u v e. not_used (shape Turtle PnameNs) u v c f (subst (Matches (shape Turtle PnameNs)) e m))

-- so the first space ends it
pub name_lacks_space : (w : List ℕ) → Shape Turtle PnameNs w → Lacks 32 w
name_lacks_space w m = name_lacks 32 w unused.0 m

-- no tab
name_lacks_tab : (w : List ℕ) → Shape Turtle PnameNs w → Lacks 9 w
name_lacks_tab w m = name_lacks 9 w unused.1 m

-- a prefix has no ":"
no_colon : uses (optional pn_prefix) 58 ≡ false
unfolding has
no_colon = refl

-- the colon alone
colon_alone : (w : List ℕ) → Matches (one (the 58)) w → w ≡ 58 ∷ []
unfolding has
colon_alone w m = let p = and_parts (scalar m.0) (m.0 == 58) m.1 in m.2 ∙ ap (λ x. x ∷ []) (eqb-true m.0 58 p.1)

-- so the first ":" of a PNAME_NS ends it
pub prefix_lacks : (prefix : List ℕ) → Shape Turtle PnameNs (prefix ++ 58 ∷ []) → Lacks 58 prefix
unfolding shape
prefix_lacks prefix m =
    let e : prefix ≡ m.0 = append_cancel_right prefix m.0 (58 ∷ []) (m.4 ∙ ap (λ x. m.0 ++ x) (colon_alone m.1 m.3)) in
    Lacks-from_splits 58 prefix (λ u v h. not_used (optional pn_prefix) u v 58 no_colon (subst (Matches (optional pn_prefix)) (sym e ∙ h) m.2))

-- a prefix with its colon begins with no blank
name_first : (prefix : List ℕ) → Shape Turtle PnameNs (prefix ++ 58 ∷ []) →
    (c : ℕ) × (t : List ℕ) × (prefix ++ 58 ∷ [] ≡ c ∷ t) × (is_blank c ≡ false) × (c ≡ 35 → ⊥)
name_first [] m = (58, [], refl, refl, λ e. omega (arith, e))
name_first (c ∷ p) m = (
  c,
  p ++ 58 ∷ [],
  refl,
  not_blank c (name_lacks_space (c ∷ (p ++ 58 ∷ [])) m).0 (name_lacks_tab (c ∷ (p ++ 58 ∷ [])) m).0,
  (name_lacks 35 (c ∷ (p ++ 58 ∷ [])) unused.2 m).0,
)

-- so it is no blank that stands before it
pub name_there : (w prefix rest : List ℕ) → Shape Turtle PnameNs (prefix ++ 58 ∷ []) → Begins w (prefix ++ 58 ∷ []) rest → past is_blank w ≡ prefix ++ 58 ∷ rest
name_there w prefix rest m b =
    let f = name_first prefix m in
    token_there w f.0 f.1 rest f.3 (subst (λ t. Begins w t rest) f.2 b) ∙ (ap (λ x. x ++ rest) (sym f.2) ∙ append_assoc prefix (58 ∷ []) rest)

-- a name and its rest
pub one_name : (w p m q n : List ℕ) → NameThen w p m → NameThen w q n → (p ≡ q) × (m ≡ n)
one_name w p m q n a b =
    let x = cut_suffix 58 p (Some m) (prefix_lacks p a.shape) in
    let y = cut_suffix 58 q (Some n) (prefix_lacks q b.shape) in
    let e : p ++ 58 ∷ m ≡ q ++ 58 ∷ n = sym (name_there w p m a.shape a.name) ∙ name_there w q n b.shape b.name in
    let s : Some m ≡ Some n = sym x.1 ∙ (ap (after 58) e ∙ y.1) in
    (sym x.0 ∙ (ap (before 58) e ∙ y.0), cc)

-- an IRI has no ">"
angle : has iri_char 62 ≡ false
unfolding has
angle = refl

-- so the first one ends it
pub iri_lacks : (iri : List ℕ) → all_have (has iri_char) iri ≡ true → Lacks 62 iri
iri_lacks [] a = tt
iri_lacks (c ∷ iri) a =
    let p = and_parts (has iri_char c) (all_have (has iri_char) iri) a in
    (λ e. false≢true (sym angle ∙ subst (λ x. has iri_char x ≡ true) e p.0), iri_lacks iri p.1)

-- where it stands
pub iri_there : (w iri rest : List ℕ) → Begins w (60 ∷ (iri ++ 62 ∷ [])) rest → past is_blank w ≡ 60 ∷ (iri ++ 62 ∷ rest)
iri_there w iri rest b = token_there w 60 (iri ++ 62 ∷ []) rest refl b ∙ ap (λ x. 60 ∷ x) (append_assoc iri (62 ∷ []) rest)

-- an IRI and its rest
pub one_iri : (w i r j s : List ℕ) → IriThen w i r → IriThen w j s → (i ≡ j) × (r ≡ s)
one_iri w i r j s a b =
    let x = cut_suffix 62 i (Some r) (iri_lacks i a.absolute.characters) in
    let y = cut_suffix 62 j (Some s) (iri_lacks j b.absolute.characters) in
    let e : i ++ 62 ∷ r ≡ j ++ 62 ∷ s = ap (drop 1) (sym (iri_there w i r a.reference) ∙ iri_there w j s b.reference) in
    let t : Some r ≡ Some s = sym x.1 ∙ (ap (after 62) e ∙ y.1) in
    (sym x.0 ∙ (ap (before 62) e ∙ y.0), cc)

-- both
pub record SamePair (p q : List ℕ × List ℕ × List ℕ) : Type 0 where
  pub prefix : p.0 ≡ q.0
  pub iri : p.1 ≡ q.1
  pub rest : p.2 ≡ q.2

-- a text has them once
pub one_pair : (w : List ℕ) (p q : List ℕ × List ℕ × List ℕ) → PairThen w p → PairThen w q → SamePair p q
one_pair w p q a b =
    let x = one_name w p.0 a.0 q.0 b.0 a.1 b.1 in
    let y = one_iri b.0 p.1 p.2 q.1 q.2 (subst (λ m. IriThen m p.1 p.2) x.1 a.2) b.2 in
    record { prefix = x.0; iri = y.0; rest = y.1 }

-- what follows the word of a declaration says one thing
one_declared : (E F : List ℕ → Type 0) (w p i q j : List ℕ) → Declares E w p i → Declares F w q j → (p ≡ q) × (i ≡ j)
one_declared E F w p i q j a b = let s = one_pair w (p, i, a.0) (q, j, b.0) a.1 b.1 in (s.prefix, s.iri)

-- a capital letter and its small one
record Capital (c : ℕ) : Type 0 where
  pub big : has (the c) c ≡ true
  pub small : has (the (c + 32)) (c + 32) ≡ true
  pub lowered : to_ascii_lowercase c ≡ c + 32
  pub kept : to_ascii_lowercase (c + 32) ≡ c + 32
  pub ascii : c + 32 < 128

-- the letters of a keyword
abbrev Capitals : List ℕ → Type 0
Capitals w = AllByRecursion Capital w

-- the letters of "PREFIX"
capitals : Capitals (codes "PREFIX")
unfolding has
capitals = (
  record { big = refl; small = refl; lowered = refl; kept = refl; ascii = omega arith },
  (
    record { big = refl; small = refl; lowered = refl; kept = refl; ascii = omega arith },
    (
      record { big = refl; small = refl; lowered = refl; kept = refl; ascii = omega arith },
      (
        record { big = refl; small = refl; lowered = refl; kept = refl; ascii = omega arith },
        (
          record { big = refl; small = refl; lowered = refl; kept = refl; ascii = omega arith },
          (record { big = refl; small = refl; lowered = refl; kept = refl; ascii = omega arith }, tt),
        ),
      ),
    ),
  ),
)

-- the same letters, each of them capital or small
abbrev InCase : List ℕ → List ℕ → Type 0
InCase [] [] = ⊤
InCase [] (d ∷ w) = ⊥
InCase (c ∷ k) [] = ⊥
InCase (c ∷ k) (d ∷ w) = ((d ≡ c) ⊎ (d ≡ c + 32)) × InCase k w

-- one letter
letter_cases : (c : ℕ) (w : List ℕ) → Matches (one (the c) ∣ one (the (c + 32))) w → (w ≡ c ∷ []) ⊎ (w ≡ (c + 32) ∷ [])
unfolding has
letter_cases c w m =
    ⊎_elim
    (λ a. inl (a.2 ∙ ap (λ x. x ∷ []) (eqb-true a.0 c (and_parts (scalar a.0) (a.0 == c) a.1).1)))
    (λ a. inr (a.2 ∙ ap (λ x. x ∷ []) (eqb-true a.0 (c + 32) (and_parts (scalar a.0) (a.0 == c + 32) a.1).1)))
    m

-- what a keyword matches has its letters
matches_case : (k w : List ℕ) → Matches (any_case k) w → InCase k w
matches_case [] w m = subst (InCase []) (sym m) tt
matches_case (c ∷ k) w m =
    ⊎_elim
    (λ (e : m.0 ≡ c ∷ []). subst (InCase (c ∷ k)) (sym (m.4 ∙ ap (λ x. x ++ m.1) e)) (inl refl, matches_case k m.1 m.3))
    (λ (e : m.0 ≡ (c + 32) ∷ []). subst (InCase (c ∷ k)) (sym (m.4 ∙ ap (λ x. x ++ m.1) e)) (inr refl, matches_case k m.1 m.3))
    (letter_cases c m.0 m.2)

-- and what has its letters matches it
case_matches : (k w : List ℕ) → Capitals k → InCase k w → Matches (any_case k) w
case_matches [] [] h i = refl
case_matches [] (d ∷ w) h i = absurd i
case_matches (c ∷ k) [] h i = absurd i
case_matches (c ∷ k) (d ∷ w) h i =
    let r = case_matches k w h.1 i.1 in
    ⊎_elim
    (λ (e : d ≡ c). (d ∷ [], w, inl (c, h.0.big, ap (λ x. x ∷ []) e), r, refl))
    (λ (e : d ≡ c + 32). (d ∷ [], w, inr (c + 32, h.0.small, ap (λ x. x ∷ []) e), r, refl))
    i.0

-- it is as long
case_length : (k w : List ℕ) → InCase k w → length w ≡ length k
case_length [] [] i = refl
case_length [] (d ∷ w) i = absurd i
case_length (c ∷ k) [] i = absurd i
case_length (c ∷ k) (d ∷ w) i = ap suc (case_length k w i.1)

-- it is ASCII
case_ascii : (k w : List ℕ) → Capitals k → InCase k w → are_ascii w ≡ true
case_ascii [] [] h i = refl
case_ascii [] (d ∷ w) h i = absurd i
case_ascii (c ∷ k) [] h i = absurd i
case_ascii (c ∷ k) (d ∷ w) h i =
    let a = h.0.ascii in
    let l : d < 128 = ⊎_elim (λ (e : d ≡ c). omega (arith, e, a)) (λ (e : d ≡ c + 32). omega (arith, e, a)) i.0 in
    and_from (nat_lt d 128) (are_ascii w) (lt-ltb d 128 l) (case_ascii k w h.1 i.1)

-- a letter by its small one
lower_cases : (c d : ℕ) → to_ascii_lowercase d ≡ c + 32 → (d ≡ c) ⊎ (d ≡ c + 32)
lower_cases c d e =
    ⊎_elim
    (λ t. inr (sym (cond-true (nat_lt d 65) d (cond (nat_lt d 91) (d + 32) d) t) ∙ e))
    (λ f.
    let k : cond (nat_lt d 91) (d + 32) d ≡ c + 32 = sym (cond-false (nat_lt d 65) d (cond (nat_lt d 91) (d + 32) d) f) ∙ e in
    ⊎_elim
    (λ t. let m : d + 32 ≡ c + 32 = sym (cond-true (nat_lt d 91) (d + 32) d t) ∙ k in inl (omega (arith, m)))
    (λ g. inr (sym (cond-false (nat_lt d 91) (d + 32) d g) ∙ k))
    (cases_Bool (nat_lt d 91)))
    (cases_Bool (nat_lt d 65))

-- a text whose letters are the same in small has the letters of the keyword
lower_case : (k w : List ℕ) → Capitals k → map to_ascii_lowercase w ≡ map to_ascii_lowercase k → InCase k w
lower_case [] [] h e = tt
lower_case [] (d ∷ w) h e = absurd (cc)
lower_case (c ∷ k) [] h e = absurd (cc)
lower_case (c ∷ k) (d ∷ w) h e =
    let s : to_ascii_lowercase d ≡ to_ascii_lowercase c = cc in
    let r : map to_ascii_lowercase w ≡ map to_ascii_lowercase k = cc in
    (lower_cases c d (s ∙ h.0.lowered), lower_case k w h.1 r)

-- and the other way
case_lower : (k w : List ℕ) → Capitals k → InCase k w → map to_ascii_lowercase w ≡ map to_ascii_lowercase k
case_lower [] [] h i = refl
case_lower [] (d ∷ w) h i = absurd i
case_lower (c ∷ k) [] h i = absurd i
case_lower (c ∷ k) (d ∷ w) h i =
    let s : to_ascii_lowercase d ≡ to_ascii_lowercase c =
    ⊎_elim (λ (e : d ≡ c). ap to_ascii_lowercase e) (λ (e : d ≡ c + 32). ap to_ascii_lowercase e ∙ (h.0.kept ∙ sym h.0.lowered)) i.0 in
    ap (λ x. x ∷ map to_ascii_lowercase w) s ∙ ap (λ x. to_ascii_lowercase c ∷ x) (case_lower k w h.1 i.1)

-- the letters of a PREFIX
keyword_case : (k : List ℕ) → Shape Turtle Prefix k → InCase (codes "PREFIX") k
unfolding shape
keyword_case k m = matches_case (codes "PREFIX") k m

-- a PREFIX is told by its small letters
pub keyword_from : (k : List ℕ) → map to_ascii_lowercase k ≡ map to_ascii_lowercase (codes "PREFIX") → Shape Turtle Prefix k
unfolding shape
keyword_from k e = case_matches (codes "PREFIX") k capitals (lower_case (codes "PREFIX") k capitals e)

-- and has them
pub keyword_lower : (k : List ℕ) → Shape Turtle Prefix k → map to_ascii_lowercase k ≡ map to_ascii_lowercase (codes "PREFIX")
keyword_lower k m = case_lower (codes "PREFIX") k capitals (keyword_case k m)

-- six of them
pub keyword_length : (k : List ℕ) → Shape Turtle Prefix k → length k ≡ 6
keyword_length k m = case_length (codes "PREFIX") k (keyword_case k m)

-- all ASCII
pub keyword_ascii : (k : List ℕ) → Shape Turtle Prefix k → are_ascii k ≡ true
keyword_ascii k m = case_ascii (codes "PREFIX") k capitals (keyword_case k m)

-- it has no ":"
plain_keyword : uses (shape Turtle Prefix) 58 ≡ false
unfolding shape has
plain_keyword = refl

-- nor has any text of it
keyword_lacks : (k : List ℕ) → Shape Turtle Prefix k → Lacks 58 k
keyword_lacks k m = Lacks-from_splits 58 k (λ u v e. not_used (shape Turtle Prefix) u v 58 plain_keyword (subst (Matches (shape Turtle Prefix)) e m))

-- the first letter of a keyword
record Keyword (k : List ℕ) : Type 0 where
  pub first : ℕ
  pub more : List ℕ
  pub parts : k ≡ first ∷ more
  pub letter : (first ≡ 80) ⊎ (first ≡ 112)

-- each has one
keyword_first : (k : List ℕ) → InCase (codes "PREFIX") k → Keyword k
keyword_first [] i = absurd i
keyword_first (d ∷ k) i = record { first = d; more = k; parts = refl; letter = i.0 }

-- where it stands
keyword_there : (w k rest : List ℕ) → Shape Turtle Prefix k → Begins w k rest → past is_blank w ≡ k ++ rest
keyword_there w k rest m b =
    let f = keyword_first k (keyword_case k m) in
    let n : is_blank f.first ≡ false = ⊎_elim (λ (e : f.first ≡ 80). ap is_blank e) (λ (e : f.first ≡ 112). ap is_blank e) f.letter in
    token_there w f.first f.more rest n (subst (λ t. Begins w t rest) f.parts b) ∙ ap (λ x. x ++ rest) (sym f.parts)

-- it is not what begins with another character
no_keyword : (k rest v : List ℕ) (c : ℕ) → Shape Turtle Prefix k → k ++ rest ≡ c ∷ v → (c ≡ 80 → ⊥) → (c ≡ 112 → ⊥) → ⊥
no_keyword k rest v c m e n o =
    let f = keyword_first k (keyword_case k m) in
    let g : f.first ∷ (f.more ++ rest) ≡ c ∷ v = ap (λ x. x ++ rest) (sym f.parts) ∙ e in
    let s : f.first ≡ c = cc in
    ⊎_elim (λ a. n (sym s ∙ a)) (λ a. o (sym s ∙ a)) f.letter

-- two keywords are equally long, so what follows them is the same
keyword_rest : (k l a b : List ℕ) → Shape Turtle Prefix k → Shape Turtle Prefix l → k ++ a ≡ l ++ b → a ≡ b
keyword_rest k l a b m n e =
    sym (ap (λ i. drop i (k ++ a)) (sym (keyword_length k m)) ∙ drop-append_seam k a)
    ∙ (ap (drop 6) e ∙ (ap (λ i. drop i (l ++ b)) (sym (keyword_length l n)) ∙ drop-append_seam l b))

-- a declaration, cut behind its word
record AtWord (Word Ends : List ℕ → Type 0) (w p i : List ℕ) : Type 0 where
  pub word : List ℕ
  pub rest : List ℕ
  pub is : Word word
  pub whole : past is_blank w ≡ word ++ rest
  pub declares : Declares Ends rest p i

-- "@prefix" and no other word
abbrev IsAtPrefix : List ℕ → Type 0
IsAtPrefix w = w ≡ codes "@prefix"

-- Turtle's
prefix_id_there : (w p i : List ℕ) → IsPrefixId w p i → Shape Turtle PnameNs (p ++ 58 ∷ []) → IsIri i → AtWord IsAtPrefix EndsAtDot w p i
prefix_id_there w p i d m a = record {
  word = codes "@prefix";
  rest = d.at_name;
  is = refl;
  whole = token_there w 64 (codes "prefix") d.at_name refl d.word;
  declares = (
    d.at_dot,
    (d.at_iri, record { apart = d.apart; name = d.name; shape = m }, record { reference = d.reference; absolute = a }),
    (d.rest, d.dot, d.ends),
  );
}

-- SPARQL's
sparql_there : (w p i : List ℕ) → IsSparqlPrefix w p i → Shape Turtle PnameNs (p ++ 58 ∷ []) → IsIri i → AtWord (Shape Turtle Prefix) SaysNothing w p i
sparql_there w p i d m a = record {
  word = d.keyword;
  rest = d.at_name;
  is = d.any_case;
  whole = keyword_there w d.keyword d.at_name d.any_case d.word;
  declares = (d.rest, (d.at_iri, record { apart = d.apart; name = d.name; shape = m }, record { reference = d.reference; absolute = a }), d.ends);
}

-- what declares a prefix behind "@prefix" is a declaration
pub prefix_id_from : (w rest p i : List ℕ) → past is_blank w ≡ codes "@prefix" ++ rest → Declares EndsAtDot rest p i → IsIn IsDeclaration w p i
prefix_id_from w rest p i e d = record {
  form = inl (record {
    at_name = rest;
    at_iri = d.1.0;
    at_dot = d.0;
    rest = d.2.0;
    word = begins_there w (codes "@prefix") rest e;
    apart = d.1.1.apart;
    name = d.1.1.name;
    reference = d.1.2.reference;
    dot = d.2.1;
    ends = d.2.2;
  });
  shape = d.1.1.shape;
  absolute = d.1.2.absolute;
}

-- and so is what declares one behind "PREFIX"
pub sparql_from : (w k rest p i : List ℕ) → Shape Turtle Prefix k → past is_blank w ≡ k ++ rest → Declares SaysNothing rest p i → IsIn IsDeclaration w p i
sparql_from w k rest p i m e d = record {
  form = inr (record {
    keyword = k;
    at_name = rest;
    at_iri = d.1.0;
    rest = d.0;
    any_case = m;
    word = begins_there w k rest e;
    apart = d.1.1.apart;
    name = d.1.1.name;
    reference = d.1.2.reference;
    ends = d.2;
  });
  shape = d.1.1.shape;
  absolute = d.1.2.absolute;
}

-- the word of a declaration is one of the two
word_cases : (w p i : List ℕ) → IsIn IsDeclaration w p i → AtWord IsAtPrefix EndsAtDot w p i ⊎ AtWord (Shape Turtle Prefix) SaysNothing w p i
word_cases w p i d = ⊎_elim (λ f. inl (prefix_id_there w p i f d.shape d.absolute)) (λ f. inr (sparql_there w p i f d.shape d.absolute)) d.form

-- no word is both
both_words : (w p i q j : List ℕ) → AtWord IsAtPrefix EndsAtDot w p i → AtWord (Shape Turtle Prefix) SaysNothing w q j → ⊥
both_words w p i q j a b =
    no_keyword b.word b.rest (codes "prefix" ++ a.rest) 64 b.is (sym b.whole ∙ (a.whole ∙ ap (λ x. x ++ a.rest) a.is))
    (λ x. omega (arith, x)) (λ x. omega (arith, x))

-- what does not declare a prefix behind "@prefix" is no declaration
pub no_prefix_id : (w rest : List ℕ) → past is_blank w ≡ codes "@prefix" ++ rest → ((p i : List ℕ) → Declares EndsAtDot rest p i → ⊥) →
    (p i : List ℕ) → IsIn IsDeclaration w p i → ⊥
no_prefix_id w rest e n p i d =
    ⊎_elim
    (λ a. let s : a.rest ≡ rest = append_cancel_left (codes "@prefix") a.rest rest (sym (a.whole ∙ ap (λ x. x ++ a.rest) a.is) ∙ e) in
    n p i (subst (λ x. Declares EndsAtDot x p i) s a.declares))
    (λ a. no_keyword a.word a.rest (codes "prefix" ++ rest) 64 a.is (sym a.whole ∙ e) (λ x. omega (arith, x)) (λ x. omega (arith, x)))
    (word_cases w p i d)

-- what does not declare one behind "PREFIX" is none either
pub no_sparql : (w k rest : List ℕ) → Shape Turtle Prefix k → past is_blank w ≡ k ++ rest →
    ((p i : List ℕ) → Declares SaysNothing rest p i → ⊥) → (p i : List ℕ) → IsIn IsDeclaration w p i → ⊥
no_sparql w k rest m e n p i d =
    ⊎_elim
    (λ a. no_keyword k rest (codes "prefix" ++ a.rest) 64 m (sym e ∙ (a.whole ∙ ap (λ x. x ++ a.rest) a.is)) (λ x. omega (arith, x)) (λ x. omega (arith, x)))
    (λ a. n p i (subst (λ x. Declares SaysNothing x p i) (keyword_rest a.word k a.rest rest a.is m (sym a.whole ∙ e)) a.declares))
    (word_cases w p i d)

-- and what has neither word is none
pub no_word : (w : List ℕ) → ((rest : List ℕ) → past is_blank w ≡ codes "@prefix" ++ rest → ⊥) →
    ((k rest : List ℕ) → Shape Turtle Prefix k → past is_blank w ≡ k ++ rest → ⊥) →
    (p i : List ℕ) → IsIn IsDeclaration w p i → ⊥
no_word w n o p i d = ⊎_elim (λ a. n a.rest (a.whole ∙ ap (λ x. x ++ a.rest) a.is)) (λ a. o a.word a.rest a.is a.whole) (word_cases w p i d)

-- nor what begins with another character
pub no_declaration_at : (w : List ℕ) (c : ℕ) (v : List ℕ) → past is_blank w ≡ c ∷ v → (c ≡ 64 → ⊥) → (c ≡ 80 → ⊥) → (c ≡ 112 → ⊥) →
    (p i : List ℕ) → IsIn IsDeclaration w p i → ⊥
no_declaration_at w c v e l m n p i d =
    ⊎_elim
    (λ a. let k : 64 ∷ (codes "prefix" ++ a.rest) ≡ c ∷ v = sym (a.whole ∙ ap (λ x. x ++ a.rest) a.is) ∙ e in let s : 64 ≡ c = cc in l (sym s))
    (λ a. no_keyword a.word a.rest v c a.is (sym a.whole ∙ e) m n)
    (word_cases w p i d)

-- a text is a declaration in one way
one_declaration : (w p i q j : List ℕ) → IsIn IsDeclaration w p i → IsIn IsDeclaration w q j → (p ≡ q) × (i ≡ j)
one_declaration w p i q j a b =
    ⊎_elim
    (λ x. ⊎_elim
    (λ y. let s : y.rest ≡ x.rest = append_cancel_left (codes "@prefix") y.rest x.rest
    (sym (y.whole ∙ ap (λ t. t ++ y.rest) y.is) ∙ (x.whole ∙ ap (λ t. t ++ x.rest) x.is)) in
    one_declared EndsAtDot EndsAtDot x.rest p i q j x.declares (subst (λ t. Declares EndsAtDot t q j) s y.declares))
    (λ y. absurd (both_words w p i q j x y))
    (word_cases w q j b))
    (λ x. ⊎_elim
    (λ y. absurd (both_words w q j p i y x))
    (λ y. one_declared SaysNothing SaysNothing x.rest p i q j x.declares
    (subst (λ t. Declares SaysNothing t q j) (keyword_rest y.word x.word y.rest x.rest y.is x.is (sym y.whole ∙ x.whole)) y.declares))
    (word_cases w q j b))
    (word_cases w p i a)

-- a word without ":", and a blank behind it
record Worded (w : List ℕ) : Type 0 where
  pub word : List ℕ
  pub rest : List ℕ
  pub whole : past is_blank w ≡ word ++ rest
  pub lacks : Lacks 58 word
  pub apart : BeginsBlank rest
  pub first : (c : ℕ) (v : List ℕ) → past is_blank w ≡ c ∷ v → c ≡ 35 → ⊥
  pub some : past is_blank w ≡ [] → ⊥

-- "@prefix" has no ":"
at_prefix_lacks : Lacks 58 (codes "@prefix")
at_prefix_lacks = (
  (λ e. omega (arith, e)),
  (
    (λ e. omega (arith, e)),
    (
      (λ e. omega (arith, e)),
      ((λ e. omega (arith, e)), ((λ e. omega (arith, e)), ((λ e. omega (arith, e)), ((λ e. omega (arith, e)), tt)))),
    ),
  ),
)

-- each declaration begins so
worded : (w p i : List ℕ) → IsIn IsDeclaration w p i → Worded w
worded w p i d =
    ⊎_elim
    (λ a.
    let e : past is_blank w ≡ codes "@prefix" ++ a.rest = a.whole ∙ ap (λ x. x ++ a.rest) a.is in
    record {
      word = codes "@prefix";
      rest = a.rest;
      whole = e;
      lacks = at_prefix_lacks;
      apart = a.declares.1.1.apart;
      first = λ c v h g. let k : 64 ∷ (codes "prefix" ++ a.rest) ≡ c ∷ v = sym e ∙ h in let s : 64 ≡ c = cc in omega (arith, s, g);
      some = λ h. let k : 64 ∷ (codes "prefix" ++ a.rest) ≡ [] = sym e ∙ h in cc;
    })
    (λ a.
    let f = keyword_first a.word (keyword_case a.word a.is) in
    record {
      word = a.word;
      rest = a.rest;
      whole = a.whole;
      lacks = keyword_lacks a.word a.is;
      apart = a.declares.1.1.apart;
      first = λ c v h g. no_keyword a.word a.rest v c a.is (sym a.whole ∙ h) (λ x. omega (arith, x, g)) (λ x. omega (arith, x, g));
      some = λ h. let k : f.first ∷ (f.more ++ a.rest) ≡ [] = ap (λ x. x ++ a.rest) (sym f.parts) ∙ (sym a.whole ∙ h) in cc;
    })
    (word_cases w p i d)

-- where a line in the form of these files is cut
pub record Cuts (w prefix iri : List ℕ) : Type 0 where
  pub front : before 32 w ≡ prefix ++ 58 ∷ []
  pub back : after 32 w ≡ Some iri

-- at its space
pub plain_cuts : (w prefix iri : List ℕ) → IsIn IsPlain w prefix iri → Cuts w prefix iri
plain_cuts w prefix iri b =
    let r = cut_suffix 32 (prefix ++ 58 ∷ []) (Some iri) (name_lacks_space (prefix ++ 58 ∷ []) b.shape) in
    record { front = ap (before 32) b.form ∙ r.0; back = ap (after 32) b.form ∙ r.1 }

-- it is so in one way
one_plain : (w p i q j : List ℕ) → IsIn IsPlain w p i → IsIn IsPlain w q j → (p ≡ q) × (i ≡ j)
one_plain w p i q j a b =
    let c = plain_cuts w p i a in
    let d = plain_cuts w q j b in
    let s : Some i ≡ Some j = sym c.back ∙ d.back in
    (append_cancel_right p q (58 ∷ []) (sym c.front ∙ d.front), cc)

-- it begins with no blank
plain_first : (w p i : List ℕ) → IsIn IsPlain w p i → (c : ℕ) × (v : List ℕ) × (past is_blank w ≡ c ∷ v) × (past is_blank w ≡ w) × (c ≡ 35 → ⊥)
plain_first w p i a =
    let f = name_first p a.shape in
    let e : w ≡ f.0 ∷ (f.1 ++ 32 ∷ i) = a.form ∙ ap (λ x. x ++ 32 ∷ i) f.2 in
    let s : past is_blank w ≡ f.0 ∷ (f.1 ++ 32 ∷ i) = ap (past is_blank) e ∙ past-stays f.0 (f.1 ++ 32 ∷ i) f.3 in
    (f.0, f.1 ++ 32 ∷ i, s, s ∙ sym e, f.4)

-- a text that lacks a character is before it
before-more : (c : ℕ) (u v : List ℕ) → Lacks c u → before c (u ++ v) ≡ u ++ before c v
before-more c [] v l = refl
before-more c (d ∷ u) v l = cond-false (d == c) [] (d ∷ before c (u ++ v)) (ne_eqb d c l.0) ∙ ap (λ x. d ∷ x) (before-more c u v l.1)

-- before its ":" there is no blank, so it is no declaration
no_both : (w p i q j : List ℕ) → IsIn IsPlain w p i → IsIn IsDeclaration w q j → ⊥
no_both w p i q j a b =
    let f = plain_first w p i a in
    let d = worded w q j b in
    let c = d.apart.0 in
    let r = d.apart.1 in
    let n : c ≡ 58 → ⊥ = λ e. ⊎_elim (λ (x : c ≡ 32). omega (arith, e, x)) (λ (x : c ≡ 9). omega (arith, e, x)) (blank_cases c d.apart.3) in
    let e : w ≡ d.word ++ c ∷ r = sym f.3 ∙ (d.whole ∙ ap (λ x. d.word ++ x) d.apart.2) in
    let front : before 58 w ≡ d.word ++ c ∷ before 58 r =
    ap (before 58) e ∙ (before-more 58 d.word (c ∷ r) d.lacks ∙ ap (λ x. d.word ++ x) (cond-false (c == 58) [] (c ∷ before 58 r) (ne_eqb c 58 n))) in
    let own : before 58 w ≡ p =
    ap (before 58) (a.form ∙ append_assoc p (58 ∷ []) (32 ∷ i)) ∙ (cut_suffix 58 p (Some (32 ∷ i)) (prefix_lacks p a.shape)).0 in
    let name : p ++ 58 ∷ [] ≡ d.word ++ c ∷ (before 58 r ++ 58 ∷ []) =
    ap (λ x. x ++ 58 ∷ []) (sym own ∙ front) ∙ append_assoc d.word (c ∷ before 58 r) (58 ∷ []) in
    ⊎_elim
    (λ (x : c ≡ 32). Lacks-there 32 d.word (before 58 r ++ 58 ∷ [])
    (subst (Lacks 32) (name ∙ ap (λ y. d.word ++ y ∷ (before 58 r ++ 58 ∷ [])) x) (name_lacks_space (p ++ 58 ∷ []) a.shape)))
    (λ (x : c ≡ 9). Lacks-there 9 d.word (before 58 r ++ 58 ∷ [])
    (subst (Lacks 9) (name ∙ ap (λ y. d.word ++ y ∷ (before 58 r ++ 58 ∷ [])) x) (name_lacks_tab (p ++ 58 ∷ []) a.shape)))
    (blank_cases c d.apart.3)

-- a binding has one of two kinds of form
binding_cases : (text p i : List ℕ) → IsBinding text p i → IsIn IsPlain (chars text) p i ⊎ IsIn IsDeclaration (chars text) p i
binding_cases text p i b =
    ⊎_elim
    (λ f. inl (record { form = f; shape = b.shape; absolute = b.absolute }))
    (λ f. inr (record { form = f; shape = b.shape; absolute = b.absolute }))
    b.form

-- a declaration is a binding
pub declared_binding : (text p i : List ℕ) → IsUtf8 text → IsIn IsDeclaration (chars text) p i → IsBinding text p i
declared_binding text p i u b = record { utf8 = u; form = inr b.form; shape = b.shape; absolute = b.absolute }

-- and a text in neither form is none
pub no_binding : (text : List ℕ) → ((p i : List ℕ) → IsIn IsPlain (chars text) p i → ⊥) →
    ((p i : List ℕ) → IsIn IsDeclaration (chars text) p i → ⊥) → (p i : List ℕ) → IsBinding text p i → ⊥
no_binding text m n p i b = ⊎_elim (λ a. m p i a) (λ a. n p i a) (binding_cases text p i b)

-- a text is a binding in one way
pub one_binding : (text p i q j : List ℕ) → IsBinding text p i → IsBinding text q j → (p ≡ q) × (i ≡ j)
one_binding text p i q j a b =
    ⊎_elim
    (λ x. ⊎_elim (λ y. one_plain (chars text) p i q j x y) (λ y. absurd (no_both (chars text) p i q j x y)) (binding_cases text q j b))
    (λ x. ⊎_elim (λ y. absurd (no_both (chars text) q j p i y x)) (λ y. one_declaration (chars text) p i q j x y) (binding_cases text q j b))
    (binding_cases text p i a)

-- and none says nothing
pub no_quiet_binding : (text p i : List ℕ) → SaysNothing (chars text) → IsBinding text p i → ⊥
no_quiet_binding text p i s b =
    ⊎_elim
    (λ a. let f = plain_first (chars text) p i a in
    ⊎_elim
    (λ (n : past is_blank (chars text) ≡ []). let k : f.0 ∷ f.1 ≡ [] = sym f.2 ∙ n in cc)
    (λ n. let k : f.0 ∷ f.1 ≡ 35 ∷ n.0 = sym f.2 ∙ n.1 in let e : f.0 ≡ 35 = cc in f.4 e)
    (nothing_there (chars text) s))
    (λ a. let d = worded (chars text) p i a in
    ⊎_elim (λ (n : past is_blank (chars text) ≡ []). d.some n) (λ n. d.first 35 n.0 n.1 refl) (nothing_there (chars text) s))
    (binding_cases text p i b)
