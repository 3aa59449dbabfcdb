-- What stands after a name's colon means a text.
use Rattle.rdf_trig.proofs.Prelude.{◌≡◌, ◌≤◌, ℕ, Bool, true, false, List, [], ◌∷◌, ◌++◌, ◌&&◌, ◌||◌, ◌==◌, not, Some, refl, sym, ap, ◌∙◌, subst, ⊎_elim, arith, nat_lt, nat_le, is_some, unwrap_or, AllByRecursion, concat, cases_Bool, and_parts, and_from, or_from, ne_eqb, ltb-true, ltb-false, lt-leb, not_from_false, agree_below, agree_below_at, false≢true, append-nil, append_assoc, Class, member, one_of, the, digit, hex_digit, iri_char, local_escape, pn_u, pn_char, Kind, PnameNs, PnameLn, shape, Shape, pn_local, pn_prefix, plx, optional, local_value, local_from, local-next, Lacks, cut_suffix, leaf, IsTurtleToken, IsPrefixed, MeansLocal}
use Rattle.rdf_terms.specs.Classes.{has, scalar}
use Rattle.rdf_terms.specs.Regex.{Regex, Matches}
use Rattle.rdf_terms.specs.Regex.Regex.{empty, one, ◌·◌, ◌∣◌, many}
use Rattle.rdf_terms.specs.declared.kind.Dialect.TheVariants.{Turtle}
use Rattle.rdf_terms.proofs.UsedCharacters.{uses, all_used}
use Rattle.rdf_tokens.specs.declared.token.Token.{Token as Given}
use Rattle.rdf_iri.specs.Texts.{after}
use Rattle.rdf_trig.proofs.code.SpelledLemmas.{the_one}

-- a text that may stand before one that means something
abbrev Good : List ℕ → Type 0
Good u = (v : List ℕ) → is_some (local_value v) ≡ true → is_some (local_value (u ++ v)) ≡ true

-- all texts of an expression mean something as a local part
record GoodTexts (r : Regex) : Type 0 where
  good : (w : List ℕ) → Matches r w → Good w

-- two texts with a meaning have one together, since no escape lies across their border
good_append : (u v : List ℕ) → Good u → Good v → Good (u ++ v)
good_append u v f g x h = subst (λ z. is_some (local_value z) ≡ true) (sym (append_assoc u v x)) (f (v ++ x) (g x h))

-- any number of texts with a meaning have one together
good_concat : (P : List ℕ → Type 0) → ((w : List ℕ) → P w → Good w) → (ws : List (List ℕ)) → AllByRecursion P ws → Good (concat ws)
good_concat P f [] a = λ v h. h
good_concat P f (w ∷ ws) a = good_append w (concat ws) (f w a.0) (good_concat P f ws a.1)

-- the empty local part means the empty text
good_empty : GoodTexts empty
good_empty = record { good = λ w m. subst Good (sym m) (λ v h. h) }

-- so a sequence has such texts where its parts have
good_then : (r s : Regex) → GoodTexts r → GoodTexts s → GoodTexts (r · s)
good_then r s f g = record { good = λ w m. subst Good (sym m.4) (good_append m.0 m.1 (f.good m.0 m.2) (g.good m.1 m.3)) }

-- so a choice has such texts where both sides have
good_or : (r s : Regex) → GoodTexts r → GoodTexts s → GoodTexts (r ∣ s)
good_or r s f g = record { good = λ w m. ⊎_elim (λ x. f.good w x) (λ x. g.good w x) m }

-- so a repetition has such texts where its part has
good_many : (r : Regex) → GoodTexts r → GoodTexts (many r)
good_many r f = record { good = λ w m. subst Good (sym m.2) (good_concat (Matches r) f.good m.0 m.1) }

-- characters that stand for themselves
abbrev below : List ℕ → Bool
below [] = true
below (x ∷ xs) = nat_lt x 128 && below xs

-- a list of ASCII characters has none from U+0080 on
one_of-high : (c : ℕ) (xs : List ℕ) → below xs ≡ true → 128 ≤ c → one_of xs c ≡ false
one_of-high c [] b h = refl
one_of-high c (x ∷ xs) b h =
    let p = and_parts (nat_lt x 128) (below xs) b in
    or_from (c == x) (one_of xs c) (ne_eqb c x (λ e. let l = ltb-true x 128 p.0 in absurd (omega (arith, e, l, h)))) (one_of-high c xs p.1 h)

-- every character from U+0080 on may stand in an IRI
high : (c : ℕ) → 128 ≤ c → scalar c ≡ true → has iri_char c ≡ true
unfolding has
high c h s =
    and_from (scalar c) _ s (not_from_false _ (or_from (nat_le c 32) _ (lt-leb c 32 (omega (arith, h)))
    (one_of-high c (60 ∷ 62 ∷ 34 ∷ 123 ∷ 125 ∷ 124 ∷ 94 ∷ 96 ∷ 92 ∷ []) refl h)))

-- a member of the class below 128 is a character of IRIs
abbrev strays : Class → ℕ → Bool
strays k c = has k c && (c == 92 || not (has iri_char c))

-- each character of the class stands for itself and may stand in an IRI, as a test of its ASCII characters
abbrev Plain : Class → Type 0
Plain k = agree_below (strays k) (λ c. false) 128 ≡ true

-- a member of a class is a Unicode scalar value
is_scalar : (k : Class) (c : ℕ) → has k c ≡ true → scalar c ≡ true
unfolding has
is_scalar k c h = (and_parts (scalar c) (member k c) h).0

-- what the test of a class says of one character
plain_both : (a b i : Bool) → a ≡ true → (a && (b || not i)) ≡ false → (b ≡ false) × (i ≡ true)
plain_both true false true e h = (refl, refl)
plain_both true true i e h = absurd (false≢true (sym h))
plain_both true false false e h = absurd (false≢true (sym h))
plain_both false b i e h = absurd (false≢true e)

-- a character of a plain class is no backslash and may stand in an IRI
plain_char : (k : Class) → Plain k → (c : ℕ) → has k c ≡ true → (c == 92 ≡ false) × (has iri_char c ≡ true)
plain_char k p c h =
    ⊎_elim
    (λ t. plain_both (has k c) (c == 92) (has iri_char c) h (agree_below_at (strays k) (λ c. false) 128 c p (ltb-true c 128 t)))
    (λ f. let l = ltb-false c 128 f in (ne_eqb c 92 (λ e. absurd (omega (arith, e, l))), high c l (is_scalar k c h)))
    (cases_Bool (nat_lt c 128))

-- such a character means itself
good_char : (c : ℕ) → (c == 92) ≡ false → has iri_char c ≡ true → Good (c ∷ [])
good_char c n h v g =
    local-next false c v
    ∙ (ap (λ b. (b || has iri_char c) && is_some (local_from b v)) n
    ∙ (ap (λ b. b && is_some (local_from false v)) h ∙ g))

-- so a plain class has texts with a meaning
good_one : (k : Class) → Plain k → GoodTexts (one k)
good_one k p = record { good = λ w m. let q = plain_char k p m.0 m.1 in subst Good (sym m.2) (good_char m.0 q.0 q.1) }

-- a PN_LOCAL_ESC means the character after its backslash
escaped : (w : List ℕ) → Matches (one (the 92) · one local_escape) w → Good w
escaped w m =
    let c = m.2.0 in
    let e = m.3.0 in
    let same : w ≡ 92 ∷ e ∷ [] =
    m.4 ∙ (ap (λ x. x ++ m.1) (m.2.2 ∙ ap (λ (z : ℕ). z ∷ []) (the_one 92 c m.2.1)) ∙ ap (λ x. 92 ∷ x) m.3.2)
    in
    subst Good (sym same) (λ v g. local-next false 92 (e ∷ v) ∙ (local-next true e v ∙ (ap (λ b. b && is_some (local_from false v)) m.3.1 ∙ g)))

-- all texts of PN_LOCAL_ESC have a meaning
good_escape : GoodTexts (one (the 92) · one local_escape)
good_escape = record { good = escaped }

-- PN_CHARS_U is plain
plain_u : Plain (pn_u Turtle)
unfolding has
plain_u = refl

-- PN_CHARS is plain
plain_pn : Plain (pn_char Turtle)
unfolding has
plain_pn = refl

-- digits are plain
plain_digit : Plain digit
unfolding has
plain_digit = refl

-- hex digits are plain
plain_hex : Plain hex_digit
unfolding has
plain_hex = refl

-- ':' is plain
plain_colon : Plain (the 58)
unfolding has
plain_colon = refl

-- '.' is plain
plain_dot : Plain (the 46)
unfolding has
plain_dot = refl

-- '%' is plain: a PERCENT stands for itself
plain_percent : Plain (the 37)
unfolding has
plain_percent = refl

-- PLX, a PERCENT or a PN_LOCAL_ESC, has a meaning
good_plx : GoodTexts plx
good_plx =
    good_or _ _ (good_then _ _ (good_one (the 37) plain_percent) (good_then _ _ (good_one hex_digit plain_hex) (good_one hex_digit plain_hex))) good_escape

-- each PN_LOCAL has a meaning, so a name whose prefix is bound always has an IRI
good_local : GoodTexts pn_local
good_local =
    good_then _ _
    (good_or _ _ (good_one (pn_u Turtle) plain_u) (good_or _ _ (good_one (the 58) plain_colon) (good_or _ _ (good_one digit plain_digit) good_plx)))
    (good_or _ _ good_empty
    (good_then _ _
    (good_many _ (good_or _ _ (good_one (pn_char Turtle) plain_pn)
    (good_or _ _ (good_one (the 46) plain_dot) (good_or _ _ (good_one (the 58) plain_colon) good_plx))))
    (good_or _ _ (good_one (pn_char Turtle) plain_pn) (good_or _ _ (good_one (the 58) plain_colon) good_plx))))

-- a text with a meaning has one by the function too
means : (l : List ℕ) → Good l → MeansLocal l
means l g = subst MeansLocal (append-nil l) (g [] refl)

-- a prefix has no colon
no_colon : uses (optional pn_prefix) 58 ≡ false
unfolding has
no_colon = refl

-- a text of an expression that has no ':' has none
lacks : (r : Regex) (w : List ℕ) → uses r 58 ≡ false → AllByRecursion (λ c. uses r c ≡ true) w → Lacks 58 w
lacks r [] n a = tt
lacks r (c ∷ w) n a = ((λ e. false≢true (sym n ∙ subst (λ x. uses r x ≡ true) e a.0)), lacks r w n a.1)

-- a prefix has no ':', so the first ':' of a name ends its prefix
colon_passed : (p l : List ℕ) → Matches (optional pn_prefix) p → after 58 (p ++ 58 ∷ l) ≡ Some l
colon_passed p l m = (cut_suffix 58 p (Some l) (lacks (optional pn_prefix) p no_colon (all_used (optional pn_prefix) p m))).1

-- what follows the first ':' of a PNAME_LN has a meaning
local_ln : (w : List ℕ) → Shape Turtle PnameLn w → MeansLocal (unwrap_or (after 58 w) [])
unfolding shape
local_ln w m =
    let b = m.3 in
    let rest : m.1 ≡ 58 ∷ b.1 = b.4 ∙ ap (λ x. x ++ b.1) (b.2.2 ∙ ap (λ (z : ℕ). z ∷ []) (the_one 58 b.2.0 b.2.1)) in
    let at : after 58 w ≡ Some b.1 = ap (after 58) (m.4 ∙ ap (λ x. m.0 ++ x) rest) ∙ colon_passed m.0 b.1 m.2 in
    subst MeansLocal (sym (ap (λ o. unwrap_or o []) at)) (means b.1 (good_local.good b.1 b.3))

-- what follows the ':' of a PNAME_NS is empty, and has a meaning
local_ns : (w : List ℕ) → Shape Turtle PnameNs w → MeansLocal (unwrap_or (after 58 w) [])
unfolding shape
local_ns w m =
    let rest : m.1 ≡ 58 ∷ [] = m.3.2 ∙ ap (λ (z : ℕ). z ∷ []) (the_one 58 m.3.0 m.3.1) in
    let at : after 58 w ≡ Some [] = ap (after 58) (m.4 ∙ ap (λ x. m.0 ++ x) rest) ∙ colon_passed m.0 [] m.2 in
    subst MeansLocal (sym (ap (λ o. unwrap_or o []) at)) refl

-- what follows the first ':' of a prefixed name of either kind has a meaning
local_of_kind : (k : Kind) (w : List ℕ) → IsPrefixed k → Shape Turtle k w → MeansLocal (unwrap_or (after 58 w) [])
local_of_kind PnameNs w p m = local_ns w m
local_of_kind PnameLn w p m = local_ln w m
local_of_kind k w p m = absurd p

-- what follows the ':' of a prefixed name that the scanner gave has a meaning
pub token_local : (t : Given) → IsPrefixed t.kind → IsTurtleToken t → MeansLocal (unwrap_or (after 58 (leaf t).text) [])
token_local t p k = ⊎_elim (λ e. absurd (subst IsPrefixed e.0 p)) (λ h. local_of_kind t.kind (leaf t).text p h.0) k
