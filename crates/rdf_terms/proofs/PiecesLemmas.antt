-- The values that are computed are what the pieces mean.
use Rattle.rdf_terms.proofs.Prelude.{◌≡◌, ◌≢◌, ◌↔◌, ℕ, zero, suc, ◌+◌, ◌*◌, ◌^◌, Bool, true, false, cond, List, [], ◌∷◌, ◌++◌, ◌==◌, ◌⊎◌, inl, inr, length, Option, Some, None, is_some, option_map, refl, sym, ap, ◌∙◌, subst, ⊎_elim, arith, and_parts, and_from, cases_Bool, cond-true, cond-false, false≢true, ne_eqb, eqb-true, eq-eqb, Kind, IriRef, ShortString, LongString, has, hex_digit, iri_char, local_escape, all_have, Inside, of_string, of_iri, hex_value, hex_number, inside, IsRow, MayMean, IsLetterEscape, IsNumberEscape, IsPiece, IsLocalPiece, Means, HasMeaning, EscapeState, outside, slash, digits, Move, leads, means, fails, letter_move, allowed, echar_move, digit_move, move, go, value, string_value, iri_value, local_from, local_value, is_fit}
use Rattle.std.proofs.Math.Nat.{pow-succ', add-mul, mul_assoc}
use Rattle.rdf_terms.specs.Classes.{scalar}
use Rattle.rdf_terms.specs.Pieces.{letters}
use Rattle.rdf_terms.proofs.LocalLemmas.{mapped}

-- no value is none that is there
none_is_some : (v : List ℕ) → None ≡ Some v → ⊥
none_is_some v e = cc

-- equal values have equal texts
some_same : (u v : List ℕ) → Some u ≡ Some v → u ≡ v
some_same u v e = cc

-- From the pieces to the value.
allowed-may : (i : Inside) (c : ℕ) → MayMean i c → allowed i c ≡ means c
allowed-may of_string c m = refl
allowed-may of_iri c m = cond-true (has iri_char c) (means c) fails m

-- the walk takes a piece, whatever follows, and gives the character that it means
abbrev pub Takes : Inside → List ℕ → ℕ → Type 0
Takes i piece c = (rest : List ℕ) → value i outside (piece ++ rest) ≡ option_map (λ w. c ∷ w) (value i outside rest)

-- it takes a plain character
plain-takes : (i : Inside) (c : ℕ) → c ≢ 92 → MayMean i c → Takes i (c ∷ []) c
plain-takes i c n m rest =
    ap (λ x. go x (λ t. value i t rest)) (cond-false (c == 92) (leads slash) (allowed i c) (ne_eqb c 92 n) ∙ allowed-may i c m)

-- it takes the escapes of a table, one at a time
row-takes : (a b : ℕ) → Takes of_string (92 ∷ a ∷ []) b → (letter c : ℕ) → (letter ≡ a) × (c ≡ b) → Takes of_string (92 ∷ letter ∷ []) c
row-takes a b h letter c e = subst (λ x. Takes of_string (92 ∷ x ∷ []) c) (sym e.0) (subst (Takes of_string (92 ∷ a ∷ [])) (sym e.1) h)

-- the walk takes each ECHAR of the table
letter-takes : (letter c : ℕ) → IsRow letters letter c → Takes of_string (92 ∷ letter ∷ []) c
letter-takes l c r =
    ⊎_elim (row-takes 116 9 (λ w. refl) l c)
    (⊎_elim (row-takes 98 8 (λ w. refl) l c)
    (⊎_elim (row-takes 110 10 (λ w. refl) l c)
    (⊎_elim (row-takes 114 13 (λ w. refl) l c)
    (⊎_elim (row-takes 102 12 (λ w. refl) l c)
    (⊎_elim (row-takes 34 34 (λ w. refl) l c)
    (⊎_elim (row-takes 39 39 (λ w. refl) l c)
    (⊎_elim (row-takes 92 92 (λ w. refl) l c) (λ x. absurd x))))))))
    r

-- the number that is read digit by digit
abbrev pub so_far : ℕ → List ℕ → ℕ
so_far n [] = n
so_far n (c ∷ w) = so_far (16 * n + hex_value c) w

-- the number of the digits so far, and what the others add to it
so_far-number : (n : ℕ) (w : List ℕ) → so_far n w ≡ n * 16 ^ length w + hex_number w
so_far-number n [] = omega arith
so_far-number n (c ∷ w) =
    let p : 16 ^ length (c ∷ w) ≡ 16 * 16 ^ length w = pow-succ' 16 (length w) in
    let a : (16 * n + hex_value c) * 16 ^ length w ≡ 16 * n * 16 ^ length w + hex_value c * 16 ^ length w = add-mul (16 * n) (hex_value c) (16 ^ length w) in
    let b : n * 16 * 16 ^ length w ≡ n * (16 * 16 ^ length w) = mul_assoc n 16 (16 ^ length w) in
    let d : n * 16 ≡ 16 * n = omega arith in
    let f : 16 * n * 16 ^ length w ≡ n * 16 ^ length (c ∷ w) = ap (λ k. k * 16 ^ length w) (sym d) ∙ (b ∙ ap (λ k. n * k) (sym p)) in
    so_far-number (16 * n + hex_value c) w ∙ (ap (λ k. k + hex_number w) (a ∙ ap (λ k. k + hex_value c * 16 ^ length w) f) ∙ assoc _ _ _)
  where
    assoc : (a b c : ℕ) → a + b + c ≡ a + (b + c)
    assoc a b c = omega arith

-- before the first digit it is 0
pub from_none : (w : List ℕ) → so_far 0 w ≡ hex_number w
from_none w = so_far-number 0 w ∙ omega arith

-- it takes the digits of a UCHAR
digits-take : (i : Inside) (k n : ℕ) (hexes rest : List ℕ) (c : ℕ) → length hexes ≡ suc k → all_have (has hex_digit) hexes ≡ true → c ≡ so_far n hexes →
    scalar c ≡ true → MayMean i c → value i (digits (suc k) n) (hexes ++ rest) ≡ option_map (λ w. c ∷ w) (value i outside rest)
digits-take i k n [] rest c l h e s m = absurd (omega arith)
digits-take i zero n (x ∷ []) rest c l h e s m =
    let p = and_parts (has hex_digit x) true h in
    ap (λ y. go y (λ t. value i t rest))
    (cond-true (has hex_digit x) (digit_move i zero (16 * n + hex_value x)) fails p.0
    ∙ (ap (digit_move i zero) (sym e) ∙ (cond-true (scalar c) (allowed i c) fails s ∙ allowed-may i c m)))
digits-take i zero n (x ∷ y ∷ w) rest c l h e s m = absurd (omega arith)
digits-take i (suc k) n (x ∷ w) rest c l h e s m =
    let p = and_parts (has hex_digit x) (all_have (has hex_digit) w) h in
    ap (λ y. go y (λ t. value i t (w ++ rest))) (cond-true (has hex_digit x) (digit_move i (suc k) (16 * n + hex_value x)) fails p.0)
    ∙ digits-take i k (16 * n + hex_value x) w rest c (omega arith) p.1 e s m

-- the walk takes an escape of one letter, where there may be one
letter_escape-takes : (i : Inside) (piece : List ℕ) (c : ℕ) → IsLetterEscape i piece c → Takes i piece c
letter_escape-takes of_string piece c h = subst (λ x. Takes of_string x c) (sym h.1) (letter-takes h.0 c h.2)
letter_escape-takes of_iri piece c h = absurd h

-- the walk takes an escape of digits
pub number_escape-takes : (i : Inside) (piece : List ℕ) (c : ℕ) → IsNumberEscape i piece c → Takes i piece c
number_escape-takes i piece c h = ⊎_elim
    (λ p. subst (λ x. Takes i x c) (sym p.0) (λ rest. digits-take i 3 0 h.0 rest c p.1 h.2 (h.3 ∙ sym (from_none h.0)) h.4 h.5))
    (λ p. subst (λ x. Takes i x c) (sym p.0) (λ rest. digits-take i 7 0 h.0 rest c p.1 h.2 (h.3 ∙ sym (from_none h.0)) h.4 h.5))
    h.1

-- the walk takes every piece
piece-takes : (i : Inside) (piece : List ℕ) (c : ℕ) → IsPiece i piece c → Takes i piece c
piece-takes i piece c p = ⊎_elim
    (λ h. subst (λ x. Takes i x c) (sym h.0) (plain-takes i c h.1 h.2))
    (λ h. ⊎_elim (λ x. letter_escape-takes i piece c x) (λ x. number_escape-takes i piece c x) h)
    p

-- so the value of a text of pieces is what they mean
means-value : (i : Inside) (v w : List ℕ) → Means (IsPiece i) w v → value i outside w ≡ Some v
means-value i [] w m = ap (value i outside) m
means-value i (c ∷ v) w m =
    ap (value i outside) m.2 ∙ (piece-takes i m.0 c m.3 m.1 ∙ ap (option_map (λ w. c ∷ w)) (means-value i v m.1 m.4))

-- From the value to the pieces.
abbrev MeansFrom : Inside → EscapeState → List ℕ → List ℕ → Type 0
MeansFrom i outside w v = Means (IsPiece i) w v
MeansFrom i slash w v = Means (IsPiece i) (92 ∷ w) v
MeansFrom i (digits k n) w v =
    (hexes rest : List ℕ) × (c : ℕ) × (u : List ℕ) × (w ≡ hexes ++ rest) × (length hexes ≡ k) × (all_have (has hex_digit) hexes ≡ true)
    × (c ≡ so_far n hexes) × (scalar c ≡ true) × MayMean i c × (v ≡ c ∷ u) × Means (IsPiece i) rest u

-- what holds of what follows
abbrev Follows : Inside → List ℕ → Type 0
Follows i w = (t : EscapeState) (u : List ℕ) → value i t w ≡ Some u → MeansFrom i t w u

-- the first character that is meant
abbrev First : Inside → ℕ → List ℕ → List ℕ → Type 0
First i c w v = (u : List ℕ) × Means (IsPiece i) w u × (v ≡ c ∷ u)

-- a character that the walk gives first is what a first piece means
first-means : (i : Inside) (c : ℕ) (w v : List ℕ) → Follows i w → go (means c) (λ t. value i t w) ≡ Some v → First i c w v
first-means i c w v f e = let m = mapped c (value i outside w) v e in (m.0, f outside m.0 m.1, m.2)

-- a character that the walk allows may be meant there, and is what a first piece means
allowed-first : (i : Inside) (c : ℕ) (w v : List ℕ) → Follows i w → go (allowed i c) (λ t. value i t w) ≡ Some v → MayMean i c × First i c w v
allowed-first of_string c w v f e = (tt, first-means of_string c w v f e)
allowed-first of_iri c w v f e =
    ⊎_elim
    (λ h. (h, first-means of_iri c w v f (sym (ap (λ x. go x (λ t. value of_iri t w)) (cond-true (has iri_char c) (means c) fails h)) ∙ e)))
    (λ h. absurd (none_is_some v (sym (ap (λ x. go x (λ t. value of_iri t w)) (cond-false (has iri_char c) (means c) fails h)) ∙ e)))
    (cases_Bool (has iri_char c))

-- a piece before the others
with-piece : (P : List ℕ → ℕ → Type 0) (piece : List ℕ) (c : ℕ) (rest u w v : List ℕ) → w ≡ piece ++ rest → v ≡ c ∷ u → P piece c → Means P rest u → Means P w v
with-piece P piece c rest u w v s e p m = subst (Means P w) (sym e) (piece, rest, s, p, m)

-- outside of escapes the walk reads a piece
from-outside : (i : Inside) (c : ℕ) (w v : List ℕ) → Follows i w → go (move i outside c) (λ t. value i t w) ≡ Some v → Means (IsPiece i) (c ∷ w) v
from-outside i c w v f e =
    ⊎_elim
    (λ h. subst (λ x. Means (IsPiece i) (x ∷ w) v) (sym (eqb-true c 92 h))
    (f slash v (sym (ap (λ x. go x (λ t. value i t w)) (cond-true (c == 92) (leads slash) (allowed i c) h)) ∙ e)))
    (λ h. let r = allowed-first i c w v f (sym (ap (λ x. go x (λ t. value i t w)) (cond-false (c == 92) (leads slash) (allowed i c) h)) ∙ e) in
    with-piece (IsPiece i) (c ∷ []) c w r.1.0 (c ∷ w) v refl r.1.2 (inl (refl, (λ x. false≢true (sym h ∙ eq-eqb c 92 x)), r.0)) r.1.1)
    (cases_Bool (c == 92))

-- the letters by their table
abbrev by_rows : List (ℕ × ℕ) → ℕ → Move
by_rows [] c = fails
by_rows (r ∷ rs) c = cond (c == r.0) (means r.1) (by_rows rs c)

-- a letter is in the table, or no escape
rows-cases : (rs : List (ℕ × ℕ)) (c : ℕ) → (by_rows rs c ≡ fails) ⊎ ((d : ℕ) × (by_rows rs c ≡ means d) × IsRow rs c d)
rows-cases [] c = inl refl
rows-cases (r ∷ rs) c =
    ⊎_elim
    (λ h. inr (r.1, cond-true (c == r.0) (means r.1) (by_rows rs c) h, inl (eqb-true c r.0 h, refl)))
    (λ h. ⊎_elim
    (λ x. inl (cond-false (c == r.0) (means r.1) (by_rows rs c) h ∙ x))
    (λ x. inr (x.0, cond-false (c == r.0) (means r.1) (by_rows rs c) h ∙ x.1, inr x.2))
    (rows-cases rs c))
    (cases_Bool (c == r.0))

-- the table of the walk is that of ECHAR
same_letters : (c : ℕ) → letter_move c ≡ by_rows letters c
same_letters c = refl

-- after a backslash and a letter it has read a piece
from-letter : (i : Inside) (c : ℕ) (w v : List ℕ) → Follows i w → go (echar_move i c) (λ t. value i t w) ≡ Some v → Means (IsPiece i) (92 ∷ c ∷ w) v
from-letter of_iri c w v f e = absurd (none_is_some v e)
from-letter of_string c w v f e =
    ⊎_elim
    (λ h. absurd (none_is_some v (sym (ap (λ x. go x (λ t. value of_string t w)) (same_letters c ∙ h)) ∙ e)))
    (λ h. let r = first-means of_string h.0 w v f (sym (ap (λ x. go x (λ t. value of_string t w)) (same_letters c ∙ h.1)) ∙ e) in
    with-piece (IsPiece of_string) (92 ∷ c ∷ []) h.0 w r.0 (92 ∷ c ∷ w) v refl r.2 (inr (inl (c, refl, h.2))) r.1)
    (rows-cases letters c)

-- after a backslash and any character the walk has read a piece, or is in one
from-slash : (i : Inside) (c : ℕ) (w v : List ℕ) → Follows i w → go (move i slash c) (λ t. value i t w) ≡ Some v → Means (IsPiece i) (92 ∷ c ∷ w) v
from-slash i c w v f e =
    ⊎_elim
    (λ h. small (eqb-true c 117 h) (f (digits 4 0) v (sym (at (cond-true (c == 117) (leads (digits 4 0)) _ h)) ∙ e)))
    (λ h. ⊎_elim
    (λ g. large (eqb-true c 85 g)
    (f (digits 8 0) v (sym (at (cond-false (c == 117) (leads (digits 4 0)) _ h ∙ cond-true (c == 85) (leads (digits 8 0)) _ g)) ∙ e)))
    (λ g. from-letter i c w v f (sym (at (cond-false (c == 117) (leads (digits 4 0)) _ h ∙ cond-false (c == 85) (leads (digits 8 0)) (echar_move i c) g)) ∙ e))
    (cases_Bool (c == 85)))
    (cases_Bool (c == 117))
  where
    at : {a b : Move} → a ≡ b → go a (λ t. value i t w) ≡ go b (λ t. value i t w)
    at h = ap (λ x. go x (λ t. value i t w)) h

    small : c ≡ 117 → MeansFrom i (digits 4 0) w v → Means (IsPiece i) (92 ∷ c ∷ w) v
    small s h =
        with-piece (IsPiece i) (92 ∷ 117 ∷ h.0) h.2 h.1 h.3 (92 ∷ c ∷ w) v (ap (λ x. 92 ∷ x ∷ w) s ∙ ap (λ x. 92 ∷ 117 ∷ x) h.4) h.10
        (inr (inr (h.0, inl (refl, h.5), h.6, h.7 ∙ from_none h.0, h.8, h.9))) h.11

    large : c ≡ 85 → MeansFrom i (digits 8 0) w v → Means (IsPiece i) (92 ∷ c ∷ w) v
    large s h =
        with-piece (IsPiece i) (92 ∷ 85 ∷ h.0) h.2 h.1 h.3 (92 ∷ c ∷ w) v (ap (λ x. 92 ∷ x ∷ w) s ∙ ap (λ x. 92 ∷ 85 ∷ x) h.4) h.10
        (inr (inr (h.0, inr (refl, h.5), h.6, h.7 ∙ from_none h.0, h.8, h.9))) h.11

-- the last digit, or one with others after it
from-digit : (i : Inside) (k n : ℕ) (c : ℕ) (w v : List ℕ) → has hex_digit c ≡ true → Follows i w →
    go (digit_move i k (16 * n + hex_value c)) (λ t. value i t w) ≡ Some v → MeansFrom i (digits (suc k) n) (c ∷ w) v
from-digit i zero n c w v x f e =
    let m = 16 * n + hex_value c in
    ⊎_elim
    (λ h. let r = allowed-first i m w v f (sym (ap (λ y. go y (λ t. value i t w)) (cond-true (scalar m) (allowed i m) fails h)) ∙ e) in
    (c ∷ [], w, m, r.1.0, refl, refl, and_from (has hex_digit c) true x refl, refl, h, r.0, r.1.2, r.1.1))
    (λ h. absurd (none_is_some v (sym (ap (λ y. go y (λ t. value i t w)) (cond-false (scalar m) (allowed i m) fails h)) ∙ e)))
    (cases_Bool (scalar m))
from-digit i (suc k) n c w v x f e =
    let h = f (digits (suc k) (16 * n + hex_value c)) v e in
    (c ∷ h.0, h.1, h.2, h.3, ap (λ y. c ∷ y) h.4, ap suc h.5, and_from (has hex_digit c) _ x h.6, h.7, h.8, h.9, h.10, h.11)

-- within the digits of a UCHAR the walk reads the rest of a piece
from-digits : (i : Inside) (k n : ℕ) (c : ℕ) (w v : List ℕ) → Follows i w → go (move i (digits k n) c) (λ t. value i t w) ≡ Some v →
    MeansFrom i (digits k n) (c ∷ w) v
from-digits i zero n c w v f e = absurd (none_is_some v e)
from-digits i (suc k) n c w v f e =
    ⊎_elim
    (λ h. from-digit i k n c w v h f
    (sym (ap (λ y. go y (λ t. value i t w)) (cond-true (has hex_digit c) (digit_move i k (16 * n + hex_value c)) fails h)) ∙ e))
    (λ h. absurd (none_is_some v (sym (ap (λ y. go y (λ t. value i t w)) (cond-false (has hex_digit c) (digit_move i k (16 * n + hex_value c)) fails h)) ∙ e)))
    (cases_Bool (has hex_digit c))

-- so a text with a value consists of pieces that mean it
value-means : (i : Inside) (s : EscapeState) (w v : List ℕ) → value i s w ≡ Some v → MeansFrom i s w v
value-means i outside [] v e = subst (Means (IsPiece i) []) (some_same [] v e) refl
value-means i slash [] v e = absurd (none_is_some v e)
value-means i (digits k n) [] v e = absurd (none_is_some v e)
value-means i outside (c ∷ w) v e = from-outside i c w v (λ t u x. value-means i t w u x) e
value-means i slash (c ∷ w) v e = from-slash i c w v (λ t u x. value-means i t w u x) e
value-means i (digits k n) (c ∷ w) v e = from-digits i k n c w v (λ t u x. value-means i t w u x) e

-- the law of strings
pub string_means : (w v : List ℕ) → (string_value w ≡ Some v) ↔ Means (IsPiece of_string) w v
string_means w v = (λ e. value-means of_string outside w v e, λ m. means-value of_string v w m)

-- the law of IRIs
pub iri_means : (w v : List ℕ) → (iri_value w ≡ Some v) ↔ Means (IsPiece of_iri) w v
iri_means w v = (λ e. value-means of_iri outside w v e, λ m. means-value of_iri v w m)

-- The same of local parts.
local-takes : (piece : List ℕ) (c : ℕ) → IsLocalPiece piece c → (rest : List ℕ) →
    local_from false (piece ++ rest) ≡ option_map (λ w. c ∷ w) (local_from false rest)
local-takes piece c p rest = ⊎_elim
    (λ h. ap (λ x. local_from false (x ++ rest)) h.0
    ∙ (cond-false (c == 92) (local_from true rest) _ (ne_eqb c 92 h.1) ∙ cond-true (has iri_char c) (option_map (λ w. c ∷ w) (local_from false rest)) None h.2))
    (λ h. ap (λ x. local_from false (x ++ rest)) h.0 ∙ cond-true (has local_escape c) (option_map (λ w. c ∷ w) (local_from false rest)) None h.1)
    p

-- the value of a local part of pieces is what they mean
means-local : (v w : List ℕ) → Means IsLocalPiece w v → local_from false w ≡ Some v
means-local [] w m = ap (local_from false) m
means-local (c ∷ v) w m =
    ap (local_from false) m.2 ∙ (local-takes m.0 c m.3 m.1 ∙ ap (option_map (λ w. c ∷ w)) (means-local v m.1 m.4))

-- what a local part means from a place on
abbrev MeansLocally : Bool → List ℕ → List ℕ → Type 0
MeansLocally true w v = Means IsLocalPiece (92 ∷ w) v
MeansLocally false w v = Means IsLocalPiece w v

-- so a local part with a value consists of pieces that mean it
local-means : (b : Bool) (w v : List ℕ) → local_from b w ≡ Some v → MeansLocally b w v
local-means true [] v e = absurd (none_is_some v e)
local-means false [] v e = subst (Means IsLocalPiece []) (some_same [] v e) refl
local-means true (c ∷ w) v e =
    ⊎_elim
    (λ h. let m = mapped c (local_from false w) v (sym (cond-true (has local_escape c) (option_map (λ v. c ∷ v) (local_from false w)) None h) ∙ e) in
    with-piece IsLocalPiece (92 ∷ c ∷ []) c w m.0 (92 ∷ c ∷ w) v refl m.2 (inr (refl, h)) (local-means false w m.0 m.1))
    (λ h. absurd (none_is_some v (sym (cond-false (has local_escape c) (option_map (λ v. c ∷ v) (local_from false w)) None h) ∙ e)))
    (cases_Bool (has local_escape c))
local-means false (c ∷ w) v e =
    let plain = cond (has iri_char c) (option_map (λ v. c ∷ v) (local_from false w)) None in
    ⊎_elim
    (λ h. subst (λ x. Means IsLocalPiece (x ∷ w) v) (sym (eqb-true c 92 h)) (local-means true w v (sym (cond-true (c == 92) (local_from true w) plain h) ∙ e)))
    (λ h. let k : plain ≡ Some v = sym (cond-false (c == 92) (local_from true w) plain h) ∙ e in
    ⊎_elim
    (λ g. let m = mapped c (local_from false w) v (sym (cond-true (has iri_char c) (option_map (λ v. c ∷ v) (local_from false w)) None g) ∙ k) in
    with-piece IsLocalPiece (c ∷ []) c w m.0 (c ∷ w) v refl m.2 (inl (refl, (λ x. false≢true (sym h ∙ eq-eqb c 92 x)), g)) (local-means false w m.0 m.1))
    (λ g. absurd (none_is_some v (sym (cond-false (has iri_char c) (option_map (λ v. c ∷ v) (local_from false w)) None g) ∙ k)))
    (cases_Bool (has iri_char c)))
    (cases_Bool (c == 92))

-- the law of local parts
pub local_part_means : (w v : List ℕ) → (local_value w ≡ Some v) ↔ Means IsLocalPiece w v
local_part_means w v = (λ e. local-means false w v e, λ m. means-local v w m)

-- a text is fit if its inside has a meaning
some-meaning : (o : Option (List ℕ)) (P : List ℕ → Type 0) → ((v : List ℕ) → (o ≡ Some v) ↔ P v) → (is_some o ≡ true) ↔ ((v : List ℕ) × P v)
some-meaning o P h = (from o refl, λ m. ap is_some ((h m.0).1 m.1))
  where
    from : (p : Option (List ℕ)) → o ≡ p → is_some o ≡ true → (v : List ℕ) × P v
    from None e t = absurd (false≢true (sym (ap is_some e) ∙ t))
    from (Some v) e t = (v, (h v).0 e)

-- the law of escapes that are fit
pub fit_means : (k : Kind) (w : List ℕ) → (is_fit k w ≡ true) ↔ HasMeaning k w
unfolding is_fit
fit_means IriRef w = some-meaning (iri_value (inside 1 w)) (λ v. Means (IsPiece of_iri) (inside 1 w) v) (iri_means (inside 1 w))
fit_means ShortString w = some-meaning (string_value (inside 1 w)) (λ v. Means (IsPiece of_string) (inside 1 w) v) (string_means (inside 1 w))
fit_means LongString w = some-meaning (string_value (inside 3 w)) (λ v. Means (IsPiece of_string) (inside 3 w) v) (string_means (inside 3 w))
fit_means k w = (λ e. tt, λ m. refl)
