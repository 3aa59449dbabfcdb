-- In a token with a bad escape the walk stops at the first.
use Rattle.rdf_diagnostics.proofs.Prelude.{◌≡◌, ℕ, zero, suc, ◌+◌, ◌-◌, ◌*◌, ◌<◌, Bool, true, false, cond, List, [], ◌∷◌, ◌++◌, ◌==◌, ◌⊎◌, inl, inr, Option, Some, None, is_some, option_map, refl, sym, ap, ◌∙◌, subst, ⊎_elim, append_assoc, arith, length, take, drop, get_or, length-append, encode_utf8, encode_utf8_all, codes, and_parts, and_from, or_cases, cond-true, cond-false, false≢true, eqb-true, ne_eqb, append-nil, take_at, drop_at, get_or-drop, take-append-drop, length-encode, encodes-append, len_utf8, MatchOption, unwrap_or, chars, IsUtf8, chars_rest, Dialect, Lines, Turtle, Inside, EscapeState, outside, slash, digits, Move, leads, means, fails, allowed, digit_move, hex_value, move, go, value, is_fit, inside_of, stop_by, stop_from, ends_of, inside_by, HasBadEscape, IsBadEscape}
use Rattle.std.specs.declared.str.Chars.{Chars}
use Rattle.std.specs.List.{concat, AllByRecursion}
use Rattle.rdf_terms.specs.declared.kind.Kind.{Kind}
use Rattle.rdf_terms.specs.declared.kind.Kind.TheVariants.{IriRef, ShortString, LongString}
use Rattle.rdf_terms.specs.Classes.{Class, has, scalar, one_of}
use Rattle.rdf_terms.specs.Classes.Class.{the, hex_digit, iri_char, plain_double, plain_single, long_double, long_single}
use Rattle.rdf_terms.specs.Terms.{all_have}
use Rattle.rdf_terms.specs.Regex.{Regex, Matches}
use Rattle.rdf_terms.specs.Regex.Regex.{empty, one, ◌·◌, ◌∣◌, many}
use Rattle.rdf_terms.specs.Shapes.{Shape, shape, hex, uchar, echar, optional}
use Rattle.rdf_terms.specs.Pieces.{of_string, of_iri, inside, IsPiece, Means}
use Rattle.rdf_terms.proofs.CharsLemmas.{next_char, no_chars}
use Rattle.rdf_terms.proofs.PiecesLemmas.{string_means, iri_means}
use Rattle.rdf_tokens.specs.Laws.{IsLongest, IsUnfit}

-- a value that is there is another one
none_is_some : (v : List ℕ) → None ≡ Some v → ⊥
none_is_some v e = cc

-- a mapped value that is there
map_some : (c : ℕ) (o : Option (List ℕ)) (v : List ℕ) → option_map (λ w. c ∷ w) o ≡ Some v → (u : List ℕ) × (o ≡ Some u) × (v ≡ c ∷ u)
map_some c None v e = absurd (none_is_some v e)
map_some c (Some u) v e = (u, refl, let h : Some (c ∷ u) ≡ Some v = e in cc)

-- after a move
value_go : (i : Inside) (m : Move) (u y v : List ℕ) → go m (λ t. value i t u) ≡ Some v →
    ((t : EscapeState) (v : List ℕ) → value i t u ≡ Some v → value i t (u ++ y) ≡ option_map (λ x. v ++ x) (value i outside y)) →
    go m (λ t. value i t (u ++ y)) ≡ option_map (λ x. v ++ x) (value i outside y)
value_go i (leads t) u y v e f = f t v e
value_go i (means c) u y v e f =
    let m = map_some c (value i outside u) v e in
    ap (option_map (λ w. c ∷ w)) (f outside m.0 m.1) ∙ both m.0 (value i outside y) ∙ ap (λ z. option_map (λ x. z ++ x) (value i outside y)) (sym m.2)
  where
    both : (z : List ℕ) (o : Option (List ℕ)) → option_map (λ w. c ∷ w) (option_map (λ x. z ++ x) o) ≡ option_map (λ x. (c ∷ z) ++ x) o
    both z None = refl
    both z (Some x) = refl
value_go i fails u y v e f = absurd (none_is_some v e)

-- the value of a text that goes on after one with a value
pub value-append : (i : Inside) (s : EscapeState) (u y v : List ℕ) → value i s u ≡ Some v → value i s (u ++ y) ≡ option_map (λ x. v ++ x) (value i outside y)
value-append i outside [] y v e = all (value i outside y)
  where
    empty : [] ≡ v
    empty = let h : Some [] ≡ Some v = e in cc

    all : (o : Option (List ℕ)) → o ≡ option_map (λ x. v ++ x) o
    all None = refl
    all (Some x) = ap (λ w. Some (w ++ x)) empty
value-append i slash [] y v e = absurd (none_is_some v e)
value-append i (digits k n) [] y v e = absurd (none_is_some v e)
value-append i outside (c ∷ u) y v e = value_go i (move i outside c) u y v e (λ t v e. value-append i t u y v e)
value-append i slash (c ∷ u) y v e = value_go i (move i slash c) u y v e (λ t v e. value-append i t u y v e)
value-append i (digits k n) (c ∷ u) y v e = value_go i (move i (digits k n) c) u y v e (λ t v e. value-append i t u y v e)

-- ---- the walk

-- so many bytes
abbrev size : List ℕ → ℕ
size w = length (encode_utf8_all w)

size-cons : (n c : ℕ) (w : List ℕ) → (n + len_utf8 c) + size w ≡ n + size (c ∷ w)
size-cons n c w = omega (arith, length-append (encode_utf8 c) (encode_utf8_all w), length-encode c)

-- where no escape is open nothing is kept of earlier ones
stop_now : (i : Inside) (b d n : ℕ) (y : List ℕ) → stop_from i outside b n y ≡ stop_from i outside d n y
stop_now i b d n [] = refl
stop_now i b d n (c ∷ y) = refl

-- after a move
stop_go : (i : Inside) (m : Move) (b n c : ℕ) (u y v : List ℕ) → go m (λ t. value i t u) ≡ Some v →
    ((t : EscapeState) (v : List ℕ) → value i t u ≡ Some v → stop_from i t b (n + len_utf8 c) (u ++ y) ≡ stop_from i outside 0 ((n + len_utf8 c) + size u) y) →
    stop_by m b (λ t. stop_from i t b (n + len_utf8 c) (u ++ y)) ≡ stop_from i outside 0 (n + size (c ∷ u)) y
stop_go i (leads t) b n c u y v e f = f t v e ∙ ap (λ k. stop_from i outside 0 k y) (size-cons n c u)
stop_go i (means d) b n c u y v e f =
    let m = map_some d (value i outside u) v e in f outside m.0 m.1 ∙ ap (λ k. stop_from i outside 0 k y) (size-cons n c u)
stop_go i fails b n c u y v e f = absurd (none_is_some v e)

-- the walk passes a text with a value
pub stop-append : (i : Inside) (s : EscapeState) (b n : ℕ) (u y v : List ℕ) → value i s u ≡ Some v →
    stop_from i s b n (u ++ y) ≡ stop_from i outside 0 (n + size u) y
stop-append i outside b n [] y v e = stop_now i b 0 n y ∙ ap (λ k. stop_from i outside 0 k y) (omega arith)
stop-append i slash b n [] y v e = absurd (none_is_some v e)
stop-append i (digits k m) b n [] y v e = absurd (none_is_some v e)
stop-append i outside b n (c ∷ u) y v e = stop_go i (move i outside c) n n c u y v e (λ t v e. stop-append i t n (n + len_utf8 c) u y v e)
stop-append i slash b n (c ∷ u) y v e = stop_go i (move i slash c) b n c u y v e (λ t v e. stop-append i t b (n + len_utf8 c) u y v e)
stop-append i (digits k m) b n (c ∷ u) y v e = stop_go i (move i (digits k m) c) b n c u y v e (λ t v e. stop-append i t b (n + len_utf8 c) u y v e)

-- an escape by number that stands for no character
pub record IsBadNumber (i : Inside) (bad : List ℕ) : Type 0 where
  pub hexes : List ℕ
  pub form : ((bad ≡ 92 ∷ 117 ∷ hexes) × (length hexes ≡ 4)) ⊎ ((bad ≡ 92 ∷ 85 ∷ hexes) × (length hexes ≡ 8))
  pub digits : all_have (has hex_digit) hexes ≡ true
  pub none : value i outside bad ≡ None

-- after the last digit the walk stops, or a character is meant
last_digit : (i : Inside) (m : ℕ) → (digit_move i 0 m ≡ fails) ⊎ ((c : ℕ) × (digit_move i 0 m ≡ means c))
last_digit of_string m = by (scalar m)
  where
    by : (t : Bool) → (cond t (means m) fails ≡ fails) ⊎ ((c : ℕ) × (cond t (means m) fails ≡ means c))
    by true = inr (m, refl)
    by false = inl refl
last_digit of_iri m = by (scalar m) (has iri_char m)
  where
    by : (t r : Bool) → (cond t (cond r (means m) fails) fails ≡ fails) ⊎ ((c : ℕ) × (cond t (cond r (means m) fails) fails ≡ means c))
    by true true = inr (m, refl)
    by true false = inl refl
    by false r = inl refl

-- within its digits
digits_stop : (i : Inside) (k m b n : ℕ) (hexes y : List ℕ) → length hexes ≡ suc k → all_have (has hex_digit) hexes ≡ true →
    value i (digits (suc k) m) hexes ≡ None →
    stop_from i (digits (suc k) m) b n (hexes ++ y) ≡ Some b
digits_stop i k m b n [] y l h e = absurd (omega arith)
digits_stop i zero m b n (x ∷ []) y l h e =
    let p = and_parts (has hex_digit x) true h in
    let one = cond-true (has hex_digit x) (digit_move i 0 (16 * m + hex_value x)) fails p.0 in
    ⊎_elim
    (λ f. ap (λ q. stop_by q b (λ t. stop_from i t b (n + len_utf8 x) y)) (one ∙ f))
    (λ f. absurd (none_is_some _ (sym e ∙ ap (λ q. go q (λ t. value i t [])) (one ∙ f.1))))
    (last_digit i (16 * m + hex_value x))
digits_stop i zero m b n (x ∷ z ∷ w) y l h e = absurd (omega arith)
digits_stop i (suc k) m b n (x ∷ w) y l h e =
    let p = and_parts (has hex_digit x) (all_have (has hex_digit) w) h in
    let one = cond-true (has hex_digit x) (digit_move i (suc k) (16 * m + hex_value x)) fails p.0 in
    ap (λ q. stop_by q b (λ t. stop_from i t b (n + len_utf8 x) (w ++ y))) one
    ∙ digits_stop i k (16 * m + hex_value x) b (n + len_utf8 x) w y (omega arith) p.1 (sym (ap (λ q. go q (λ t. value i t w)) one) ∙ e)

-- at such an escape the walk stops
pub bad_stop : (i : Inside) (b n : ℕ) (bad y : List ℕ) → IsBadNumber i bad → stop_from i outside b n (bad ++ y) ≡ Some n
bad_stop i b n bad y h = ⊎_elim
    (λ p. ap (λ w. stop_from i outside b n (w ++ y)) p.0
    ∙ digits_stop i 3 0 n ((n + len_utf8 92) + len_utf8 117) h.hexes y p.1 h.digits (sym (ap (value i outside) p.0) ∙ h.none))
    (λ p. ap (λ w. stop_from i outside b n (w ++ y)) p.0
    ∙ digits_stop i 7 0 n ((n + len_utf8 92) + len_utf8 85) h.hexes y p.1 h.digits (sym (ap (value i outside) p.0) ∙ h.none))
    h.form

-- ---- the parts of a token

-- a part has a value, or it is an escape by number that stands for no character
abbrev IsPart : Inside → List ℕ → Type 0
IsPart i p = ((v : List ℕ) × (value i outside p ≡ Some v)) ⊎ IsBadNumber i p

-- what stands before the first such escape, the escape, and what follows
pub record Split (i : Inside) (w : List ℕ) : Type 0 where
  pub front : List ℕ
  pub bad : List ℕ
  pub rest : List ℕ
  pub whole : w ≡ front ++ (bad ++ rest)
  pub meaning : List ℕ
  pub means : value i outside front ≡ Some meaning
  pub number : IsBadNumber i bad

-- no value stays none
none_mapped : (v : List ℕ) (o : Option (List ℕ)) → option_map (λ x. v ++ x) o ≡ None → o ≡ None
none_mapped v None e = refl
none_mapped v (Some x) e = absurd (none_is_some (v ++ x) (sym e))

split : (i : Inside) (ps : List (List ℕ)) → AllByRecursion (IsPart i) ps → value i outside (concat ps) ≡ None → Split i (concat ps)
split i [] a e = absurd (none_is_some [] (sym e))
split i (p ∷ ps) a e = ⊎_elim
    (λ x.
    let r = split i ps a.1 (none_mapped x.0 (value i outside (concat ps)) (sym (value-append i outside p (concat ps) x.0 x.1) ∙ e)) in
    record {
      front = p ++ r.front;
      bad = r.bad;
      rest = r.rest;
      whole = ap (λ w. p ++ w) r.whole ∙ sym (append_assoc p r.front (r.bad ++ r.rest));
      meaning = x.0 ++ r.meaning;
      means = value-append i outside p r.front x.0 x.1 ∙ ap (option_map (λ z. x.0 ++ z)) r.means;
      number = r.number;
    })
    (λ b. record { front = []; bad = p; rest = concat ps; whole = refl; meaning = []; means = refl; number = b })
    a.0

-- what holds of each text of a list
all_map : (P Q : List ℕ → Type 0) → ((p : List ℕ) → P p → Q p) → (ps : List (List ℕ)) → AllByRecursion P ps → AllByRecursion Q ps
all_map P Q f [] a = tt
all_map P Q f (p ∷ ps) a = (f p a.0, all_map P Q f ps a.1)

-- one character
the_one : (x : ℕ) (w : List ℕ) → Matches (one (the x)) w → w ≡ x ∷ []
unfolding has
the_one x w m = m.2 ∙ ap (λ c. c ∷ []) (eqb-true m.0 x (and_parts (scalar m.0) (m.0 == x) m.1).1)

-- a word of two
the_two : (x y : ℕ) (w : List ℕ) → Matches (one (the x) · (one (the y) · empty)) w → w ≡ x ∷ y ∷ []
the_two x y w m =
    m.4 ∙ (ap (λ u. u ++ m.1) (the_one x m.0 m.2)
    ∙ ap (λ v. x ∷ v) (m.3.4 ∙ (ap (λ u. u ++ m.3.1) (the_one y m.3.0 m.3.2) ∙ ap (λ v. y ∷ v) m.3.3)))

-- so many hex digits and one more
abbrev hexes_of : ℕ → Regex
hexes_of zero = hex
hexes_of (suc n) = hex · hexes_of n

hexes_have : (n : ℕ) (w : List ℕ) → Matches (hexes_of n) w → (length w ≡ suc n) × (all_have (has hex_digit) w ≡ true)
hexes_have zero w m = (
  ap length m.2,
  ap (all_have (has hex_digit)) m.2 ∙ and_from (has hex_digit m.0) true m.1 refl,
)
hexes_have (suc n) w m =
    let r = hexes_have n m.1 m.3 in
    let whole : w ≡ m.2.0 ∷ m.1 = m.4 ∙ ap (λ u. u ++ m.1) m.2.2 in (
      ap length whole ∙ ap suc r.0,
      ap (all_have (has hex_digit)) whole ∙ and_from (has hex_digit m.2.0) (all_have (has hex_digit) m.1) m.2.1 r.1,
    )

-- an escape by number
number_part : (i : Inside) (p hexes : List ℕ) → ((p ≡ 92 ∷ 117 ∷ hexes) × (length hexes ≡ 4)) ⊎ ((p ≡ 92 ∷ 85 ∷ hexes) × (length hexes ≡ 8)) →
    all_have (has hex_digit) hexes ≡ true → IsPart i p
number_part i p hexes f h = by (value i outside p) refl
  where
    by : (o : Option (List ℕ)) → value i outside p ≡ o → IsPart i p
    by None e = inr (record { hexes = hexes; form = f; digits = h; none = e })
    by (Some v) e = inl (v, e)

uchar_part : (i : Inside) (p : List ℕ) → Matches uchar p → IsPart i p
uchar_part i p m = ⊎_elim
    (λ x. let h = hexes_have 3 x.1 x.3 in number_part i p x.1 (inl (x.4 ∙ ap (λ u. u ++ x.1) (the_two 92 117 x.0 x.2), h.0)) h.1)
    (λ x. let h = hexes_have 7 x.1 x.3 in number_part i p x.1 (inr (x.4 ∙ ap (λ u. u ++ x.1) (the_two 92 85 x.0 x.2), h.0)) h.1)
    m

-- what all members of a list pass
one_of-all : (test : ℕ → Bool) (xs : List ℕ) (c : ℕ) → all_have test xs ≡ true → one_of xs c ≡ true → test c ≡ true
one_of-all test [] c a h = absurd (false≢true h)
one_of-all test (x ∷ xs) c a h =
    let p = and_parts (test x) (all_have test xs) a in
    ⊎_elim
    (λ t. ap test (eqb-true c x t) ∙ p.0)
    (λ t. one_of-all test xs c p.1 t)
    (or_cases (c == x) (one_of xs c) h)

-- a value that is there
is_there : (i : Inside) (p : List ℕ) → is_some (value i outside p) ≡ true → IsPart i p
is_there i p h = by (value i outside p) refl h
  where
    by : (o : Option (List ℕ)) → value i outside p ≡ o → is_some o ≡ true → IsPart i p
    by None e h = absurd (false≢true h)
    by (Some v) e h = inl (v, e)

-- an escape by a letter
echar_part : (p : List ℕ) → Matches echar p → IsPart of_string p
unfolding has
echar_part p m =
    let c = m.3.0 in
    let whole : p ≡ 92 ∷ c ∷ [] = m.4 ∙ (ap (λ u. u ++ m.1) (the_one 92 m.0 m.2) ∙ ap (λ v. 92 ∷ v) m.3.2) in
    let l = and_parts (scalar c) (one_of (codes "tbnrf\"'\\") c) m.3.1 in
    is_there of_string p (ap (λ w. is_some (value of_string outside w)) whole
    ∙ one_of-all (λ c. is_some (value of_string outside (92 ∷ c ∷ []))) (codes "tbnrf\"'\\") c refl l.1)

-- a character that is no backslash
plain_part : (k : Class) (p : List ℕ) → has k 92 ≡ false → Matches (one k) p → IsPart of_string p
plain_part k p n m =
    let c = m.0 in
    let other : (c == 92) ≡ false = ne_eqb c 92 (λ e. false≢true (sym n ∙ (ap (has k) (sym e) ∙ m.1))) in
    inl (c ∷ [], ap (value of_string outside) m.2 ∙ ap (λ q. go q (λ t. value of_string t [])) (cond-false (c == 92) (leads slash) (means c) other))

no_iri_slash : has iri_char 92 ≡ false
unfolding has
no_iri_slash = refl

-- a character of IRIs
iri_part : (p : List ℕ) → Matches (one iri_char) p → IsPart of_iri p
iri_part p m =
    let c = m.0 in
    let other : (c == 92) ≡ false = ne_eqb c 92 (λ e. false≢true (sym no_iri_slash ∙ (ap (has iri_char) (sym e) ∙ m.1))) in
    inl (
      c ∷ [],
      ap (value of_iri outside) m.2 ∙ ap (λ q. go q (λ t. value of_iri t []))
          (cond-false (c == 92) (leads slash) (allowed of_iri c) other ∙ cond-true (has iri_char c) (means c) fails m.1),
    )

-- what stands within a string
text_part : (k : Class) (p : List ℕ) → has k 92 ≡ false → Matches (one k ∣ (echar ∣ uchar)) p → IsPart of_string p
text_part k p n m = ⊎_elim (λ x. plain_part k p n x) (λ y. ⊎_elim (λ x. echar_part p x) (λ x. uchar_part of_string p x) y) m

-- and within one of three quotes, where some quotes stand before it
module _ (q : ℕ) (other : (q == 92) ≡ false) where
  one_quote : value of_string outside (q ∷ []) ≡ Some (q ∷ [])
  one_quote = ap (λ m. go m (λ t. value of_string t [])) (cond-false (q == 92) (leads slash) (means q) other)

  two_quotes : value of_string outside (q ∷ q ∷ []) ≡ Some (q ∷ q ∷ [])
  two_quotes = value-append of_string outside (q ∷ []) (q ∷ []) (q ∷ []) one_quote ∙ ap (option_map (λ x. (q ∷ []) ++ x)) one_quote

  quotes_part : (u : List ℕ) → Matches (optional (one (the q) ∣ one (the q) · one (the q))) u → IsPart of_string u
  quotes_part u m = ⊎_elim
      (λ x. inl ([], ap (value of_string outside) x))
      (λ y. ⊎_elim
      (λ x. inl (q ∷ [], ap (value of_string outside) (the_one q u x) ∙ one_quote))
      (λ x. inl (q ∷ q ∷ [], ap (value of_string outside) (x.4 ∙ (ap (λ w. w ++ x.1) (the_one q x.0 x.2) ∙ ap (λ w. q ∷ w) (the_one q x.1 x.3))) ∙ two_quotes))
      y)
      m

  long_parts : (k : Class) → has k 92 ≡ false → (ps : List (List ℕ)) →
      AllByRecursion (Matches (optional (one (the q) ∣ one (the q) · one (the q)) · (one k ∣ (echar ∣ uchar)))) ps →
      (qs : List (List ℕ)) × AllByRecursion (IsPart of_string) qs × (concat ps ≡ concat qs)
  long_parts k n [] a = ([], tt, refl)
  long_parts k n (p ∷ ps) a =
      let m = a.0 in
      let r = long_parts k n ps a.1 in (
        m.0 ∷ m.1 ∷ r.0,
        (quotes_part m.0 m.2, (text_part k m.1 n m.3, r.1)),
        ap (λ w. w ++ concat ps) m.4 ∙ (append_assoc m.0 m.1 (concat ps) ∙ ap (λ w. m.0 ++ (m.1 ++ w)) r.2),
      )

-- ---- a token between its ends

-- what stands between two texts of the same length
inside-mid : (m : ℕ) (u v t : List ℕ) → length u ≡ m → length t ≡ m → inside m (u ++ (v ++ t)) ≡ v
inside-mid m u v t a b =
    let l : length (u ++ (v ++ t)) - 2 * m ≡ length v = omega (arith, length-append u (v ++ t), length-append v t) in
    ap (take (length (u ++ (v ++ t)) - 2 * m)) (drop_at u (v ++ t) m a) ∙ take_at v t (length (u ++ (v ++ t)) - 2 * m) (sym l)

-- The parts of a token whose escapes are not fit: its first character, which is `<` for an IRI, the others before its inside, the inside, and its end.
pub record Parted (i : Inside) (m : ℕ) (b : Bool) (w : List ℕ) : Type 0 where
  pub first : ℕ
  pub others : List ℕ
  pub inner : List ℕ
  pub close : List ℕ
  pub whole : w ≡ (first ∷ others) ++ (inner ++ close)
  pub sign : (first == 60) ≡ b
  pub opens : length (first ∷ others) ≡ m
  pub closes : length close ≡ m
  pub bytes : size (first ∷ others) ≡ m
  pub after : 1 + size others ≡ m
  pub plain : value i outside others ≡ Some others
  pub unfit : value i outside inner ≡ None → Split i inner

-- a character, and a text between two of them
ends_one : (r s t : Regex) (x y : ℕ) → r ≡ one (the x) → t ≡ one (the y) → (w : List ℕ) → Matches (r · (many s · t)) w →
    (ps : List (List ℕ)) × AllByRecursion (Matches s) ps × (w ≡ (x ∷ []) ++ (concat ps ++ (y ∷ [])))
ends_one r s t x y e f w m =
    let a = the_one x m.0 (subst (λ r. Matches r m.0) e m.2) in
    let b = the_one y m.3.1 (subst (λ t. Matches t m.3.1) f m.3.3) in (
      m.3.2.0,
      m.3.2.1,
      m.4 ∙ (ap (λ u. u ++ m.1) a ∙ ap (λ v. x ∷ v) (m.3.4 ∙ (ap (λ u. u ++ m.3.1) m.3.2.2 ∙ ap (λ v. concat m.3.2.0 ++ v) b))),
    )

-- an IRI
iri_parted : (d : Dialect) (w : List ℕ) → Shape d IriRef w → Parted of_iri 1 true w
unfolding shape lib.Utf8.encode
iri_parted d w m =
    let x = ends_one (one (the 60)) (one iri_char ∣ uchar) (one (the 62)) 60 62 refl refl w m in
    record {
      first = 60;
      others = [];
      inner = concat x.0;
      close = 62 ∷ [];
      whole = x.2;
      sign = refl;
      opens = refl;
      closes = refl;
      bytes = refl;
      after = refl;
      plain = refl;
      unfit = split of_iri x.0 (all_map (Matches (one iri_char ∣ uchar)) (IsPart of_iri)
          (λ p y. ⊎_elim (λ z. iri_part p z) (λ z. uchar_part of_iri p z) y) x.0 x.1);
    }

-- a string between two quotes
short_parted : (q : ℕ) (k : Class) (w : List ℕ) → (q == 60) ≡ false → size (q ∷ []) ≡ 1 → has k 92 ≡ false →
    Matches (one (the q) · (many (one k ∣ (echar ∣ uchar)) · one (the q))) w → Parted of_string 1 false w
short_parted q k w e z n m =
    let x = ends_one (one (the q)) (one k ∣ (echar ∣ uchar)) (one (the q)) q q refl refl w m in
    record {
      first = q;
      others = [];
      inner = concat x.0;
      close = q ∷ [];
      whole = x.2;
      sign = e;
      opens = refl;
      closes = refl;
      bytes = z;
      after = refl;
      plain = refl;
      unfit = split of_string x.0 (all_map (Matches (one k ∣ (echar ∣ uchar))) (IsPart of_string) (λ p y. text_part k p n y) x.0 x.1);
    }

-- and one between three quotes on each side
long_parted : (q : ℕ) (other : (q == 92) ≡ false) (k : Class) (w : List ℕ) → (q == 60) ≡ false →
    (size (q ∷ q ∷ q ∷ []) ≡ 3) × (1 + size (q ∷ q ∷ []) ≡ 3) → has k 92 ≡ false →
    Matches (one (the q) · (one (the q) · (one (the q) · (many (optional (one (the q) ∣ one (the q) · one (the q)) · (one k ∣ (echar ∣ uchar)))
    · (one (the q) · (one (the q) · one (the q))))))) w → Parted of_string 3 false w
long_parted q other k w e z n m =
    let ps = m.3.3.3.2.0 in
    let end = m.3.3.3.1 in
    let f = m.3.3.3.3 in
    let x = long_parts q other k n ps m.3.3.3.2.1 in
    let ends : end ≡ q ∷ q ∷ q ∷ [] =
    f.4 ∙ (ap (λ u. u ++ f.1) (the_one q f.0 f.2)
    ∙ ap (λ v. q ∷ v) (f.3.4 ∙ (ap (λ u. u ++ f.3.1) (the_one q f.3.0 f.3.2) ∙ ap (λ v. q ∷ v) (the_one q f.3.1 f.3.3)))) in
    let rest : m.3.1 ≡ q ∷ (concat x.0 ++ (q ∷ q ∷ q ∷ [])) =
    m.3.3.4 ∙ (ap (λ u. u ++ m.3.3.1) (the_one q m.3.3.0 m.3.3.2)
    ∙ ap (λ v. q ∷ v) (m.3.3.3.4 ∙ (ap (λ u. u ++ end) (m.3.3.3.2.2 ∙ x.2) ∙ ap (λ v. concat x.0 ++ v) ends))) in
    record {
      first = q;
      others = q ∷ q ∷ [];
      inner = concat x.0;
      close = q ∷ q ∷ q ∷ [];
      whole = m.4 ∙ (ap (λ u. u ++ m.1) (the_one q m.0 m.2) ∙ ap (λ v. q ∷ v) (m.3.4 ∙ (ap (λ u. u ++ m.3.1) (the_one q m.3.0 m.3.2) ∙ ap (λ v. q ∷ v) rest)));
      sign = e;
      opens = refl;
      closes = refl;
      bytes = z.0;
      after = z.1;
      plain = two_quotes q other;
      unfit = split of_string x.0 x.1;
    }

no_slash : (has plain_double 92 ≡ false) × (has plain_single 92 ≡ false) × (has long_double 92 ≡ false) × (has long_single 92 ≡ false)
unfolding has
no_slash = (refl, refl, refl, refl)

-- ---- the first bad escape

-- what a value means, and the value of what has a meaning
means_of : (i : Inside) (w v : List ℕ) → value i outside w ≡ Some v → Means (IsPiece i) w v
means_of of_string w v e = (string_means w v).0 e
means_of of_iri w v e = (iri_means w v).0 e

value_of : (i : Inside) (w v : List ℕ) → Means (IsPiece i) w v → value i outside w ≡ Some v
value_of of_string w v m = (string_means w v).1 m
value_of of_iri w v m = (iri_means w v).1 m

-- no front of a bad escape means a character
digits_cut : (i : Inside) (k m n : ℕ) (hexes y : List ℕ) → length hexes ≡ suc k → all_have (has hex_digit) hexes ≡ true →
    value i (digits (suc k) m) hexes ≡ None →
    value i (digits (suc k) m) (take n (hexes ++ y)) ≡ None
digits_cut i k m n [] y l h e = absurd (omega arith)
digits_cut i k m zero (x ∷ w) y l h e = refl
digits_cut i zero m (suc n) (x ∷ []) y l h e =
    let p = and_parts (has hex_digit x) true h in
    let one = cond-true (has hex_digit x) (digit_move i 0 (16 * m + hex_value x)) fails p.0 in
    ⊎_elim
    (λ f. ap (λ q. go q (λ t. value i t (take n y))) (one ∙ f))
    (λ f. absurd (none_is_some _ (sym e ∙ ap (λ q. go q (λ t. value i t [])) (one ∙ f.1))))
    (last_digit i (16 * m + hex_value x))
digits_cut i zero m (suc n) (x ∷ z ∷ w) y l h e = absurd (omega arith)
digits_cut i (suc k) m (suc n) (x ∷ w) y l h e =
    let p = and_parts (has hex_digit x) (all_have (has hex_digit) w) h in
    let one = cond-true (has hex_digit x) (digit_move i (suc k) (16 * m + hex_value x)) fails p.0 in
    ap (λ q. go q (λ t. value i t (take n (w ++ y)))) one
    ∙ digits_cut i k (16 * m + hex_value x) n w y (omega arith) p.1 (sym (ap (λ q. go q (λ t. value i t w)) one) ∙ e)

no_piece : (i : Inside) (bad rest : List ℕ) → IsBadNumber i bad → (n c : ℕ) → IsPiece i (take n (bad ++ rest)) c → ⊥
no_piece i bad rest b n c h =
    let p = take n (bad ++ rest) in
    let e : value i outside p ≡ Some (c ∷ []) = value_of i p (c ∷ []) (p, [], sym (append-nil p), h, refl) in
    ⊎_elim
    (λ f. small n (sym (ap (λ w. value i outside (take n (w ++ rest))) f.0) ∙ e) f.1 (sym (ap (value i outside) f.0) ∙ b.none))
    (λ f. large n (sym (ap (λ w. value i outside (take n (w ++ rest))) f.0) ∙ e) f.1 (sym (ap (value i outside) f.0) ∙ b.none))
    b.form
  where
    not_empty : {P : Type 0} → Some [] ≡ Some (c ∷ []) → P
    not_empty e = absurd (let l : length (let x : List ℕ = [] in x) ≡ length (c ∷ []) = (cc) in omega (arith, l))

    small : (n : ℕ) → value i outside (take n (92 ∷ 117 ∷ (b.hexes ++ rest))) ≡ Some (c ∷ []) → length b.hexes ≡ 4 → value i (digits 4 0) b.hexes ≡ None → ⊥
    small zero e l v = not_empty e
    small (suc zero) e l v = none_is_some (c ∷ []) e
    small (suc (suc n)) e l v = none_is_some (c ∷ []) (sym (digits_cut i 3 0 n b.hexes rest l b.digits v) ∙ e)

    large : (n : ℕ) → value i outside (take n (92 ∷ 85 ∷ (b.hexes ++ rest))) ≡ Some (c ∷ []) → length b.hexes ≡ 8 → value i (digits 8 0) b.hexes ≡ None → ⊥
    large zero e l v = not_empty e
    large (suc zero) e l v = none_is_some (c ∷ []) e
    large (suc (suc n)) e l v = none_is_some (c ∷ []) (sym (digits_cut i 7 0 n b.hexes rest l b.digits v) ∙ e)

-- a bad escape begins with a backslash
begins_so : (i : Inside) (bad rest : List ℕ) → IsBadNumber i bad → (get_or (bad ++ rest) 0 0 ≡ 92) × (0 < length bad)
begins_so i bad rest b = ⊎_elim
    (λ f. (ap (λ w. get_or (w ++ rest) 0 0) f.0, (let l = ap length f.0 in omega arith)))
    (λ f. (ap (λ w. get_or (w ++ rest) 0 0) f.0, (let l = ap length f.0 in omega arith)))
    b.form

is_bad : (i : Inside) (w : List ℕ) (s : Split i w) → IsBadEscape i w (length s.front)
is_bad i w s =
    let at = length s.front in
    let rest = s.bad ++ s.rest in
    let back : drop at w ≡ rest = ap (drop at) s.whole ∙ drop_at s.front rest at refl in
    let b = begins_so i s.bad s.rest s.number in
    let here : at + 0 ≡ at = omega arith in
    record {
      within = omega (arith, ap length s.whole, length-append s.front rest, length-append s.bad s.rest, b.1);
      meaning = s.meaning;
      front = subst (λ u. Means (IsPiece i) u s.meaning) (sym (ap (take at) s.whole ∙ take_at s.front rest at refl)) (means_of i s.front s.meaning s.means);
      begins = ap (λ k. get_or w k 0) (sym here) ∙ (sym (get_or-drop at w 0 0) ∙ (ap (λ u. get_or u 0 0) back ∙ b.0));
      bad = λ n c h. no_piece i s.bad s.rest s.number n c (subst (λ u. IsPiece i (take n u) c) back h);
    }

-- the texts of a token and after it, one after another
in_a_row : (a f b r c m : List ℕ) → (a ++ ((f ++ (b ++ r)) ++ c)) ++ m ≡ a ++ (f ++ (b ++ (r ++ (c ++ m))))
in_a_row a f b r c m =
    append_assoc a ((f ++ (b ++ r)) ++ c) m
    ∙ ap (λ w. a ++ w)
    (append_assoc (f ++ (b ++ r)) c m ∙ (append_assoc f (b ++ r) (c ++ m) ∙ ap (λ w. f ++ w) (append_assoc b r (c ++ m))))

module _ (d : Dialect) (x : List ℕ) (len : ℕ) (k : Kind) (token : IsLongest d x len k) (b : Bool) (p : Parted (inside_by k) (ends_of k) b (take len x))
    (none : value (inside_by k) outside (inside (ends_of k) (take len x)) ≡ None) where
  abbrev i : Inside
  i = inside_by k

  abbrev m : ℕ
  m = ends_of k

  inner : inside m (take len x) ≡ p.inner
  inner = ap (inside m) p.whole ∙ inside-mid m (p.first ∷ p.others) p.inner p.close p.opens p.closes

  abbrev s : Split (inside_by k) p.inner
  s = p.unfit (sym (ap (value (inside_by k) outside) inner) ∙ none)

  abbrev later : List ℕ
  later = s.rest ++ (p.close ++ drop len x)

  all : x ≡ (p.first ∷ p.others) ++ (s.front ++ (s.bad ++ later))
  all =
      sym (take-append-drop len x)
      ∙ (ap (λ t. t ++ drop len x) (p.whole ∙ ap (λ u. (p.first ∷ p.others) ++ (u ++ p.close)) s.whole)
      ∙ in_a_row (p.first ∷ p.others) s.front s.bad s.rest p.close (drop len x))

  sign : (get_or x 0 0 == 60) ≡ b
  sign = ap (λ w. get_or w 0 0 == 60) all ∙ p.sign

  stops : stop_from i outside 0 1 (drop 1 x) ≡ Some ((1 + size p.others) + size s.front)
  stops =
      ap (λ w. stop_from i outside 0 1 (drop 1 w)) all
      ∙ (stop-append i outside 0 1 p.others (s.front ++ (s.bad ++ later)) p.others p.plain
      ∙ (stop-append i outside 0 (1 + size p.others) s.front (s.bad ++ later) s.meaning s.means
      ∙ bad_stop i 0 ((1 + size p.others) + size s.front) s.bad later s.number))

  tells : HasBadEscape d x ((1 + size p.others) + size s.front)
  tells =
      let opened = p.first ∷ p.others in
      let at = length s.front in
      let parts : x ≡ (opened ++ s.front) ++ (s.bad ++ later) = all ∙ sym (append_assoc opened s.front (s.bad ++ later)) in
      let long : length (opened ++ s.front) ≡ m + at = length-append opened s.front ∙ ap (λ n. n + at) p.opens in
      let taken : take (m + at) x ≡ opened ++ s.front = ap (take (m + at)) parts ∙ take_at (opened ++ s.front) (s.bad ++ later) (m + at) long in
      let both : size (opened ++ s.front) ≡ size opened + size s.front =
      ap length (encodes-append opened s.front) ∙ length-append (encode_utf8_all opened) (encode_utf8_all s.front) in
      record {
        kind = k;
        len = len;
        token = token;
        at = at;
        escape = subst (λ u. IsBadEscape i u at) (sym inner) (is_bad i p.inner s);
        bytes = ap (λ n. n + size s.front) (p.after ∙ sym p.bytes) ∙ (sym both ∙ ap size (sym taken));
      }

  pub found_by : inside_of b ≡ i → (n : ℕ) × (stop_from (inside_of (get_or x 0 0 == 60)) outside 0 1 (drop 1 x) ≡ Some n) × HasBadEscape d x n
  found_by h = ((1 + size p.others) + size s.front, ap (λ j. stop_from j outside 0 1 (drop 1 x)) (ap inside_of sign ∙ h) ∙ stops, tells)

-- not fit is without a value
not_some : (o : Option (List ℕ)) → is_some o ≡ false → o ≡ None
not_some None e = refl
not_some (Some v) e = absurd (false≢true (sym e))

unfit_iri : (w : List ℕ) → is_fit IriRef w ≡ false → value of_iri outside (inside 1 w) ≡ None
unfolding is_fit
unfit_iri w e = not_some (value of_iri outside (inside 1 w)) e

unfit_short : (w : List ℕ) → is_fit ShortString w ≡ false → value of_string outside (inside 1 w) ≡ None
unfolding is_fit
unfit_short w e = not_some (value of_string outside (inside 1 w)) e

unfit_long : (w : List ℕ) → is_fit LongString w ≡ false → value of_string outside (inside 3 w) ≡ None
unfolding is_fit
unfit_long w e = not_some (value of_string outside (inside 3 w)) e

-- a string of either kind
short_cases : (d : Dialect) (w : List ℕ) → Shape d ShortString w → Parted of_string 1 false w
unfolding shape lib.Utf8.encode
short_cases Lines w m = ⊎_elim (λ x. short_parted 34 plain_double w refl refl no_slash.0 x) (λ x. absurd x) m
short_cases Turtle w m = ⊎_elim (λ x. short_parted 34 plain_double w refl refl no_slash.0 x) (λ x. short_parted 39 plain_single w refl refl no_slash.1 x) m

long_cases : (d : Dialect) (w : List ℕ) → Shape d LongString w → Parted of_string 3 false w
unfolding shape lib.Utf8.encode
long_cases Lines w m = absurd m
long_cases Turtle w m = ⊎_elim
    (λ x. long_parted 34 refl long_double w refl (refl, refl) no_slash.2 x)
    (λ x. long_parted 39 refl long_single w refl (refl, refl) no_slash.3 x)
    m

-- In a text whose first token is not fit the walk finds its first bad escape.
pub found : (d : Dialect) (x : List ℕ) → IsUnfit d x →
    (n : ℕ) × (stop_from (inside_of (get_or x 0 0 == 60)) outside 0 1 (drop 1 x) ≡ Some n) × HasBadEscape d x n
unfolding is_fit
found d x (len, k, token, e) = by k token e
  where
    by : (k : Kind) → IsLongest d x len k → is_fit k (take len x) ≡ false →
        (n : ℕ) × (stop_from (inside_of (get_or x 0 0 == 60)) outside 0 1 (drop 1 x) ≡ Some n) × HasBadEscape d x n
    by IriRef t e = found_by d x len IriRef t true (iri_parted d (take len x) t.front.shape) (unfit_iri (take len x) e) refl
    by ShortString t e = found_by d x len ShortString t false (short_cases d (take len x) t.front.shape) (unfit_short (take len x) e) refl
    by LongString t e = found_by d x len LongString t false (long_cases d (take len x) t.front.shape) (unfit_long (take len x) e) refl
    by k t e = absurd (false≢true (sym e))

-- what the walk answers then, over the text without its first character
pub walk_found : (d : Dialect) (x y : List ℕ) (first : ℕ) (r : Option ℕ) → IsUnfit d x → get_or x 0 0 ≡ first → y ≡ drop 1 x →
    r ≡ stop_from (inside_of (first == 60)) outside 0 1 y → MatchOption r ⊥ (λ n. HasBadEscape d x n)
walk_found d x y first r u a b e =
    let f = found d x u in
    let is : r ≡ Some f.0 = e ∙ (ap (λ w. stop_from (inside_of (first == 60)) outside 0 1 w) b
    ∙ (ap (λ c. stop_from (inside_of (c == 60)) outside 0 1 (drop 1 x)) (sym a) ∙ f.1)) in
    subst (λ r. MatchOption r ⊥ (λ n. HasBadEscape d x n)) (sym is) f.2

-- the first character of a text
pub first_of : (text rest : Chars) (r : Option ℕ) → IsUtf8 (chars_rest text) →
    MatchOption r ((length (chars_rest text) ≡ 0) × (rest ≡ text)) (λ c. chars_rest text ≡ encode_utf8 c ++ chars_rest rest) →
    get_or (chars (chars_rest text)) 0 0 ≡ unwrap_or r 0
first_of text rest None u h = ap (λ w. get_or w 0 0) (no_chars (chars_rest text) h.0)
first_of text rest (Some c) u h = ap (λ w. get_or w 0 0) (next_char (chars_rest text) (chars_rest rest) c u h).chars
