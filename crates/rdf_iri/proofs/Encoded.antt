-- What is cut, resolved and joined is the same over the UTF-8 bytes of the texts: all that cuts them is ASCII.
use Rattle.rdf_iri.proofs.Prelude.{◌≡◌, ◌≢◌, ◌≤◌, ◌<◌, ℕ, zero, suc, Bool, true, false, cond, List, [], ◌∷◌, ◌++◌, ◌==◌, ◌&&◌, ◌||◌, length, drop, Option, Some, None, inl, inr, refl, sym, ap, ◌∙◌, subst, ⊎_elim, append_assoc, arith, codes, option_map, nat_lt, unwrap_or, encode_utf8_all, encode_utf8, drop-append_seam, encodes-append, encode_ascii, encodes_same, cons_from_encodes, inside_one, length-encode, len_utf8_bounds, append-nil, and_parts, cases_Bool, cases_lt, cond-true, cond-false, false≢true, false_from_ne_true, eqb-true, or_cases, or_from, ltb-true, lt-leb, and_right, ne_eqb, is_letter, is_digit, within, has_scheme, scheme_goes_on, Lacks, begins, equal, before, after, from, Parts, recompose, with_scheme, with_authority, suffix, parts_of, fragment_parts, query_parts, hierarchy_parts, Walk, walk, step, finish, remove_dots, has_slash, parent, first_segment, after_segment, fits_A, by_A, fits_B, by_B, fits_C, by_C, fits_D, by_D, by_E, target, authority_target, path_target, joined, merge_onto, directory, or_else}
use Rattle.rdf_iri.proofs.TextsLemmas.{StartsAt, cut_at, cut_suffix, cut_whole, before-from, before-lacks, from-starts, Lacks-append, begins-true, begins-from, equal-true, equal-from}
use Rattle.rdf_iri.proofs.DotsLemmas.{parent-at, parent-none, no_slash, has_slash-at, last_slash, no_slash-lacks, step_B, step_C, step_D, step-shorter, finish-empty, finish-after}
use Rattle.rdf_iri.proofs.CutPlaces.{Lacks-from_places}
use Rattle.rdf_iri.proofs.Written.{first_byte}

-- a text in UTF-8
abbrev bytes : List ℕ → List ℕ
bytes = encode_utf8_all

-- truth values that imply each other are equal
pub same_test : (a b : Bool) → (a ≡ true → b ≡ true) → (b ≡ true → a ≡ true) → a ≡ b
same_test a b f g =
    ⊎_elim
    (λ (t : a ≡ true). t ∙ sym (f t))
    (λ (t : a ≡ false). t ∙ sym (false_from_ne_true b (λ e. false≢true (sym t ∙ g e))))
    (cases_Bool a)

-- a character and its bytes
first_of_char : (c : ℕ) → (b : ℕ) × (bs : List ℕ) × (encode_utf8 c ≡ b ∷ bs)
first_of_char c = by (encode_utf8 c) (let l = length-encode c in omega (arith, (len_utf8_bounds c).0))
  where
    by : (w : List ℕ) → 0 < length w → (b : ℕ) × (bs : List ℕ) × (w ≡ b ∷ bs)
    by [] l = absurd (omega arith)
    by (b ∷ bs) l = (b, bs, refl)

-- the bytes of another character have no byte of an ASCII one
char-lacks : (k c : ℕ) → k < 128 → c ≢ k → Lacks k (encode_utf8 c)
char-lacks k c l n = Lacks-from_places k (encode_utf8 c)
    (λ i m e. n (inside_one c [] (encode_utf8 c) i (sym (append-nil (encode_utf8 c))) m (omega (arith, e)) ∙ e))

-- an ASCII character is its own byte
pub bytes-cons : (k : ℕ) (w : List ℕ) → k < 128 → bytes (k ∷ w) ≡ k ∷ bytes w
bytes-cons k w l = ap (λ x. x ++ bytes w) (encode_ascii k l)

-- a text without an ASCII character has none among its bytes
pub bytes-lacks : (k : ℕ) (w : List ℕ) → k < 128 → Lacks k w → Lacks k (bytes w)
bytes-lacks k [] l h = tt
bytes-lacks k (c ∷ w) l h = Lacks-append k (encode_utf8 c) (bytes w) (char-lacks k c l h.0) (bytes-lacks k w l h.1)

-- a text that begins with an ASCII character begins with its byte
bytes-starts : (k : ℕ) (w : List ℕ) → k < 128 → StartsAt k w → StartsAt k (bytes w)
bytes-starts k w l s =
    ⊎_elim
    (λ (h : w ≡ []). inl (ap bytes h))
    (λ h. inr (bytes h.0, ap bytes h.1 ∙ bytes-cons k h.0 l))
    s

-- a text with characters has bytes
bytes-nonempty : (w : List ℕ) → (w ≡ [] → ⊥) → bytes w ≡ [] → ⊥
bytes-nonempty w n e = n (encodes_same w [] e)

-- where a text is cut
pub before-bytes : (k : ℕ) (w : List ℕ) → k < 128 → (before k (bytes w) ≡ bytes (before k w)) × (from k (bytes w) ≡ bytes (from k w))
before-bytes k w l =
    let e : bytes w ≡ bytes (before k w) ++ bytes (from k w) = ap bytes (sym (before-from k w)) ∙ encodes-append (before k w) (from k w) in
    let r = cut_at k (bytes (before k w)) (bytes (from k w)) (bytes-lacks k (before k w) l (before-lacks k w))
    (bytes-starts k (from k w) l (from-starts k w)) in
    (ap (before k) e ∙ r.0, ap (from k) e ∙ r.1)

-- a query or fragment with its delimiter, in bytes
bytes-suffix : (k : ℕ) (o : Option (List ℕ)) → k < 128 → bytes (suffix k o) ≡ suffix k (option_map bytes o)
bytes-suffix k None l = refl
bytes-suffix k (Some w) l = bytes-cons k w l

-- what follows an ASCII character, in bytes
pub after-bytes : (k : ℕ) (w : List ℕ) → k < 128 → after k (bytes w) ≡ option_map bytes (after k w)
after-bytes k w l =
    let e : bytes w ≡ bytes (before k w) ++ suffix k (option_map bytes (after k w)) =
    ap bytes (sym (cut_whole k w)) ∙ (encodes-append (before k w) (suffix k (after k w)) ∙ ap (λ x. bytes (before k w) ++ x) (bytes-suffix k (after k w) l)) in
    ap (after k) e ∙ (cut_suffix k (bytes (before k w)) (option_map bytes (after k w)) (bytes-lacks k (before k w) l (before-lacks k w))).1

-- an ASCII front
abbrev pub are_ascii : List ℕ → Bool
are_ascii [] = true
are_ascii (k ∷ w) = nat_lt k 128 && are_ascii w

-- ASCII before a text is before its bytes
pub ahead : (front w : List ℕ) → are_ascii front ≡ true → bytes (front ++ w) ≡ front ++ bytes w
ahead [] w a = refl
ahead (k ∷ front) w a =
    let p = and_parts (nat_lt k 128) (are_ascii front) a in
    bytes-cons k (front ++ w) (ltb-true k 128 p.0) ∙ ap (λ x. k ∷ x) (ahead front w p.1)

-- a text whose bytes begin with ASCII begins with it
pub after_front : (front w rest : List ℕ) → are_ascii front ≡ true → bytes w ≡ front ++ rest → (v : List ℕ) × (w ≡ front ++ v) × (bytes v ≡ rest)
after_front [] w rest a e = (w, refl, e)
after_front (k ∷ front) w rest a e =
    let p = and_parts (nat_lt k 128) (are_ascii front) a in
    let c = cons_from_encodes w (front ++ rest) k (e ∙ ap (λ x. x ++ (front ++ rest)) (sym (encode_ascii k (ltb-true k 128 p.0)))) in
    let r = after_front front c.0 rest p.1 c.2 in
    (r.0, c.1 ∙ ap (λ x. k ∷ x) r.1, r.2)

-- so a test for an ASCII front may be made on bytes
begins-bytes : (front w : List ℕ) → are_ascii front ≡ true → begins front (bytes w) ≡ begins front w
begins-bytes front w a = same_test _ _
    (λ t. let r = after_front front w (drop (length front) (bytes w)) a (begins-true front (bytes w) t) in begins-from front w r.0 r.1)
    (λ t. begins-from front (bytes w) _ (ap bytes (begins-true front w t) ∙ ahead front _ a))

-- an ASCII front may be dropped from the bytes of a text
drop-bytes : (front w : List ℕ) → are_ascii front ≡ true → begins front w ≡ true → drop (length front) (bytes w) ≡ bytes (drop (length front) w)
drop-bytes front w a t =
    ap (λ x. drop (length front) (bytes x)) (begins-true front w t)
    ∙ (ap (drop (length front)) (ahead front (drop (length front) w) a) ∙ drop-append_seam front (bytes (drop (length front) w)))

-- ASCII is its own bytes
ascii-bytes : (w : List ℕ) → are_ascii w ≡ true → bytes w ≡ w
ascii-bytes [] a = refl
ascii-bytes (k ∷ w) a = let p = and_parts (nat_lt k 128) (are_ascii w) a in bytes-cons k w (ltb-true k 128 p.0) ∙ ap (λ x. k ∷ x) (ascii-bytes w p.1)

-- a comparison with ASCII may be made on bytes
equal-bytes : (w whole : List ℕ) → are_ascii whole ≡ true → equal (bytes w) whole ≡ equal w whole
equal-bytes w whole a = let e = ascii-bytes whole a in same_test _ _
    (λ t. equal-from w whole (encodes_same w whole (equal-true (bytes w) whole t ∙ sym e)))
    (λ t. equal-from (bytes w) whole (ap bytes (equal-true w whole t) ∙ e))

-- slashes
pub has_slash-bytes : (w : List ℕ) → (has_slash (bytes w) ≡ has_slash w) × (parent (bytes w) ≡ bytes (parent w))
has_slash-bytes w =
    ⊎_elim
    (λ (t : has_slash w ≡ true).
    let s = last_slash w t in
    let e : bytes w ≡ bytes (parent w) ++ 47 ∷ bytes s.0 =
    ap bytes s.2 ∙ (encodes-append (parent w) (47 ∷ s.0) ∙ ap (λ x. bytes (parent w) ++ x) (bytes-cons 47 s.0 (omega arith))) in (
      ap has_slash e ∙ (has_slash-at (bytes (parent w)) (bytes s.0) ∙ sym t),
      ap parent e ∙ parent-at (bytes (parent w)) (bytes s.0) (bytes-lacks 47 s.0 (omega arith) s.1),
    ))
    (λ (f : has_slash w ≡ false).
    let l = no_slash-lacks w f in
    let m = bytes-lacks 47 w (omega arith) l in
    (no_slash (bytes w) m ∙ sym f, parent-none (bytes w) m ∙ ap bytes (sym (parent-none w l))))
    (cases_Bool (has_slash w))

-- the later bytes of a character are no "/"
rest_of_char : (c b : ℕ) (bs : List ℕ) → encode_utf8 c ≡ b ∷ bs → Lacks 47 bs
rest_of_char c b bs e =
    ⊎_elim
    (λ (t : (c == 47) ≡ true). let k : 47 ∷ [] ≡ b ∷ bs = sym (ap encode_utf8 (eqb-true c 47 t) ∙ encode_ascii 47 (omega arith)) ∙ e in
    let n : [] ≡ bs = cc in subst (Lacks 47) n tt)
    (λ (f : (c == 47) ≡ false). (subst (Lacks 47) e (char-lacks 47 c (omega arith) (λ i. false≢true (sym f ∙ eq i)))).1)
    (cases_Bool (c == 47))
  where
    eq : {c : ℕ} → c ≡ 47 → (c == 47) ≡ true
    eq {c} i = ap (λ x. x == 47) i

-- the first segment of a path, in bytes
segment-bytes : (w : List ℕ) → (first_segment (bytes w) ≡ bytes (first_segment w)) × (after_segment (bytes w) ≡ bytes (after_segment w))
segment-bytes [] = (refl, refl)
segment-bytes (c ∷ w) =
    let f = first_of_char c in
    let e : bytes (c ∷ w) ≡ f.0 ∷ (f.1 ++ bytes w) = ap (λ x. x ++ bytes w) f.2 in
    let u = bytes (before 47 w) in
    let v = bytes (from 47 w) in
    let r = cut_at 47 (f.1 ++ u) v (Lacks-append 47 f.1 u (rest_of_char c f.0 f.1 f.2) (bytes-lacks 47 (before 47 w) (omega arith) (before-lacks 47 w)))
    (bytes-starts 47 (from 47 w) (omega arith) (from-starts 47 w)) in
    let whole : f.1 ++ bytes w ≡ (f.1 ++ u) ++ v = ap (λ x. f.1 ++ bytes x) (sym (before-from 47 w))
    ∙ (ap (λ x. f.1 ++ x) (encodes-append (before 47 w) (from 47 w)) ∙ sym (append_assoc f.1 u v)) in (
      ap first_segment e ∙ (ap (λ x. f.0 ∷ before 47 x) whole ∙ (ap (λ x. f.0 ∷ x) r.0 ∙ ap (λ x. x ++ u) (sym f.2))),
      ap after_segment e ∙ (ap (from 47) whole ∙ r.1),
    )

-- the removal of dots
abbrev walk_bytes : Walk → Walk
walk_bytes s = walk (bytes s.input) (bytes s.output)

-- two states of which a test chooses one, in bytes
either-bytes : (b b' : Bool) (x y x' y' : Walk) → b' ≡ b → (b ≡ true → x' ≡ walk_bytes x) → y' ≡ walk_bytes y → cond b' x' y' ≡ walk_bytes (cond b x y)
either-bytes b b' x y x' y' e f g =
    ap (λ i. cond i x' y') e
    ∙ ⊎_elim
    (λ (t : b ≡ true). cond-true b x' y' t ∙ (f t ∙ ap walk_bytes (sym (cond-true b x y t))))
    (λ (t : b ≡ false). cond-false b x' y' t ∙ (g ∙ ap walk_bytes (sym (cond-false b x y t))))
    (cases_Bool b)

-- the test of rules B to D, in bytes
either_test : (front whole w : List ℕ) → are_ascii front ≡ true → are_ascii whole ≡ true →
    (begins front (bytes w) || equal (bytes w) whole) ≡ (begins front w || equal w whole)
either_test front whole w a b = ap (λ x. x || equal (bytes w) whole) (begins-bytes front w a) ∙ ap (λ x. begins front w || x) (equal-bytes w whole b)

-- rule A, in bytes
A-bytes : (s : Walk) → fits_A s.input ≡ true → by_A (walk_bytes s) ≡ walk_bytes (by_A s)
A-bytes s h =
    ap (λ x. walk x (bytes s.output))
    (ap (λ b. cond b (drop 3 (bytes s.input)) (drop 2 (bytes s.input))) (begins-bytes (codes "../") s.input refl)
    ∙ ⊎_elim
    (λ t. cond-true (begins (codes "../") s.input) _ _ t ∙ (drop-bytes (codes "../") s.input refl t
    ∙ ap bytes (sym (cond-true (begins (codes "../") s.input) (drop 3 s.input) (drop 2 s.input) t))))
    (λ f.
    let t : begins (codes "./") s.input ≡ true =
    ⊎_elim (λ x. absurd (false≢true (sym f ∙ x))) (λ x. x) (or_cases (begins (codes "../") s.input) (begins (codes "./") s.input) h) in
    cond-false (begins (codes "../") s.input) _ _ f ∙ (drop-bytes (codes "./") s.input refl t
    ∙ ap bytes (sym (cond-false (begins (codes "../") s.input) (drop 3 s.input) (drop 2 s.input) f))))
    (cases_Bool (begins (codes "../") s.input)))

-- after the front, or nothing where the text is all of the input
replaced-bytes : (front whole w : List ℕ) → are_ascii front ≡ true → are_ascii whole ≡ true → drop (length front) whole ≡ [] →
    (begins front w || equal w whole) ≡ true →
    drop (length front) (bytes w) ≡ bytes (drop (length front) w)
replaced-bytes front whole w a b n h =
    ⊎_elim
    (λ t. drop-bytes front w a t)
    (λ t.
    let i : w ≡ whole = equal-true w whole t in
    ap (λ x. drop (length front) (bytes x)) i ∙ (ap (drop (length front)) (ascii-bytes whole b) ∙ (n ∙ ap bytes (sym (ap (drop (length front)) i ∙ n)))))
    (or_cases (begins front w) (equal w whole) h)

-- rule B, in bytes
B-bytes : (s : Walk) → fits_B s.input ≡ true → by_B (walk_bytes s) ≡ walk_bytes (by_B s)
B-bytes s h =
    ap (λ x. walk x (bytes s.output))
    (ap (λ x. 47 ∷ x) (replaced-bytes (codes "/./") (codes "/.") s.input refl refl refl h) ∙ sym (bytes-cons 47 (drop 3 s.input) (omega arith)))

-- rule C, in bytes
C-bytes : (s : Walk) → fits_C s.input ≡ true → by_C (walk_bytes s) ≡ walk_bytes (by_C s)
C-bytes s h =
    ap (λ x. walk x (parent (bytes s.output)))
    (ap (λ x. 47 ∷ x) (replaced-bytes (codes "/../") (codes "/..") s.input refl refl refl h) ∙ sym (bytes-cons 47 (drop 4 s.input) (omega arith)))
    ∙ ap (λ x. walk (bytes (47 ∷ drop 4 s.input)) x) (has_slash-bytes s.output).1

-- rule E, in bytes
E-bytes : (s : Walk) → by_E (walk_bytes s) ≡ walk_bytes (by_E s)
E-bytes s =
    let g = segment-bytes s.input in
    ap (λ x. walk x (bytes s.output ++ first_segment (bytes s.input))) g.1
    ∙ ap (λ x. walk (bytes (after_segment s.input)) x) (ap (λ x. bytes s.output ++ x) g.0 ∙ sym (encodes-append s.output (first_segment s.input)))

-- so a step may be made on bytes
step-bytes : (s : Walk) → step (walk_bytes s) ≡ walk_bytes (step s)
unfolding step
step-bytes s =
    let t = walk_bytes s in
    let a : fits_A t.input ≡ fits_A s.input = ap (λ x. x || begins (codes "./") t.input) (begins-bytes (codes "../") s.input refl)
    ∙ ap (λ x. begins (codes "../") s.input || x) (begins-bytes (codes "./") s.input refl) in
    let d : fits_D t.input ≡ fits_D s.input = ap (λ x. x || equal t.input (codes "..")) (equal-bytes s.input (codes ".") refl)
    ∙ ap (λ x. equal s.input (codes ".") || x) (equal-bytes s.input (codes "..") refl) in
    either-bytes (fits_A s.input) (fits_A t.input) (by_A s) (step_B s) (by_A t) (step_B t) a (A-bytes s)
    (either-bytes (fits_B s.input) (fits_B t.input) (by_B s) (step_C s) (by_B t) (step_C t)
    (either_test (codes "/./") (codes "/.") s.input refl refl) (B-bytes s)
    (either-bytes (fits_C s.input) (fits_C t.input) (by_C s) (step_D s) (by_C t) (step_D t)
    (either_test (codes "/../") (codes "/..") s.input refl refl) (C-bytes s)
    (either-bytes (fits_D s.input) (fits_D t.input) (by_D s) (by_E s) (by_D t) (by_E t) d (λ _. refl) (E-bytes s))))

-- the steps of dot removal may be made on bytes to their end
finish-at : (n : ℕ) (s : Walk) (w : List ℕ) → s.input ≡ w → length w ≤ n → finish (walk_bytes s) ≡ bytes (finish s)
finish-at n s [] e l = finish-empty (walk_bytes s) (ap bytes e) ∙ ap bytes (sym (finish-empty s e))
finish-at zero s (c ∷ w) e l = absurd (omega arith)
finish-at (suc n) s (c ∷ w) e l =
    let k = step-shorter s c w e in
    sym (finish-after (walk_bytes s) (bytes s.input) refl)
    ∙ (ap finish (step-bytes s)
    ∙ (finish-at n (step s) (step s).input refl (omega arith)
    ∙ ap bytes (finish-after s s.input refl)))

-- the code may remove the dots of a path in its bytes
pub remove_dots-bytes : (w : List ℕ) → remove_dots (bytes w) ≡ bytes (remove_dots w)
unfolding remove_dots
remove_dots-bytes w = finish-at (length w) (walk w []) w refl (omega arith)

-- the parts
abbrev pub part_bytes : Option (List ℕ) → Option (List ℕ)
part_bytes o = option_map bytes o

-- the five parts in bytes
abbrev pub parts_bytes : Parts → Parts
parts_bytes p = record {
  scheme = part_bytes p.scheme;
  authority = part_bytes p.authority;
  path = bytes p.path;
  query = part_bytes p.query;
  fragment = part_bytes p.fragment;
}

-- a character from U+0080 on is in no range of ASCII
within-high : (lo hi c : ℕ) → hi < 128 → 128 ≤ c → within lo hi c ≡ false
within-high lo hi c h l = and_right _ _ (lt-leb c hi (omega arith))

-- a character from U+0080 on is no letter of a scheme
letter-high : (c : ℕ) → 128 ≤ c → is_letter c ≡ false
letter-high c l = or_from _ _ (within-high 65 90 c (omega arith) l) (within-high 97 122 c (omega arith) l)

-- a character from U+0080 on differs from each of ASCII
differs-high : (k c : ℕ) → k < 128 → 128 ≤ c → (c == k) ≡ false
differs-high k c h l = ne_eqb c k (λ e. absurd (omega (arith, e)))

-- from 128 on no scheme goes on
goes_on-high : (c : ℕ) (w : List ℕ) → 128 ≤ c → scheme_goes_on (c ∷ w) ≡ false
goes_on-high c w l =
    or_from (c == 58) _ (differs-high 58 c (omega arith) l)
    (ap (λ b. b && scheme_goes_on w)
    (or_from _ _ (or_from _ _ (or_from _ _ (or_from _ _ (letter-high c l) (within-high 48 57 c (omega arith) l))
    (differs-high 43 c (omega arith) l)) (differs-high 45 c (omega arith) l)) (differs-high 46 c (omega arith) l)))

-- the bytes of a character from 128 on
high_first : (c b : ℕ) (bs : List ℕ) → 128 ≤ c → encode_utf8 c ≡ b ∷ bs → 128 ≤ b
high_first c b bs l e =
    ⊎_elim
    (λ (h : b < 128).
    let s : c ≡ b = inside_one c [] (b ∷ bs) 0 (sym (append-nil (encode_utf8 c) ∙ e)) (let k = ap length e in omega arith) h in
    absurd (omega arith))
    (λ (h : 128 ≤ b). h)
    (cases_lt b 128)

-- the rest of a scheme, in bytes
goes_on-bytes : (w : List ℕ) → scheme_goes_on (bytes w) ≡ scheme_goes_on w
goes_on-bytes [] = refl
goes_on-bytes (c ∷ w) =
    ⊎_elim
    (λ (l : c < 128). ap scheme_goes_on (bytes-cons c w l)
    ∙ ap (λ b. c == 58 || ((is_letter c || is_digit c || c == 43 || c == 45 || c == 46) && b)) (goes_on-bytes w))
    (λ (l : 128 ≤ c).
    let f = first_of_char c in
    ap (λ x. scheme_goes_on (x ++ bytes w)) f.2 ∙ (goes_on-high f.0 (f.1 ++ bytes w) (high_first c f.0 f.1 l f.2) ∙ sym (goes_on-high c w l)))
    (cases_lt c 128)

-- a scheme may be looked for in the bytes of a text
pub has_scheme-bytes : (w : List ℕ) → has_scheme (bytes w) ≡ has_scheme w
has_scheme-bytes [] = refl
has_scheme-bytes (c ∷ w) =
    ⊎_elim
    (λ (l : c < 128). ap has_scheme (bytes-cons c w l) ∙ ap (λ b. is_letter c && b) (goes_on-bytes w))
    (λ (l : 128 ≤ c).
    let f = first_of_char c in
    ap (λ x. has_scheme (x ++ bytes w)) f.2
    ∙ (ap (λ b. b && scheme_goes_on (f.1 ++ bytes w)) (letter-high f.0 (high_first c f.0 f.1 l f.2)) ∙ ap (λ b. b && scheme_goes_on w) (sym (letter-high c l))))
    (cases_lt c 128)

-- a part that is there or not, in bytes
either_part : (b : Bool) (x : List ℕ) → part_bytes (cond b (Some x) None) ≡ cond b (Some (bytes x)) None
either_part true x = refl
either_part false x = refl

-- a path that a test chooses, in bytes
either_path : (b : Bool) (x y : List ℕ) → bytes (cond b x y) ≡ cond b (bytes x) (bytes y)
either_path true x y = refl
either_path false x y = refl

-- the "//" before an authority
slashes : List ℕ
slashes = 47 ∷ 47 ∷ []

-- what is cut after "//", in bytes
drop_slashes : (w : List ℕ) (f : List ℕ → List ℕ) → ((v : List ℕ) → f (bytes v) ≡ bytes (f v)) → begins (47 ∷ 47 ∷ []) w ≡ true →
    f (drop 2 (bytes w)) ≡ bytes (f (drop 2 w))
drop_slashes w f n t = ap f (drop-bytes (47 ∷ 47 ∷ []) w refl t) ∙ n (drop 2 w)

-- choices are equal where their tests and sides are
same_under : {A : Type 0} (b b' : Bool) (x x' y y' : A) → b' ≡ b → (b ≡ true → x' ≡ x) → y' ≡ y → cond b' x' y' ≡ cond b x y
same_under b b' x x' y y' e f g =
    ap (λ i. cond i x' y') e
    ∙ ⊎_elim
    (λ (t : b ≡ true). cond-true b x' y' t ∙ (f t ∙ sym (cond-true b x y t)))
    (λ (t : b ≡ false). cond-false b x' y' t ∙ (g ∙ sym (cond-false b x y t)))
    (cases_Bool b)

-- authority and path, in bytes
hierarchy-bytes : (s q f : Option (List ℕ)) (w : List ℕ) → hierarchy_parts (part_bytes s) (part_bytes q) (part_bytes f) (bytes w)
    ≡ parts_bytes (hierarchy_parts s q f w)
hierarchy-bytes s q f w =
    let b = begins (47 ∷ 47 ∷ []) w in
    let a : cond (begins (47 ∷ 47 ∷ []) (bytes w)) (Some (before 47 (drop 2 (bytes w)))) None ≡ part_bytes (cond b (Some (before 47 (drop 2 w))) None) =
    same_under b _ (Some (bytes (before 47 (drop 2 w)))) _ None None (begins-bytes (47 ∷ 47 ∷ []) w refl)
    (λ t. ap (λ x. Some x) (drop_slashes w (before 47) (λ v. (before-bytes 47 v (omega arith)).0) t)) refl
    ∙ sym (either_part b (before 47 (drop 2 w))) in
    let p : cond (begins (47 ∷ 47 ∷ []) (bytes w)) (from 47 (drop 2 (bytes w))) (bytes w) ≡ bytes (cond b (from 47 (drop 2 w)) w) =
    same_under b _ (bytes (from 47 (drop 2 w))) _ (bytes w) (bytes w) (begins-bytes (47 ∷ 47 ∷ []) w refl)
    (λ t. drop_slashes w (from 47) (λ v. (before-bytes 47 v (omega arith)).1) t) refl
    ∙ sym (either_path b (from 47 (drop 2 w)) w) in
    ap (λ x. record {
      scheme = part_bytes s;
      authority = x;
      path = cond (begins (47 ∷ 47 ∷ []) (bytes w)) (from 47 (drop 2 (bytes w)))
          (bytes w);
      query = part_bytes q;
      fragment = part_bytes f;
    }) a
    ∙ ap (λ x. record {
      scheme = part_bytes s;
      authority = part_bytes (cond b (Some (before 47 (drop 2 w))) None);
      path = x;
      query = part_bytes q;
      fragment = part_bytes f;
    }) p

-- the query and fragment too
fragment-bytes : (s : Option (List ℕ)) (w : List ℕ) → fragment_parts (part_bytes s) (bytes w) ≡ parts_bytes (fragment_parts s w)
fragment-bytes s w =
    let u = before 35 w in
    ap (λ x. query_parts (part_bytes s) x (before 35 (bytes w))) (after-bytes 35 w (omega arith))
    ∙ (ap (λ x. query_parts (part_bytes s) (part_bytes (after 35 w)) x) (before-bytes 35 w (omega arith)).0
    ∙ (ap (λ x. hierarchy_parts (part_bytes s) x (part_bytes (after 35 w)) (before 63 (bytes u))) (after-bytes 63 u (omega arith))
    ∙ (ap (λ x. hierarchy_parts (part_bytes s) (part_bytes (after 63 u)) (part_bytes (after 35 w)) x) (before-bytes 63 u (omega arith)).0
    ∙ hierarchy-bytes s (after 63 u) (after 35 w) (before 63 u))))

-- a part or nothing, in bytes
unwrapped : (o : Option (List ℕ)) → unwrap_or (part_bytes o) [] ≡ bytes (unwrap_or o [])
unwrapped None = refl
unwrapped (Some w) = refl

-- the parts of a reference may be cut in its bytes
pub parts_of-bytes : (w : List ℕ) → parts_of (bytes w) ≡ parts_bytes (parts_of w)
unfolding parts_of
parts_of-bytes w =
    let one = fragment_parts (Some (before 58 w)) (unwrap_or (after 58 w) []) in
    let e : fragment_parts (Some (before 58 (bytes w))) (unwrap_or (after 58 (bytes w)) []) ≡ parts_bytes one =
    ap (λ x. fragment_parts (Some x) (unwrap_or (after 58 (bytes w)) [])) (before-bytes 58 w (omega arith)).0
    ∙ (ap (λ x. fragment_parts (Some (bytes (before 58 w))) (unwrap_or x [])) (after-bytes 58 w (omega arith))
    ∙ (ap (fragment_parts (Some (bytes (before 58 w)))) (unwrapped (after 58 w)) ∙ fragment-bytes (Some (before 58 w)) (unwrap_or (after 58 w) []))) in
    same_under (has_scheme w) _ (parts_bytes one) _ (parts_bytes (fragment_parts None w)) _ (has_scheme-bytes w) (λ _. e) (fragment-bytes None w)
    ∙ either (has_scheme w) one (fragment_parts None w)
  where
    either : (b : Bool) (x y : Parts) → cond b (parts_bytes x) (parts_bytes y) ≡ parts_bytes (cond b x y)
    either true x y = refl
    either false x y = refl

-- recomposition
with_scheme-bytes : (o : Option (List ℕ)) (w : List ℕ) → with_scheme (part_bytes o) (bytes w) ≡ bytes (with_scheme o w)
with_scheme-bytes None w = refl
with_scheme-bytes (Some s) w = ap (λ x. bytes s ++ x) (sym (bytes-cons 58 w (omega arith))) ∙ sym (encodes-append s (58 ∷ w))

-- an authority is put together in bytes
with_authority-bytes : (o : Option (List ℕ)) (w : List ℕ) → with_authority (part_bytes o) (bytes w) ≡ bytes (with_authority o w)
with_authority-bytes None w = refl
with_authority-bytes (Some a) w =
    ap (λ x. 47 ∷ 47 ∷ x) (sym (encodes-append a w)) ∙ sym (ahead (47 ∷ 47 ∷ []) (a ++ w) refl)

-- a query or fragment is put together in bytes
with_suffix-bytes : (k : ℕ) (o : Option (List ℕ)) (w : List ℕ) → k < 128 → bytes w ++ suffix k (part_bytes o) ≡ bytes (w ++ suffix k o)
with_suffix-bytes k o w l = ap (λ x. bytes w ++ x) (sym (bytes-suffix k o l)) ∙ sym (encodes-append w (suffix k o))

-- a reference may be put together from the bytes of its parts
pub recompose-bytes : (p : Parts) → recompose (parts_bytes p) ≡ bytes (recompose p)
recompose-bytes p =
    let h = with_authority p.authority p.path in
    let u = h ++ suffix 63 p.query in
    ap (with_scheme (part_bytes p.scheme))
    (ap (λ x. (x ++ suffix 63 (part_bytes p.query)) ++ suffix 35 (part_bytes p.fragment)) (with_authority-bytes p.authority p.path)
    ∙ (ap (λ x. x ++ suffix 35 (part_bytes p.fragment)) (with_suffix-bytes 63 p.query h (omega arith)) ∙ with_suffix-bytes 35 p.fragment u (omega arith)))
    ∙ with_scheme-bytes p.scheme (u ++ suffix 35 p.fragment)

-- the target
directory-bytes : (w : List ℕ) → directory (bytes w) ≡ bytes (directory w)
directory-bytes w =
    let h = has_slash-bytes w in
    same_under (has_slash w) _ (bytes (parent w ++ 47 ∷ [])) _ [] [] h.0
    (λ _. ap (λ x. x ++ 47 ∷ []) h.1
    ∙ (ap (λ x. bytes (parent w) ++ x) (sym (bytes-cons 47 [] (omega arith))) ∙ sym (encodes-append (parent w) (47 ∷ [])))) refl
    ∙ sym (either_path (has_slash w) (parent w ++ 47 ∷ []) [])

-- a base path that is not empty is merged by its directory
merged-some : (a w path : List ℕ) → (w ≡ [] → ⊥) → merge_onto (Some a) w path ≡ directory w ++ path
merged-some a [] path n = absurd (n refl)
merged-some a (c ∷ w) path n = refl

-- a directory and a path, in bytes
directory-append-bytes : (w path : List ℕ) → directory (bytes w) ++ bytes path ≡ bytes (directory w ++ path)
directory-append-bytes w path = ap (λ x. x ++ bytes path) (directory-bytes w) ∙ sym (encodes-append (directory w) path)

-- merge, in bytes
merge-bytes : (o : Option (List ℕ)) (w path : List ℕ) → merge_onto (part_bytes o) (bytes w) (bytes path) ≡ bytes (merge_onto o w path)
merge-bytes None w path = directory-append-bytes w path
merge-bytes (Some a) [] path = sym (bytes-cons 47 path (omega arith))
merge-bytes (Some a) (c ∷ w) path =
    merged-some (bytes a) (bytes (c ∷ w)) (bytes path) (bytes-nonempty (c ∷ w) (λ (e : c ∷ w ≡ []). cc)) ∙ directory-append-bytes (c ∷ w) path

-- the path before its dots are removed, where the reference has one
joined-some : (b : Parts) (w : List ℕ) → (w ≡ [] → ⊥) → joined b w ≡ cond (begins (47 ∷ []) w) w (merge_onto b.authority b.path w)
joined-some b [] n = absurd (n refl)
joined-some b (c ∷ w) n = ap (λ x. cond x (c ∷ w) (merge_onto b.authority b.path (c ∷ w))) (sym (first_byte c w))

-- the path before its dots are removed, in bytes
joined-bytes : (b : Parts) (w : List ℕ) → joined (parts_bytes b) (bytes w) ≡ bytes (joined b w)
joined-bytes b [] = refl
joined-bytes b (c ∷ w) =
    let n : c ∷ w ≡ [] → ⊥ = λ e. cc in
    joined-some (parts_bytes b) (bytes (c ∷ w)) (bytes-nonempty (c ∷ w) n)
    ∙ (same_under (begins (47 ∷ []) (c ∷ w)) _ (bytes (c ∷ w)) _ _ _ (begins-bytes (47 ∷ []) (c ∷ w) refl) (λ _. refl) (merge-bytes b.authority b.path (c ∷ w))
    ∙ (sym (either_path (begins (47 ∷ []) (c ∷ w)) (c ∷ w) (merge_onto b.authority b.path (c ∷ w))) ∙ ap bytes (sym (joined-some b (c ∷ w) n))))

-- the query that is taken, in bytes
or_else-bytes : (q r : Option (List ℕ)) → or_else (part_bytes q) (part_bytes r) ≡ part_bytes (or_else q r)
or_else-bytes None r = refl
or_else-bytes (Some q) r = refl

-- the target of a reference with a path
path_target-some : (b r : Parts) (w : List ℕ) → (w ≡ [] → ⊥) →
    path_target b r w ≡ record { scheme = b.scheme; authority = b.authority; path = remove_dots (joined b w); query = r.query; fragment = r.fragment }
path_target-some b r [] n = absurd (n refl)
path_target-some b r (c ∷ w) n = refl

-- the target by the path, in bytes
path_target-bytes : (b r : Parts) (w : List ℕ) → path_target (parts_bytes b) (parts_bytes r) (bytes w) ≡ parts_bytes (path_target b r w)
path_target-bytes b r [] =
    ap (λ x. record {
      scheme = part_bytes b.scheme;
      authority = part_bytes b.authority;
      path = bytes b.path;
      query = x;
      fragment = part_bytes r.fragment;
    }) (or_else-bytes r.query b.query)
path_target-bytes b r (c ∷ w) =
    path_target-some (parts_bytes b) (parts_bytes r) (bytes (c ∷ w)) (bytes-nonempty (c ∷ w) (λ (e : c ∷ w ≡ []). cc))
    ∙ ap (λ x. record {
      scheme = part_bytes b.scheme;
      authority = part_bytes b.authority;
      path = x;
      query = part_bytes r.query;
      fragment = part_bytes r.fragment;
    })
    (ap remove_dots (joined-bytes b (c ∷ w)) ∙ remove_dots-bytes (joined b (c ∷ w)))

-- the target by the authority, in bytes
authority_target-bytes : (b r : Parts) (o : Option (List ℕ)) →
    authority_target (parts_bytes b) (parts_bytes r) (part_bytes o) ≡ parts_bytes (authority_target b r o)
authority_target-bytes b r None = path_target-bytes b r r.path
authority_target-bytes b r (Some a) =
    ap (λ x. record {
      scheme = part_bytes b.scheme;
      authority = Some (bytes a);
      path = x;
      query = part_bytes r.query;
      fragment = part_bytes r.fragment;
    }) (remove_dots-bytes r.path)

-- a reference may be resolved in bytes, and its result is the UTF-8 of the IRI
pub target-bytes : (text reference : List ℕ) → recompose (target (parts_of (bytes text)) (parts_of (bytes reference))) ≡ bytes
    (recompose (target (parts_of text) (parts_of reference)))
target-bytes text reference =
    let b = parts_of text in
    let r = parts_of reference in
    ap (λ x. recompose (target x (parts_of (bytes reference)))) (parts_of-bytes text)
    ∙ (ap (λ x. recompose (target (parts_bytes b) x)) (parts_of-bytes reference)
    ∙ (ap recompose (authority_target-bytes b r r.authority) ∙ recompose-bytes (target b r)))
