-- A row of prefixes and the others after it are one list: what is bound in it, how a prefix is set, and what all texts have.
use Rattle.rdf_iri.proofs.Prelude.{◌≡◌, ◌≤◌, ◌<◌, ◌+◌, ◌*◌, ℕ, suc, Bool, true, false, cond, List, [], ◌∷◌, ◌++◌, length, take, drop, get_or, Option, Some, None, refl, sym, ap, ap₂, ◌∙◌, subst, append_assoc, ⊎_elim, arith, add-one, length-append, set, take-suc, drop-cons, String, is_some, string_bytes, chars, bytes_eq, IsUtf8, sum_by, option_copied, BTreeMap, get_by_text, cases_Bool, cond-true, cond-false, append-nil, take-append-drop, length-take-le, IsUtf8-string_bytes, bytes_eq-Decides, sum_by-cons, sum_by-append, equal, byte_len, text_of, bound_to, binding_bytes, entries_of, KeptApart, StandsAt, Sets, Sizes}
use native.Mathlib.Nat.{mul-add, mul_comm}
use denote.Ref.{Bor}
use Rattle.std.proofs.lemmas.Nat.{mul-le}
use Rattle.rdf_iri.proofs.TextsLemmas.{equal-true, equal-self}
use Rattle.rdf_iri.proofs.ScopeLemmas.{swapped, some_not, same_text, length-entries_of, bound_to-text}

-- where a prefix is not bound, the first has another, and it is not bound after it
pub parted : (e : List ℕ × List ℕ) (es : List (List ℕ × List ℕ)) (q : List ℕ) → bound_to (e ∷ es) q ≡ None → (equal q e.0 ≡ false) × (bound_to es q ≡ None)
parted e es q h =
    ⊎_elim
    (λ (t : equal q e.0 ≡ true). absurd (some_not _ (ap is_some (cond-true (equal q e.0) (Some e.1) (bound_to es q) t)) h))
    (λ (f : equal q e.0 ≡ false). (f, sym (cond-false (equal q e.0) (Some e.1) (bound_to es q) f) ∙ h))
    (cases_Bool (equal q e.0))

-- what is not bound in front is bound as it is after it
pub bound_to-after : (xs ys : List (List ℕ × List ℕ)) (q : List ℕ) → bound_to xs q ≡ None → bound_to (xs ++ ys) q ≡ bound_to ys q
bound_to-after [] ys q h = refl
bound_to-after (e ∷ xs) ys q h =
    let p = parted e xs q h in
    cond-false (equal q e.0) (Some e.1) (bound_to (xs ++ ys) q) p.0 ∙ bound_to-after xs ys q p.1

-- a prefix that stands in the row is bound
pub bound_to-there : (row others : List (List ℕ × List ℕ)) (p : List ℕ) (i : ℕ) (s : StandsAt row p i) → bound_to (row ++ others) p ≡ Some s.iri
bound_to-there row others p i s =
    ap (λ (r : List (List ℕ × List ℕ)). bound_to (r ++ others) p) s.there
    ∙ (ap (λ (r : List (List ℕ × List ℕ)). bound_to r p) (append_assoc s.front ((p, s.iri) ∷ s.rest) others)
    ∙ (bound_to-after s.front ((p, s.iri) ∷ (s.rest ++ others)) p s.before
    ∙ cond-true (equal p p) (Some s.iri) (bound_to (s.rest ++ others) p) (equal-self p)))

-- another entry in front changes nothing
passed : (q : List ℕ) (e : List ℕ × List ℕ) (o n : Option (List ℕ)) (p iri : List ℕ) → equal p e.0 ≡ false → n ≡ cond (equal p q) (Some iri) o →
    cond (equal q e.0) (Some e.1) n ≡ cond (equal p q) (Some iri) (cond (equal q e.0) (Some e.1) o)
passed q e o n p iri k h =
    ⊎_elim
    (λ (t : equal q e.0 ≡ true).
    let d : equal p q ≡ false = subst (λ (x : List ℕ). equal p x ≡ false) (sym (equal-true q e.0 t)) k in
    cond-true (equal q e.0) (Some e.1) n t
    ∙ sym (cond-false (equal p q) (Some iri) (cond (equal q e.0) (Some e.1) o) d ∙ cond-true (equal q e.0) (Some e.1) o t))
    (λ (f : equal q e.0 ≡ false).
    cond-false (equal q e.0) (Some e.1) n f ∙ (h ∙ ap (λ (x : Option (List ℕ)). cond (equal p q) (Some iri) x) (sym (cond-false (equal q e.0) (Some e.1) o f))))
    (cases_Bool (equal q e.0))

-- what is set after entries with other prefixes is set in all
pub Sets-after : (front old new : List (List ℕ × List ℕ)) (p iri : List ℕ) → bound_to front p ≡ None → Sets old p iri new →
    Sets (front ++ old) p iri (front ++ new)
Sets-after [] old new p iri h s = s
Sets-after (e ∷ f) old new p iri h s =
    let k = parted e f p h in
    let r = Sets-after f old new p iri k.1 s in
    let same : ◌≡◌ {A = ℕ} (cond (is_some (bound_to (e ∷ (f ++ old)) p)) 0 1) (cond (is_some (bound_to (f ++ old) p)) 0 1) =
    ap {B = ℕ} (λ (o : Option (List ℕ)). cond (is_some o) 0 1) (cond-false (equal p e.0) (Some e.1) (bound_to (f ++ old) p) k.0) in
    let count = r.count in
    record {
      bound = λ q. passed q e (bound_to (f ++ old) q) (bound_to (f ++ new) q) p iri k.0 (r.bound q);
      count = omega (arith, count, same);
    }

-- a prefix is set where it stands
Sets-at : (p was iri : List ℕ) (rest : List (List ℕ × List ℕ)) → Sets ((p, was) ∷ rest) p iri ((p, iri) ∷ rest)
Sets-at p was iri rest =
    let here : ◌≡◌ {A = ℕ} (cond (is_some (bound_to ((p, was) ∷ rest) p)) 0 1) 0 =
    ap {B = ℕ} (λ (o : Option (List ℕ)). cond (is_some o) 0 1) (cond-true (equal p p) (Some was) (bound_to rest p) (equal-self p)) in
    record {
      bound = λ q. ⊎_elim
          (λ (t : equal q p ≡ true).
          cond-true (equal q p) (Some iri) (bound_to rest q) t
          ∙ sym (cond-true (equal p q) (Some iri) (cond (equal q p) (Some was) (bound_to rest q)) (swapped p q ∙ t)))
          (λ (f : equal q p ≡ false).
          cond-false (equal q p) (Some iri) (bound_to rest q) f
          ∙ sym (cond-false (equal p q) (Some iri) (cond (equal q p) (Some was) (bound_to rest q)) (swapped p q ∙ f)
          ∙ cond-false (equal q p) (Some was) (bound_to rest q) f))
          (cases_Bool (equal q p));
      count = omega (arith, here);
    }

-- a new one is set in front of others
Sets-new : (others : List (List ℕ × List ℕ)) (p iri : List ℕ) → bound_to others p ≡ None → Sets others p iri ((p, iri) ∷ others)
Sets-new others p iri h =
    let more : ◌≡◌ {A = ℕ} (cond (is_some (bound_to others p)) 0 1) 1 = ap {B = ℕ} (λ (o : Option (List ℕ)). cond (is_some o) 0 1) h in
    record {
      bound = λ q. ap (λ (b : Bool). cond b (Some iri) (bound_to others q)) (swapped q p);
      count = omega (arith, more);
    }

-- so no prefix stands twice after it, if none did
KeptApart-after : (front xs ys os ns : List (List ℕ × List ℕ)) (p iri : List ℕ) → bound_to front p ≡ None → Sets (xs ++ os) p iri (ys ++ ns) →
    KeptApart ys ns → KeptApart (front ++ xs) os → KeptApart (front ++ ys) ns
KeptApart-after [] xs ys os ns p iri h s k a = k
KeptApart-after (e ∷ f) xs ys os ns p iri h s k a =
    let t = parted e f p h in
    let n : bound_to (f ++ (ys ++ ns)) e.0 ≡ None =
    (Sets-after f (xs ++ os) (ys ++ ns) p iri t.1 s).bound e.0
    ∙ (cond-false (equal p e.0) (Some iri) (bound_to (f ++ (xs ++ os)) e.0) t.0
    ∙ (ap (λ (r : List (List ℕ × List ℕ)). bound_to r e.0) (sym (append_assoc f xs os)) ∙ a.0)) in
    (ap (λ (r : List (List ℕ × List ℕ)). bound_to r e.0) (append_assoc f ys ns) ∙ n, KeptApart-after f xs ys os ns p iri t.1 s k a.1)

KeptApart-rest : (front xs os : List (List ℕ × List ℕ)) → KeptApart (front ++ xs) os → KeptApart xs os
KeptApart-rest [] xs os a = a
KeptApart-rest (e ∷ f) xs os a = KeptApart-rest f xs os a.1

-- the row with another IRI for a prefix that stands in it
abbrev pub anew : {row : List (List ℕ × List ℕ)} {p : List ℕ} {i : ℕ} → StandsAt row p i → List ℕ → List (List ℕ × List ℕ)
anew {p = p} s iri = s.front ++ (p, iri) ∷ s.rest

pub Sets-anew : (row others : List (List ℕ × List ℕ)) (p iri : List ℕ) (i : ℕ) (s : StandsAt row p i) → Sets (row ++ others) p iri (anew s iri ++ others)
Sets-anew row others p iri i s =
    let from : row ++ others ≡ s.front ++ ((p, s.iri) ∷ (s.rest ++ others)) =
    ap (λ (r : List (List ℕ × List ℕ)). r ++ others) s.there ∙ append_assoc s.front ((p, s.iri) ∷ s.rest) others in
    let to : anew s iri ++ others ≡ s.front ++ ((p, iri) ∷ (s.rest ++ others)) = append_assoc s.front ((p, iri) ∷ s.rest) others in
    subst (λ (o : List (List ℕ × List ℕ)). Sets o p iri (anew s iri ++ others)) (sym from)
    (subst (λ (n : List (List ℕ × List ℕ)). Sets (s.front ++ ((p, s.iri) ∷ (s.rest ++ others))) p iri n) (sym to)
    (Sets-after s.front ((p, s.iri) ∷ (s.rest ++ others)) ((p, iri) ∷ (s.rest ++ others)) p iri s.before (Sets-at p s.iri iri (s.rest ++ others))))

pub KeptApart-anew : (row others : List (List ℕ × List ℕ)) (p iri : List ℕ) (i : ℕ) (s : StandsAt row p i) → KeptApart row others →
    KeptApart (anew s iri) others
KeptApart-anew row others p iri i s a =
    let b = subst (λ (r : List (List ℕ × List ℕ)). KeptApart r others) s.there a in
    let c = KeptApart-rest s.front ((p, s.iri) ∷ s.rest) others b in
    KeptApart-after s.front ((p, s.iri) ∷ s.rest) ((p, iri) ∷ s.rest) others others p iri s.before (Sets-at p s.iri iri (s.rest ++ others)) (c.0, c.1) b

-- the row with a prefix at its end that is nowhere bound
pub Sets-pushed : (row others : List (List ℕ × List ℕ)) (p iri : List ℕ) → bound_to others p ≡ None → bound_to row p ≡ None →
    Sets (row ++ others) p iri ((row ++ (p, iri) ∷ []) ++ others)
Sets-pushed row others p iri e h =
    subst (λ (n : List (List ℕ × List ℕ)). Sets (row ++ others) p iri n) (sym (append_assoc row ((p, iri) ∷ []) others))
    (Sets-after row others ((p, iri) ∷ others) p iri h (Sets-new others p iri e))

pub KeptApart-pushed : (row others : List (List ℕ × List ℕ)) (p iri : List ℕ) → bound_to others p ≡ None → bound_to row p ≡ None →
    KeptApart row others → KeptApart (row ++ (p, iri) ∷ []) others
KeptApart-pushed row others p iri e h a =
    KeptApart-after row [] ((p, iri) ∷ []) others others p iri h (Sets-new others p iri e) (e, tt)
    (subst (λ (r : List (List ℕ × List ℕ)). KeptApart r others) (sym (append-nil row)) a)

-- the others with a prefix set that is not in the row
pub KeptApart-others : (row old new : List (List ℕ × List ℕ)) (p iri : List ℕ) → bound_to row p ≡ None → Sets old p iri new →
    KeptApart row old → KeptApart row new
KeptApart-others row old new p iri h s a =
    subst (λ (r : List (List ℕ × List ℕ)). KeptApart r new) (append-nil row)
    (KeptApart-after row [] [] old new p iri h s tt (subst (λ (r : List (List ℕ × List ℕ)). KeptApart r old) (sym (append-nil row)) a))

-- what is bound after a row is so in all
pub bound_to-apart : (row others : List (List ℕ × List ℕ)) → KeptApart row others → (q iri : List ℕ) → bound_to others q ≡ Some iri →
    bound_to (row ++ others) q ≡ Some iri
bound_to-apart [] others a q iri h = h
bound_to-apart (e ∷ row) others a q iri h =
    let r = bound_to-apart row others a.1 q iri h in
    ⊎_elim
    (λ (t : equal q e.0 ≡ true).
    absurd (some_not _ (ap is_some (ap (bound_to (row ++ others)) (sym (equal-true q e.0 t)) ∙ r)) a.0))
    (λ (f : equal q e.0 ≡ false). cond-false (equal q e.0) (Some e.1) (bound_to (row ++ others) q) f ∙ r)
    (cases_Bool (equal q e.0))

-- the texts of a row, each of which is bound within a limit
pub row_within : (row others : List (List ℕ × List ℕ)) (most : ℕ) → KeptApart row others →
    ((q iri : List ℕ) → bound_to (row ++ others) q ≡ Some iri → byte_len q + byte_len iri ≤ most) → sum_by binding_bytes row ≤ length row * most
row_within [] others most a f = omega arith
row_within (e ∷ row) others most a f =
    let one = f e.0 e.1 (cond-true (equal e.0 e.0) (Some e.1) (bound_to (row ++ others) e.0) (equal-self e.0)) in
    let more = row_within row others most a.1 (λ q iri h. f q iri (passes q iri h)) in
    let sum = sum_by-cons binding_bytes e row in
    let size : length (e ∷ row) * most ≡ most + length row * most = omega arith in
    omega (arith, one, more, sum, size)
  where
    passes : (q iri : List ℕ) → bound_to (row ++ others) q ≡ Some iri → bound_to (e ∷ (row ++ others)) q ≡ Some iri
    passes q iri h =
        ⊎_elim
        (λ (t : equal q e.0 ≡ true).
        absurd (some_not _ (ap is_some (ap (bound_to (row ++ others)) (sym (equal-true q e.0 t)) ∙ h)) a.0))
        (λ (g : equal q e.0 ≡ false). cond-false (equal q e.0) (Some e.1) (bound_to (row ++ others) q) g ∙ h)
        (cases_Bool (equal q e.0))

-- entries of a row with more after it
pub entries_of-append : {Z : Type 0} (es fs : List (String Z × List ℕ)) → entries_of (es ++ fs) ≡ entries_of es ++ entries_of fs
entries_of-append [] fs = refl
entries_of-append (e ∷ es) fs = ap (λ (x : List (List ℕ × List ℕ)). (chars (string_bytes e.0), e.1) ∷ x) (entries_of-append es fs)

-- a prefix and its IRI, of an entry
abbrev pub entry_of : {Z : Type 0} → String Z × List ℕ → List ℕ × List ℕ
entry_of e = (chars (string_bytes e.0), e.1)

-- a row, cut where an entry stands
cut_at : {Z : Type 0} (row : List (String Z × List ℕ)) (i : ℕ) (r : String Z × List ℕ) → i < length row → r ≡ get_or row i r →
    entries_of row ≡ entries_of (take i row) ++ entry_of r ∷ entries_of (drop (suc i) row)
cut_at row i r l e =
    ap entries_of (sym (take-append-drop i row))
    ∙ (entries_of-append (take i row) (drop i row)
    ∙ ap (λ (x : List (List ℕ × List ℕ)). entries_of (take i row) ++ x)
    (ap entries_of (drop-cons row i r l) ∙ ap (λ x. entry_of x ∷ entries_of (drop (suc i) row)) (sym e)))

-- the entries in front of a place are as many as the place says
pub length-front : {Z : Type 0} (row : List (String Z × List ℕ)) (i : ℕ) → i < length row → length (entries_of (take i row)) ≡ i
length-front row i l = length-entries_of (take i row) ∙ length-take-le i row (omega (arith, l))

-- an entry whose key has the bytes of the prefix stands at its place, if none before it does
pub stands_at : {Z : Type 0} (row : List (String Z × List ℕ)) (i : ℕ) (r : String Z × List ℕ) (q : List ℕ) → i < length row → r ≡ get_or row i r →
    bytes_eq (string_bytes r.0) q ≡ true → bound_to (entries_of (take i row)) (chars q) ≡ None → StandsAt (entries_of row) (chars q) i
stands_at row i r q l e t h =
    let key : chars (string_bytes r.0) ≡ chars q = ap chars ((bytes_eq-Decides (string_bytes r.0) q).0 t) in
    record {
      front = entries_of (take i row);
      iri = r.1;
      rest = entries_of (drop (suc i) row);
      there = cut_at row i r l e ∙ ap (λ (k : List ℕ). entries_of (take i row) ++ (k, r.1) ∷ entries_of (drop (suc i) row)) key;
      count = length-front row i l;
      before = h;
    }

-- a row without the prefix, and one entry more with another key
pub goes_on : {Z : Type 0} (row : List (String Z × List ℕ)) (i : ℕ) (r : String Z × List ℕ) (q : List ℕ) → i < length row → r ≡ get_or row i r → IsUtf8 q →
    bytes_eq (string_bytes r.0) q ≡ false → bound_to (entries_of (take i row)) (chars q) ≡ None → bound_to (entries_of (take (i + 1) row)) (chars q) ≡ None
goes_on row i r q l e u f h =
    let other : equal (chars q) (chars (string_bytes r.0)) ≡ false =
    swapped (chars q) (chars (string_bytes r.0)) ∙ (same_text (string_bytes r.0) q (IsUtf8-string_bytes r.0) u ∙ f) in
    let one : bound_to (entries_of (get_or row i r ∷ [])) (chars q) ≡ None =
    ap (λ x. bound_to (entries_of (x ∷ [])) (chars q)) (sym e) ∙ cond-false (equal (chars q) (chars (string_bytes r.0))) (Some r.1) None other in
    ap (λ (n : ℕ). bound_to (entries_of (take n row)) (chars q)) (add-one i)
    ∙ (ap (λ x. bound_to (entries_of x) (chars q)) (take-suc row i r l)
    ∙ (ap (λ (x : List (List ℕ × List ℕ)). bound_to x (chars q)) (entries_of-append (take i row) (get_or row i r ∷ []))
    ∙ (bound_to-after (entries_of (take i row)) (entries_of (get_or row i r ∷ [])) (chars q) h ∙ one)))

-- what stands at a place is within the row
pub place_within : {Z : Type 0} (row : List (String Z × List ℕ)) (p : List ℕ) (i : ℕ) (s : StandsAt (entries_of row) p i) → i < length row
place_within row p i s =
    let all = ap length s.there in
    let parts = length-append s.front ((p, s.iri) ∷ s.rest) in
    let count = s.count in
    let same = length-entries_of row in
    omega (arith, all, parts, count, same)

-- the entry at a place is the one that stands there
entry_there : {Z : Type 0} (row : List (String Z × List ℕ)) (i : ℕ) (r : String Z × List ℕ) (front rest : List (List ℕ × List ℕ)) (e : List ℕ × List ℕ) →
    entries_of row ≡ front ++ e ∷ rest → length front ≡ i → r ≡ get_or row i r → entry_of r ≡ e
entry_there [] i r [] rest e h n k = absurd (cc)
entry_there [] i r (f ∷ front) rest e h n k = absurd (cc)
entry_there (x ∷ row) i r [] rest e h n k =
    let z : r ≡ x = k ∙ ap (λ (j : ℕ). get_or (x ∷ row) j r) (sym n) in
    let y : entry_of x ≡ e = cc in
    ap entry_of z ∙ y
entry_there (x ∷ row) i r (f ∷ front) rest e h n k =
    let z : r ≡ get_or row (length front) r = k ∙ ap (λ (j : ℕ). get_or (x ∷ row) j r) (sym n) in
    let y : entries_of row ≡ front ++ e ∷ rest = cc in
    entry_there row (length front) r front rest e y refl z

pub iri_there : {Z : Type 0} (row : List (String Z × List ℕ)) (p : List ℕ) (i : ℕ) (r : String Z × List ℕ)
    (s : StandsAt (entries_of row) p i) → r ≡ get_or row i r → s.iri ≡ r.1
iri_there row p i r s k = ap (λ (x : List ℕ × List ℕ). x.1) (sym (entry_there row i r s.front s.rest (p, s.iri) s.there s.count k))

pub key_there : {Z : Type 0} (row : List (String Z × List ℕ)) (p : List ℕ) (i : ℕ) (r : String Z × List ℕ)
    (s : StandsAt (entries_of row) p i) → r ≡ get_or row i r →
    chars (string_bytes r.0) ≡ p
key_there row p i r s k = ap (λ (x : List ℕ × List ℕ). x.0) (entry_there row i r s.front s.rest (p, s.iri) s.there s.count k)

-- with another IRI at a place the row is the one with this IRI
set_there : {Z : Type 0} (row : List (String Z × List ℕ)) (i : ℕ) (r : String Z × List ℕ) (front rest : List (List ℕ × List ℕ)) (e : List ℕ × List ℕ) →
    entries_of row ≡ front ++ e ∷ rest → length front ≡ i → entries_of (set row i r) ≡ front ++ entry_of r ∷ rest
set_there [] i r [] rest e h n = absurd (cc)
set_there [] i r (f ∷ front) rest e h n = absurd (cc)
set_there (x ∷ row) i r [] rest e h n =
    let y : entries_of row ≡ rest = cc in
    ap (λ (j : ℕ). entries_of (set (x ∷ row) j r)) (sym n) ∙ ap (λ (t : List (List ℕ × List ℕ)). entry_of r ∷ t) y
set_there (x ∷ row) i r (f ∷ front) rest e h n =
    let y : entries_of row ≡ front ++ e ∷ rest = cc in
    let z : entry_of x ≡ f = cc in
    ap (λ (j : ℕ). entries_of (set (x ∷ row) j r)) (sym n)
    ∙ (ap (λ (t : List (List ℕ × List ℕ)). entry_of x ∷ t) (set_there row (length front) r front rest e y refl)
    ∙ ap (λ (t : List ℕ × List ℕ). t ∷ (front ++ entry_of r ∷ rest)) z)

pub entries_of-anew : {Z : Type 0} (row : List (String Z × List ℕ)) (p iri : List ℕ) (i : ℕ) (r : String Z × List ℕ) (s : StandsAt (entries_of row) p i) →
    chars (string_bytes r.0) ≡ p → r.1 ≡ iri → entries_of (set row i r) ≡ anew s iri
entries_of-anew row p iri i r s k e =
    set_there row i r s.front s.rest (p, s.iri) s.there s.count
    ∙ (ap (λ (x : List ℕ). s.front ++ (x, r.1) ∷ s.rest) k ∙ ap (λ (x : List ℕ). s.front ++ (p, x) ∷ s.rest) e)

-- all texts keep to the limits where each binding does
pub all_within : (row others : List (List ℕ × List ℕ)) (limits : Sizes) → KeptApart row others →
    ((q iri : List ℕ) → bound_to (row ++ others) q ≡ Some iri → (byte_len q ≤ 4 * limits.token) × (byte_len iri ≤ limits.iri)) →
    sum_by binding_bytes others ≤ length others * (4 * limits.token + limits.iri) → length (row ++ others) ≤ limits.bindings →
    sum_by binding_bytes (row ++ others) ≤ limits.bindings * (4 * limits.token + limits.iri)
all_within row others limits a f h l =
    let most = 4 * limits.token + limits.iri in
    let first = row_within row others most a (λ q iri b. sizes_of q iri (f q iri b)) in
    let both = sum_by-append binding_bytes row others in
    let count = length-append row others in
    let all = mul-le (length row + length others) most limits.bindings most (omega (arith, count, l)) (omega arith) in
    spread (length row) (length others) most (sum_by binding_bytes row) (sum_by binding_bytes others) (sum_by binding_bytes (row ++ others)) _ first h both all
  where
    sizes_of : (q iri : List ℕ) → (byte_len q ≤ 4 * limits.token) × (byte_len iri ≤ limits.iri) → byte_len q + byte_len iri ≤ 4 * limits.token + limits.iri
    sizes_of q iri h = let a = h.0 in let b = h.1 in omega (arith, a, b)

    spread : (a b m x y s n : ℕ) → x ≤ a * m → y ≤ b * m → s ≡ x + y → (a + b) * m ≤ n → s ≤ n
    spread a b m x y s n h k e l = let d : (a + b) * m ≡ a * m + b * m =
        mul_comm (a + b) m ∙ (mul-add m a b ∙ ap₂ (λ (c d : ℕ). c + d) (mul_comm m a) (mul_comm m b)) in omega (arith, h, k, e, l, d)

-- so those of the row do
pub row_bound : (row others : List (List ℕ × List ℕ)) (limits : Sizes) → KeptApart row others →
    ((q iri : List ℕ) → bound_to (row ++ others) q ≡ Some iri → (byte_len q ≤ 4 * limits.token) × (byte_len iri ≤ limits.iri)) →
    length (row ++ others) ≤ limits.bindings → sum_by binding_bytes row ≤ limits.bindings * (4 * limits.token + limits.iri)
row_bound row others limits a f l =
    let most = 4 * limits.token + limits.iri in
    let first = row_within row others most a (λ q iri b. sizes_of q iri (f q iri b)) in
    let count = length-append row others in
    let all = mul-le (length row) most limits.bindings most (omega (arith, count, l)) (omega arith) in
    le-trans first all
  where
    sizes_of : (q iri : List ℕ) → (byte_len q ≤ 4 * limits.token) × (byte_len iri ≤ limits.iri) → byte_len q + byte_len iri ≤ 4 * limits.token + limits.iri
    sizes_of q iri h = let a = h.0 in let b = h.1 in omega (arith, a, b)

    le-trans : {a b c : ℕ} → a ≤ b → b ≤ c → a ≤ c
    le-trans {a} {b} {c} p q = omega (arith, p, q)

-- what a reference that may be there refers to, in the words of std
pub text_copied : (o : Option (Bor (List ℕ))) → text_of o ≡ option_copied o
text_copied None = refl
text_copied (Some s) = refl

-- an entry that is found in the row is what its prefix is bound to
pub found_in_row : {Z : Type 0} (row seen others : List (String Z × List ℕ)) (all : List (List ℕ × List ℕ)) (p : List ℕ) (i : ℕ)
    (r : String Z × List ℕ) → seen ≡ row →
    entries_of row ++ entries_of others ≡ all → StandsAt (entries_of seen) p i → r ≡ get_or row i r → Some r.1 ≡ bound_to all p
found_in_row row seen others all p i r e v s g =
    let t = subst (λ x. StandsAt (entries_of x) p i) e s in
    ap Some (sym (iri_there row p i r t g)) ∙ sym (subst (λ x. bound_to x p ≡ Some t.iri) v (bound_to-there (entries_of row) (entries_of others) p i t))

-- and a prefix that is not in the row is bound as the map says
pub found_in_map : {Z : Type 0} (row seen : List (String Z × List ℕ)) (others : BTreeMap (String Z) (List ℕ)) (all : List (List ℕ × List ℕ))
    (prefix : List ℕ) (o : Option (Bor (List ℕ))) →
    IsUtf8 prefix → seen ≡ row → entries_of row ++ entries_of others.entries ≡ all → bound_to (entries_of seen) (chars prefix) ≡ None →
    option_copied o ≡ get_by_text others prefix →
    text_of o ≡ bound_to all (chars prefix)
found_in_map row seen others all prefix o u e v n g =
    let new = subst (λ x. bound_to (entries_of x) (chars prefix) ≡ None) e n in
    text_copied o
    ∙ (g ∙ (sym (bound_to-text others prefix u)
    ∙ (sym (bound_to-after (entries_of row) (entries_of others.entries) (chars prefix) new) ∙ ap (λ x. bound_to x (chars prefix)) v)))
