-- A row of many prefixes: where one stands by its bytes, and that each has its slot.
use Rattle.rdf_iri.proofs.Prelude.{◌≡◌, ◌≤◌, ◌<◌, ◌-◌, ◌%◌, ℕ, zero, suc, true, false, List, [], ◌∷◌, ◌++◌, length, take, drop, get_or, Option, Some, None, refl, sym, ap, ◌∙◌, subst, append_assoc, ⊎_elim, arith, length-append, set, String, is_some, MatchOption, string_bytes, chars, IsUtf8, cases_Bool, cases_lt, cond-true, cond-false, take-append-drop, get_or_append_left, get_or_push, length-set, IsUtf8-string_bytes, bytes_eq-Decides, equal, bound_to, entries_of, KeptApart, StandsAt, Names, HasSlot, keys_of, IsKeyAt, HaveSlots, KeepsSlots, Kept}
use Rattle.rdf_iri.proofs.TextsLemmas.{equal-true, equal-from}
use Rattle.rdf_iri.proofs.ScopeLemmas.{some_not, same_text}
use Rattle.rdf_iri.proofs.PrefixLemmas.{parted, bound_to-there, entries_of-append}

-- the prefix of an entry that was read
pub key_read : {Z : Type 0} (row : List (String Z × List ℕ)) (i : ℕ) (r : String Z × List ℕ) → i < length row → r ≡ get_or row i r →
    get_or (keys_of row) i [] ≡ string_bytes r.0
key_read [] i r l e = absurd (omega (arith, l))
key_read (x ∷ row) zero r l e = ap (λ s. string_bytes s.0) (sym e)
key_read (x ∷ row) (suc i) r l e = key_read row i r (omega (arith, l)) e

-- another IRI leaves the prefixes
keys_of-anew : {Z : Type 0} (row : List (String Z × List ℕ)) (i : ℕ) (r : String Z × List ℕ) (iri : List ℕ) → r ≡ get_or row i r →
    keys_of (set row i (r.0, iri)) ≡ keys_of row
keys_of-anew [] i r iri e = refl
keys_of-anew (x ∷ row) zero r iri e = ap (λ s. string_bytes s.0 ∷ keys_of row) e
keys_of-anew (x ∷ row) (suc i) r iri e = ap (λ (k : List (List ℕ)). string_bytes x.0 ∷ k) (keys_of-anew row i r iri e)

keys_of-append : {Z : Type 0} (es fs : List (String Z × List ℕ)) → keys_of (es ++ fs) ≡ keys_of es ++ keys_of fs
keys_of-append [] fs = refl
keys_of-append (e ∷ es) fs = ap (λ (k : List (List ℕ)). string_bytes e.0 ∷ k) (keys_of-append es fs)

length-keys_of : {Z : Type 0} (es : List (String Z × List ℕ)) → length (keys_of es) ≡ length es
length-keys_of [] = refl
length-keys_of (e ∷ es) = ap suc (length-keys_of es)

-- a row apart from others is apart
bound_to-alone : (xs ys : List (List ℕ × List ℕ)) (q : List ℕ) → bound_to (xs ++ ys) q ≡ None → bound_to (xs ++ []) q ≡ None
bound_to-alone [] ys q h = refl
bound_to-alone (e ∷ xs) ys q h =
    let p = parted e (xs ++ ys) q h in
    cond-false (equal q e.0) (Some e.1) (bound_to (xs ++ []) q) p.0 ∙ bound_to-alone xs ys q p.1

-- so no prefix stands twice in the row alone
pub KeptApart-alone : (row others : List (List ℕ × List ℕ)) → KeptApart row others → KeptApart row []
KeptApart-alone [] others a = tt
KeptApart-alone (e ∷ row) others a = (bound_to-alone row others e.0 a.0, KeptApart-alone row others a.1)

-- what is asked for where a prefix is sought in the row
pub record Sought {Z : Type 0} (slots : List ℕ) (row : List (String Z × List ℕ)) : Type 0 where
  pub placed : HaveSlots slots row
  pub apart : KeptApart (entries_of row) []

-- it holds of what is kept, as the code sees it
pub sought : {Z : Type 0} (slots seen_slots : List ℕ) (row seen others : List (String Z × List ℕ)) → seen_slots ≡ slots → seen ≡ row →
    Kept slots row others → Sought seen_slots seen
sought slots seen_slots row seen others e f k = record {
  placed = subst (λ s. HaveSlots s seen) (sym e) (subst (HaveSlots slots) (sym f) k.placed);
  apart = subst (λ r. KeptApart (entries_of r) []) (sym f) (KeptApart-alone (entries_of row) (entries_of others) k.apart);
}

-- a prefix that has these bytes at a place stands there, and at none before it
pub stands_where : {Z : Type 0} (row : List (String Z × List ℕ)) (q : List ℕ) (i : ℕ) → KeptApart (entries_of row) [] → IsKeyAt row q i →
    StandsAt (entries_of row) (chars q) i
stands_where [] q i a k = let w = k.within in absurd (omega (arith, w))
stands_where (x ∷ row) q zero a k =
    record {
      front = [];
      iri = x.1;
      rest = entries_of row;
      there = ap (λ (b : List ℕ). (chars b, x.1) ∷ entries_of row) k.same;
      count = refl;
      before = refl;
    }
stands_where (x ∷ row) q (suc i) a k =
    let w = k.within in
    let s = stands_where row q i a.1 (record { within = omega (arith, w); same = k.same }) in
    let p = chars (string_bytes x.0) in
    let other : equal (chars q) p ≡ false =
    ⊎_elim
    (λ (t : equal (chars q) p ≡ true).
    absurd (some_not _ (ap is_some (ap (bound_to (entries_of row ++ [])) (sym (equal-true (chars q) p t))
    ∙ bound_to-there (entries_of row) [] (chars q) i s)) a.0))
    (λ (f : equal (chars q) p ≡ false). f)
    (cases_Bool (equal (chars q) p))
    in
    record {
      front = (p, x.1) ∷ s.front;
      iri = s.iri;
      rest = s.rest;
      there = ap (λ (r : List (List ℕ × List ℕ)). (p, x.1) ∷ r) s.there;
      count = ap suc s.count;
      before = cond-false (equal (chars q) p) (Some x.1) (bound_to s.front (chars q)) other ∙ s.before;
    }

-- where a prefix is not bound it stands at no place
none_at : {Z : Type 0} (row : List (String Z × List ℕ)) (q : List ℕ) (i : ℕ) → bound_to (entries_of row) (chars q) ≡ None → IsKeyAt row q i → ⊥
none_at [] q i n k = let w = k.within in absurd (omega (arith, w))
none_at (x ∷ row) q zero n k =
    let t : equal (chars q) (chars (string_bytes x.0)) ≡ true = equal-from (chars q) (chars (string_bytes x.0)) (ap chars (sym k.same)) in
    some_not _ (ap is_some (cond-true (equal (chars q) (chars (string_bytes x.0))) (Some x.1) (bound_to (entries_of row) (chars q)) t)) n
none_at (x ∷ row) q (suc i) n k =
    let w = k.within in
    none_at row q i (parted (chars (string_bytes x.0), x.1) (entries_of row) (chars q) n).1 (record { within = omega (arith, w); same = k.same })

-- what stands at no place is not bound
absent : {Z : Type 0} (row : List (String Z × List ℕ)) (q : List ℕ) → IsUtf8 q → ((i : ℕ) → IsKeyAt row q i → ⊥) → bound_to (entries_of row) (chars q) ≡ None
absent [] q u f = refl
absent (x ∷ row) q u f =
    let k = string_bytes x.0 in
    let other : equal (chars q) (chars k) ≡ false =
    ⊎_elim
    (λ (t : equal (chars q) (chars k) ≡ true).
    absurd (f 0 (record { within = omega arith; same = sym ((bytes_eq-Decides q k).0 (sym (same_text q k u (IsUtf8-string_bytes x.0)) ∙ t)) })))
    (λ (e : equal (chars q) (chars k) ≡ false). e)
    (cases_Bool (equal (chars q) (chars k)))
    in
    cond-false (equal (chars q) (chars k)) (Some x.1) (bound_to (entries_of row) (chars q)) other
    ∙ absent row q u (λ i h. let w = h.within in f (suc i) (record { within = omega (arith, w); same = h.same }))

-- a place among the first is one of the row
stands_first : {Z : Type 0} (row : List (String Z × List ℕ)) (n : ℕ) (p : List ℕ) (i : ℕ) → StandsAt (entries_of (take n row)) p i →
    StandsAt (entries_of row) p i
stands_first row n p i s =
    record {
      front = s.front;
      iri = s.iri;
      rest = s.rest ++ entries_of (drop n row);
      there = ap entries_of (sym (take-append-drop n row))
          ∙ (entries_of-append (take n row) (drop n row)
          ∙ (ap (λ (r : List (List ℕ × List ℕ)). r ++ entries_of (drop n row)) s.there ∙ append_assoc s.front ((p, s.iri) ∷ s.rest) (entries_of (drop n row))));
      count = s.count;
      before = s.before;
    }

key_first : {Z : Type 0} (row : List (String Z × List ℕ)) (n : ℕ) (q : List ℕ) (i : ℕ) → IsKeyAt row q i → i < n → IsKeyAt (take n row) q i
key_first [] n q i k l = let w = k.within in absurd (omega (arith, w))
key_first (x ∷ row) zero q i k l = absurd (omega (arith, l))
key_first (x ∷ row) (suc n) q zero k l = record { within = omega arith; same = k.same }
key_first (x ∷ row) (suc n) q (suc i) k l =
    let w = k.within in
    let r = key_first row n q i (record { within = omega (arith, w); same = k.same }) (omega (arith, l)) in
    let v = r.within in
    record { within = omega (arith, v); same = r.same }

-- what has no slot, and is not among the first, is not bound
bound_to-many : {Z : Type 0} (slots : List ℕ) (row : List (String Z × List ℕ)) (q : List ℕ) → IsUtf8 q → HaveSlots slots row →
    ((i : ℕ) → HasSlot slots q i → IsKeyAt row q i → ⊥) → bound_to (entries_of (take 16 row)) (chars q) ≡ None → bound_to (entries_of row) (chars q) ≡ None
bound_to-many slots row q u have f n =
    absent row q u
    (λ i k. ⊎_elim
    (λ (l : i < 16). none_at (take 16 row) q i n (key_first row 16 q i k l))
    (λ (g : 16 ≤ i). f i (subst (λ (x : List ℕ). HasSlot slots x i) k.same (have i g k.within)) k)
    (cases_lt i 16))

-- the slots serve a row with another IRI
pub HaveSlots-anew : {Z : Type 0} (slots : List ℕ) (row : List (String Z × List ℕ)) (i : ℕ) (r : String Z × List ℕ) (iri : List ℕ) → r ≡ get_or row i r →
    HaveSlots slots row → HaveSlots slots (set row i (r.0, iri))
HaveSlots-anew slots row i r iri e have = λ place g l.
    let n = length-set row i (r.0, iri) in
    subst (λ (k : List (List ℕ)). HasSlot slots (get_or k place []) place) (sym (keys_of-anew row i r iri e)) (have place g (omega (arith, l, n)))

-- other slots that keep each serve the row
pub HaveSlots-kept : {Z : Type 0} (old new : List ℕ) (row : List (String Z × List ℕ)) → KeepsSlots old new → HaveSlots old row → HaveSlots new row
HaveSlots-kept old new row keeps have = λ place g l. keeps (get_or (keys_of row) place []) place (omega (arith, g)) (have place g l)

-- a prefix with a slot comes next
pub HaveSlots-pushed : {Z : Type 0} (slots : List ℕ) (row : List (String Z × List ℕ)) (key : String Z) (q iri : List ℕ) →
    string_bytes key ≡ q → HaveSlots slots row →
    (16 ≤ length row → HasSlot slots q (length row)) → HaveSlots slots (row ++ (key, iri) ∷ [])
HaveSlots-pushed slots row key q iri e have next = λ place g l.
    let all = keys_of-append row ((key, iri) ∷ []) in
    let n = length-append row ((key, iri) ∷ []) in
    let m = length-keys_of row in
    ⊎_elim
    (λ (h : place < length row).
    let same : get_or (keys_of (row ++ (key, iri) ∷ [])) place [] ≡ get_or (keys_of row) place [] =
    ap (λ (ks : List (List ℕ)). get_or ks place []) all ∙ get_or_append_left (keys_of row) (string_bytes key ∷ []) [] place (omega (arith, h, m)) in
    subst (λ (k : List ℕ). HasSlot slots k place) (sym same) (have place g h))
    (λ (h : length row ≤ place).
    let last : length row ≡ place = omega (arith, h, l, n) in
    let same : get_or (keys_of (row ++ (key, iri) ∷ [])) place [] ≡ q =
    ap (λ (ks : List (List ℕ)). get_or ks place []) all ∙ (get_or_push (keys_of row) (string_bytes key) [] place (m ∙ last) ∙ e) in
    subst (λ (k : List ℕ). HasSlot slots k place) (sym same) (subst (λ (j : ℕ). HasSlot slots q j) last (next (omega (arith, g, last)))))
    (cases_lt place (length row))

-- a slot has one place, where its mark is whole
pub Names-once : (slot mark place : ℕ) → mark % 65536 ≡ 0 → Names slot mark place → (slot % 65536 ≡ place) × (slot - slot % 65536 ≡ mark)
Names-once slot mark place w n = let s = n.small in let v = n.value in (omega (arith, w, s, v), omega (arith, w, s, v))

-- what is sought by its slots, and then among the first, is sought in the whole row
pub first_or_none : {Z : Type 0} (slots : List ℕ) (row : List (String Z × List ℕ)) (q : List ℕ) → IsUtf8 q → HaveSlots slots row →
    ((i : ℕ) → HasSlot slots q i → IsKeyAt row q i → ⊥) →
    (r : Option ℕ) → MatchOption r (bound_to (entries_of (take 16 row)) (chars q) ≡ None) (StandsAt (entries_of (take 16 row)) (chars q)) →
    MatchOption r (bound_to (entries_of row) (chars q) ≡ None) (StandsAt (entries_of row) (chars q))
first_or_none slots row q u have f None h = bound_to-many slots row q u have f h
first_or_none slots row q u have f (Some i) h = stands_first row 16 (chars q) i h
