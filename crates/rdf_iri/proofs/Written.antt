-- What is written piece by piece is the recomposed target.
use Rattle.rdf_iri.proofs.Prelude.{◌≡◌, ℕ, Bool, true, false, cond, List, [], ◌∷◌, ◌++◌, ◌==◌, length, take, drop, Option, Some, None, refl, sym, ap, ◌∙◌, ⊎_elim, append_assoc, arith, ◌≤◌, ◌+◌, ◌-◌, cases_Bool, eqb-true, eqb-false, eq-eqb, ne_eqb, and_from, and_left, cond-true, cond-false, take-take, take-append-le, length-append, take-append-add, drop-append_seam, take-append_seam, between_to_end, begins, Parts, parts_of, recompose, scheme_text, authority_text, with_scheme, with_authority, suffix, remove_dots, joined, merge_onto, merged_front, base_front, or_else, target, authority_target, path_target}

-- the parts, written one after the other, are the reference
pieces : (s a : Option (List ℕ)) (p u v : List ℕ) → (((scheme_text s ++ authority_text a) ++ p) ++ u) ++ v ≡ with_scheme s ((with_authority a p ++ u) ++ v)
pieces None None p u v = refl
pieces None (Some a) p u v = refl
pieces (Some s) None p u v = simp append_assoc
pieces (Some s) (Some a) p u v = simp append_assoc

-- what the buffer has after the last part is the reference
pub assembled : (t : Parts) (o1 o2 o3 o4 o5 : List ℕ) → o1 ≡ scheme_text t.scheme → o2 ≡ o1 ++ authority_text t.authority →
    o3 ≡ o2 ++ t.path → o4 ≡ o3 ++ suffix 63 t.query → o5 ≡ o4 ++ suffix 35 t.fragment → o5 ≡ recompose t
assembled t o1 o2 o3 o4 o5 e1 e2 e3 e4 e5 =
    let j : o5 ≡ (((scheme_text t.scheme ++ authority_text t.authority) ++ t.path) ++ suffix 63 t.query) ++ suffix 35 t.fragment = cc in
    j ∙ pieces t.scheme t.authority t.path (suffix 63 t.query) (suffix 35 t.fragment)

-- merge puts a front before the path
merge_front_of : (o : Option (List ℕ)) (p : List ℕ) (c : ℕ) (w : List ℕ) → merge_onto o p (c ∷ w) ≡ base_front o p ++ c ∷ w
merge_front_of None p c w = refl
merge_front_of (Some a) [] c w = refl
merge_front_of (Some a) (d ∷ p) c w = refl

-- a path begins with "/" where its first byte is one
pub first_byte : (c : ℕ) (w : List ℕ) → begins (47 ∷ []) (c ∷ w) ≡ (c == 47)
first_byte c w =
    ⊎_elim
    (λ t. let e : c ≡ 47 = eqb-true c 47 t in and_from (47 == c) true (eq-eqb 47 c (sym e)) refl ∙ sym t)
    (λ f. and_left (47 == c) true (ne_eqb 47 c (λ e. eqb-false c 47 f (sym e))) ∙ sym f)
    (cases_Bool (c == 47))

-- a path that begins with "/" needs no front
merge_pieces : (o : Option (List ℕ)) (p : List ℕ) (c : ℕ) (w : List ℕ) → cond (c == 47) (c ∷ w) (merge_onto o p (c ∷ w)) ≡ merged_front o p (c ∷ w) ++ c ∷ w
merge_pieces o p c w =
    ⊎_elim
    (λ t. cond-true (c == 47) (c ∷ w) (merge_onto o p (c ∷ w)) t
    ∙ ap (λ x. x ++ c ∷ w) (sym (cond-true (begins (47 ∷ []) (c ∷ w)) [] (base_front o p) (first_byte c w ∙ t))))
    (λ f. cond-false (c == 47) (c ∷ w) (merge_onto o p (c ∷ w)) f
    ∙ (merge_front_of o p c w ∙ ap (λ x. x ++ c ∷ w) (sym (cond-false (begins (47 ∷ []) (c ∷ w)) [] (base_front o p) (first_byte c w ∙ f)))))
    (cases_Bool (c == 47))

-- the joined path is a front and the path of the reference, as the code writes it
pub joined_pieces : (b : Parts) (c : ℕ) (w : List ℕ) → joined b (c ∷ w) ≡ merged_front b.authority b.path (c ∷ w) ++ c ∷ w
joined_pieces b c w = merge_pieces b.authority b.path c w

-- the target of a reference with an authority
with_own_authority : (b r : Parts) (a : List ℕ) → r.authority ≡ Some a →
    record { scheme = b.scheme; authority = r.authority; path = remove_dots r.path; query = r.query; fragment = r.fragment } ≡ target b r
with_own_authority b r a e =
    ap (λ x. record { scheme = b.scheme; authority = x; path = remove_dots r.path; query = r.query; fragment = r.fragment }) e
    ∙ sym (ap (authority_target b r) e)

-- the target of a reference with an empty path
with_base_path : (b r : Parts) → r.authority ≡ None → r.path ≡ [] →
    record { scheme = b.scheme; authority = b.authority; path = b.path; query = or_else r.query b.query; fragment = r.fragment } ≡ target b r
with_base_path b r e f = sym (ap (authority_target b r) e ∙ ap (path_target b r) f)

-- the target of a reference with a path
with_merged_path : (b r : Parts) (w : List ℕ) → r.authority ≡ None → r.path ≡ w → (w ≡ [] → ⊥) →
    record {
      scheme = b.scheme;
      authority = b.authority;
      path = remove_dots (merged_front b.authority b.path w ++ w);
      query = r.query;
      fragment = r.fragment;
    } ≡ target b r
with_merged_path b r [] e f n = absurd (n refl)
with_merged_path b r (c ∷ w) e f n =
    sym (ap (authority_target b r) e ∙ (ap (path_target b r) f
    ∙ ap (λ x. record { scheme = b.scheme; authority = b.authority; path = remove_dots x; query = r.query; fragment = r.fragment }) (joined_pieces b c w)))

-- the parts in hand are those of the texts
pub no_items : (w : List ℕ) → length w ≡ 0 → w ≡ []
no_items [] e = refl
no_items (c ∷ w) e = absurd (omega arith)

-- the target by the texts
of_texts : (b r : Parts) (text reference : List ℕ) → b ≡ parts_of text → r ≡ parts_of reference →
    recompose (target b r) ≡ recompose (target (parts_of text) (parts_of reference))
of_texts b r text reference e f = ap (λ x. recompose (target x r)) e ∙ ap (λ x. recompose (target (parts_of text) x)) f

-- what is written for a reference with an authority is the target
pub own_authority : (b r : Parts) (text reference a p o1 o2 o3 o4 m o5 : List ℕ) → b ≡ parts_of text → r ≡ parts_of reference →
    r.authority ≡ Some a → p ≡ r.path → o1 ≡ scheme_text b.scheme → o2 ≡ o1 ++ authority_text r.authority → o3 ≡ o2 ++ remove_dots p →
    o4 ≡ o3 ++ suffix 63 r.query → m ≡ o4 → o5 ≡ m ++ suffix 35 r.fragment → o5 ≡ recompose (target (parts_of text) (parts_of reference))
own_authority b r text reference a p o1 o2 o3 o4 m o5 eb er ea ep e1 e2 e3 e4 em e5 =
    assembled (record { scheme = b.scheme; authority = r.authority; path = remove_dots r.path; query = r.query; fragment = r.fragment })
    o1 o2 o3 o4 o5 e1 e2 (e3 ∙ ap (λ x. o2 ++ remove_dots x) ep) e4 (e5 ∙ ap (λ x. x ++ suffix 35 r.fragment) em)
    ∙ (ap recompose (with_own_authority b r a ea) ∙ of_texts b r text reference eb er)

-- what is written for one with an empty path
pub base_path : (b r : Parts) (q : Option (List ℕ)) (text reference p o1 o2 o3 o4 m o5 : List ℕ) → b ≡ parts_of text → r ≡ parts_of reference →
    r.authority ≡ None → length r.path ≡ 0 → p ≡ b.path → q ≡ or_else r.query b.query → o1 ≡ scheme_text b.scheme →
    o2 ≡ o1 ++ authority_text b.authority → o3 ≡ o2 ++ p →
    o4 ≡ o3 ++ suffix 63 q → m ≡ o4 → o5 ≡ m ++ suffix 35 r.fragment → o5 ≡ recompose (target (parts_of text) (parts_of reference))
base_path b r q text reference p o1 o2 o3 o4 m o5 eb er ea en ep eq e1 e2 e3 e4 em e5 =
    assembled (record { scheme = b.scheme; authority = b.authority; path = b.path; query = or_else r.query b.query; fragment = r.fragment })
    o1 o2 o3 o4 o5 e1 e2 (e3 ∙ ap (λ x. o2 ++ x) ep) (e4 ∙ ap (λ x. o3 ++ suffix 63 x) eq) (e5 ∙ ap (λ x. x ++ suffix 35 r.fragment) em)
    ∙ (ap recompose (with_base_path b r ea (no_items r.path en)) ∙ of_texts b r text reference eb er)

-- what is written for one with a path
pub merged_path : (b r : Parts) (text reference p d f g o1 o2 o3 o4 m o5 : List ℕ) → b ≡ parts_of text → r ≡ parts_of reference →
    r.authority ≡ None → (length r.path ≡ 0 → ⊥) → p ≡ r.path → g ≡ r.path → d ≡ b.path → f ≡ merged_front b.authority d g →
    o1 ≡ scheme_text b.scheme → o2 ≡ o1 ++ authority_text b.authority →
    o3 ≡ o2 ++ remove_dots (f ++ p) →
    o4 ≡ o3 ++ suffix 63 r.query → m ≡ o4 → o5 ≡ m ++ suffix 35 r.fragment → o5 ≡ recompose (target (parts_of text) (parts_of reference))
merged_path b r text reference p d f g o1 o2 o3 o4 m o5 eb er ea en ep eg ed ef e1 e2 e3 e4 em e5 =
    let front : f ≡ merged_front b.authority b.path r.path =
    ef ∙ (ap (λ x. merged_front b.authority x g) ed ∙ ap (λ x. merged_front b.authority b.path x) eg) in
    assembled (record {
      scheme = b.scheme;
      authority = b.authority;
      path = remove_dots (merged_front b.authority b.path r.path ++ r.path);
      query = r.query;
      fragment = r.fragment;
    })
    o1 o2 o3 o4 o5 e1 e2 (e3 ∙ (ap (λ x. o2 ++ remove_dots (x ++ p)) front ∙ ap (λ x. o2 ++ remove_dots (merged_front b.authority b.path r.path ++ x)) ep)) e4
    (e5 ∙ ap (λ x. x ++ suffix 35 r.fragment) em)
    ∙ (ap recompose (with_merged_path b r r.path ea refl (λ e. en (ap length e))) ∙ of_texts b r text reference eb er)

-- a path cleaned in place after other bytes
pub cleaned : (old front path dm ys post rest : List ℕ) (start n v : ℕ) → dm ≡ (old ++ front) ++ path → start ≡ length old → start + n ≤ v → n ≤ length ys →
    take n ys ≡ remove_dots (take (length dm - start) (drop start dm)) →
    take (start + n) (take v ((take start dm ++ (ys ++ post)) ++ rest)) ≡ old ++ remove_dots (front ++ path)
cleaned old front path dm ys post rest start n v e s b l h =
    let whole : dm ≡ old ++ (front ++ path) = e ∙ append_assoc old front path in
    let begin : take start dm ≡ old = ap (λ k. take k dm) s ∙ (ap (take (length old)) whole ∙ take-append_seam old (front ++ path)) in
    let from_start : drop start dm ≡ front ++ path = ap (λ k. drop k dm) s ∙ (ap (drop (length old)) whole ∙ drop-append_seam old (front ++ path)) in
    let part : take (length dm - start) (drop start dm) ≡ front ++ path = between_to_end dm start (length dm) (omega arith) ∙ from_start in
    let m = take start dm ++ (ys ++ post) in
    let long : start + n ≤ length m = let k = ap length begin in omega (arith, length-append (take start dm) (ys ++ post), length-append ys post) in
    take-take (start + n) v (m ++ rest) b
    ∙ (take-append-le (start + n) m rest long
    ∙ (ap (λ x. take (start + n) (x ++ (ys ++ post))) begin
    ∙ (ap (λ k. take (k + n) (old ++ (ys ++ post))) s
    ∙ (take-append-add old (ys ++ post) n
    ∙ ap (λ x. old ++ x) (take-append-le n ys post l ∙ (h ∙ ap remove_dots part))))))

-- a test for no bytes
pub no_bytes : (w : List ℕ) (b : Bool) → b ≡ (length w == 0) → b ≡ true → length w ≡ 0
no_bytes w b e h = eqb-true (length w) 0 (sym e ∙ h)

-- a text that tests as not empty is not
pub some_bytes : (w : List ℕ) (b : Bool) → b ≡ (length w == 0) → b ≡ false → length w ≡ 0 → ⊥
some_bytes w b e h = eqb-false (length w) 0 (sym e ∙ h)
