-- The datatype that is not written, sixteen bytes at a time.
use Rattle.rdf_lines.proofs.Prelude.{◌≡◌, ◌+◌, ◌*◌, ◌∙◌, ℕ, Bool, true, false, cond, not, ◌==◌, ◌&&◌, List, [], ◌∷◌, ◌++◌, length, take, drop, refl, sym, ap, arith, bytes_eq, and_parts, nat_tests, drop-drop, length-drop, take-append-drop, take_all, bytes_eq-Decides, xsd_string}
use Rattle.std.specs.Cmp.{both_ways}
use Rattle.std.specs.Simd.Lanes.{mask_l, zip2}

-- no bit is set where two lists of one length do not differ
pub same_lanes : (xs ys : List ℕ) → length xs ≡ length ys → (mask_l (zip2 (λ a b. not (a == b)) xs ys) == 0) ≡ bytes_eq xs ys
same_lanes [] [] e = refl
same_lanes [] (y ∷ ys) e = absurd (omega (arith, e))
same_lanes (x ∷ xs) [] e = absurd (omega (arith, e))
same_lanes (x ∷ xs) (y ∷ ys) e = by (x == y) (mask_l (zip2 (λ a b. not (a == b)) xs ys)) (same_lanes xs ys (omega (arith, e)))
  where
    by : (t : Bool) (m : ℕ) → (m == 0) ≡ bytes_eq xs ys → ((cond (not t) 1 0 + 2 * m) == 0) ≡ (t && bytes_eq xs ys)
    by true m h = twice m ∙ h
      where
        twice : (m : ℕ) → ((0 + 2 * m) == 0) ≡ (m == 0)
        twice m = grind (arith, nat_tests)
    by false m h = grind (arith, nat_tests)

-- xsd:string, by its first sixteen bytes, the sixteen after them and its last sixteen
pub is_string : (bs : List ℕ) → length bs ≡ 39 → bytes_eq (take 16 bs) (take 16 xsd_string) ≡ true →
    bytes_eq (take 16 (drop 16 bs)) (take 16 (drop 16 xsd_string)) ≡ true →
    bytes_eq (take 16 (drop 23 bs)) (take 16 (drop 23 xsd_string)) ≡ true → bs ≡ xsd_string
is_string bs n p q r =
    let first : take 16 bs ≡ take 16 xsd_string = (bytes_eq-Decides (take 16 bs) (take 16 xsd_string)).0 p in
    let second : take 16 (drop 16 bs) ≡ take 16 (drop 16 xsd_string) = (bytes_eq-Decides (take 16 (drop 16 bs)) (take 16 (drop 16 xsd_string))).0 q in
    let third : take 16 (drop 23 bs) ≡ take 16 (drop 23 xsd_string) = (bytes_eq-Decides (take 16 (drop 23 bs)) (take 16 (drop 23 xsd_string))).0 r in
    let size : length (drop 23 bs) ≡ 16 = omega (arith, n, length-drop 23 bs) in
    let whole : drop 23 bs ≡ drop 23 xsd_string = sym (take_all 16 (drop 23 bs) (omega arith)) ∙ third in
    let rest : drop 32 bs ≡ drop 32 xsd_string = sym (drop-drop 9 23 bs) ∙ ap (drop 9) whole in
    let inner : drop 16 bs ≡ drop 16 xsd_string =
    sym (take-append-drop 16 (drop 16 bs))
    ∙ (ap (λ v. v ++ drop 16 (drop 16 bs)) second ∙ ap (λ v. take 16 (drop 16 xsd_string) ++ v) (drop-drop 16 16 bs ∙ rest)) in
    sym (take-append-drop 16 bs) ∙ (ap (λ v. v ++ drop 16 bs) first ∙ ap (λ v. take 16 xsd_string ++ v) inner)

-- so the three tests are one
pub string_by : (bs : List ℕ) → length bs ≡ 39 →
    (bytes_eq (take 16 bs) (take 16 xsd_string) && bytes_eq (take 16 (drop 16 bs)) (take 16 (drop 16 xsd_string)) && bytes_eq
    (take 16 (drop 23 bs)) (take 16 (drop 23 xsd_string)))
    ≡ bytes_eq bs xsd_string
string_by bs n = both_ways _ _ from to
  where
    parts : Bool
    parts = bytes_eq (take 16 bs) (take 16 xsd_string) && bytes_eq (take 16 (drop 16 bs)) (take 16 (drop 16 xsd_string)) && bytes_eq
        (take 16 (drop 23 bs)) (take 16 (drop 23 xsd_string))

    from : parts ≡ true → bytes_eq bs xsd_string ≡ true
    from t =
        let p = and_parts (bytes_eq (take 16 bs) (take 16 xsd_string) && bytes_eq (take 16 (drop 16 bs)) (take 16 (drop 16 xsd_string))) _ t in
        let q = and_parts (bytes_eq (take 16 bs) (take 16 xsd_string)) _ p.0 in
        (bytes_eq-Decides bs xsd_string).1 (is_string bs n q.0 q.1 p.1)

    to : bytes_eq bs xsd_string ≡ true → parts ≡ true
    to t = let e : bs ≡ xsd_string = (bytes_eq-Decides bs xsd_string).0 t in
        ap (λ v. bytes_eq (take 16 v) (take 16 xsd_string) && bytes_eq (take 16 (drop 16 v)) (take 16 (drop 16 xsd_string)) && bytes_eq
        (take 16 (drop 23 v)) (take 16 (drop 23 xsd_string))) e
