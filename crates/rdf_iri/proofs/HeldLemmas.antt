-- The bytes that a scope holds, counted over its map.
use Rattle.rdf_iri.proofs.Prelude.{◌≡◌, ◌≤◌, ◌<◌, ◌+◌, ◌*◌, ◌^◌, ℕ, List, [], ◌∷◌, length, Option, Some, None, refl, ap, sym, ◌∙◌, arith, String, string_bytes, chars, All, sum_by, BTreeMap, get_by_text, IsUtf8-string_bytes, sum_by-cons, sum_by-le, byte_len, Sizes, InRange, entry_bytes, entries_of, bound_to, BaseFits, base_bytes, binding_bytes, most_bytes_held}
use Rattle.std.proofs.lemmas.Nat.{mul-le}
use Rattle.std.proofs.lemmas.List.Elements.{All-weaker}
use Rattle.rdf_iri.proofs.ResolvedText.{byte_len-chars}
use Rattle.rdf_iri.proofs.ScopeLemmas.{bound_to-text, length-entries_of}

-- the first entry counts beside the others
pub sum-cons : {Z : Type 0} (key : String Z) (iri : List ℕ) (es : List (String Z × List ℕ)) →
    sum_by (entry_bytes {Z = Z}) ((key, iri) ∷ es) ≡ length (string_bytes key) + byte_len iri + sum_by (entry_bytes {Z = Z}) es
sum-cons {Z} key iri es = sum_by-cons (entry_bytes {Z = Z}) (key, iri) es

-- the scope's bindings have the bytes of the map's entries
pub sum-entries_of : {Z : Type 0} (es : List (String Z × List ℕ)) → sum_by binding_bytes (entries_of es) ≡ sum_by (entry_bytes {Z = Z}) es
sum-entries_of [] = refl
sum-entries_of {Z} (e ∷ es) =
    let first = sum_by-cons binding_bytes (chars (string_bytes e.0), e.1) (entries_of es) in
    let same = sum_by-cons (entry_bytes {Z = Z}) e es in
    let size = byte_len-chars (string_bytes e.0) (IsUtf8-string_bytes e.0) in
    let rest = sum-entries_of es in
    omega (arith, first, same, size, rest)

-- an entry that the map finds is within a limit that what is bound keeps
entry_within : {Z : Type 0} (m : BTreeMap (String Z) (List ℕ)) (most : ℕ) →
    ((q iri : List ℕ) → bound_to (entries_of m.entries) q ≡ Some iri → byte_len q + byte_len iri ≤ most) →
    (e : String Z × List ℕ) → get_by_text m (string_bytes e.0) ≡ Some e.1 → entry_bytes {Z = Z} e ≤ most
entry_within m most f e h =
    let kept = f (chars (string_bytes e.0)) e.1 (bound_to-text m (string_bytes e.0) (IsUtf8-string_bytes e.0) ∙ h) in
    let size = byte_len-chars (string_bytes e.0) (IsUtf8-string_bytes e.0) in
    omega (arith, kept, size)

-- so all of them together are
pub sum_within : {Z : Type 0} (m : BTreeMap (String Z) (List ℕ)) (most : ℕ) →
    ((q iri : List ℕ) → bound_to (entries_of m.entries) q ≡ Some iri → byte_len q + byte_len iri ≤ most) →
    All (λ (e : String Z × List ℕ). get_by_text m (string_bytes e.0) ≡ Some e.1) m.entries →
    sum_by binding_bytes (entries_of m.entries) ≤ length (entries_of m.entries) * most
sum_within {Z} m most f found =
    let each = All-weaker _ (λ (e : String Z × List ℕ). entry_bytes {Z = Z} e ≤ most) (entry_within m most f) m.entries found in
    let all = sum_by-le (entry_bytes {Z = Z}) most m.entries each in
    let same = sum-entries_of m.entries in
    let count : length m.entries * most ≡ length (entries_of m.entries) * most = ap (λ (n : ℕ). n * most) (sym (length-entries_of m.entries)) in
    omega (arith, all, same, count)

-- the base keeps its limit
pub base_within : (base : Option (List ℕ)) (limits : Sizes) → BaseFits base limits → base_bytes base ≤ limits.iri
base_within None limits fits = omega arith
base_within (Some b) limits fits = fits

-- what the limits allow fits a number of 64 bits
pub most_fits : (limits : Sizes) → InRange limits → most_bytes_held limits < 2 ^ 64
most_fits limits r =
    let one : 4 * limits.token + limits.iri ≤ 1342177280 = let a = r.token in let b = r.iri in omega (arith, a, b) in
    let all : limits.bindings * (4 * limits.token + limits.iri) ≤ 16777216 * 1342177280 =
    mul-le limits.bindings (4 * limits.token + limits.iri) 16777216 1342177280 r.bindings one in
    let iri = r.iri in
    bounded limits.iri (limits.bindings * (4 * limits.token + limits.iri)) iri all
  where
    bounded : (i n : ℕ) → i ≤ 2 ^ 28 → n ≤ 16777216 * 1342177280 → i + n < 2 ^ 64
    bounded i n h k = omega (arith, h, k)
