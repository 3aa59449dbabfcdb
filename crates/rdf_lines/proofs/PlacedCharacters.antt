-- The bytes of a string that are placed run by run, in the plain form.
use Rattle.rdf_lines.proofs.Prelude.{◌≡◌, ℕ, ◌+◌, ◌-◌, ◌<◌, true, List, [], ◌∷◌, ◌++◌, refl, ap, sym, ◌∙◌, length, take, drop, get_or, arith, take-add, flat_map, chars, IsUtf8, slice_range, and_parts, nat_tests, append-nil, take_more, flat_map-append, encodes-chars, IsRun, is_short_byte, all_have, escaped, escaped_bytes, string_bytes_of}
use Rattle.rdf_terms.proofs.EscapesLemmas.{slice_passes}
use Rattle.rdf_lines.specs.declared.form.Escapes.TheVariants.{Plain}
use Rattle.rdf_lines.proofs.EncodedLine.{between}
use Rattle.rdf_lines.proofs.PlainRuns.{escaped_text}

-- a string in its quotes, whatever is escaped in it
pub quoted_bytes : (w : List ℕ) → string_bytes_of Plain w ≡ 34 ∷ escaped_bytes Plain w ++ 34 ∷ []
quoted_bytes w = between 34 34 (flat_map (escaped Plain) (chars w)) (omega arith) (omega arith)

-- a text is escaped byte by byte as it is character by character
pub escaped_by_bytes : (w : List ℕ) → IsUtf8 w → escaped_bytes Plain w ≡ flat_map (escaped Plain) w
escaped_by_bytes w u = escaped_text (chars w) ∙ ap (flat_map (escaped Plain)) (encodes-chars w u)

-- a byte of a run stands as it is
byte_stands : (b : ℕ) → is_short_byte 34 b ≡ true → escaped Plain b ≡ b ∷ []
byte_stands b h = grind (arith, nat_tests)

-- so does a run
bytes_stand : (w : List ℕ) → all_have (is_short_byte 34) w ≡ true → flat_map (escaped Plain) w ≡ w
bytes_stand [] h = refl
bytes_stand (b ∷ w) h =
    let p = and_parts (is_short_byte 34 b) (all_have (is_short_byte 34) w) h in
    ap (λ x. x ++ flat_map (escaped Plain) w) (byte_stands b p.0) ∙ ap (λ x. b ∷ x) (bytes_stand w p.1)

-- a run after what was placed
pub run_placed : (bs : List ℕ) (from stop : ℕ) → IsRun (is_short_byte 34) bs from stop →
    flat_map (escaped Plain) (take from bs) ++ slice_range bs from stop ≡ flat_map (escaped Plain) (take stop bs)
run_placed bs from stop r =
    let n = stop - from in
    let run = take n (drop from bs) in
    let whole : from + n ≡ stop = omega (arith, r.from) in
    let plain : flat_map (escaped Plain) run ≡ run = bytes_stand run
    (slice_passes (is_short_byte 34) bs from n (omega (arith, r.from, r.within)) (λ k a b. r.pass k a (omega (arith, r.from)))) in
    ap (λ x. flat_map (escaped Plain) (take from bs) ++ x) (sym plain)
    ∙ (sym (flat_map-append (escaped Plain) (take from bs) run)
    ∙ ap (flat_map (escaped Plain)) (sym (take-add from n bs) ∙ ap (λ m. take m bs) whole))

-- the byte after a run
pub byte_placed : (bs : List ℕ) (at : ℕ) → at < length bs →
    flat_map (escaped Plain) (take at bs) ++ escaped Plain (get_or bs at 0) ≡ flat_map (escaped Plain) (take (at + 1) bs)
byte_placed bs at l =
    ap (λ x. flat_map (escaped Plain) (take at bs) ++ x) (sym (append-nil (escaped Plain (get_or bs at 0))))
    ∙ (sym (flat_map-append (escaped Plain) (take at bs) (get_or bs at 0 ∷ []))
    ∙ ap (flat_map (escaped Plain)) (sym (take_more bs at 0 l)))
