-- Lines in memory that is used again: what they are once a slice of their bytes was written to.
use Rattle.rdf_lines.proofs.Prelude.{◌≡◌, ◌≤◌, ◌∙◌, ◌++◌, ℕ, List, length, take, drop, ap, sym, subst, arith, take-append_seam, take-length, length-take-le}

-- the bytes are then those of the slice
pub written_back : (n : ℕ) (new old items : List ℕ) → n ≡ length items → old ≡ items → length new ≡ length old →
    take n (new ++ drop (length new) items) ≡ new
written_back n new old items e f l =
    ap (λ k. take k (new ++ drop (length new) items)) (e ∙ (ap length (sym f) ∙ sym l)) ∙ take-append_seam new (drop (length new) items)

-- bytes that were placed after the lines come after them
pub lines_placed : (n at end : ℕ) (new old items lines bytes : List ℕ) → n ≡ length items → old ≡ items → length new ≡ length old →
    take at items ≡ lines → take end new ≡ take at old ++ bytes → take end (take n (new ++ drop (length new) items)) ≡ lines ++ bytes
lines_placed n at end new old items lines bytes e f l v w =
    ap (take end) (written_back n new old items e f l) ∙ (w ∙ ap (λ b. b ++ bytes) (ap (take at) f ∙ v))

-- and where nothing was placed the lines are as they were
pub lines_kept : (n at : ℕ) (new old items lines : List ℕ) → n ≡ length items → old ≡ items → length new ≡ length old →
    take at items ≡ lines → new ≡ old → take at (take n (new ++ drop (length new) items)) ≡ lines
lines_kept n at new old items lines e f l v s = ap (take at) (written_back n new old items e f l ∙ (s ∙ f)) ∙ v

-- a place within the slice is one within the bytes
pub within_back : (n end : ℕ) (new old items : List ℕ) → n ≡ length items → old ≡ items → length new ≡ length old →
    end ≤ length new → end ≤ length (take n (new ++ drop (length new) items))
within_back n end new old items e f l w = subst (λ b. end ≤ length b) (sym (written_back n new old items e f l)) w

-- bytes that were appended to what is left of the memory come after the lines
pub lines_appended : (at n : ℕ) (items cut new lines bytes : List ℕ) → take at items ≡ lines → cut ≡ take at items → new ≡ cut ++ bytes →
    n ≡ length new → take n new ≡ lines ++ bytes
lines_appended at n items cut new lines bytes v c a e = ap (λ k. take k new) e ∙ (take-length new ∙ (a ∙ ap (λ b. b ++ bytes) (c ∙ v)))

-- what is left of the memory has the lines
pub lines_left : (at : ℕ) (items cut new lines : List ℕ) → at ≤ length items → take at items ≡ lines → cut ≡ take at items → new ≡ cut →
    (at ≤ length new) × (take at new ≡ lines)
lines_left at items cut new lines w v c s =
    let n = length-take-le at items w in
    let same : new ≡ take at items = s ∙ c in
    let l : length new ≡ at = ap length same ∙ n in
    (omega (arith, l), ap (λ k. take k new) (sym l) ∙ (take-length new ∙ (same ∙ v)))
