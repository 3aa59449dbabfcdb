-- No lane differs.
use Rattle.rdf_lines.proofs.Prelude.{◌≡◌, ◌≤◌, ◌∙◌, ◌%◌, ◌^◌, ◌==◌, ℕ, not, length, take, drop, ap, arith, bytes_eq, w8, take_all}
use Rattle.std.specs.Simd.Lanes.{mask_l, zip2}
use Rattle.std.proofs.lemmas.Simd.{length-chunk, length-zip2, mask_l-mod, tops_compared}
use Rattle.rdf_lines.proofs.PlainTypeLemmas.{same_lanes}
use Rattle.rdf_lines.proofs.writer.term.stand_at.Goals as goal

pub returns : goal.returns
returns c =
    let xs = take 16 (drop c.args.at c.args.bytes.now) in
    let ys = take 16 c.args.these.now in
    let all : ys ≡ c.args.these.now = take_all 16 c.args.these.now (omega (arith, c.requires.sixteen)) in
    let left : length xs ≡ 16 = length-chunk c.args.at 16 c.args.bytes.now c.requires.inside in
    let same : length xs ≡ length ys = omega (arith, left, ap length all, c.requires.sixteen) in
    let lanes = zip2 (λ (a b : ℕ). not (a == b)) xs ys in
    let few : length lanes ≤ 64 = omega (arith, length-zip2 (λ (a b : ℕ). not (a == b)) xs ys same, left) in
    ap (λ ms. (mask_l ms % 2 ^ 64) == 0) (tops_compared w8 (λ (a b : ℕ). not (a == b)) xs ys)
    ∙ (ap (λ m. m == 0) (mask_l-mod lanes 64 few) ∙ (same_lanes xs ys same ∙ ap (bytes_eq xs) all))
