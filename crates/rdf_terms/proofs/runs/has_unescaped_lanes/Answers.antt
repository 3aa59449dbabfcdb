use Rattle.rdf_terms.proofs.Prelude.{ℕ, refl, arith, chunk-fits, length-chunk, zip2_splat, w8, chunk, is_unescaped}
use Rattle.rdf_terms.proofs.RunsLemmas.{lanes_decide, mask_within}
use Rattle.rdf_terms.proofs.runs.has_unescaped_lanes.Goals as goal

pub returns : goal.returns
returns g c =
    let n = g.row.N in
    let bs = c.args.bytes.now in
    let v = chunk c.args.at n bs in
    let long = length-chunk c.args.at n bs c.requires.within in
    lanes_decide is_unescaped bs c.args.at n _ c.requires.within (omega (arith, c.requires.few))
    (mask_within _ _ v _ (omega (arith, long, c.requires.few)) (chunk-fits w8 c.args.at n bs c.type_inv.bytes)
    (zip2_splat {Y = ℕ} _ v n 92 long) refl)
