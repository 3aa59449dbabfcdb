use Rattle.rdf_terms.proofs.Prelude.{ℕ, refl, zip2_splat}
use Rattle.rdf_terms.proofs.RunsLemmas.{joined, mask_is}
use Rattle.rdf_terms.proofs.runs.long_single_quote_stops.Goals as goal

pub returns : goal.returns
returns c =
    let v = c.args.v in
    let long = c.fits-v.0 in
    mask_is _ _ v _ long c.fits-v.1 (joined _ _ _ v (zip2_splat {Y = ℕ} _ v 16 39 long) (zip2_splat {Y = ℕ} _ v 16 92 long)) refl
