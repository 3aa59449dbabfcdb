use Rattle.rdf_terms.proofs.Prelude.{leb, cond, refl, zip2_splat_left}
use Rattle.rdf_terms.proofs.RunsLemmas.{mask_is}
use Rattle.rdf_terms.proofs.runs.ascii_stops.Goals as goal

pub returns : goal.returns
returns c =
    let v = c.args.v in
    let long = c.fits-v.0 in
    mask_is _ _ v _ long c.fits-v.1 (zip2_splat_left (λ a b. cond (leb a b) 255 0) 128 16 v long) refl
