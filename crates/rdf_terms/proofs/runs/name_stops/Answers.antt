use Rattle.rdf_terms.proofs.Prelude.{bit_and, refl, splat_is_map}
use Rattle.rdf_terms.proofs.RunsLemmas.{joined, mask_is}
use Rattle.rdf_terms.proofs.runs.name_stops.Goals as goal

pub returns : goal.returns
returns c =
    let v = c.args.v in
    let long = c.fits-v.0 in
    let common = joined bit_and _ _ v c.by_low_half.ensures c.by_high_half.ensures in
    mask_is _ _ v _ long c.fits-v.1 (joined _ _ _ v common (splat_is_map v 16 0 long)) refl
