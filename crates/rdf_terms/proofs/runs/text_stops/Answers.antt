use Rattle.rdf_terms.proofs.Prelude.{refl, sym, map-id}
use Rattle.rdf_terms.proofs.RunsLemmas.{joined, mask_is}
use Rattle.rdf_terms.proofs.runs.text_stops.Goals as goal

pub returns : goal.returns
returns c =
    let v = c.args.v in
    mask_is _ _ v _ c.fits-v.0 c.fits-v.1 (joined _ _ _ v c.by_low_half.ensures (sym (map-id v))) refl
