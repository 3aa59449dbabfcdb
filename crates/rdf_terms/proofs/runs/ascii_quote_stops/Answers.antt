use Rattle.rdf_terms.proofs.Prelude.{leb, cond, refl, sym, map-id, zip2_splat_left}
use Rattle.rdf_terms.proofs.RunsLemmas.{joined, mask_is}
use Rattle.rdf_terms.proofs.runs.ascii_quote_stops.Goals as goal

pub returns : goal.returns
returns c =
    let v = c.args.v in
    let long = c.fits-v.0 in
    let stops = joined _ _ _ v c.by_low_half.ensures (sym (map-id v)) in
    let others = zip2_splat_left (λ a b. cond (leb a b) 255 0) 128 16 v long in
    mask_is _ _ v _ long c.fits-v.1 (joined _ _ _ v stops others) refl
