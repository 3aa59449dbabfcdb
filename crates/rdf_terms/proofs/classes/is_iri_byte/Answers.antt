use Rattle.rdf_terms.proofs.Prelude.{false, refl, get_or, agree_below_at, iri_byte}
use Rattle.rdf_terms.specs.declared.classes.TheConstants.{IRI_BYTES}
use Rattle.rdf_terms.proofs.classes.is_iri_byte.Goals as goal

pub returns : goal.returns
returns c = agree_below_at (λ b. get_or IRI_BYTES b false) iri_byte 256 c.args.byte refl c.ranges.byte.fits
