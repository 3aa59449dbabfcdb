use Rattle.rdf_terms.proofs.Prelude.{ap, sym, inside_of, run_of}
use Rattle.rdf_terms.proofs.values.run_of.Goals as goal

pub returns-in-OfIri : goal.returns-in-OfIri
returns-in-OfIri c = sym (ap (λ i. run_of (inside_of i)) c.in-OfIri.is)
