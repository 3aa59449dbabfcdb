use Rattle.rdf_terms.proofs.Prelude.{sym, subst, IsRun, goes_over, inside_of, run_of}
use Rattle.rdf_terms.proofs.values.plain_end.Goals as goal

pub returns-in-OfString : goal.returns-in-OfString
returns-in-OfString c = subst (λ i. IsRun (goes_over (run_of (inside_of i))) c.args.bytes.now c.args.from c.run_end.result)
    (sym c.in-OfString.is) c.run_end.ensures

pub returns-in-OfIri : goal.returns-in-OfIri
returns-in-OfIri c =
    subst (λ i. IsRun (goes_over (run_of (inside_of i))) c.args.bytes.now c.args.from c.near_run_end.result) (sym c.in-OfIri.is) c.near_run_end.ensures
