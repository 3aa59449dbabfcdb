use Rattle.rdf_iri.proofs.Prelude.{subst, chars, IriThen}
use Rattle.rdf_iri.proofs.BindingLineLemmas.{one_name}
use Rattle.rdf_iri.proofs.BindingLemmas.{passed_none}
use Rattle.rdf_iri.proofs.binding_lines.pair.Goals as goal

pub returns-in_err-prefix : goal.returns-in_err-prefix
returns-in_err-prefix c = passed_none c.from_residual.result _ _ c.from_residual.ensures (λ p d. c.in_err-prefix.ensures p.0 d.0 d.1)

pub returns-in_err-iri : goal.returns-in_err-iri
returns-in_err-iri c = passed_none c.from_residual-in_err-iri.result _ _ c.from_residual-in_err-iri.ensures (λ p d.
    c.in_err-iri.ensures p.1 p.2
    (subst (λ m. IriThen m p.1 p.2) (one_name (chars c.args.text.now) p.0 d.0 (chars c.in_ok-prefix.prefix.now)
    (chars c.in_ok-prefix.rest.now) d.1 c.in_ok-prefix.ensures).1 d.2))
