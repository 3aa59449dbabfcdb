use Rattle.rdf_terms.proofs.Prelude.{sym, ◌∙◌}
use Rattle.rdf_terms.proofs.iris.is_iri.Goals as goal

pub returns-then-iri_text : goal.returns-then-iri_text
returns-then-iri_text c = (
  λ e. record { characters = sym c.iri_text.ensures ∙ c.if-iri_text.true; scheme = sym c.has_scheme.ensures ∙ e },
  λ i. c.has_scheme.ensures ∙ i.scheme,
)
