-- A reference with a scheme is cut at its first ':', and one without is left as it is.
use Rattle.rdf_iri.proofs.Prelude.{◌∙◌, ap, sym, text_of}
use Rattle.rdf_iri.proofs.Slices.{has_scheme-chars, no_rest}
use Rattle.rdf_iri.proofs.CutPlaces.{scheme_there, no_scheme_there}
use Rattle.rdf_iri.proofs.parts.cut_scheme.Goals as goal

pub returns-then-not-has_scheme : goal.returns-then-not-has_scheme
returns-then-not-has_scheme c =
    no_scheme_there c.args.text.now (has_scheme-chars c.args.text.now c.utf8.text ∙ (sym c.has_scheme.ensures ∙ c.if-not-has_scheme.true))

pub returns-in-Some : goal.returns-in-Some
returns-in-Some c =
    scheme_there c.args.text.now c.cut.result.0.now c.in-Some.rest.now c.cut.ensures.front
    (sym (ap text_of c.in-Some.is) ∙ c.cut.ensures.rest)
    (has_scheme-chars c.args.text.now c.utf8.text ∙ (sym c.has_scheme.ensures ∙ c.if-not-has_scheme.false))

pub returns-in-None : goal.returns-in-None
returns-in-None c =
    absurd (no_rest c.args.text.now (sym (ap text_of c.in-None.is) ∙ c.cut.ensures.rest)
    (has_scheme-chars c.args.text.now c.utf8.text ∙ (sym c.has_scheme.ensures ∙ c.if-not-has_scheme.false)))
