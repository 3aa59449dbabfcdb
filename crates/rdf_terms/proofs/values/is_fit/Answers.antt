-- Only IRIs and strings are tested, without their delimiters.
use Rattle.rdf_terms.proofs.Prelude.{sym, ap, ◌∙◌, chars, is_fit, inside}
use Rattle.rdf_terms.proofs.InsideLemmas.{inside-inside}
use Rattle.rdf_terms.proofs.ValuesLemmas.{is_fit_other}
use Rattle.rdf_terms.proofs.values.is_fit.Goals as goal

pub returns-in-IriRef : goal.returns-in-IriRef
unfolding is_fit
returns-in-IriRef c = rw (c.in-IriRef.is, ← c.without_ends.ensures) c.is_iri_inside.ensures

pub returns-in-ShortString : goal.returns-in-ShortString
unfolding is_fit
returns-in-ShortString c = rw (c.in-ShortString.is, ← c.without_ends-in-ShortString.ensures) c.is_string_inside.ensures

pub returns-in-LongString : goal.returns-in-LongString
unfolding is_fit
returns-in-LongString c =
    let w = chars c.args.text.now in
    let three = c.without_ends-in-LongString-3.ensures ∙ ap (inside 1) (c.without_ends-in-LongString-2.ensures
    ∙ ap (inside 1) c.without_ends-in-LongString.ensures ∙ inside-inside 1 1 w) ∙ inside-inside 1 2 w in
    rw (c.in-LongString.is, ← three) c.is_string_inside-in-LongString.ensures

pub returns-in_default : goal.returns-in_default
returns-in_default c =
    sym (is_fit_other c.args.kind _ c.in_default.not-IriRef c.in_default.not-ShortString c.in_default.not-LongString)
