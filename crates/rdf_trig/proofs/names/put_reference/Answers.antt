-- A reference of a token is fit, so its inside means something.
use Rattle.rdf_trig.proofs.Prelude.{ap, sym, subst, refl, ◌∙◌, is_some, chars, string_bytes, IsIri, iri_value, is_fit, ResolvesHere, iri_of, Unnamed, step_fault, leaf}
use Rattle.rdf_trig.specs.declared.fault.StepFault.TheVariants.{Memory}
use Rattle.rdf_trig.proofs.code.LookUps.{reference_not, unescaped}
use Rattle.rdf_trig.proofs.code.PutsInRow.{told_stops}
use Rattle.rdf_trig.proofs.code.SpelledLemmas.{fit_reference}
use Rattle.rdf_trig.proofs.names.put_reference.Goals as goal

pub lacks_iri_escapes-requires : goal.lacks_iri_escapes-requires
unfolding is_fit
lacks_iri_escapes-requires g c = ap (λ w. is_some (iri_value w)) c.without_ends-inside.ensures ∙ fit_reference c.args.token.now c.requires.kind c.requires.token

pub returns-in_err-resolve_into-clause-err : goal.returns-in_err-resolve_into-clause-err
returns-in_err-resolve_into-clause-err g c =
    let l = leaf c.args.token.now in
    let w = chars c.without_ends-inside.result.now in
    let f = c.in_err-resolve_into.field-0.0 in
    told_stops c.from_residual.result (step_fault f) _ c.from_residual.ensures.1
    (reference_not c.args.scope.now c.args.token.now.kind l w f (step_fault f) c.requires.kind
    (unescaped l w c.without_ends-inside.ensures (c.lacks_iri_escapes.ensures.value c.if-lacks_iri_escapes.true)) refl c.in_err-resolve_into.ensures.refused)

pub returns-in_err-reference-clause-err : goal.returns-in_err-reference-clause-err
returns-in_err-reference-clause-err g c =
    let none = Unnamed c.args.scope.now c.args.token.now.kind (leaf c.args.token.now) in
    told_stops c.from_residual-in_err-reference.result c.in_err-reference.field-0.0 none c.from_residual-in_err-reference.ensures.1
    (subst none (sym c.in_err-reference.ensures.err) tt)

pub returns-in_err-resolve_in_place-clause-err : goal.returns-in_err-resolve_in_place-clause-err
returns-in_err-resolve_in_place-clause-err g c =
    let l = leaf c.args.token.now in
    let f = c.in_err-resolve_in_place.field-0.0 in
    told_stops c.from_residual-in_err-resolve_in_place.result (step_fault f) _ c.from_residual-in_err-resolve_in_place.ensures.1
    (reference_not c.args.scope.now c.args.token.now.kind l _ f (step_fault f) c.requires.kind c.in_ok-reference.ensures.ok refl
    c.in_err-resolve_in_place.ensures.refused)

pub returns-in_err-put-clause-err : goal.returns-in_err-put-clause-err
returns-in_err-put-clause-err g c = told_stops c.from_residual-in_err-put.result Memory _ c.from_residual-in_err-put.ensures.1 tt

pub returns-in_ok-resolve_into-clause-ok : goal.returns-in_ok-resolve_into-clause-ok
returns-in_ok-resolve_into-clause-ok g c =
    let w = chars c.without_ends-inside.result.now in
    subst (λ x. ResolvesHere c.args.scope.now x (chars c.resolve_into.new.text))
    (unescaped (leaf c.args.token.now) w c.without_ends-inside.ensures (c.lacks_iri_escapes.ensures.value c.if-lacks_iri_escapes.true))
    c.in_ok-resolve_into.ensures.resolved

pub returns-in_ok-resolve_into-clause-is_iri : goal.returns-in_ok-resolve_into-clause-is_iri
returns-in_ok-resolve_into-clause-is_iri g c = c.in_ok-resolve_into.ensures.is_iri

pub returns-in_ok-put-clause-ok : goal.returns-in_ok-put-clause-ok
returns-in_ok-put-clause-ok g c =
    let s = c.args.scope.now in
    subst (λ x. ResolvesHere s (iri_of (leaf c.args.token.now)) (chars x)) (sym (c.in_ok-put.ensures ∙ c.as_str.ensures.value))
    (subst (λ x. ResolvesHere s x (chars (string_bytes c.resolve_in_place.new.text))) c.in_ok-reference.ensures.ok c.in_ok-resolve_in_place.ensures.resolved)

pub returns-in_ok-put-clause-is_iri : goal.returns-in_ok-put-clause-is_iri
returns-in_ok-put-clause-is_iri g c =
    subst (λ x. IsIri (chars x)) (sym (c.in_ok-put.ensures ∙ c.as_str.ensures.value)) c.in_ok-resolve_in_place.ensures.is_iri
