-- A reference with a scheme is absolute; any other is resolved over bytes.
use Rattle.rdf_iri.proofs.Prelude.{◌≡◌, ◌∙◌, ap, sym, subst, Some, false, chars, string_bytes, err_from_is_err_and, IsIri, has_scheme, Resolves, text_of}
use Rattle.rdf_iri.proofs.ResolvedText.{IsIri-target, Resolves-target, target_text}
use Rattle.rdf_iri.proofs.resolution.make_absolute.Goals as goal
use Rattle.rdf_iri.proofs.resolution.make_absolute.Goals.{After-drop-text}
use Rattle.rdf_iri.proofs.resolution.make_absolute.Given.{Over}

-- the base's characters, and the text made out of them
made : (g : Over) (c : After-drop-text g) → chars (string_bytes c.in_ok-text.field-0) ≡ target_text (chars c.as_str-2.result.now)
    (chars (string_bytes c.args.text.now))
made g c = c.in_ok-text.ensures ∙ ap (λ w. target_text (chars c.as_str-2.result.now) (chars w)) c.as_str-3.ensures.value

pub returns-clause-resolved : goal.returns-clause-resolved
returns-clause-resolved g c =
    let b = chars c.as_str-2.result.now in
    let w = chars (string_bytes c.args.text.now) in
    let n : has_scheme w ≡ false = ap (λ x. has_scheme (chars x)) (sym c.as_str.ensures.value) ∙ (sym c.has_scheme.ensures ∙ c.if-has_scheme.false) in
    let e : Some b ≡ text_of c.args.base = ap (λ x. Some x) c.as_str-2.ensures.value ∙ sym (ap text_of c.in-Some.is) in
    subst (Resolves (text_of c.args.base) w) (sym (made g c)) (subst (λ o. Resolves o w (target_text b w)) e (Resolves-target b w n))

pub returns-clause-is_iri : goal.returns-clause-is_iri
returns-clause-is_iri g c =
    subst IsIri (sym (made g c))
    (IsIri-target (chars c.as_str-2.result.now) (chars (string_bytes c.args.text.now))
    (subst IsIri (sym c.as_str-2.ensures.value) c.as_str-2.ensures.is_iri) c.requires)

-- memory is reported only where there is a result
pub returns-in_err-text-clause-refused : goal.returns-in_err-text-clause-refused
returns-in_err-text-clause-refused g c =
    let p = err_from_is_err_and c.from_residual.result c.from_residual.ensures.1 in
    let b = chars c.as_str-2.result.now in
    let w = chars (string_bytes c.args.text.now) in
    let n : has_scheme w ≡ false = ap (λ x. has_scheme (chars x)) (sym c.as_str.ensures.value) ∙ (sym c.has_scheme.ensures ∙ c.if-has_scheme.false) in
    let e : Some b ≡ text_of c.args.base = ap (λ x. Some x) c.as_str-2.ensures.value ∙ sym (ap text_of c.in-Some.is) in
    rw (p.1, p.2) (λ limit. (target_text b w, subst (λ o. Resolves o w (target_text b w)) e (Resolves-target b w n)))
