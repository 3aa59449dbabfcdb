-- A reference with a scheme is absolute; any other is resolved.
use Rattle.rdf_iri.proofs.Prelude.{◌≡◌, ◌∙◌, ap, sym, subst, Some, false, inl, refl, chars, err_from_is_err_and, IsIri, has_scheme, Resolves, text_of}
use Rattle.rdf_iri.proofs.ResolvedText.{IsIri-target, Resolves-target, target_text}
use Rattle.rdf_iri.proofs.resolution.put_absolute.Goals as goal

pub returns-in_err-put-clause-refused : goal.returns-in_err-put-clause-refused
returns-in_err-put-clause-refused g c =
    let p = err_from_is_err_and c.from_residual.result c.from_residual.ensures.1 in
    rw (p.1, p.2) (λ limit. (chars c.args.reference.now, inl (sym c.has_scheme.ensures ∙ c.if-has_scheme.true, refl)))

pub returns-in_err-put_target-clause-refused : goal.returns-in_err-put_target-clause-refused
returns-in_err-put_target-clause-refused g c =
    let p = err_from_is_err_and c.from_residual-in_err-put_target.result c.from_residual-in_err-put_target.ensures.1 in
    let b = c.in-Some.base.now in
    let w = chars c.args.reference.now in
    let n : has_scheme w ≡ false = sym c.has_scheme.ensures ∙ c.if-has_scheme.false in
    let e : Some b ≡ text_of c.args.base = sym (ap text_of c.in-Some.is) in
    rw (p.1, p.2) (λ limit. (target_text b w, subst (λ o. Resolves o w (target_text b w)) e (Resolves-target b w n)))

pub returns-clause-resolved : goal.returns-clause-resolved
returns-clause-resolved g c =
    let b = c.in-Some.base.now in
    let w = chars c.args.reference.now in
    let n : has_scheme w ≡ false = sym c.has_scheme.ensures ∙ c.if-has_scheme.false in
    let e : Some b ≡ text_of c.args.base = sym (ap text_of c.in-Some.is) in
    subst (Resolves (text_of c.args.base) w) (sym c.in_ok-put_target.ensures.target) (subst (λ o. Resolves o w (target_text b w)) e (Resolves-target b w n))

pub returns-clause-is_iri : goal.returns-clause-is_iri
returns-clause-is_iri g c =
    subst IsIri (sym c.in_ok-put_target.ensures.target) (IsIri-target c.in-Some.base.now (chars c.args.reference.now) c.put_target.ensures.base c.requires)
