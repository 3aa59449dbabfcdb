-- A reference with a scheme is copied, any other resolved over bytes; each is refused where it passes the limit.
use Rattle.rdf_iri.proofs.Prelude.{◌≡◌, ◌∙◌, ap, sym, subst, refl, inl, Some, length, arith, false, chars, string_bytes, IsUtf8-string_bytes, err_from_is_err_and, IsIri, has_scheme, byte_len, Resolves, text_of}
use Rattle.rdf_iri.proofs.ResolvedText.{byte_len-chars, IsIri-target, Resolves-target, target_text}
use Rattle.rdf_iri.proofs.resolution.resolve.Goals as goal
use Rattle.rdf_iri.proofs.resolution.resolve.Goals.{After-len}
use Rattle.rdf_iri.proofs.resolution.resolve.Given.{Over}

pub returns-then-reference-limit-clause-refused : goal.returns-then-reference-limit-clause-refused
returns-then-reference-limit-clause-refused g c =
    let n = byte_len-chars c.args.reference.now c.utf8.reference in
    (chars c.args.reference.now, inl (sym c.has_scheme.ensures ∙ c.if-has_scheme.true, refl), omega (arith, n, c.if-reference-limit.true))

pub returns-then-has_scheme-clause-within : goal.returns-then-has_scheme-clause-within
returns-then-has_scheme-clause-within g c =
    let n = byte_len-chars c.args.reference.now c.utf8.reference in
    let e : byte_len c.of_text.result ≡ byte_len (chars c.args.reference.now) = ap byte_len (c.of_text.ensures ∙ ap chars c.in_ok-from_str.ensures.ok) in
    omega (arith, n, e, c.if-reference-limit.false)

-- the base's characters, and the text made out of them
made : (g : Over) (c : After-len g) → chars (string_bytes c.in_ok-text.text) ≡ target_text (chars c.as_str.result.now) (chars c.args.reference.now)
made g c = c.in_ok-text.ensures

-- the text that was built is the target's, by the parts that it was built from
resolves : (g : Over) (c : After-len g) → Resolves (text_of c.args.base) (chars c.args.reference.now) (chars (string_bytes c.in_ok-text.text))
resolves g c =
    let b = chars c.as_str.result.now in
    let w = chars c.args.reference.now in
    let n : has_scheme w ≡ false = sym c.has_scheme.ensures ∙ c.if-has_scheme.false in
    let e : Some b ≡ text_of c.args.base = ap (λ x. Some x) c.as_str.ensures.value ∙ sym (ap text_of c.in-Some.is) in
    subst (Resolves (text_of c.args.base) w) (sym (made g c)) (subst (λ o. Resolves o w (target_text b w)) e (Resolves-target b w n))

-- it is UTF-8, so its characters have as many bytes as it has
size : (g : Over) (c : After-len g) → byte_len (chars (string_bytes c.in_ok-text.text)) ≡ length (string_bytes c.in_ok-text.text)
size g c = byte_len-chars _ (IsUtf8-string_bytes c.in_ok-text.text)

pub returns-then-len-limit-clause-refused : goal.returns-then-len-limit-clause-refused
returns-then-len-limit-clause-refused g c =
    let a = (goal.at.returns-then-len-limit-clause-refused g c).After-len in
    (chars (string_bytes c.in_ok-text.text), resolves g a, omega (arith, size g a, c.if-len-limit.true, c.len.ensures, c.in_ok-text.text.bytes.ok.0))

pub of_text-requires-2 : goal.of_text-requires-2
of_text-requires-2 g c =
    let a = (goal.at.of_text-requires-2 g c).After-len in
    subst IsIri (sym (made g a))
    (IsIri-target (chars c.as_str.result.now) (chars c.args.reference.now) (subst IsIri (sym c.as_str.ensures.value) c.as_str.ensures.is_iri) c.requires)

pub returns-clause-resolved : goal.returns-clause-resolved
returns-clause-resolved g c =
    let a = (goal.at.returns-clause-resolved g c).After-len in
    subst (Resolves (text_of c.args.base) (chars c.args.reference.now)) (sym c.of_text-2.ensures) (resolves g a)

pub returns-clause-within : goal.returns-clause-within
returns-clause-within g c =
    let a = (goal.at.returns-clause-within g c).After-len in
    omega (arith, ap byte_len c.of_text-2.ensures, size g a, c.if-len-limit.false, c.len.ensures, c.in_ok-text.text.bytes.ok.0)

-- memory is reported only where there is a result
pub returns-in_err-from_str-clause-refused : goal.returns-in_err-from_str-clause-refused
returns-in_err-from_str-clause-refused g c =
    let p = err_from_is_err_and c.from_residual.result c.from_residual.ensures.1 in
    rw (p.1, p.2) (chars c.args.reference.now, inl (sym c.has_scheme.ensures ∙ c.if-has_scheme.true, refl))

pub returns-in_err-text-clause-refused : goal.returns-in_err-text-clause-refused
returns-in_err-text-clause-refused g c =
    let p = err_from_is_err_and c.from_residual-in_err-text.result c.from_residual-in_err-text.ensures.1 in
    let b = chars c.as_str.result.now in
    let w = chars c.args.reference.now in
    let n : has_scheme w ≡ false = sym c.has_scheme.ensures ∙ c.if-has_scheme.false in
    let e : Some b ≡ text_of c.args.base = ap (λ x. Some x) c.as_str.ensures.value ∙ sym (ap text_of c.in-Some.is) in
    rw (p.1, p.2) (target_text b w, subst (λ o. Resolves o w (target_text b w)) e (Resolves-target b w n))
