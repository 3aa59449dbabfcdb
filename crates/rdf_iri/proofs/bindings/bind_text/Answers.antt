-- A line within the limits is bound, and each error of the scope is one of the line.
use Rattle.rdf_iri.proofs.Prelude.{Some, None, ap, sym, refl, subst, ◌∙◌, arith, false≢true, chars, Sizes, NotBound}
use Rattle.rdf_iri.proofs.BindingSteps.{bound_line, long_line, full_line, long_name, short_name, none_said}
use Rattle.rdf_iri.proofs.bindings.bind_text.Goals as goal

pub returns-then-says_nothing-clause-ok : goal.returns-then-says_nothing-clause-ok
returns-then-says_nothing-clause-ok g c = (None, (c.utf8.text, c.says_nothing.ensures.0 c.if-says_nothing.true), tt, refl)

pub returns-in_default-clause-err : goal.returns-in_default-clause-err
returns-in_default-clause-err g c =
    none_said c.args.text.now (λ s. false≢true (sym c.if-says_nothing.false ∙ c.says_nothing.ensures.1 s)) c.in_default.ensures

pub returns-then-char_count-token-clause-err : goal.returns-then-char_count-token-clause-err
returns-then-char_count-token-clause-err g c = (
  (chars c.in-Some.prefix.now, chars c.in-Some.iri.now),
  c.in-Some.ensures,
  long_name (chars c.in-Some.prefix.now) _ _ _ c.char_count.ensures.count
      (c.token.ensures ∙ ap (λ (s : Sizes). s.token) c.limits.ensures) c.if-char_count-token.true,
)

pub bind-requires-clause-short : goal.bind-requires-clause-short
bind-requires-clause-short g c =
    let t = c.token.ensures ∙ ap (λ (s : Sizes). s.token) c.limits.ensures in
    omega (arith, c.char_count.ensures.bytes, t, c.if-char_count-token.false)

pub returns-in-Ok-clause-ok : goal.returns-in-Ok-clause-ok
returns-in-Ok-clause-ok g c =
    let b = bound_line _ _ _ _ c.in-Some.ensures.absolute.scheme c.in-Ok.ensures.bound in
    let short = short_name (chars c.in-Some.prefix.now) _ _ _ c.char_count.ensures.count
    (c.token.ensures ∙ ap (λ (s : Sizes). s.token) c.limits.ensures) c.if-char_count-token.false in
    (Some (chars c.in-Some.prefix.now, chars c.in-Some.iri.now), c.in-Some.ensures, (short, b.short), (b.room, b.binds))

pub returns-in-Err-IriTooLong-clause-err : goal.returns-in-Err-IriTooLong-clause-err
returns-in-Err-IriTooLong-clause-err g c =
    let short = short_name (chars c.in-Some.prefix.now) _ _ _ c.char_count.ensures.count
    (c.token.ensures ∙ ap (λ (s : Sizes). s.token) c.limits.ensures) c.if-char_count-token.false in
    let l = long_line c.args.scope.now (chars c.in-Some.prefix.now) (chars c.in-Some.iri.now) c.in-Some.ensures.absolute.scheme
    (subst (NotBound c.args.scope.now (chars c.in-Some.prefix.now) (chars c.in-Some.iri.now)) c.in-Err-IriTooLong.field-0-is
    c.in-Err-IriTooLong.ensures.refused) in
    ((chars c.in-Some.prefix.now, chars c.in-Some.iri.now), c.in-Some.ensures, short, l)

pub returns-in-Err-TooManyBindings-clause-err : goal.returns-in-Err-TooManyBindings-clause-err
returns-in-Err-TooManyBindings-clause-err g c =
    let short = short_name (chars c.in-Some.prefix.now) _ _ _ c.char_count.ensures.count
    (c.token.ensures ∙ ap (λ (s : Sizes). s.token) c.limits.ensures) c.if-char_count-token.false in
    let f = full_line c.args.scope.now (chars c.in-Some.prefix.now) (chars c.in-Some.iri.now) c.in-Some.ensures.absolute.scheme
    (subst (NotBound c.args.scope.now (chars c.in-Some.prefix.now) (chars c.in-Some.iri.now)) c.in-Err-TooManyBindings.field-0-is
    c.in-Err-TooManyBindings.ensures.refused) in
    ((chars c.in-Some.prefix.now, chars c.in-Some.iri.now), c.in-Some.ensures, (short, f.0), f.1)
