-- The IRI of the prefix alone, with the local part after it.
use Rattle.rdf_iri.proofs.Prelude.{◌∙◌, [], ap, arith, subst, sym, chars, chars-nil, err_from_is_err_and, has, iri_char, IsIri, all_have, InForce}
use Rattle.rdf_terms.specs.Local.{without_backslashes}
use Rattle.rdf_iri.proofs.ScopeLemmas.{IsIri-append, expands_more, expands_none}
use Rattle.rdf_iri.proofs.scope.Scope.expand_escaped_into.Goals as goal

pub expand_into-requires : goal.expand_into-requires
expand_into-requires g c = ap (all_have (has iri_char)) chars-nil

pub returns-in_err-expand_into-clause-refused : goal.returns-in_err-expand_into-clause-refused
returns-in_err-expand_into-clause-refused g c =
    let p = err_from_is_err_and c.from_residual.result c.from_residual.ensures.1 in
    rw (p.1, p.2) (expands_none c.args.self.now (chars c.args.prefix.now) (chars [])
    (without_backslashes (chars c.args.local.now)) c.in_err-expand_into.field-0.0 chars-nil c.in_err-expand_into.ensures.refused)

pub returns-then-byte_len-iri-clause-refused : goal.returns-then-byte_len-iri-clause-refused
returns-then-byte_len-iri-clause-refused g c = λ m.
    let longer = chars c.push_unescaped.new.self in
    let more = without_backslashes (chars c.args.local.now) in
    let limit = c.iri.ensures ∙ ap (λ (s : InForce). s.limits.iri) c.self.view_is in (
      longer,
      expands_more c.args.self.now (chars c.args.prefix.now) (chars []) more
          (chars c.expand_into.new.text) longer chars-nil c.in_ok-expand_into.ensures.expanded.0 c.in_ok-push_unescaped.ensures,
      omega (arith, limit, c.byte_len.ensures, c.if-byte_len-iri.true),
    )

pub returns-clause-expanded : goal.returns-clause-expanded
returns-clause-expanded g c =
    let longer = chars c.push_unescaped.new.self in
    let more = without_backslashes (chars c.args.local.now) in
    let limit = c.iri.ensures ∙ ap (λ (s : InForce). s.limits.iri) c.self.view_is in (
      expands_more c.args.self.now (chars c.args.prefix.now) (chars []) more
          (chars c.expand_into.new.text) longer chars-nil c.in_ok-expand_into.ensures.expanded.0 c.in_ok-push_unescaped.ensures,
      omega (arith, limit, c.byte_len.ensures, c.if-byte_len-iri.false),
    )

pub returns-clause-is_iri : goal.returns-clause-is_iri
returns-clause-is_iri g c =
    subst IsIri (sym c.in_ok-push_unescaped.ensures) (IsIri-append (chars c.expand_into.new.text) _ c.in_ok-expand_into.ensures.is_iri c.requires)
