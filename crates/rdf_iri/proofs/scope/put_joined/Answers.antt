-- Two texts that were put one after the other are the joined one, and its size was tested before.
use Rattle.rdf_iri.proofs.Prelude.{ap, sym, subst, arith, err_from_is_err_and, IsIri, byte_len}
use Rattle.rdf_iri.proofs.ScopeLemmas.{IsIri-append, byte_len-joined, chars-joined}
use Rattle.rdf_iri.proofs.scope.put_joined.Goals as goal

pub returns-then-len-limit-clause-refused : goal.returns-then-len-limit-clause-refused
returns-then-len-limit-clause-refused g c =
    omega (arith, byte_len-joined _ _ _ c.as_str-front.utf8 c.utf8.local c.as_str-front.ensures.value, c.if-len-limit.true)

pub returns-in_err-put_joined-clause-refused : goal.returns-in_err-put_joined-clause-refused
returns-in_err-put_joined-clause-refused g c =
    let p = err_from_is_err_and c.from_residual.result c.from_residual.ensures.1 in
    rw (p.1, p.2) (omega (arith, byte_len-joined _ _ _ c.as_str-front.utf8 c.utf8.local c.as_str-front.ensures.value, c.if-len-limit.false))

pub returns-clause-joined : goal.returns-clause-joined
returns-clause-joined g c =
    chars-joined _ _ _ _ c.in_ok-put_joined.ensures c.as_str-front.utf8 c.as_str-front.ensures.value

pub returns-clause-is_iri : goal.returns-clause-is_iri
returns-clause-is_iri g c =
    subst IsIri (sym (returns-clause-joined g c)) (IsIri-append _ _ c.as_str-front.ensures.is_iri c.requires)

pub returns-clause-within : goal.returns-clause-within
returns-clause-within g c =
    omega (
      arith,
      ap byte_len (returns-clause-joined g c),
      byte_len-joined _ _ _ c.as_str-front.utf8 c.utf8.local c.as_str-front.ensures.value,
      c.if-len-limit.false,
    )
