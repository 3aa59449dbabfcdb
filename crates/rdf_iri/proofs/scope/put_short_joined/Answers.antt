-- As of texts of any length.
use Rattle.rdf_iri.proofs.Prelude.{ap, sym, subst, arith, IsIri, byte_len}
use Rattle.rdf_iri.proofs.ScopeLemmas.{IsIri-append, byte_len-joined, chars-joined}
use Rattle.rdf_iri.proofs.scope.put_short_joined.Goals as goal

pub returns-then-front-local-clause-joined : goal.returns-then-front-local-clause-joined
returns-then-front-local-clause-joined g c = λ e.
    chars-joined _ _ _ _ (c.put_short_joined.ensures.joined e) c.as_str-front.utf8 c.as_str-front.ensures.value

pub returns-then-front-local-clause-is_iri : goal.returns-then-front-local-clause-is_iri
returns-then-front-local-clause-is_iri g c = λ e.
    subst IsIri (sym (returns-then-front-local-clause-joined g c e)) (IsIri-append _ _ c.as_str-front.ensures.is_iri c.requires)

pub returns-then-front-local-clause-within : goal.returns-then-front-local-clause-within
returns-then-front-local-clause-within g c = λ e.
    omega (
      arith,
      ap byte_len (returns-then-front-local-clause-joined g c e),
      byte_len-joined _ _ _ c.as_str-front.utf8 c.utf8.local c.as_str-front.ensures.value,
      c.if-front-local.true,
    )
