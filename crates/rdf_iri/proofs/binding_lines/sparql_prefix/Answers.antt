use Rattle.rdf_iri.proofs.Prelude.{◌∙◌, sym, subst, chars, false≢true, SaysNothing}
use Rattle.rdf_iri.proofs.BindingLineLemmas.{one_pair}
use Rattle.rdf_iri.proofs.BindingLemmas.{passed_none}
use Rattle.rdf_iri.proofs.binding_lines.sparql_prefix.Goals as goal

pub returns-in_err-prefix : goal.returns-in_err-prefix
returns-in_err-prefix c = passed_none c.from_residual.result _ _ c.from_residual.ensures (λ p i d. c.in_err-prefix.ensures (p, i, d.0) d.1)

pub returns-else-says_nothing : goal.returns-else-says_nothing
returns-else-says_nothing c = λ p i d.
    let same = one_pair (chars c.args.text.now) (p, i, d.0) (
      chars c.in_ok-prefix.prefix.now,
      chars c.in_ok-prefix.iri.now,
      chars c.in_ok-prefix.rest.now,
    ) d.1 c.in_ok-prefix.ensures in
    false≢true (sym c.if-says_nothing.false ∙ c.says_nothing.ensures.1 (subst SaysNothing same.rest d.2))
