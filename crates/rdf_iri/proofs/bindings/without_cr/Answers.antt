-- A last CR is dropped, and a line without one is its own text.
use Rattle.rdf_iri.proofs.BindingLemmas.{cr_dropped, cr_kept, cr_empty}
use Rattle.rdf_iri.proofs.bindings.without_cr.Goals as goal

pub returns-then-last-eq13 : goal.returns-then-last-eq13
returns-then-last-eq13 c = cr_dropped _ _ _ c.in-Some.ensures.cases.0 c.if-last-eq13.true

pub returns-else-last-eq13 : goal.returns-else-last-eq13
returns-else-last-eq13 c = cr_kept _ _ _ c.in-Some.ensures.cases.0 c.if-last-eq13.false

pub returns-in_default : goal.returns-in_default
returns-in_default c = cr_empty _ c.in_default.ensures.cases
