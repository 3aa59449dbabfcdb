-- It is what the call answers for the inside of a string.
use Rattle.rdf_terms.proofs.Prelude.{rules}
use Rattle.rdf_terms.proofs.values.string_value.Goals as goal

pub returns-clause-ok : goal.returns-clause-ok
returns-clause-ok g c = search rules

pub returns-clause-bad : goal.returns-clause-bad
returns-clause-bad g c = search rules
