-- Before the first byte that is looked at stands a letter.
use Rattle.rdf_terms.proofs.Prelude.{rules, tests}
use Rattle.rdf_terms.proofs.classes.begins_scheme.Goals as goal

pub loop-at-init : goal.loop-at-init
loop-at-init c = search (rules, tests)
