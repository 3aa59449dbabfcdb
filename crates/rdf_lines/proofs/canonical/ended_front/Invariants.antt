use Rattle.rdf_lines.proofs.Prelude.{length, LinesStand}
use Rattle.rdf_lines.proofs.canonical.ended_front.Given as goal

abbrev pub invariant-lines : goal.invariant-lines
invariant-lines l = LinesStand l.ending l.rules.form l.token l.rules.iri l.quads l.tokens l.text l.rest

abbrev pub decreases-lines : goal.decreases-lines
decreases-lines l = length l.rest
